-- `token_at` meets its contract: the token that the bytes begin with after their blanks. Assumes nothing.
use Prim.Native.Nat.{◌+◌, ◌≤◌}
use native.Mathlib.Omega.{arith}
use lib.ListN.{length}
use borrow.Author.Rules.{rules}
use Rattle.grammar.proofs.Pieces.{end_past, from_most, end_at, some_from, token_most, token_met}
use Rattle.grammar.proofs.tokens.token_at.Goals as goal

pub overflow_add-from : goal.overflow_add-from
overflow_add-from c =
    let a = c.args in
    omega (arith, from_most a.text.now a.at c.run_of.result c.if-text-at.false c.run_of.ensures)

pub returns-then-from-text : goal.returns-then-from-text
returns-then-from-text c = end_at _ _ _ c.if-text-at.false c.run_of.ensures c.if-from-text.true

pub slice_bounds-first_token-count : goal.slice_bounds-first_token-count
slice_bounds-first_token-count c =
    let a = c.args in
    from_most a.text.now a.at _ c.if-text-at.false c.run_of.ensures

pub first_token-piece-requires : goal.first_token-piece-requires
first_token-piece-requires c =
    let a = c.args in
    some_from a.text.now a.at _ c.if-text-at.false c.run_of.ensures c.if-from-text.false

pub overflow_add-result : goal.overflow_add-result
overflow_add-result c =
    let a = c.args in
    let f = c.first_token-piece in
    omega (arith, token_most a.text.now a.at c.run_of.result c.if-text-at.false c.run_of.ensures c.if-from-text.false f.result f.ensures)

pub returns : goal.returns
returns c =
    token_met _ _ _ c.if-text-at.false c.run_of.ensures c.if-from-text.false _ c.first_token-piece.ensures

pub returns-then-text-at : goal.returns-then-text-at
returns-then-text-at c = end_past _ _ c.if-text-at.true

pub slice_bounds-first_token-start : goal.slice_bounds-first_token-start
slice_bounds-first_token-start c =
    let a = c.args in
    let h : a.at + c.run_of.result ≤ length a.text.now = slice_bounds-first_token-count c in
    search rules
