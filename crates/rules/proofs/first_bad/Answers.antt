use Rattle.std.proofs.Common.{◌≡◌, ℕ, ◌+◌, ◌<◌, Bool, true, false, not, List, [], length, get_or, Some, None, sym, ap, ◌∙◌, arith}
use Rattle.std.specs.Prelude.{position}
use Rattle.std.proofs.lemmas.List.Sums.{position_or_len_is}
use borrow.Author.Count.{below_none, below_more}
use borrow.Author.Tests.{lt-ltb, le-ltb}
use Rattle.rules.specs.Needs.{is_broken}
use Rattle.rules.proofs.first_bad.Goals as goal

-- rows gone through from the front: none of the first c passes a test
module _ (p : List ℕ → Bool) (rows : List (List ℕ)) (c : ℕ) (none : (k : ℕ) → k < c → p (get_or rows k []) ≡ false) where
  -- row c, which is row i
  gone_more : (i : ℕ) → i ≡ c → p (get_or rows i []) ≡ false → (k : ℕ) → k < c + 1 → p (get_or rows k []) ≡ false
  gone_more i e f = below_more _ c none (ap (λ (k : ℕ). p (get_or rows k [])) (sym e) ∙ f)

  gone_to : c < length rows → (i : ℕ) → i ≡ c → p (get_or rows i []) ≡ true → Some c ≡ position p rows
  gone_to l i e t =
      let first = position_or_len_is p rows c [] (omega arith) none (λ _. ap (λ (k : ℕ). p (get_or rows k [])) (sym e) ∙ t) in
      sym (rw (first, lt-ltb _ _ l))

  gone_all : c ≡ length rows → None ≡ position p rows
  gone_all e =
      let first = position_or_len_is p rows c [] (omega arith) none (λ l. absurd (omega arith)) in
      sym (rw (first, le-ltb c (length rows) (omega arith)))

pub loop-c-init : goal.loop-c-init
loop-c-init c = below_none _

pub returns-then-not-keeps_rules : goal.returns-then-not-keeps_rules
returns-then-not-keeps_rules c =
    gone_to (is_broken c.args.threads) _ c.loop-c.c c.loop-c.invariant c.loop-c-test.true _ (omega arith) (ap not (sym c.keeps_rules.ensures ∙ c.if-not-keeps_rules.true))
    ∙ ap (position (is_broken c.args.threads)) c.as_chunks.ensures.front

pub loop-c-preserved : goal.loop-c-preserved
loop-c-preserved c = gone_more (is_broken c.args.threads) _ c.loop-c.c c.loop-c.invariant _ (omega arith) (ap not (sym c.keeps_rules.ensures ∙ c.if-not-keeps_rules.false))

pub returns : goal.returns
returns c = gone_all (is_broken c.args.threads) _ c.loop-c.c c.loop-c.invariant (omega arith) ∙ ap (position (is_broken c.args.threads)) c.as_chunks.ensures.front
