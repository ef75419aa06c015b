use mathlib.Core.Path.{sym, ap, ◌∙◌}
use native.Mathlib.Omega.{arith}
use lib.ListN.{length}
use borrow.Author.Rules.{rules}
use Rattle.std.proofs.lemmas.Slice.Zip.{either_empty_from_Zip}
use Rattle.spelling.proofs.Words.{alike_long, alike_on, alike_off, alike_out}
use Rattle.spelling.proofs.word.same.Goals as goal

pub returns-then-bytes-word : goal.returns-then-bytes-word
returns-then-bytes-word c = sym (alike_long _ _ (λ e. omega (arith, e, c.if-bytes-word.true)))

pub loop-byte-init : goal.loop-byte-init
loop-byte-init c = (search rules, search rules)

pub returns-then-byte-own : goal.returns-then-byte-own
returns-then-byte-own c =
    let h = c.in-Some.ensures.steps in
    sym (sym c.loop-byte.invariant.0 ∙ alike_off h.0 h.1 c.if-byte-own.true)

pub loop-byte-preserved : goal.loop-byte-preserved
loop-byte-preserved c =
    let h = c.in-Some.ensures.steps in
    let i = c.loop-byte.invariant in
    (alike_on h.0 h.1 c.if-byte-own.false ∙ i.0, omega (arith, i.1, ap length h.0, ap length h.1))

pub returns : goal.returns
returns c =
    let i = c.loop-byte.invariant in
    sym (sym i.0 ∙ alike_out _ _ (either_empty_from_Zip c.loop-byte.byte-iterator c.next.new.self _ c.in-None.is c.next.ensures.steps) i.1)
