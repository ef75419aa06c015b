use native.Mathlib.Omega.{arith}
use Rattle.tables.specs.Limits.{most_threads}
use mathlib.Core.Path.{sym, ◌∙◌}
use Prim.Native.Nat.{◌-◌, ◌^◌}
use lib.Bits.{and_le_l}
use lib.ListN.{get_or}
use Rattle.sets.proofs.Words.{except_is}
use Rattle.sets.specs.Set.{set_words}
use Rattle.sets.proofs.Sets.{passed_none, passed_more, passed_all, passed_found}
use Rattle.sets.proofs.Set.lowest_but.Goals as goal

pub loop-i-init : goal.loop-i-init
loop-i-init c = passed_none _ _

pub returns-then-left-ne0 : goal.returns-then-left-ne0
unfolding set_words
returns-then-left-ne0 c =
    let e = except_is (get_or c.args.self.words c.loop-i.i 0) (get_or c.args.other.words c.loop-i.i 0) (omega arith) (omega arith) in
    passed_found _ _ c.loop-i.invariant (omega arith) e
    (omega (arith, and_le_l (get_or c.args.self.words c.loop-i.i 0) (2 ^ 64 - 1 - get_or c.args.other.words c.loop-i.i 0))) c.if-left-ne0.true

pub loop-i-preserved : goal.loop-i-preserved
unfolding set_words
loop-i-preserved c =
    let e = except_is (get_or c.args.self.words c.loop-i.i 0) (get_or c.args.other.words c.loop-i.i 0) (omega arith) (omega arith) in
    passed_more _ _ c.loop-i.invariant (omega arith) (sym e ∙ c.if-left-ne0.false)

pub returns : goal.returns
unfolding most_threads set_words
returns c = passed_all _ _ c.loop-i.invariant (omega arith)
