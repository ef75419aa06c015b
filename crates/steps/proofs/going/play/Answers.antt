use mathlib.Core.Path.{sym, ◌∙◌}
use native.Mathlib.Omega.{arith}
use lib.ListN.{get_or}
use borrow.Author.Rules.{rules}
use Rattle.tables.specs.Limits.{most_rows}
use Rattle.steps.proofs.Stepping.{found_thread, found_next}
use Rattle.steps.proofs.Entries.{at_start, at_end, at_refused, at_mismatch, at_more, ran_goes}
use Rattle.steps.proofs.going.play.Goals as goal

pub loop-entry-init : goal.loop-entry-init
unfolding most_rows
loop-entry-init c = (search rules, search rules, at_start _ _ _ _ _ _)

pub overflow_cast-t : goal.overflow_cast-t
overflow_cast-t c = omega (arith, c.type_inv.entries c.loop-entry.entry-index)

pub change-made-requires : goal.change-made-requires
change-made-requires c =
    let t = get_or c.args.entries.now c.loop-entry.entry-index 0 in
    record { small = omega (arith, c.at.ensures, c.first_rows-firsts.ensures.small t); begins = λ l. c.at.ensures ∙ c.first_rows-firsts.ensures.each t l }

pub returns-in_default : goal.returns-in_default
returns-in_default c =
    c.stop.ensures ∙ at_refused _ _ _ _ c.loop-entry.invariant.2 c.loop-entry-test.true c.change-made.ensures c.in_default.is

pub returns-in-Mismatch : goal.returns-in-Mismatch
returns-in-Mismatch c =
    c.stop-in-Mismatch.ensures ∙ at_mismatch _ _ _ _ c.loop-entry.invariant.2 c.loop-entry-test.true c.change-made.ensures c.in-Took.is c.in-Mismatch.is

pub slice_bounds-put-end : goal.slice_bounds-put-end
unfolding most_rows
slice_bounds-put-end c = sym c.loop-entry.invariant.1

pub loop-entry-smaller : goal.loop-entry-smaller
loop-entry-smaller c = omega (arith, c.loop-entry-test.true)

pub store-requires : goal.store-requires
store-requires c =
    let goes = ran_goes _ _ _ _ c.loop-entry.invariant.2 c.loop-entry-test.true c.change-made.ensures c.in-Took.is c.in-Ran.is in
    record {
      thread = found_thread c.change-made.ensures goes;
      barrier = c.change-made.ensures.known;
      counts = omega (arith, found_next c.change-made.ensures goes, c.type_inv.lengths (get_or c.args.entries.now c.loop-entry.entry-index 0));
    }

pub loop-entry-preserved : goal.loop-entry-preserved
unfolding most_rows
loop-entry-preserved c = (
  search rules,
  search rules,
  at_more _ _ _ _ c.loop-entry.invariant.2 c.loop-entry-test.true c.change-made.ensures c.in-Took.is c.in-Ran.is
      c.store.ensures c.put.ensures c.more-steps.ensures,
)

pub returns : goal.returns
returns c = c.stop-2.ensures ∙ at_end _ _ _ _ c.loop-entry.invariant.2 c.loop-entry-test.false
