-- `Replay::step` meets its contract: the row and its change are found, and stored where the step ran. Assumes nothing.
use mathlib.Core.Path.{sym, ◌∙◌}
use Prim.Native.Nat.{min}
use native.Mathlib.Omega.{arith}
use Rattle.tables.specs.Limits.{most_threads}
use Rattle.tables.proofs.Rows.{first_within}
use Rattle.steps.proofs.Stepping.{found_thread, found_next, answers_kept, answers_on, first_small}
use Rattle.steps.proofs.state.Replay.step.Goals as goal

pub change-made-requires : goal.change-made-requires
unfolding most_threads
change-made-requires c =
    let a = c.args in
    let t = min a.t most_threads in
    record {
      small = omega (arith, c.first_row.ensures, first_small a.lengths.now (λ i. omega (arith, c.type_inv.lengths i)) t);
      begins = λ l. c.first_row.ensures ∙ first_within a.lengths.now a.t (omega arith);
    }

pub returns-then-not-goes_on : goal.returns-then-not-goes_on
returns-then-not-goes_on c =
    answers_kept c.change-made.ensures (sym c.goes_on.ensures ∙ c.if-not-goes_on.true)

pub store-requires : goal.store-requires
store-requires c =
    let goes = sym c.goes_on.ensures ∙ c.if-not-goes_on.false in
    record {
      thread = found_thread c.change-made.ensures goes;
      barrier = c.change-made.ensures.known;
      counts = omega (arith, found_next c.change-made.ensures goes, c.type_inv.lengths c.args.t);
    }

pub returns : goal.returns
returns c =
    answers_on c.change-made.ensures (sym c.goes_on.ensures ∙ c.if-not-goes_on.false)
    c.store.ensures
