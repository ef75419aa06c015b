use mathlib.Core.Path.{◌≡◌, refl, sym, ap, ◌∙◌}
use Prim.Native.Nat.{ℕ, ◌+◌}
use native.Mathlib.Omega.{arith}
use lib.ListN.{length}
use borrow.Author.Rules.{rules}
use Rattle.tables.specs.Limits.{most_threads}
use Rattle.tables.proofs.Scans.{if_below_hit, if_below_miss}
use Rattle.turns.proofs.Kept.{kept_start}
use Rattle.steps.specs.State.{ran_so_far}
use Rattle.steps.proofs.Stepping.{found_next}
use Rattle.steps.proofs.Written.{writing_start, writing_none, writing_last, writing_more, writing_end}
use Rattle.steps.proofs.writing.write_on.Goals as goal

pub loop-steps-init : goal.loop-steps-init
unfolding most_threads
loop-steps-init c = writing_start _ _ _ _ _ (search rules) (search rules) (kept_start _ _ _ _ _ c.all_ready-ready.ensures c.blocked_set-blocked.ensures)

pub returns-in_default : goal.returns-in_default
returns-in_default c =
    writing_none _ _ _ _ _ c.loop-steps.invariant (omega (arith, c.loop-steps-test.true)) refl (if_below_miss (sym c.in_default.is ∙ c.choose.ensures))

pub change-made-requires : goal.change-made-requires
change-made-requires c = record { small = c.first_rows-firsts.ensures.small _; begins = c.first_rows-firsts.ensures.each _ }

pub returns-then-not-goes_on : goal.returns-then-not-goes_on
returns-then-not-goes_on c =
    let h = if_below_hit (sym c.in-Some.is ∙ c.choose.ensures) in
    writing_last _ _ _ _ _ c.loop-steps.invariant (omega (arith, c.loop-steps-test.true)) h.1 h.0 c.change-made.ensures (sym c.goes_on.ensures ∙ c.if-not-goes_on.true)

pub store-requires : goal.store-requires
store-requires c =
    let t = c.in-Some.t in
    let h = if_below_hit (sym c.in-Some.is ∙ c.choose.ensures) in
    let goes = sym c.goes_on.ensures ∙ c.if-not-goes_on.false in
    record { thread = h.0; barrier = c.change-made.ensures.known; counts = omega (arith, found_next c.change-made.ensures goes, c.type_inv.lengths t) }

pub overflow_add-n : goal.overflow_add-n
overflow_add-n c =
    omega (arith, found_next c.change-made.ensures (sym c.goes_on.ensures ∙ c.if-not-goes_on.false), c.type_inv.lengths c.in-Some.t)

pub loop-steps-preserved : goal.loop-steps-preserved
loop-steps-preserved c =
    let t = c.in-Some.t in
    let h = if_below_hit (sym c.in-Some.is ∙ c.choose.ensures) in
    writing_more _ _ _ _ _ c.loop-steps.invariant (omega (arith, c.loop-steps-test.true)) h.1 h.0 c.change-made.ensures (sym c.goes_on.ensures ∙ c.if-not-goes_on.false)
    (ap (λ (x : ℕ). x + ran_so_far c.loop-steps.state t + 1) (c.first_rows-firsts.ensures.each t h.0)) c.store.ensures c.look-ready.ensures c.blocked_after-blocked.ensures

pub returns : goal.returns
returns c =
    let l = c.loop-steps in
    let e : length l.room ≡ l.steps = omega (arith, c.loop-steps-test.false) in
    rw e (writing_end _ _ _ _ _ l.invariant (omega (arith, c.loop-steps-test.false)))

pub overflow_cast-room : goal.overflow_cast-room
unfolding most_threads
overflow_cast-room c = omega (arith, (if_below_hit (sym c.in-Some.is ∙ c.choose.ensures)).0)

pub offset_bounds-state-t : goal.offset_bounds-state-t
unfolding most_threads
offset_bounds-state-t c = omega (arith, (if_below_hit (sym c.in-Some.is ∙ c.choose.ensures)).0)

pub bounds-state-t : goal.bounds-state-t
unfolding most_threads
bounds-state-t c = omega (arith, (if_below_hit (sym c.in-Some.is ∙ c.choose.ensures)).0)

pub offset_bounds-firsts-t : goal.offset_bounds-firsts-t
unfolding most_threads
offset_bounds-firsts-t c = omega (arith, (if_below_hit (sym c.in-Some.is ∙ c.choose.ensures)).0)

pub bounds-firsts-t : goal.bounds-firsts-t
unfolding most_threads
bounds-firsts-t c = omega (arith, (if_below_hit (sym c.in-Some.is ∙ c.choose.ensures)).0)
