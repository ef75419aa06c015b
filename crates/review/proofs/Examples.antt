-- Each starred example of document 01 holds of the definitions: the test of the whole table computes to true. Assumes nothing.
use mathlib.Core.Path.{◌≡◌, refl, ap, ◌∙◌}
use mathlib.Core.Bool.{true}
use mathlib.Core.List.{List, [], ◌∷◌}
use Prim.Native.Nat.{ℕ}
use native.Mathlib.Omega.{arith}
use Rattle.tables.specs.Limits.{most_rows, most_threads, addresses, barriers, most_count}
use Rattle.tables.specs.Rows.{total, first_row, thread_of}
use Rattle.tables.specs.Lowest.{lowest}
use Rattle.rules.specs.Rules.{does_row_keep, first_bad_of, checked}
use Rattle.turns.specs.Turns.{held, has_any_left, may_step}
use Rattle.relation.specs.Chains.{rounds}
use Rattle.relation.specs.Table.{width}
use Rattle.schedules.specs.HappensBefore.{edge, reach}
use Rattle.barriers.specs.Counting.{counted}
use Rattle.barriers.specs.Barrier.{registration}
use Rattle.steps.specs.State.{start}
use Rattle.steps.specs.Step.{allowed, registering, running, stepped}
use Rattle.steps.specs.Going.{one_step_on, go_on, begun, played}
use Rattle.steps.specs.Ending.{ended, judged}
use Rattle.sheet.specs.Sheet.{sheet_of}
use Rattle.faults.specs.Faults.{succeeds, reuse, conflict, race, along_row, all_rows, faults}
use Rattle.rooms.specs.Short.{first_short}
use Rattle.rooms.specs.Refusals.{review_refusal}
use Rattle.findings.specs.Findings.{fault_told}
use Rattle.verdicts.specs.Verdicts.{tell, numbered}
use Rattle.verdicts.specs.declared.Told.{Told}
use Rattle.verdicts.specs.FirstTold.{or_else}
use Rattle.review.specs.Judge.{verdict_of, generations_by, reaches}
use Rattle.review.specs.Agreement.{Review, SameFile, Unrefused}
use Rattle.review.specs.Examples.{examples, all, same, word, below, holds, four_syncs, one_each, TenDiffers}
use Rattle.review.proofs.Telling.{verdict_is}

pub every : all holds examples ≡ true
unfolding all holds examples same word below
    most_rows most_threads addresses barriers most_count total first_row thread_of lowest does_row_keep first_bad_of checked
    rounds width edge reach counted registration start held has_any_left may_step allowed registering running stepped one_step_on go_on begun played ended sheet_of
    succeeds reuse conflict race along_row all_rows faults first_short review_refusal judged verdict_of
every = refl

-- what the definitions tell of C, by two schedules
abbrev told : List ℕ → Told
told σ =
    or_else (judged one_each (played four_syncs one_each σ))
    (fault_told four_syncs one_each (generations_by four_syncs one_each σ) (reaches four_syncs one_each σ))

two_told : (told (0 ∷ 1 ∷ 2 ∷ 3 ∷ []) ≡ tell 10 0 2) × (told (0 ∷ 2 ∷ 1 ∷ 3 ∷ []) ≡ tell 10 0 1)
unfolding most_rows most_threads barriers total first_row thread_of lowest counted registration start held has_any_left may_step allowed registering running stepped one_step_on go_on begun played ended
    succeeds reuse along_row all_rows faults judged
two_told = (refl, refl)

is_told : (r : Review four_syncs one_each) → Unrefused r → numbered r.found.verdict ≡ told r.schedule
unfolding verdict_of
is_told r p = rw p at (verdict_is r.meets.demand₂)

pub ten_differs : TenDiffers
ten_differs a b p q e f =
    let u : numbered a.found.verdict ≡ tell 10 0 2 = is_told a p ∙ ap told e ∙ two_told.0 in
    let v : numbered b.found.verdict ≡ tell 10 0 1 = is_told b q ∙ ap told f ∙ two_told.1 in (
      ap (λ (t : Told). t.number) u,
      ap (λ (t : Told). t.number) v,
      λ (z : SameFile a b). omega (arith, ap (λ (t : Told). t.also) z.verdict, ap (λ (t : Told). t.also) u, ap (λ (t : Told). t.also) v),
    )
