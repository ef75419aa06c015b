-- One proof for each name of Claims.
use mathlib.Core.Path.{◌≡◌, refl, sym, ap, subst}
use mathlib.Core.Logic.{⊎_elim, ◌≢◌}
use mathlib.Core.Bool.{Bool, true, false, cond}
use mathlib.Core.List.{List, [], ◌∷◌}
use Prim.Native.Nat.{ℕ, zero, suc, ◌+◌, ◌≤◌}
use native.Mathlib.Omega.{arith}
use borrow.Author.Tests.{eqb-true, eqb-false, ltb-false}
use lib.Dec.{ltb}
use lib.ListN.{length}
use Rattle.relation.proofs.Truth.{split, neither}
use Rattle.warps.specs.Language.{Mem}
use Rattle.warps.specs.Warp.{Item, Transition, Reachable, begin, further}
use Rattle.warps.specs.Threads.{Piece}
use Rattle.warps.specs.Projection.{Mode, proj}
use Rattle.warps.proofs.Proceed.{steps}
use Rattle.warps.proofs.Theorems.{holds, proposition_1, theorem_1}
use Rattle.kernels.specs.Limits.{most_lanes}
use Rattle.kernels.proofs.Passed.{passed}
use Rattle.machine.specs.Entries.{most_entries, Entry}
use Rattle.machine.specs.Step.{Warp, next_warp, start_of}
use Rattle.runs.specs.declared.Ending.{Ending}
use Rattle.runs.specs.declared.Ending.TheVariants.{Finished, UsedUp, WouldOverfill}
use Rattle.runs.specs.Run.{is_over, overfills, run_warp, kernel_run}
use Rattle.runs.specs.Denotes.{list_in_loop, bodies_of, items, config_of}
use Rattle.runs.specs.Claims.{ReachedWarp, begun, onward, Admitted, AreProgs, StartsAlike, StepsByTable2, StepsMatched, RunsMatched, FinishedAll, StaysSmall}
use Rattle.runs.proofs.Progs.{progs}
use Rattle.runs.proofs.Tying.{Sound, advances, sound_advance, begins, sound_start}

module _ (s e : List ℕ) (lanes : ℕ) where
  pub are_progs : AreProgs s e lanes
  are_progs a = progs s e lanes (passed s e lanes a)

  few : Admitted s e lanes → lanes ≤ 32
  unfolding most_lanes
  few a = (passed s e lanes a).few_lanes

  pub starts_alike : StartsAlike s e lanes
  starts_alike a μ = begins s e lanes (few a) μ

  some_items : (W : List Entry) → W ≢ [] → items s e W ≢ []
  unfolding items
  some_items [] n q = n refl
  some_items (x ∷ W) n q = absurd (let z : ◌≡◌ {A = ℕ} 0 1 = cc in omega arith)

  module _ (a : Admitted s e lanes) (μ : Mem) where
    sound : {w : Warp} → ReachedWarp s e lanes μ w → Sound lanes w
    sound begun = sound_start s e lanes (few a) μ
    sound (onward {w = w} r n) = sound_advance s e lanes (few a) w.stack w.lanes w.cells (sound r)

    -- a step from a reachable configuration
    by_table : (w : Warp) → Sound lanes w → Reachable (bodies_of s e) lanes 0 μ (config_of s e w) → w.stack ≢ [] → Transition (bodies_of s e) lanes (config_of s e w) (config_of s e (next_warp s e w))
    by_table w S r n =
        let c = config_of s e w in
        subst (Transition (bodies_of s e) lanes c) (sym (advances s e lanes (few a) w.stack w.lanes w.cells S))
        (steps (bodies_of s e) lanes (list_in_loop s) c.stack c.active c.off c.mem (holds (bodies_of s e) lanes (list_in_loop s) 0 (are_progs a) r).shape (some_items w.stack n))

    reachable : {w : Warp} → ReachedWarp s e lanes μ w → Reachable (bodies_of s e) lanes 0 μ (config_of s e w)
    reachable begun = subst (Reachable (bodies_of s e) lanes 0 μ) (sym (starts_alike a μ)) begin
    reachable (onward {w = w} r n) = further (reachable r) (by_table w (sound r) (reachable r) n)

  pub steps_by_table_2 : StepsByTable2 s e lanes
  steps_by_table_2 a μ w r n = by_table a μ w (sound a μ r) (reachable a μ r) n

  pub steps_matched : StepsMatched s e lanes
  steps_matched a μ w r n =
      proposition_1 (bodies_of s e) lanes (list_in_loop s) 0 (are_progs a) μ (config_of s e w) (config_of s e (next_warp s e w)) (reachable a μ r) (steps_by_table_2 a μ w r n)

  -- ---- whole runs
  still_some : (w : Warp) → is_over w ≡ false → w.stack ≢ []
  still_some w h q = eqb-false (length w.stack) 0 h (ap length q)

  -- what holds where a run stops and after each of its steps holds where it ends
  run_keeps : (P : ℕ → Warp → Type 0) → ((j : ℕ) (w : Warp) → P j w → is_over w ≡ false → overfills s e w ≡ false → P (suc j) (next_warp s e w))
      → (k j : ℕ) (w : Warp) → P j w → P (run_warp s e k j w).taken (run_warp s e k j w).last × ((run_warp s e k j w).taken ≤ j + k)
  unfolding run_warp
  run_keeps P f zero j w p = (p, omega arith)
  run_keeps P f (suc k) j w p =
      ⊎_elim (λ (h : is_over w ≡ true). rw h (p, omega arith))
      (λ (h : is_over w ≡ false). rw h
      (⊎_elim (λ (o : overfills s e w ≡ true). rw o (p, omega arith))
      (λ (o : overfills s e w ≡ false). rw o (let r = run_keeps P f k (suc j) (next_warp s e w) (f j w p h o) in (r.0, omega (arith, r.1)))) (split (overfills s e w)))) (split (is_over w))

  pub runs_matched : RunsMatched s e lanes
  runs_matched a steps μ =
      let r = run_keeps (λ j w. ReachedWarp s e lanes μ w) (λ j w p h o. onward p (still_some w h)) steps 0 (start_of s lanes μ) begun in
      record {
        reached = r.0;
        taken = omega (arith, r.1);
        matched = theorem_1 (bodies_of s e) lanes (list_in_loop s) 0 (are_progs a) μ (config_of s e (kernel_run s e lanes steps μ).last) (reachable a μ r.0);
      }

  pub stays_small : StaysSmall s e lanes
  unfolding overfills
  stays_small steps μ =
      (run_keeps (λ j w. j ≢ 0 → length w.stack ≤ most_entries)
      (λ j w p h o n. ltb-false most_entries (length (next_warp s e w).stack) (neither (ltb most_entries (length w.stack)) (ltb most_entries (length (next_warp s e w).stack)) o).1) steps 0 (start_of s lanes μ)
      (λ n. absurd (n refl))).0

  -- ---- where a run ends that has finished
  run_over : (k j : ℕ) (w : Warp) → (run_warp s e k j w).ending ≡ Finished → is_over (run_warp s e k j w).last ≡ true
  unfolding run_warp
  run_over zero j w h =
      ⊎_elim (λ (o : is_over w ≡ true). o) (λ (o : is_over w ≡ false). absurd (let z : ◌≡◌ {A = Ending} UsedUp Finished = rw o at h in let y : ◌≡◌ {A = ℕ} 0 1 = cc in omega arith)) (split (is_over w))
  run_over (suc k) j w h =
      ⊎_elim (λ (o : is_over w ≡ true). rw o o)
      (λ (o : is_over w ≡ false).
      ⊎_elim (λ (f : overfills s e w ≡ true). absurd (let z : ◌≡◌ {A = Ending} WouldOverfill Finished = rw (o, f) at h in let y : ◌≡◌ {A = ℕ} 0 1 = cc in omega arith))
      (λ (f : overfills s e w ≡ false). rw (o, f) (run_over k (suc j) (next_warp s e w) (rw (o, f) at h))) (split (overfills s e w))) (split (is_over w))

  none_left : (W : List Entry) → length W ≡ 0 → items s e W ≡ []
  unfolding items
  none_left [] h = refl
  none_left (x ∷ W) h = absurd (omega arith)

  nothing : (b : Bool) (t : ℕ) (W : List Item) (p : Mode) → W ≡ [] → ◌≡◌ {A = List Piece} (cond b (proj t W p) []) []
  unfolding proj
  nothing true t W p h = rw h
  nothing false t W p h = refl

  pub finished_all : FinishedAll s e lanes
  finished_all steps μ h t =
      let w = (kernel_run s e lanes steps μ).last in
      nothing (ltb t lanes) t (items s e w.stack) _ (none_left w.stack (eqb-true (length w.stack) 0 (run_over steps 0 (start_of s lanes μ) h)))
