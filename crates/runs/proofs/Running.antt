-- Runs, as the code comes to their ends.
use mathlib.Core.Path.{◌≡◌, refl, sym, ap, ap₂, ◌∙◌}
use mathlib.Core.Logic.{by_cases, ◌≢◌}
use mathlib.Core.Bool.{Bool, true, false, cond}
use mathlib.Core.List.{List, [], ◌∷◌}
use Prim.Native.Nat.{ℕ, zero, suc, ◌+◌, ◌-◌, ◌≤◌, ◌<◌}
use native.Mathlib.Decide.{ℕ_discrete}
use native.Mathlib.Numerals.{add-one}
use native.Mathlib.Omega.{arith}
use borrow.Author.Tests.{eq-eqb, ne_eqb, lt-ltb, le-ltb}
use lib.Dec.{eqb}
use lib.ListN.{length}
use Rattle.warps.specs.Language.{Mem}
use Rattle.lanes.specs.declared.Lanes.{Lanes}
use Rattle.kernels.specs.Limits.{most_statements, cell_count}
use Rattle.kernels.specs.Refusals.{ruling_of}
use Rattle.kernels.specs.declared.kernel.KernelRefusal.{KernelRefusal}
use Rattle.kernels.specs.declared.kernel.KernelRefusal.TheVariants.{Malformed}
use Rattle.kernels.proofs.Passed.{passed}
use Rattle.kernels.specs.Rows.{statements, kind_of, skip_kind, assign_kind, if_kind, while_kind, break_kind, call_kind}
use Rattle.machine.specs.declared.stack.Stand.{Stand}
use Rattle.machine.specs.Entries.{most_entries, stack_room, Entry, row, again, token, stack_in}
use Rattle.machine.specs.Step.{Warp, obey, advance, next_warp, warp_of, StartsWarp, StepsWarp}
use Rattle.machine.proofs.Held.{held_long}
use Rattle.machine.proofs.Doors.{works}
use Rattle.runs.specs.declared.Ending.{Ending}
use Rattle.runs.specs.declared.Ending.TheVariants.{Finished, UsedUp, WouldOverfill}
use Rattle.std.specs.Prelude.{Ok, Err}
use Rattle.runs.specs.Run.{is_over, overfills, run_warp, kernel_run, KernelTold, tell_refusal, tell_run, kernel_told}

-- ---- a step that makes the stack higher writes no cell
module _ (s e : List ℕ) where
  cells_of : (b : Bool) (v w : Warp) (μ : Mem) → v.cells ≡ μ → w.cells ≡ μ → (cond b v w).cells ≡ μ
  cells_of true v w μ p q = p
  cells_of false v w μ p q = q

  obey_cells : (i : ℕ) (W : List Entry) (L : Lanes) (μ : Mem) → length W < length (obey s e i W L μ).stack → (obey s e i W L μ).cells ≡ μ
  unfolding obey
  obey_cells i W L μ h =
      by_cases (ℕ_discrete (kind_of s i) assign_kind)
      (λ (q : kind_of s i ≡ assign_kind). absurd (let l : length W < length W = rw (eq-eqb (kind_of s i) assign_kind q, ne_eqb (kind_of s i) skip_kind (λ p. omega arith)) at h in omega arith))
      (λ (q : kind_of s i ≢ assign_kind). rw (ne_eqb (kind_of s i) assign_kind q)
      (cells_of (eqb (kind_of s i) skip_kind) _ _ μ refl
      (cells_of (eqb (kind_of s i) if_kind) _ _ μ refl
      (cells_of (eqb (kind_of s i) while_kind) _ _ μ refl (cells_of (eqb (kind_of s i) break_kind) _ _ μ refl (cells_of (eqb (kind_of s i) call_kind) _ _ μ refl refl))))))

  pub higher_cells : (W : List Entry) (L : Lanes) (μ : Mem) → length W < length (advance s e W L μ).stack → (advance s e W L μ).cells ≡ μ
  unfolding advance
  higher_cells [] L μ h = refl
  higher_cells (token k m ∷ W) L μ h = refl
  higher_cells (again i ∷ W) L μ h = cells_of (eqb L.active 0) _ _ μ refl refl
  higher_cells (row i ∷ W) L μ h =
      by_cases (ℕ_discrete L.active 0) (λ (z : L.active ≡ 0). rw (eq-eqb L.active 0 z))
      (λ (z : L.active ≢ 0). rw (ne_eqb L.active 0 z) (obey_cells i W L μ (let l : suc (length W) < length (obey s e i W L μ).stack = rw (ne_eqb L.active 0 z) at h in omega arith)))

-- ---- the loop's invariant: X is what the whole run tells
pub record Going (s e : List ℕ) (X : KernelTold) (K steps : ℕ) (a : List ℕ) (st : Stand) (μ : Mem) (j : ℕ) : Type 0 where
  pub long : length a ≡ stack_room
  pub size : length μ ≡ K
  pub is : X ≡ tell_run (run_warp s e (steps - j) j (warp_of a st μ))

module _ (s e : List ℕ) (X : KernelTold) (K steps : ℕ) (a : List ℕ) (st : Stand) (μ : Mem) (j : ℕ) (G : Going s e X K steps a st μ j) where
  abbrev tell : Ending → Mem → KernelTold
  tell ending ν = record { answer = Ok (record { ending = ending; taken = j }); cells = ν }

  pub run_done : st.height ≤ 0 → tell Finished μ ≡ X
  unfolding run_warp
  run_done h = sym (G.is ∙ ap tell_run (go (steps - j)))
    where
      empty : is_over (warp_of a st μ) ≡ true
      empty = eq-eqb _ 0 (held_long a st.height ∙ omega arith)

      go : (k : ℕ) → run_warp s e k j (warp_of a st μ) ≡ record { ending = Finished; taken = j; last = warp_of a st μ }
      go zero = rw empty
      go (suc k) = rw empty

  some_left : 0 < st.height → is_over (warp_of a st μ) ≡ false
  some_left h = let l : length (stack_in a st.height) ≡ st.height = held_long a st.height in ne_eqb (length (stack_in a st.height)) 0 (λ (q : length (stack_in a st.height) ≡ 0). omega arith)

  pub run_spent : 0 < st.height → j ≡ steps → tell UsedUp μ ≡ X
  unfolding run_warp
  run_spent h q = let z : steps - j ≡ 0 = omega arith in sym (G.is ∙ rw (z, some_left h))

  one : 0 < st.height → j < steps
      → X ≡ tell_run (cond (overfills s e (warp_of a st μ)) (record { ending = WouldOverfill; taken = j; last = warp_of a st μ }) (run_warp s e (steps - suc j) (suc j) (next_warp s e (warp_of a st μ))))
  unfolding run_warp
  one h q = let z : steps - j ≡ suc (steps - suc j) = omega arith in G.is ∙ rw (z, some_left h)

  pub run_high : 0 < st.height → j < steps → most_entries < st.height → tell WouldOverfill μ ≡ X
  unfolding overfills
  run_high h q l = let z : length (stack_in a st.height) ≡ st.height = held_long a st.height in sym (one h q ∙ rw (lt-ltb most_entries (length (stack_in a st.height)) (omega arith)))

  module _ (a' : List ℕ) (μ' : Mem) (st' : Stand) (S : StepsWarp s e st a μ a' μ' st') (few : statements s ≤ most_statements) (h : 0 < st.height) (q : j < steps) (low : st.height ≤ most_entries) where
    here : warp_of a' st' μ' ≡ next_warp s e (warp_of a st μ)
    here = S.steps (works s a st.height few (omega (arith, G.long)) low)

    tall : length (next_warp s e (warp_of a st μ)).stack ≡ st'.height
    tall = sym (ap (λ (w : Warp). length w.stack) here) ∙ held_long a' st'.height

    pub run_full : most_entries < st'.height → tell WouldOverfill μ' ≡ X
    unfolding overfills
    run_full k =
        let z : length (stack_in a st.height) ≡ st.height = held_long a st.height in
        let t : length (next_warp s e (warp_of a st μ)).stack ≡ st'.height = tall in
        let c : μ' ≡ μ = ap (λ (w : Warp). w.cells) here ∙ higher_cells s e (stack_in a st.height) st.lanes μ (omega arith) in
        ap (tell WouldOverfill) c
        ∙ sym (one h q ∙ rw (le-ltb most_entries (length (stack_in a st.height)) (omega arith), lt-ltb most_entries (length (next_warp s e (warp_of a st μ)).stack) (omega arith)))

    pub run_on : st'.height ≤ most_entries → length a' ≡ length a → length μ' ≡ length μ → Going s e X K steps a' st' μ' (j + 1)
    unfolding overfills
    run_on k la lm =
        let z : length (stack_in a st.height) ≡ st.height = held_long a st.height in
        let t : length (next_warp s e (warp_of a st μ)).stack ≡ st'.height = tall in
        record {
          long = la ∙ G.long;
          size = lm ∙ G.size;
          is =
              one h q ∙ rw (le-ltb most_entries (length (stack_in a st.height)) (omega arith), le-ltb most_entries (length (next_warp s e (warp_of a st μ)).stack) (omega arith))
              (ap₂ (λ (i : ℕ) (w : Warp). tell_run (run_warp s e (steps - i) i w)) (sym (add-one j)) (sym here));
        }

pub going_start : (s e : List ℕ) (lanes steps : ℕ) (μ : Mem) (a₀ a : List ℕ) (st : Stand) → statements s ≤ most_statements → length a₀ ≡ stack_room → length a ≡ stack_room → StartsWarp s lanes a₀ a st
    → Going s e (tell_run (kernel_run s e lanes steps μ)) (length μ) steps a st μ 0
going_start s e lanes steps μ a₀ a st few l k S =
    record {
      long = k;
      size = refl;
      is = let z : steps - 0 ≡ steps = omega arith in rw z (ap (λ (w : Warp). tell_run (run_warp s e steps 0 w)) (sym (S.stands (works s a₀ 0 few (omega (arith, l)) (omega arith)) μ)));
    }

-- ---- the door
module _ (s e : List ℕ) (lanes steps : ℕ) (μ : Mem) where
  pub door_small : length μ < 64 → tell_refusal (Malformed 0) μ ≡ kernel_told s e lanes steps μ
  unfolding kernel_told cell_count
  door_small h = rw (lt-ltb (length μ) 64 h)

  module _ (h : 64 ≤ length μ) where
    pub door_refused : (f : KernelRefusal) → Err f ≡ ruling_of s e lanes → tell_refusal f μ ≡ kernel_told s e lanes steps μ
    unfolding kernel_told cell_count
    door_refused f q = sym (rw (le-ltb (length μ) 64 h, ← q))

    pub door_run : (t : KernelTold) → Ok tt ≡ ruling_of s e lanes → t ≡ tell_run (kernel_run s e lanes steps μ) → t ≡ kernel_told s e lanes steps μ
    unfolding kernel_told cell_count
    door_run t q r = r ∙ sym (rw (le-ltb (length μ) 64 h, ← q))

pub door_few : (s e : List ℕ) (lanes : ℕ) → Ok tt ≡ ruling_of s e lanes → statements s ≤ most_statements
door_few s e lanes q = (passed s e lanes (sym q)).few_statements
