-- The schedule of a choice that lets an allowed thread step where there is one is legal and complete. Assumes nothing.
use mathlib.Core.Path.{◌≡◌, subst}
use mathlib.Core.Logic.{⊎_elim}
use mathlib.Core.Bool.{Bool, true, false, cond}
use mathlib.Core.List.{List, [], ◌∷◌, reverse_aux, reverse-reverse}
use Prim.Native.Nat.{ℕ, zero, suc, ◌+◌, ◌≤◌, ◌<◌}
use native.Mathlib.Omega.{arith}
use lib.Dec.{ltb}
use lib.ListN.{length}
use Rattle.tables.specs.Rows.{rows}
use Rattle.rules.specs.Rules.{Keeps}
use Rattle.tables.proofs.Lowest.{lowest_first, lowest_hit, lowest_miss}
use Rattle.relation.proofs.Truth.{split, clashing, both}
use Rattle.schedules.specs.Machine.{Program}
use Rattle.schedules.specs.Threads as threads
use Rattle.steps.specs.declared.state.Replay.{Replay}
use Rattle.steps.specs.State.{start}
use Rattle.steps.specs.Step.{allowed, stepped}
use Rattle.steps.specs.Ending.{lowest_allowed}
use Rattle.programs.specs.Program.{program}
use Rattle.steps.specs.Writing.{does_go_on, stepping, picked, picked_first}
use Rattle.steps.specs.Needs.{lowest_picked}
use Rattle.replay.specs.Writer.{schedule_by, schedule}
use Rattle.replay.specs.Schedules.{Complete}
use Rattle.programs.proofs.Programs as programs
use Rattle.replay.proofs.Few.{steps_few}
use Rattle.replay.proofs.Ties.{Stands, stands_start, allowed_steps, steps_allowed}
use Rattle.replay.proofs.Tied.{Outcome, ran, mismatched, outcome}
use Rattle.replay.proofs.Schedules.{complete_from}

-- a choice lets an allowed thread step, where there is one
pub record Chooses (lengths : List ℕ) (choose : Replay → ℕ) : Type 0 where
  pub at_most : (s : Replay) → choose s ≤ length lengths
  pub may : (s : Replay) → ltb (choose s) (length lengths) ≡ true → allowed lengths s (choose s) ≡ true
  pub none : (s : Replay) → ltb (choose s) (length lengths) ≡ false → (t : ℕ) → t < length lengths → allowed lengths s t ≡ false

pub lowest_chooses : (lengths : List ℕ) → Chooses lengths (lowest_allowed lengths)
lowest_chooses lengths =
    record {
      at_most = λ s. (lowest_first (allowed lengths s) (length lengths)).at_most;
      may = λ s e. (lowest_hit (allowed lengths s) (length lengths) e).1;
      none = λ s e. lowest_miss (allowed lengths s) (length lengths) e;
    }

module _ (pick : ℕ → Bool) (lengths : List ℕ) where
  -- who steps, by the test whether a thread is picked
  pub picks : (s : Replay) → ltb (lowest_picked pick lengths s) (length lengths) ≡ true → picked_first pick lengths s ≡ lowest_picked pick lengths s
  unfolding picked_first
  picks s e = rw e

  pub picks_not : (s : Replay) → ltb (lowest_picked pick lengths s) (length lengths) ≡ false → picked_first pick lengths s ≡ lowest_allowed lengths s
  unfolding picked_first
  picks_not s e = rw e

  pub picked_chooses : Chooses lengths (picked_first pick lengths)
  unfolding picked
  picked_chooses =
      record {
        at_most =
            λ s. ⊎_elim (λ e. rw (picks s e) (lowest_first (picked pick lengths s) (length lengths)).at_most)
            (λ e. rw (picks_not s e) ((lowest_chooses lengths).at_most s))
            (split (ltb (lowest_picked pick lengths s) (length lengths)));
        may =
            λ s h. ⊎_elim (λ e. rw (picks s e) (both (allowed lengths s (lowest_picked pick lengths s)) _ (lowest_hit (picked pick lengths s) (length lengths) e).1).0)
            (λ e. rw (picks_not s e) ((lowest_chooses lengths).may s (rw (picks_not s e) at h)))
            (split (ltb (lowest_picked pick lengths s) (length lengths)));
        none =
            λ s h. ⊎_elim (λ e. clashing e (rw (picks s e) at h)) (λ e. (lowest_chooses lengths).none s (rw (picks_not s e) at h))
            (split (ltb (lowest_picked pick lengths s) (length lengths)));
      }

module _ {commands lengths : List ℕ} (K : Keeps commands lengths) {choose : Replay → ℕ} (L : Chooses lengths choose) where
  abbrev P : Program
  P = program commands lengths

  abbrev H : threads.Threads (program commands lengths)
  H = programs.threads K

  -- where no thread is allowed, the schedule has come to its end
  none_left : {υ : List ℕ} {s : Replay} → Stands K υ s → ltb (choose s) (length lengths) ≡ false → threads.Complete P H υ
  none_left {υ} {s} S f =
      threads.stopped S.legal (λ t st. clashing (steps_allowed K S t st) (L.none s f t st.exists))

  -- one step, where the steps after it are known to be complete
  one_more : (n : ℕ) (υ : List ℕ) (s : Replay) → Stands K υ s
      → ((t : ℕ) → Stands K (t ∷ υ) (stepped commands lengths s t).after
      → threads.Complete P H (reverse_aux (stepping choose commands lengths n (stepped commands lengths s t).after) (t ∷ υ)))
      → threads.Complete P H (reverse_aux (stepping choose commands lengths (suc n) s) υ)
  unfolding stepping
  one_more n υ s S rest =
      ⊎_elim
      (λ e. let st = allowed_steps K S _ (L.may s e) in rw e (by st (outcome K S (choose s) st)))
      (λ f. rw f (none_left S f))
      (split (ltb (choose s) (length lengths)))
    where
      by : threads.Steps P H υ (choose s) → Outcome K υ s (choose s)
          → threads.Complete P H (reverse_aux (choose s
          ∷ cond (does_go_on (stepped commands lengths s (choose s)).did)
          (stepping choose commands lengths n (stepped commands lengths s (choose s)).after) []) υ)
      by st (ran q m R) = rw q (rest _ R)
      by st (mismatched q k m) = rw q (threads.mismatched S.legal st m)

  pub written : (n : ℕ) (υ : List ℕ) (s : Replay) → Stands K υ s → rows commands ≤ length υ + n → threads.Complete P H (reverse_aux (stepping choose commands lengths n s) υ)
  unfolding stepping
  written zero υ s S l = threads.stopped {υ = υ} S.legal (λ t st. absurd (omega (arith, steps_few K S.legal st)))
  written (suc n) υ s S l = one_more n υ s S (λ t R. written n (t ∷ υ) _ R (omega arith))

  pub by_complete : Complete commands lengths (schedule_by choose commands lengths)
  unfolding schedule_by
  by_complete =
      subst (Complete commands lengths) (reverse-reverse (stepping choose commands lengths (rows commands) start))
      (complete_from K (written (rows commands) [] start (stands_start K) (omega arith)))

module _ {commands lengths : List ℕ} (K : Keeps commands lengths) where
  pub schedule_complete : Complete commands lengths (schedule commands lengths)
  unfolding schedule
  schedule_complete = by_complete K (lowest_chooses lengths)

  pub first_complete : (early : ℕ → Bool) → Complete commands lengths (schedule_by (picked_first early lengths) commands lengths)
  first_complete early = by_complete K (picked_chooses early lengths)
