-- The schedule that lets picked commands go first runs them as far as they go, and then goes on; or it ends at a mismatch. Assumes nothing.
use mathlib.Core.Path.{◌≡◌, refl, sym, ap, ◌∙◌}
use mathlib.Core.Logic.{◌⊎◌, inl, inr, ⊎_elim, by_cases, ◌≢◌}
use mathlib.Core.Bool.{Bool, true, false, cond}
use mathlib.Core.List.{List, [], ◌∷◌, reverse, reverse_aux}
use Prim.Native.Nat.{ℕ, zero, suc, ◌+◌, ◌≤◌}
use native.Mathlib.Omega.{arith}
use native.Mathlib.Decide.{ℕ_discrete}
use lib.Dec.{ltb}
use lib.ListN.{length}
use Rattle.tables.specs.Rows.{rows}
use Rattle.rules.specs.Rules.{Keeps}
use Rattle.tables.proofs.Lowest.{lowest_hit, lowest_miss}
use Rattle.relation.proofs.Truth.{split, clashing, both, isnt, pair}
use Rattle.schedules.specs.Machine.{Program, state}
use Rattle.schedules.specs.Threads as threads
use Rattle.schedules.specs.HappensBefore.{Goes, stays}
use Rattle.schedules.proofs.Step.{ran_other}
use Rattle.schedules.proofs.Tests.{not_matching}
use Rattle.steps.specs.declared.state.Replay.{Replay}
use Rattle.steps.specs.State.{start}
use Rattle.steps.specs.Step.{allowed, command, stepped}
use Rattle.programs.specs.Program.{program}
use Rattle.steps.specs.Writing.{does_go_on, stepping, picked, picked_first}
use Rattle.steps.specs.Needs.{lowest_picked}
use Rattle.replay.specs.Writer.{schedule_by}
use Rattle.programs.proofs.Programs as programs
use Rattle.replay.proofs.Few.{steps_few}
use Rattle.replay.proofs.Ties.{Stands, stands_start, allowed_steps, steps_allowed, command_is}
use Rattle.replay.proofs.Tied.{Outcome, ran, mismatched, outcome}
use Rattle.replay.proofs.Writing.{picks}
use Rattle.replay.proofs.Precede.{goes_aux}
use Rattle.schedules.specs.Shows.{Drains}

module _ {table lengths : List ℕ} (K : Keeps table lengths) (pick : ℕ → Bool) where
  abbrev P : Program
  P = program table lengths

  abbrev H : threads.Threads (program table lengths)
  H = programs.threads K

  abbrev choose : Replay → ℕ
  choose = picked_first pick lengths

  -- a schedule that goes on from one that drains, or one that is not clean
  abbrev pub Steered : List ℕ → Type 0
  Steered τ = (¬ threads.Clean P H τ) ⊎ ((υ : List ℕ) × Drains P H pick υ × Goes υ τ)

  -- all that has run was picked
  abbrev Only : List ℕ → Type 0
  Only υ = (x : ℕ) → (threads.after P H υ).ran x ≡ true → pick x ≡ true

  only_more : (υ : List ℕ) (t : ℕ) → Only υ → pick (threads.at P H υ t) ≡ true → Only (t ∷ υ)
  unfolding threads.log_of state
  only_more υ t only e x r =
      by_cases (ℕ_discrete (threads.at P H υ t) x) (λ (q : threads.at P H υ t ≡ x). ap pick (sym q) ∙ e)
      (λ (n : threads.at P H υ t ≢ x). only x (sym (ran_other P (threads.after P H υ) (threads.at P H υ t) x n) ∙ r))

  -- where no thread is picked, no next command of an allowed thread passes
  none_picked : {υ : List ℕ} {s : Replay} → Stands K υ s → Only υ → ltb (lowest_picked pick lengths s) (length lengths) ≡ false → Drains P H pick υ
  unfolding picked
  none_picked {υ} {s} S only f =
      record {
        legal = S.legal;
        only = only;
        none =
            λ t st. isnt _ (λ e.
            let q : pick (command lengths s t) ≡ true = ap pick (command_is K S t st.exists) ∙ e in
            clashing (pair (allowed lengths s t) (pick (command lengths s t)) (steps_allowed K S t st) q) (lowest_miss (picked pick lengths s) (length lengths) f t st.exists));
      }

  -- one step, where the steps after it are known
  one_more : (n : ℕ) (υ : List ℕ) (s : Replay) → Stands K υ s → Only υ
      → ((t : ℕ) → Stands K (t ∷ υ) (stepped table lengths s t).after → Only (t ∷ υ)
      → Steered (reverse_aux (stepping choose table lengths n (stepped table lengths s t).after) (t ∷ υ)))
      → Steered (reverse_aux (stepping choose table lengths (suc n) s) υ)
  unfolding stepping picked
  one_more n υ s S only rest =
      ⊎_elim
      (λ e.
      let t = lowest_picked pick lengths s in
      let (l, h) = lowest_hit (picked pick lengths s) (length lengths) e in
      let (a, p) = both (allowed lengths s t) (pick (command lengths s t)) h in
      rw (picks pick lengths s e, e) (by (ap pick (sym (command_is K S t l)) ∙ p) (outcome K S t (allowed_steps K S t a))))
      (λ f. inr (υ, none_picked S only f, goes_aux (stepping choose table lengths (suc n) s) υ))
      (split (ltb (lowest_picked pick lengths s) (length lengths)))
    where
      by : {t : ℕ} → pick (threads.at P H υ t) ≡ true → Outcome K υ s t
          → Steered (reverse_aux (t ∷ cond (does_go_on (stepped table lengths s t).did) (stepping choose table lengths n (stepped table lengths s t).after) []) υ)
      by p (ran q m R) = rw q (rest _ R (only_more υ _ only p))
      by p (mismatched q k m) = rw q (inl (λ C. not_matching m C.legal.2))

  steered : (n : ℕ) (υ : List ℕ) (s : Replay) → Stands K υ s → Only υ → rows table ≤ length υ + n → Steered (reverse_aux (stepping choose table lengths n s) υ)
  unfolding stepping
  steered zero υ s S only l =
      inr (υ, record { legal = S.legal; only = only; none = λ t st. absurd (omega (arith, steps_few K S.legal st)) }, stays)
  steered (suc n) υ s S only l = one_more n υ s S only (λ t R o. steered n (t ∷ υ) _ R o (omega arith))

  pub steered_all : Steered (reverse (schedule_by choose table lengths))
  unfolding schedule_by threads.log_of state
  steered_all = steered (rows table) [] start (stands_start K) (λ x e. clashing e refl) (omega arith)
