-- Every legal schedule goes on to a complete one: while a step is allowed, take it.
use mathlib.Core.Path.{◌≡◌, refl, sym, ap}
use mathlib.Core.Logic.{◌⊎◌, inl, inr}
use mathlib.Core.Bool.{Bool, not}
use mathlib.Core.List.{List, ◌∷◌}
use Prim.Native.Nat.{ℕ, zero, suc, ◌≤◌, ◌<◌}
use native.Mathlib.Omega.{arith}
use Rattle.schedules.specs.Tally.{tally}
use Rattle.schedules.specs.Machine.{Program, Lawful, Mismatch, Matches, state}
use Rattle.schedules.specs.Threads.{Threads, at, log_of, after, Steps, Legal, Complete, stopped, mismatched}
use Rattle.schedules.specs.HappensBefore.{Goes, stays, more}
use Rattle.schedules.specs.Claims.{Completes}
use Rattle.schedules.proofs.Tally.{tally_one, find}
use Rattle.schedules.proofs.Logs.{Allowed}
use Rattle.schedules.proofs.Step.{ran_same, ran_other}
use Rattle.schedules.proofs.Tests.{allowed?, matches?}
use Rattle.schedules.proofs.Along.{first_more}
use Rattle.schedules.proofs.Threads.{stand, good_after, may, must}

module _ {P : Program} (W : Lawful P) (H : Threads P) where
  open P use {size}
  open H use {thread}

  abbrev Whole : List ℕ → Type 0
  Whole τ = (υ : List ℕ) × Goes τ υ × Complete P H υ

  -- what has not run
  waiting : List ℕ → ℕ → Bool
  waiting υ x = not ((after P H υ).ran x)

  one_less : (υ : List ℕ) → Legal P H υ → (t : ℕ) → Steps P H υ t → tally size (waiting υ) ≡ suc (tally size (waiting (t ∷ υ)))
  unfolding waiting log_of state
  one_less υ h t st =
      let s = after P H υ in
      let c = at P H υ t in
      let A = may H (stand H υ h) st in
      tally_one size (waiting (t ∷ υ)) (waiting υ) c A.low (ap not (ran_same P s c c refl)) (ap not A.fresh)
      (λ x n. ap not (sym (ran_other P s c x (λ e. n (sym e)))))

  step_on : (υ : List ℕ) → Legal P H υ → ((t : ℕ) → Steps P H υ t → Matches P (after P H υ) (at P H υ t) → Whole (t ∷ υ)) → Whole υ
  step_on υ h rest = go (find size (allowed? P (after P H υ)))
    where
      step : (t : ℕ) → Steps P H υ t → Mismatch P (after P H υ) (at P H υ t) ⊎ Matches P (after P H υ) (at P H υ t) → Whole υ
      step t st (inl w) = (t ∷ υ, more t stays, mismatched h st w)
      step t st (inr m) = let (l, r, K) = rest t st m in (l, first_more t r, K)

      go : ((c : ℕ) × (c < size) × Allowed P (after P H υ) c) ⊎ ((c : ℕ) → c < size → ¬ Allowed P (after P H υ) c) → Whole υ
      go (inl (c, _, A)) = step (thread c) (must H (stand H υ h) A).1 (matches? P (after P H υ) (good_after H W υ h) (at P H υ (thread c)))
      go (inr f) = (υ, stays, stopped h (λ t st. let A = may H (stand H υ h) st in f _ A.low A))

  extend : (n : ℕ) (υ : List ℕ) → Legal P H υ → tally size (waiting υ) ≤ n → Whole υ
  extend zero υ h small = step_on υ h (λ t st m. absurd (omega (arith, one_less υ h t st)))
  extend (suc n) υ h small = step_on υ h (λ t st m. extend n (t ∷ υ) (h, st, m) (omega (arith, one_less υ h t st)))

  pub completes : Completes P H
  completes υ h = extend (tally size (waiting υ)) υ h (omega arith)
