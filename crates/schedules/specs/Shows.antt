-- Which schedules show a fault: those that first run, as far as it goes, what one command does not reach, and so another command before it (R59, R60, R62).
use Rattle.std.specs.Prelude.{◌≡◌, ◌⊎◌, ◌≢◌, Bool, true, false, List, ℕ, ◌<◌}
use Rattle.schedules.specs.Machine.{Program}
use Rattle.schedules.specs.Threads.{Threads, at, after, gens, Steps, Legal, Complete, Clean}
use Rattle.schedules.specs.HappensBefore.{Reaches, Reuse, Goes}
use Rattle.schedules.specs.Claims.{Settled, Precedes}

-- E has d and all that c does not reach, and it does not have c (R62).
pub record Avoids (P : Program) (g : ℕ → ℕ) (c d : ℕ) (E : ℕ → Bool) : Type 0 where
  pub apart : (x : ℕ) → x < P.size → ¬ Reaches P g c x → E x ≡ true
  pub also : E d ≡ true
  pub without : E c ≡ false

module _ (P : Program) (H : Threads P) where
  open P use {size}

  -- A schedule without a mismatch that has run only what E has, as far as that goes: no thread that may step has a next command in E.
  pub record Drains (E : ℕ → Bool) (υ : List ℕ) : Type 0 where
    pub legal : Legal P H υ
    pub only : (x : ℕ) → (after P H υ).ran x ≡ true → E x ≡ true
    pub none : (t : ℕ) → Steps P H υ t → E (at P H υ t) ≡ false

  -- A reuse fault (c₁, c₂) of a clean schedule: whatever complete schedule goes on from one that avoids c₁ so, with c₂, is not clean or has
  -- another generation for some command (R59).
  abbrev pub ShowsReuse : Type 0
  ShowsReuse =
      (σ : List ℕ) → Clean P H σ → (c₁ c₂ : ℕ) → Reuse P (gens P H σ) c₁ c₂ → (E : ℕ → Bool) → Avoids P (gens P H σ) c₁ c₂ E
      → (υ : List ℕ) → Drains E υ → (τ : List ℕ) → Goes υ τ → Complete P H τ
      → (¬ Clean P H τ) ⊎ ((x : ℕ) × (x < size) × (gens P H τ x ≢ gens P H σ x))

  -- With no reuse fault, where y does not reach x: whatever complete schedule goes on from one that avoids y so has x before y (R60).
  abbrev pub ShowsFirst : Type 0
  ShowsFirst =
      (σ : List ℕ) → Settled P H σ → (x y : ℕ) → x < size → y < size → ¬ Reaches P (gens P H σ) y x → (E : ℕ → Bool) → Avoids P (gens P H σ) y x E
      → (υ : List ℕ) → Drains E υ → (τ : List ℕ) → Goes υ τ → Complete P H τ → Precedes P H x y τ
