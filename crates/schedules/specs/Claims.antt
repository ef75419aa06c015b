-- What is proved, for every lawful program P and its threads H. Theorems, in proofs/, has a proof of each under the same name in small letters.
-- `Complete` is legal and complete (R21). One that ends at a mismatch is not clean, and no claim turns on what its last step would have done.
use Rattle.std.specs.Prelude.{◌≡◌, ◌⊎◌, ◌≢◌, ◌↔◌, true, false, List, ℕ, ◌<◌}
use Rattle.schedules.specs.Machine.{Program}
use Rattle.schedules.specs.Threads.{Threads, log_of, after, gens, Legal, Complete, Clean}
use Rattle.schedules.specs.HappensBefore.{Reaches, reach, Reuse, NoReuse, Goes, Before}

module _ (P : Program) where
  open P use {size}

  -- The table `reach` decides what reaches what.
  abbrev pub Decides : Type 0
  Decides = (g : ℕ → ℕ) (x y : ℕ) → x < size → y < size → (reach P g x y ≡ true) ↔ Reaches P g x y

  -- There is a reuse fault, or there is none.
  abbrev pub Decided : Type 0
  Decided = (g : ℕ → ℕ) → ((c₁ : ℕ) × (c₂ : ℕ) × Reuse P g c₁ c₂) ⊎ NoReuse P g

module _ (P : Program) (H : Threads P) where
  open P use {size, registers}

  -- ---- schedules

  -- Two schedules end with the same generation for each command (D3).
  abbrev pub Alike : List ℕ → List ℕ → Type 0
  Alike τ σ = (x : ℕ) → x < size → gens P H τ x ≡ gens P H σ x

  -- A schedule that settles all the others: it is clean and has no reuse fault.
  pub record Settled (σ : List ℕ) : Type 0 where
    pub clean : Clean P H σ
    pub none : NoReuse P (gens P H σ)

  -- x runs before y in a schedule (R23).
  abbrev pub Precedes : ℕ → ℕ → List ℕ → Type 0
  Precedes x y τ = Before P x y (log_of P H τ)

  -- Every legal schedule goes on to a complete one.
  abbrev pub Completes : Type 0
  Completes = (τ : List ℕ) → Legal P H τ → (υ : List ℕ) × Goes τ υ × Complete P H υ

  -- What is clean has run everything.
  abbrev pub AllRan : Type 0
  AllRan = (σ : List ℕ) → Clean P H σ → (x : ℕ) → x < size → (after P H σ).ran x ≡ true

  -- (S) With no reuse fault, every complete schedule is clean and has the same generations.
  abbrev pub Sound : Type 0
  Sound = (σ : List ℕ) → Settled σ → (τ : List ℕ) → Complete P H τ → Clean P H τ × Alike τ σ

  -- (C) A reuse fault is real: some complete schedule is not clean, or has another generation for some command.
  abbrev pub Real : Type 0
  Real =
      (σ : List ℕ) → Clean P H σ → (c₁ c₂ : ℕ) → Reuse P (gens P H σ) c₁ c₂
      → (τ : List ℕ) × Complete P H τ × ((¬ Clean P H τ) ⊎ ((x : ℕ) × (x < size) × (gens P H τ x ≢ gens P H σ x)))

  -- ---- agreement

  -- Every two complete schedules end clean, with the same generation for each command (D3).
  abbrev pub Agree : Type 0
  Agree = (σ τ : List ℕ) → Complete P H σ → Complete P H τ → Clean P H σ × Clean P H τ × Alike τ σ

  -- One clean schedule tells whether they agree: exactly when it has no reuse fault.
  abbrev pub Agreement : Type 0
  Agreement = (σ : List ℕ) → Clean P H σ → Agree ↔ NoReuse P (gens P H σ)

  -- A complete schedule that is not clean tells that they do not.
  abbrev pub Disagreement : Type 0
  Disagreement = (σ : List ℕ) → Complete P H σ → ¬ Clean P H σ → ¬ Agree

  -- (F) Two schedules that are clean have, with no reuse fault, the same generations and one relation.
  abbrev pub OneRelation : Type 0
  OneRelation =
      (σ : List ℕ) → Settled σ → (τ : List ℕ) → Clean P H τ → Alike τ σ × ((x y : ℕ) → Reaches P (gens P H σ) x y ↔ Reaches P (gens P H τ) x y)

  -- ---- the order of two commands

  -- Of two commands exactly one runs before the other in a clean schedule.
  abbrev pub OneFirst : Type 0
  OneFirst = (τ : List ℕ) → Clean P H τ → (x y : ℕ) → x < size → y < size → x ≢ y → (Precedes x y τ ⊎ Precedes y x τ) × ¬ (Precedes x y τ × Precedes y x τ)

  -- (A) With no reuse fault, an access runs after whatever else reaches it, in every complete schedule.
  abbrev pub Always : Type 0
  Always =
      (σ : List ℕ) → Settled σ → (x y : ℕ) → Reaches P (gens P H σ) x y → x ≢ y → y < size → registers y ≡ false
      → (τ : List ℕ) → Complete P H τ → Precedes x y τ

  -- (E) With no reuse fault, a command runs before whatever does not reach it, in some complete schedule.
  abbrev pub EitherFirst : Type 0
  EitherFirst =
      (σ : List ℕ) → Settled σ → (x y : ℕ) → x < size → y < size → ¬ Reaches P (gens P H σ) y x → (τ : List ℕ) × Complete P H τ × Precedes x y τ

  -- x and y stand in the same order in all complete schedules (D3).
  abbrev pub InOneOrder : ℕ → ℕ → Type 0
  InOneOrder x y = (σ τ : List ℕ) → Complete P H σ → Complete P H τ → Precedes x y σ ↔ Precedes x y τ

  -- With no reuse fault, two accesses stand in the same order in all complete schedules exactly when one reaches the other.
  abbrev pub OneOrder : Type 0
  OneOrder =
      (σ : List ℕ) → Settled σ → (x y : ℕ) → x < size → y < size → registers x ≡ false → registers y ≡ false → x ≢ y
      → InOneOrder x y ↔ (Reaches P (gens P H σ) x y ⊎ Reaches P (gens P H σ) y x)
