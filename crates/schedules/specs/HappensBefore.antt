-- Happens-before and reuse, over the generations g of the commands; and what runs before what in a log (R23, R26, R29).
use Rattle.std.specs.Prelude.{◌≡◌, Bool, true, false, ◌&&◌, ◌||◌, not, List, ◌∷◌, ℕ, suc, ◌<◌, eqb}
use Rattle.relation.specs.Chains.{Reach, rounds, or_same}
use Rattle.schedules.specs.Machine.{Program, state}

-- υ goes on from τ: it is τ and further steps, which stand in front.
pub data Goes (τ : List ℕ) : List ℕ → Type 0 where
  stays : Goes τ τ
  more : {υ : List ℕ} (c : ℕ) → Goes τ υ → Goes τ (c ∷ υ)

module _ (P : Program) where
  open P use {size, first, registers, syncs, barrier}

  -- Each command reaches its thread's next command; each arrive, and each sync, reaches every sync of the same barrier and generation (R26).
  pub data Edge (g : ℕ → ℕ) (y z : ℕ) : Type 0 where
    along : z < size → z ≡ suc y → first z ≡ false → Edge g y z
    meets : y < size → z < size → registers y ≡ true → syncs z ≡ true → barrier y ≡ barrier z → g y ≡ g z → Edge g y z

  -- "Reaches" is the least relation that has these edges, in which each command reaches itself, and chains count (R26).
  abbrev pub Reaches : (ℕ → ℕ) → ℕ → ℕ → Type 0
  Reaches g = Reach (Edge g)

  -- The edges as a test (R26).
  unfoldable pub edge : (ℕ → ℕ) → ℕ → ℕ → Bool
  edge g y z = eqb z (suc y) && not (first z) || registers y && (syncs z && (eqb (barrier y) (barrier z) && eqb (g y) (g z)))

  -- The relation as a table that can be computed (R26).
  unfoldable pub reach : (ℕ → ℕ) → ℕ → ℕ → Bool
  reach g = rounds (or_same (edge g)) size

  -- c₁ and c₂ have the same barrier, and c₂ is one generation after c₁ (R29).
  pub record Succeeds (g : ℕ → ℕ) (c₁ c₂ : ℕ) : Type 0 where
    pub low₁ : c₁ < size
    pub low₂ : c₂ < size
    pub reg₁ : registers c₁ ≡ true
    pub reg₂ : registers c₂ ≡ true
    pub at : barrier c₁ ≡ barrier c₂
    pub gen : g c₂ ≡ suc (g c₁)

  -- c₂ is not first in its thread, and c₁ reaches the command just before c₂ (R29).
  pub record Waits (g : ℕ → ℕ) (c₁ c₂ : ℕ) : Type 0 where
    pub before : ℕ
    pub is_before : c₂ ≡ suc before
    pub not_first : first c₂ ≡ false
    pub reached : Reaches g c₁ before

  -- A reuse fault (c₁, c₂): either c₂ is first in its thread or c₁ does not reach the command just before c₂ (R29).
  pub record Reuse (g : ℕ → ℕ) (c₁ c₂ : ℕ) : Type 0 where
    pub succeeds : Succeeds g c₁ c₂
    pub loose : ¬ Waits g c₁ c₂

  -- There is no reuse fault (R29).
  abbrev pub NoReuse : (ℕ → ℕ) → Type 0
  NoReuse g = (c₁ c₂ : ℕ) → Succeeds g c₁ c₂ → Waits g c₁ c₂

  -- x runs before y in a log: an earlier part of it has run x and not y, and all of it has run y (R23).
  pub record Before (x y : ℕ) (l : List ℕ) : Type 0 where
    pub part : List ℕ
    pub goes_on : Goes part l
    pub sooner : (state P part).ran x ≡ true
    pub later : (state P part).ran y ≡ false
    pub at_last : (state P l).ran y ≡ true
