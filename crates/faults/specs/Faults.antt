-- Reuse faults and races, over generations g and a table ρ of what reaches what (R4, R29 to R32).
use Rattle.std.specs.Prelude.{Bool, cond, not, ◌&&◌, ◌||◌, List, [], ◌∷◌, ◌++◌, ℕ, zero, suc, ◌+◌, ◌-◌, eqb, ltb}
use Rattle.tables.specs.Rows.{rows, kind, name, write, arrive, thread_of, is_first, registers}
use Rattle.sheet.specs.declared.Pair.{Pair}
use Rattle.faults.specs.declared.faults.Fault.{Fault}
use Rattle.faults.specs.declared.faults.Fault.TheVariants.{Reuse, Race}
use Rattle.sheet.specs.Sheet.{pair}

-- Same barrier, c₂ one generation after c₁ (R29). Reads and writes belong to no barrier.
unfoldable pub succeeds : List ℕ → (ℕ → ℕ) → ℕ → ℕ → Bool
succeeds commands g c₁ c₂ = registers commands c₁ && (registers commands c₂ && (eqb (name commands c₁) (name commands c₂) && eqb (g c₁ + 1) (g c₂)))

-- Reuse fault (c₁, c₂): and either c₂ is first in its thread or c₁ does not reach the command just before c₂ (R29).
unfoldable pub reuse : List ℕ → List ℕ → (ℕ → ℕ) → (ℕ → ℕ → Bool) → ℕ → ℕ → Bool
reuse commands lengths g ρ c₁ c₂ = succeeds commands g c₁ c₂ && (is_first lengths c₂ || not (ρ c₁ (c₂ - 1)))

-- Two accesses conflict when they have the same address and at least one is a write (R4, R31).
unfoldable pub conflict : List ℕ → ℕ → ℕ → Bool
conflict commands x y =
    ltb (kind commands x) arrive && (ltb (kind commands y) arrive
    && (eqb (name commands x) (name commands y) && (eqb (kind commands x) write || eqb (kind commands y) write)))

-- Race (x, y), x < y: conflicting accesses of different threads, neither reaching the other (R32).
unfoldable pub race : List ℕ → List ℕ → (ℕ → ℕ → Bool) → ℕ → ℕ → Bool
race commands lengths ρ x y =
    ltb x y && (conflict commands x y && (not (eqb (thread_of lengths x) (thread_of lengths y)) && (not (ρ x y) && not (ρ y x))))

-- ---- the search: by an outer number i, then by an inner number j

-- the pairs of one outer number: those of the inner numbers below n that a test finds (R30, R32)
unfoldable pub along_row : (ℕ → Bool) → (ℕ → Pair) → ℕ → List Pair
along_row found to zero = []
along_row found to (suc j) = along_row found to j ++ cond (found j) (to j ∷ []) []

-- the pairs of the outer numbers below n, with inner numbers below m (R30, R32)
unfoldable pub all_rows : (ℕ → ℕ → Bool) → (ℕ → ℕ → Pair) → ℕ → ℕ → List Pair
all_rows found to m zero = []
all_rows found to m (suc i) = all_rows found to m i ++ along_row (found i) (to i) m

-- Order of reuse faults: by c₂, then c₁ (R30). Order of races: by x, then y (R32).
abbrev pub pair_of : Fault → ℕ → ℕ → Pair
pair_of Reuse i j = pair j i
pair_of Race i j = pair i j

-- the outer and the inner number are a fault of the kind (R29, R32)
abbrev pub faulty : List ℕ → List ℕ → (ℕ → ℕ) → (ℕ → ℕ → Bool) → Fault → ℕ → ℕ → Bool
faulty commands lengths g ρ Reuse i j = reuse commands lengths g ρ j i
faulty commands lengths g ρ Race i j = race commands lengths ρ i j

-- all faults of a kind, in their order (R30, R32)
unfoldable pub faults : List ℕ → List ℕ → (ℕ → ℕ) → (ℕ → ℕ → Bool) → Fault → List Pair
faults commands lengths g ρ f = all_rows (faulty commands lengths g ρ f) (pair_of f) (rows commands) (rows commands)
