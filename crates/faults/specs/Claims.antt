-- What is proved of faults: the tests are the definitions over the least relation, and the list of a kind has each fault once, in its order (R29 to R32). Pairs and Tests, in proofs/, have a
-- proof of each, under the same name in small letters.
use Rattle.std.specs.Prelude.{◌≡◌, ◌⊎◌, ◌≢◌, ◌↔◌, Bool, true, List, ℕ, ◌<◌, length, get_or}
use Rattle.tables.specs.Rows.{rows, thread_of}
use Rattle.tables.specs.Heads.{Headed}
use Rattle.relation.specs.Table.{related}
use Rattle.schedules.specs.HappensBefore.{Reaches, reach, Reuse}
use Rattle.programs.specs.Program.{program}
use Rattle.rooms.specs.Rooms.{number_at}
use Rattle.sheet.specs.declared.Pair.{Pair}
use Rattle.sheet.specs.Sheet.{pair}
use Rattle.faults.specs.declared.faults.Fault.{Fault}
use Rattle.faults.specs.Faults.{reuse, conflict, race, pair_of, faulty, faults}
use Rattle.faults.specs.Tests.{seen_at, is_fault}

-- ---- which pairs

module _ (commands lengths : List ℕ) (g : ℕ → ℕ) where
  -- The reuse test, over the table that decides what reaches what, finds exactly the reuse faults of the program (R29).
  abbrev pub ReuseIs : Type 0
  ReuseIs =
      (c₁ c₂ : ℕ) → c₁ < rows commands → c₂ < rows commands
      → (reuse commands lengths g (reach (program commands lengths) g) c₁ c₂ ≡ true) ↔ Reuse (program commands lengths) g c₁ c₂

  -- The race test finds exactly the conflicting accesses of different threads of which neither reaches the other (R32).
  abbrev pub RaceIs : Type 0
  RaceIs =
      (x y : ℕ) → x < rows commands → y < rows commands
      → (race commands lengths (reach (program commands lengths) g) x y ≡ true)
      ↔ ((x < y) × (conflict commands x y ≡ true) × (thread_of lengths x ≢ thread_of lengths y) × (¬ Reaches (program commands lengths) g x y)
      × (¬ Reaches (program commands lengths) g y x))

-- By the heads of the rows, what `is_fault` answers is whether there is a fault (R29, R32).
abbrev pub IsFaulty : Type 0
IsFaulty =
    (commands lengths heads : List ℕ) → Headed lengths heads (rows commands) → (generations relation : List ℕ)
    → (f : Fault) (i j : ℕ) → i < rows commands → j < rows commands
    → is_fault relation (rows commands) f (seen_at heads commands generations i) (seen_at heads commands generations j)
    ≡ faulty commands lengths (number_at generations) (related relation (rows commands)) f i j

-- ---- in what order

-- A list has each pair that is found, and no other, by outer numbers and then by inner ones.
pub record Listed (found : ℕ → ℕ → Bool) (to : ℕ → ℕ → Pair) (m : ℕ) (ps : List Pair) : Type 0 where
  pub place : ℕ → ℕ → ℕ
  pub there : (i j : ℕ) → i < m → j < m → found i j ≡ true → (place i j < length ps) × (get_or ps (place i j) (pair 0 0) ≡ to i j)
  pub only : (k : ℕ) → k < length ps → (i : ℕ) × (j : ℕ) × (i < m) × (j < m) × (found i j ≡ true) × (place i j ≡ k)
  pub ordered : (i j x y : ℕ) → j < m → found i j ≡ true → (i < x) ⊎ ((i ≡ x) × (j < y)) → place i j < place x y

module _ (commands lengths : List ℕ) (g : ℕ → ℕ) (ρ : ℕ → ℕ → Bool) (f : Fault) where
  -- The faults of a kind are so listed (R30, R32).
  abbrev pub InOrder : Type 0
  InOrder = Listed (faulty commands lengths g ρ f) (pair_of f) (rows commands) (faults commands lengths g ρ f)

  -- No pair stands there twice (R34).
  abbrev pub Once : Type 0
  Once =
      (k l : ℕ) → k < length (faults commands lengths g ρ f) → l < length (faults commands lengths g ρ f)
      → get_or (faults commands lengths g ρ f) k (pair 0 0) ≡ get_or (faults commands lengths g ρ f) l (pair 0 0) → k ≡ l
