-- What a schedule shows, judged again (R63).
use Rattle.std.specs.Prelude.{◌≡◌, ◌≢◌, Bool, cond, not, List, ℕ, ◌<◌, eqb, ltb}
use Rattle.tables.specs.Lowest.{lowest}
use Rattle.tables.specs.Rows.{rows}
use Rattle.verdicts.specs.declared.Told.{Told}
use Rattle.steps.specs.Ending.{judged}
use Rattle.steps.specs.Going.{played, generation}
use Rattle.replay.specs.Schedules.{Precedes}
use Rattle.wording.specs.declared.Shown.{Shown}
use Rattle.wording.specs.declared.Shown.TheVariants.{First, Generation, Mismatch, Deadlock, LeftSet}

-- ---- another generation

-- command c has other generations in f and in g
abbrev pub differs : (f g : ℕ → ℕ) → ℕ → Bool
differs f g c = not (eqb (f c) (g c))

-- command c has generation f c, and g c was offered; where there is no such command below m, m itself
abbrev pub generation_of : (f g : ℕ → ℕ) (m c : ℕ) → Shown
generation_of f g m c = cond (ltb c m) (Generation c (f c) (g c)) (Generation m 0 0)

-- the lowest command below m whose generation in f is not the one in g (R63)
unfoldable pub other_generation_of : (f g : ℕ → ℕ) → ℕ → Shown
other_generation_of f g m = generation_of f g m (lowest (differs f g) m)

-- ---- the end

-- by how it ended: in 7 at a command, in 8 at a command, in 9 at a barrier; and else with another generation (R63)
abbrev pub shown_as : Told → Shown → Shown
shown_as t other =
    cond (eqb t.number 7) (Mismatch t.place) (cond (eqb t.number 8) (Deadlock t.place) (cond (eqb t.number 9) (LeftSet t.place) other))

-- what a schedule τ shows against the generations g (R63)
unfoldable pub what_is_shown : (commands lengths : List ℕ) (g : ℕ → ℕ) (τ : List ℕ) → Shown
what_is_shown commands lengths g τ =
    shown_as (judged lengths (played commands lengths τ)) (other_generation_of (generation (played commands lengths τ)) g (rows commands))

-- ---- what is said is so

-- what a line says of the schedule τ below it, against the generations g (R63)
unfoldable pub Says : (commands lengths : List ℕ) (g : ℕ → ℕ) (τ : List ℕ) → Shown → Type 0
Says commands lengths g τ (First x y) = Precedes commands lengths x y τ
Says commands lengths g τ (Generation c h k) = (c < rows commands) × (generation (played commands lengths τ) c ≡ h) × (g c ≡ k) × (h ≢ k)
Says commands lengths g τ (Mismatch c) = ((judged lengths (played commands lengths τ)).number ≡ 7) × ((judged lengths (played commands lengths τ)).place ≡ c)
Says commands lengths g τ (Deadlock c) = ((judged lengths (played commands lengths τ)).number ≡ 8) × ((judged lengths (played commands lengths τ)).place ≡ c)
Says commands lengths g τ (LeftSet b) = ((judged lengths (played commands lengths τ)).number ≡ 9) × ((judged lengths (played commands lengths τ)).place ≡ b)
