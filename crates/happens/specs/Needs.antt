-- What the parts ask for and pass on: which edges are listed, enough for all of happens-before. Nothing public speaks of it.
use Rattle.std.specs.Prelude.{◌≡◌, Bool, true, Option, Some, None, cond, not, ◌&&◌, List, ◌⊎◌, ℕ, zero, suc, ◌+◌, ◌*◌, ◌%◌, ◌≤◌, ◌<◌, ltb, length, get_or}
use Rattle.tables.specs.Limits.{most_rows, barriers}
use Rattle.tables.specs.Rows.{rows, name, syncs}
use Rattle.tables.specs.Heads.{own_head}
use Rattle.sweeps.specs.Pairs.{PairBetween}
use Rattle.rooms.specs.Rooms.{number_at}
use Rattle.happens.specs.HappensBefore.{meets}

-- ---- for each barrier and generation one sync of it, its leader

-- i and j are there, and i meets j
abbrev pub does_meet_row : List ℕ → List ℕ → ℕ → ℕ → Bool
does_meet_row commands generations i j = ltb i (rows commands) && (ltb j (rows commands) && meets commands (number_at generations) i j)

-- the last number below n that a test finds
unfoldable pub last_below : (ℕ → Bool) → ℕ → Option ℕ
last_below found zero = None
last_below found (suc n) = cond (found n) (Some n) (last_below found n)

-- s, if a test finds it; else the last number below m that it finds, unless s is no number below m
unfoldable pub or_last : (ℕ → Bool) → ℕ → ℕ → Option ℕ
or_last found s m = cond (found s) (Some s) (cond (ltb s m) (last_below found m) None)

-- a seat for each barrier and each generation that a review can have; other generations share them
abbrev pub seats : ℕ
seats = most_rows * barriers

module _ (commands generations : List ℕ) where
  -- the seat of c's barrier and generation
  abbrev pub seat : ℕ → ℕ
  seat c = (number_at generations c * barriers + name commands c % barriers) % seats

  -- the last sync that c meets
  abbrev pub last_met_of : ℕ → Option ℕ
  last_met_of c = last_below (does_meet_row commands generations c) (rows commands)

  module _ (leaders : List ℕ) where
    -- who sits there
    abbrev pub sits : ℕ → ℕ
    sits c = get_or leaders (seat c) 0

    -- the seats of the syncs below n are taken
    abbrev pub Seated : ℕ → Type 0
    Seated n = (c : ℕ) → c < n → syncs commands c ≡ true → sits c < rows commands

    -- who sits in c's seat, if c meets it; where another barrier or generation has the seat, the last sync that c meets
    abbrev pub leader : ℕ → Option ℕ
    leader c = or_last (does_meet_row commands generations c) (sits c) (rows commands)

-- ---- the pairs that are listed for each command

-- the row after c is there, and is not where its thread begins
abbrev pub follows : List ℕ → ℕ → ℕ → Bool
follows heads m c = ltb (c + 1) m && not (own_head heads (c + 1))

-- what is listed for command c and its leader: both ways as far as they are edges
pub data Led (commands generations leaders : List ℕ) (c : ℕ) : ℕ → ℕ → Type 0 where
  to : {l : ℕ} → leader commands generations leaders c ≡ Some l → Led commands generations leaders c c l
  from : {l : ℕ} → leader commands generations leaders c ≡ Some l → does_meet_row commands generations l c ≡ true → Led commands generations leaders c l c

-- what is listed for command c: that, and its thread's next command
pub data Draws (commands generations heads leaders : List ℕ) (c : ℕ) : ℕ → ℕ → Type 0 where
  led : {i k : ℕ} → Led commands generations leaders c i k → Draws commands generations heads leaders c i k
  next : follows heads (rows commands) c ≡ true → Draws commands generations heads leaders c c (c + 1)

-- what is listed for the commands below n
pub record DrawsBelow (commands generations heads leaders : List ℕ) (n i k : ℕ) : Type 0 where
  pub one : ℕ
  pub low : one < n
  pub draws : Draws commands generations heads leaders one i k

-- n pairs became r, at most `most` more: those that were there and those of D
pub record Adds (most : ℕ) (D : ℕ → ℕ → Type 0) (before after : List ℕ) (n r : ℕ) : Type 0 where
  pub len : length after ≡ length before
  pub few : r ≤ n + most
  pub kept : (i k : ℕ) → PairBetween before 0 n i k → PairBetween after 0 r i k
  pub new : (i k : ℕ) → D i k → PairBetween after 0 r i k
  pub only : (i k : ℕ) → PairBetween after 0 r i k → PairBetween before 0 n i k ⊎ D i k

-- one pair
pub record OnePair (i k x y : ℕ) : Type 0 where
  pub from : x ≡ i
  pub to : y ≡ k
