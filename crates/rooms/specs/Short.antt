-- Rooms that are short: 4, with the digit of the first (R37, R39).
use Rattle.std.specs.Prelude.{Bool, cond, List, [], ◌∷◌, ℕ, ltb}
use Rattle.verdicts.specs.declared.Told.{Told}
use Rattle.rooms.specs.declared.short.Room.{Room}
use Rattle.verdicts.specs.FirstTold.{or_else}
use Rattle.verdicts.specs.Verdicts.{tell}

-- a room by its digit, with the length that is needed and the length that was given (R39)
abbrev pub room_of : (digit needed given : ℕ) → Room
room_of digit needed given = record { digit = digit; needed = needed; given = given }

-- a room is short (R39)
abbrev pub is_short : Room → Bool
is_short r = ltb r.given r.needed

-- 4 with its digit where a room is short, or 0 (R37, R39)
abbrev pub short : Room → Told
short r = cond (is_short r) (tell 4 r.digit 0) (tell 0 0 0)

-- 4 with the digit of the first room of a list that is short, or 0 (R37, R39)
unfoldable pub first_short : List Room → Told
first_short [] = tell 0 0 0
first_short (r ∷ rooms) = or_else (short r) (first_short rooms)
