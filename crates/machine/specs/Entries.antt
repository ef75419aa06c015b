-- The stack of a warp in a room of numbers, its top last (R72, R83).
use Rattle.std.specs.Prelude.{cond, List, [], ◌∷◌, ℕ, zero, suc, ◌-◌, ◌/◌, ◌%◌, ◌^◌, eqb, ltb, get_or}
use Rattle.kernels.specs.Rows.{statements, list_of}

-- the stack has at most so many statements and tokens (R72)
abbrev pub most_entries : ℕ
most_entries = 256

-- its room has place for a full stack, and for what one statement can put there before it is told to be too much (R83)
abbrev pub stack_room : ℕ
stack_room = 1024

-- row i: the statement of that row. again i: a while of row i that has begun. token k m: a token of a type (by number) with its mask.
pub data Entry : Type 0 where
  row : (i : ℕ) → Entry
  again : (i : ℕ) → Entry
  token : (kind mask : ℕ) → Entry

-- numbers below 256 are rows, the next 256 are whiles that have begun, all others are tokens
abbrev pub again_from : ℕ
again_from = 256

abbrev pub tokens_from : ℕ
tokens_from = 512

unfoldable pub entry_of : ℕ → Entry
entry_of e = cond (ltb e again_from) (row e) (cond (ltb e tokens_from) (again (e - again_from)) (token ((e - tokens_from) % 4) ((e - tokens_from) / 4 % 2 ^ 32)))

-- what a room holds up to a height, the top first (R83)
unfoldable pub stack_in : (room : List ℕ) (height : ℕ) → List Entry
stack_in room zero = []
stack_in room (suc n) = entry_of (get_or room n 0) ∷ stack_in room n

-- [S] τ W without its statements
unfoldable pub from_token : List Entry → List Entry
from_token [] = []
from_token (row i ∷ W) = from_token W
from_token (again i ∷ W) = from_token W
from_token (token kind mask ∷ W) = token kind mask ∷ W

-- of the n rows from i on, those in list b, over W
unfoldable pub pile : (s : List ℕ) (n i b : ℕ) → List Entry → List Entry
pile s zero i b W = W
pile s (suc n) i b W = cond (eqb (list_of s i) b) (row i ∷ pile s n (suc i) b W) (pile s n (suc i) b W)

-- S W: the rows of list b, in order, over W
abbrev pub list_over : (s : List ℕ) (b : ℕ) → List Entry → List Entry
list_over s b W = pile s (statements s) 0 b W
