-- The lanes' masks and disable states as words: what a bit says, and what the rules of Table 2 make of the words (R69, R83).
use Rattle.std.specs.Prelude.{Bool, true, false, cond, ℕ, zero, suc, ◌-◌, ◌^◌, min, eqb, ltb}
use Rattle.std.specs.Int.Bits.{bit_and, bit_or, bit_xor}
use Rattle.relation.specs.Bits.{bit_of}
use Rattle.warps.specs.Warp.{TokenType, div, sync, brk, call, DisableState, on, broke, returned, DisableMask}
use Rattle.lanes.specs.declared.Lanes.{Lanes}
use Rattle.lanes.specs.declared.TokenKind.{TokenKind}
use Rattle.lanes.specs.declared.TokenKind.TheVariants.{Sync, Div, Brk, Call}

-- a lane's disable state by its two bits; no rule sets both
abbrev pub state_by : (b r : Bool) → DisableState
state_by true r = broke
state_by false true = returned
state_by false false = on

abbrev pub state_of : Lanes → DisableMask
state_of L t = state_by (bit_of L.broke t) (bit_of L.returned t)

-- the types of tokens by number
abbrev pub sync_token : ℕ
sync_token = 0

abbrev pub div_token : ℕ
div_token = 1

abbrev pub brk_token : ℕ
brk_token = 2

abbrev pub call_token : ℕ
call_token = 3

-- the number of a type
abbrev pub token_number : TokenKind → ℕ
token_number Sync = sync_token
token_number Div = div_token
token_number Brk = brk_token
token_number Call = call_token

-- a number past them is a call
abbrev pub token_type : ℕ → TokenType
token_type kind = cond (eqb kind sync_token) sync (cond (eqb kind div_token) div (cond (eqb kind brk_token) brk call))

-- the bits of a that are not in b
abbrev pub except : ℕ → ℕ → ℕ
except a b = bit_xor a (bit_and a b)

-- those of a mask are active that are not disabled
abbrev pub waking : Lanes → (mask : ℕ) → Lanes
waking L mask = record { active = except (except mask L.broke) L.returned; broke = L.broke; returned = L.returned }

-- (token): a brk clears its lanes' b, a call their r; then those of its mask are active that are not disabled (R69)
abbrev pub woken_by : Lanes → (kind mask : ℕ) → Lanes
woken_by L kind mask =
    let b = cond (eqb kind brk_token) (except L.broke mask) L.broke in
    let r = cond (ltb brk_token kind) (except L.returned mask) L.returned in
    waking (record { active = L.active; broke = b; returned = r }) mask

-- (break): nobody is active, and those who were have b (R69)
abbrev pub broken_by : Lanes → Lanes
broken_by L = record { active = 0; broke = bit_or L.broke L.active; returned = L.returned }

-- (return): nobody is active, and those who were have r (R69)
abbrev pub returned_by : Lanes → Lanes
returned_by L = record { active = 0; broke = L.broke; returned = bit_or L.returned L.active }

-- (if): the active lanes but those in a mask (R69)
abbrev pub leaving : Lanes → (mask : ℕ) → Lanes
leaving L mask = record { active = except L.active mask; broke = L.broke; returned = L.returned }

-- (while): these lanes are active (R69)
abbrev pub only_active : Lanes → (mask : ℕ) → Lanes
only_active L mask = record { active = mask; broke = L.broke; returned = L.returned }

-- (assign): the highest lane below n in a mask, or 0 (R69)
unfoldable pub highest_of : (n mask : ℕ) → ℕ
highest_of zero mask = 0
highest_of (suc n) mask = cond (bit_of mask n) n (highest_of n mask)

-- the first n lanes of 32 (R69); over 32 are 32 (R83)
abbrev pub all_of : ℕ → ℕ
all_of n = 2 ^ min n 32 - 1
