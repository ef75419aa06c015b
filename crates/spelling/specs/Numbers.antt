-- Numbers have no leading zero (but 0 itself) and are at most 65,535 (R45).
use Rattle.std.specs.Prelude.{◌≡◌, Bool, cond, not, ◌&&◌, Option, Some, None, List, [], ◌∷◌, ℕ, ◌+◌, ◌-◌, ◌*◌, ◌≤◌, ◌<◌, eqb, leb, ltb, length, get_or}
use Rattle.spelling.specs.Bytes.{is, digit, run}

-- the largest number that a text may hold (R45)
unfoldable pub most_number : ℕ
most_number = 65535

-- the value of digits, after others of value v
unfoldable pub decimal : ℕ → List ℕ → ℕ
decimal v [] = v
decimal v (b ∷ w) = decimal (v * 10 + (b - 48)) w

-- w is the number n: digits throughout, at least one; a leading zero stands alone; at most the limit (R45)
pub record Means (w : List ℕ) (n : ℕ) : Type 0 where
  pub digits : run (is digit) w ≡ length w
  pub some : 0 < length w
  pub leading : get_or w 0 0 ≡ 48 → length w ≡ 1
  pub value : decimal 0 w ≡ n
  pub small : n ≤ most_number

-- the same as a test
abbrev pub is_number : List ℕ → Bool
is_number w =
    eqb (run (is digit) w) (length w) && (ltb 0 (length w) && (not (eqb (get_or w 0 0) 48 && not (eqb (length w) 1)) && leb (decimal 0 w) most_number))

-- the number that the bytes are, if they are one (R45)
unfoldable pub numeral_of : List ℕ → Option ℕ
numeral_of w = cond (is_number w) (Some (decimal 0 w)) None
