-- A set of numbers as a list of words of 64 bits, however many: bit t mod 64 of word ⌊t/64⌋ is set exactly when t is in it.
use Rattle.std.specs.Prelude.{Bool, cond, List, ℕ, ◌*◌, ◌/◌, ◌%◌, ◌^◌, get_or, set}
use Rattle.std.specs.Int.Bits.{bit_and, bit_or, bit_xor}
use Rattle.relation.specs.Bits.{bit_of}

-- is t in it? No number past the last word is.
unfoldable pub in_words : List ℕ → ℕ → Bool
in_words ws t = bit_of (get_or ws (t / 64) 0) (t % 64)

-- a word with bit k set, or not
unfoldable pub put_bit : (word k : ℕ) → Bool → ℕ
put_bit word k on = cond on (bit_or word (1 * 2 ^ k)) (bit_xor word (bit_and word (1 * 2 ^ k)))

-- t is in it, or not; a number past the last word changes nothing
unfoldable pub put_at : List ℕ → ℕ → Bool → List ℕ
put_at ws t on = set ws (t / 64) (put_bit (get_or ws (t / 64) 0) (t % 64) on)
