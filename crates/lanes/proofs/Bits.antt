-- Bits of the words that the rules of Table 2 make. Assumes nothing.
use mathlib.Core.Path.{◌≡◌, sym, ap, ◌∙◌}
use mathlib.Core.Logic.{⊎_elim, by_cases, ◌≢◌}
use mathlib.Core.Bool.{true, false}
use Prim.Native.Nat.{ℕ, zero, suc, ◌-◌, ◌/◌, ◌%◌, ◌^◌, ◌≤◌, ◌<◌, min}
use native.Mathlib.Nat.{pow-suc}
use native.Mathlib.Decide.{ℕ_discrete, dec_lt}
use native.Mathlib.Omega.{arith}
use borrow.Author.Tests.{eq-eqb, lt-ltb, le-ltb}
use lib.Dec.{eqb, ltb}
use lib.Pow.{pow_pos, shr-shr}
use Rattle.relation.specs.Bits.{bit_of}
use Rattle.relation.proofs.Truth.{clashing, split}
use Rattle.relation.proofs.Words.{except_bit, zero_bit, same_word}
use Rattle.warps.proofs.Proceed.{any, any_none, none_any}
use Rattle.lanes.specs.Words.{except, highest_of, all_of}

-- no lane from n on
abbrev pub Below : (n word : ℕ) → Type 0
Below n word = (t : ℕ) → n ≤ t → bit_of word t ≡ false

pub below_except : (n a b : ℕ) → Below n a → Below n (except a b)
below_except n a b h t l = except_bit a b t ∙ rw (h t l)

-- some lane is in a word that is not 0
power_more : (w : ℕ) → w < 2 ^ w
power_more zero = omega arith
power_more (suc w) = omega (arith, power_more w, pow-suc 2 w)

pub any_zero : (n w : ℕ) → w ≡ 0 → any n (bit_of w) ≡ false
any_zero n w e = none_any n (bit_of w) (λ t l. ap (λ (x : ℕ). bit_of x t) e ∙ zero_bit t)

pub any_word : (n w : ℕ) → Below n w → w ≢ 0 → any n (bit_of w) ≡ true
any_word n w h e =
    ⊎_elim (λ (p : any n (bit_of w) ≡ true). p)
    (λ (p : any n (bit_of w) ≡ false).
    absurd (e (same_word w w 0 (power_more w) (pow_pos w)
    (λ t l. by_cases (dec_lt t n) (λ (l : t < n). any_none n (bit_of w) p t l) (λ (l : ¬ (t < n)). h t (omega arith)) ∙ sym (zero_bit t))))) (split (any n (bit_of w)))

-- the highest lane
pub highest_above : (n w t : ℕ) → highest_of n w < t → t < n → bit_of w t ≡ false
unfolding highest_of
highest_above zero w t l m = absurd (omega arith)
highest_above (suc n) w t l m =
    ⊎_elim (λ (b : bit_of w n ≡ true). absurd (let z : n < t = rw b at l in omega arith))
    (λ (b : bit_of w n ≡ false). by_cases (ℕ_discrete t n) (λ (q : t ≡ n). ap (bit_of w) q ∙ b) (λ (q : t ≢ n). highest_above n w t (rw b at l) (omega arith))) (split (bit_of w n))

pub highest_in : (n w t : ℕ) → t < n → bit_of w t ≡ true → bit_of w (highest_of n w) ≡ true
unfolding highest_of
highest_in zero w t l e = absurd (omega arith)
highest_in (suc n) w t l e =
    ⊎_elim (λ (b : bit_of w n ≡ true). rw b b)
    (λ (b : bit_of w n ≡ false). rw b (by_cases (ℕ_discrete t n) (λ (q : t ≡ n). clashing e (ap (bit_of w) q ∙ b)) (λ (q : t ≢ n). highest_in n w t (omega arith) e))) (split (bit_of w n))

-- the first n lanes
pub first_bit : (n t : ℕ) → bit_of (2 ^ n - 1) t ≡ ltb t n
unfolding bit_of
first_bit zero t = zero_bit t ∙ sym (le-ltb t 0 (omega arith))
first_bit (suc n) zero = eq-eqb ((2 ^ suc n - 1) / 1 % 2) 1 (omega (arith, pow-suc 2 n, pow_pos n)) ∙ sym (lt-ltb 0 (suc n) (omega arith))
first_bit (suc n) (suc t) =
    let h : (2 ^ suc n - 1) / 2 ≡ 2 ^ n - 1 = omega (arith, pow-suc 2 n, pow_pos n) in
    let q : (2 ^ suc n - 1) / 2 / 2 ^ t ≡ (2 ^ suc n - 1) / 2 ^ suc t = shr-shr (2 ^ suc n - 1) 1 t ∙ ap (λ (j : ℕ). (2 ^ suc n - 1) / 2 ^ j) (omega arith) in
    ap (λ (x : ℕ). eqb (x % 2) 1) (sym q) ∙ ap (λ (x : ℕ). eqb (x / 2 ^ t % 2) 1) h ∙ first_bit n t
    ∙ by_cases (dec_lt t n) (λ (l : t < n). rw (lt-ltb t n l, lt-ltb (suc t) (suc n) (omega arith))) (λ (l : ¬ (t < n)). rw (le-ltb t n (omega arith), le-ltb (suc t) (suc n) (omega arith)))

pub all_bit : (n t : ℕ) → n ≤ 32 → bit_of (all_of n) t ≡ ltb t n
all_bit n t h = let e : min n 32 ≡ n = omega arith in rw e (first_bit n t)
