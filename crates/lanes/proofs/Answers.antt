-- The answers of the code, test by test.
use mathlib.Core.Path.{◌≡◌, refl, sym, ◌∙◌, subst}
use mathlib.Core.Logic.{◌≢◌, by_cases}
use mathlib.Core.Bool.{cond}
use Prim.Native.Nat.{ℕ, zero, suc, ◌-◌, ◌*◌, ◌/◌, ◌%◌, ◌^◌, ◌≤◌, ◌<◌, min}
use native.Mathlib.Decide.{ℕ_discrete}
use native.Mathlib.Nat.{one-mul, mod-eq_of_lt, div-eq_of_lt, div-eq_of_lt-le, pow-suc}
use native.Mathlib.Omega.{arith}
use lib.Bits.{bit_and, bit_xor, and_comm, and_mask, xor_add_and}
use lib.Count.{count_leading_zeros, leading_top}
use lib.Dec.{eqb}
use lib.Pow.{pow_pos, pow_mono}
use Rattle.relation.specs.Bits.{bit_of}
use Rattle.relation.proofs.Words.{one_shl, zero_bit}
use Rattle.lanes.specs.Words.{highest_of, all_of}

pub highest_none : (n m : ℕ) → m ≡ 0 → 0 ≡ highest_of n m
unfolding highest_of
highest_none zero m e = refl
highest_none (suc n) m e = rw (e, zero_bit n) (highest_none n 0 refl)

-- a lane by the length of the word
highest_top : (n j m : ℕ) → j < n → 2 ^ j ≤ m → m < 2 ^ suc j → highest_of n m ≡ j
unfolding highest_of bit_of
highest_top zero j m l lo hi = absurd (omega arith)
highest_top (suc n) j m l lo hi =
    by_cases (ℕ_discrete j n)
    (λ (q : j ≡ n). let one : m / 2 ^ j ≡ 1 = div-eq_of_lt-le (2 ^ j) (omega arith) (omega (arith, pow-suc 2 j)) in subst (λ (k : ℕ). cond (eqb (m / 2 ^ k % 2) 1) k (highest_of k m) ≡ j) q (rw one))
    (λ (q : j ≢ n). let none : m / 2 ^ n ≡ 0 = div-eq_of_lt (omega (arith, pow_mono {i = suc j} {j = n} (omega arith))) in rw none (highest_top n j m (omega arith) lo hi))

-- 31 without the zeros above it
pub highest_leading : (m : ℕ) → m ≢ 0 → m < 2 ^ 32 → bit_xor 31 (count_leading_zeros 32 m) ≡ highest_of 32 m
highest_leading m n h =
    let (j, e, lo, hi) = leading_top 32 m (omega arith) h in
    let z = count_leading_zeros 32 m in
    let masked : bit_and 31 z ≡ z = and_comm 31 z ∙ and_mask z 5 ∙ mod-eq_of_lt (omega arith) in
    let left : bit_xor 31 z ≡ j = omega (arith, xor_add_and 31 z) in
    left ∙ sym (highest_top 32 j m (omega arith) lo hi)

pub all_some : (n : ℕ) → n < 32 → (1 * 2 ^ n) % 2 ^ 32 - 1 ≡ all_of n
all_some n h = let e : min n 32 ≡ n = omega arith in rw (one_shl n 32 h, one-mul, e)

pub all_least : (n : ℕ) → n < 32 → 1 ≤ (1 * 2 ^ n) % 2 ^ 32
all_least n h = rw (one_shl n 32 h, one-mul) (pow_pos n)

pub all_most : (n : ℕ) → 32 ≤ n → 4294967295 ≡ all_of n
all_most n h = let e : min n 32 ≡ 32 = omega arith in rw e
