-- What bytes are a number, test by test; and the value along the digits. Assumes nothing.
use mathlib.Core.Path.{◌≡◌, refl, sym}
use mathlib.Core.Bool.{Bool, true, false, cond, not, ◌&&◌, ◌||◌, true≢false}
use mathlib.Core.List.{List, [], ◌∷◌}
use Rattle.std.specs.Prelude.{Option, Some, None}
use Prim.Native.Nat.{ℕ, ◌+◌, ◌-◌, ◌*◌, ◌≤◌, ◌<◌}
use native.Mathlib.Omega.{arith}
use lib.Dec.{eqb, leb, ltb}
use lib.ListN.{length, get_or, drop, drop_of_length-le}
use borrow.Author.Tests.{eq-eqb, eqb-true, lt-ltb, ltb-true, le-leb, leb-true}
use Rattle.spelling.specs.declared.bytes.Class.TheVariants.{Blank, Letter, Digit, Other}
use Rattle.spelling.specs.Bytes.{class_of, is, digit, run}
use Rattle.spelling.specs.Numbers.{most_number, decimal, Means, numeral_of}
use Rattle.spelling.specs.Claims.{NumberExactly}
use Rattle.spelling.proofs.Scans.{drop_next}

-- the four tests of a number
passed : (v n : ℕ) (a b c d : Bool) → cond (a && (b && (c && d))) (Some v) None ≡ Some n → (a ≡ true) × (b ≡ true) × (c ≡ true) × (d ≡ true) × (v ≡ n)
passed v n true true true true e = (refl, refl, refl, refl, cc)
passed v n true true true false e = absurd (true≢false cc)
passed v n true true false d e = absurd (true≢false cc)
passed v n true false c d e = absurd (true≢false cc)
passed v n false b c d e = absurd (true≢false cc)

-- a leading zero stands alone
alone : (x n : ℕ) → (x ≡ 48 → n ≡ 1) → not (eqb x 48 && not (eqb n 1)) ≡ true
alone x n f = by_test (eqb x 48) refl
  where
    by_test : (t : Bool) → eqb x 48 ≡ t → not (t && not (eqb n 1)) ≡ true
    by_test true e = rw (eq-eqb n 1 (f (eqb-true x 48 e)))
    by_test false e = refl

lone : (n : ℕ) (b : Bool) → not (b && not (eqb n 1)) ≡ true → b ≡ true → n ≡ 1
lone n b e q = by_test (eqb n 1) refl (rw q at e)
  where
    by_test : (t : Bool) → eqb n 1 ≡ t → not (true && not t) ≡ true → n ≡ 1
    by_test true h g = eqb-true n 1 h
    by_test false h g = absurd (true≢false (sym g))

pub means_number : (w : List ℕ) (n : ℕ) → Means w n → numeral_of w ≡ Some n
unfolding numeral_of
means_number w n h =
    rw (eq-eqb _ _ h.digits, lt-ltb _ _ h.some, alone (get_or w 0 0) (length w) h.leading, h.value, le-leb n most_number h.small)

pub number_means : (w : List ℕ) (n : ℕ) → numeral_of w ≡ Some n → Means w n
unfolding numeral_of
number_means w n e =
    let h = passed (decimal 0 w) n (eqb (run (is digit) w) (length w)) (ltb 0 (length w)) (not (eqb (get_or w 0 0) 48 && not (eqb (length w) 1))) (leb (decimal 0 w) most_number) e in
    record {
      digits = eqb-true _ _ h.0;
      some = ltb-true _ _ h.1;
      leading = λ z. lone (length w) (eqb (get_or w 0 0) 48) h.2 (eq-eqb _ _ z);
      value = h.4;
      small = omega (arith, leb-true (decimal 0 w) most_number h.3, h.4);
    }

pub number_exactly : NumberExactly
number_exactly w n = (number_means w n, means_number w n)

pub means_nothing : (w : List ℕ) → ((n : ℕ) → Means w n → ⊥) → numeral_of w ≡ None
means_nothing w h = by_numeral (numeral_of w) refl
  where
    by_numeral : (x : Option ℕ) → numeral_of w ≡ x → x ≡ None
    by_numeral (Some n) e = absurd (h n (number_means w n e))
    by_numeral None e = refl

-- a digit is a byte of 48 to 57
pub digit_range : (b : ℕ) → class_of b ≡ digit → (48 ≤ b) × (b ≤ 57)
unfolding class_of
digit_range b e = by_test (eqb b 32 || eqb b 10) (leb 97 b && leb b 122) (leb 48 b) (leb b 57) refl refl e
  where
    by_test : (x y u v : Bool) → leb 48 b ≡ u → leb b 57 ≡ v → cond x Blank (cond y Letter (cond (u && v) Digit Other)) ≡ Digit → (48 ≤ b) × (b ≤ 57)
    by_test true y u v p q h = absurd cc
    by_test false true u v p q h = absurd cc
    by_test false false true true p q h = (leb-true 48 b p, leb-true b 57 q)
    by_test false false true false p q h = absurd cc
    by_test false false false v p q h = absurd cc

pub decimal_grows : (w : List ℕ) (v : ℕ) → v ≤ decimal v w
unfolding decimal
decimal_grows [] v = omega arith
decimal_grows (b ∷ w) v = omega (arith, decimal_grows w (v * 10 + (b - 48)))

module _ (v : ℕ) (w : List ℕ) (i : ℕ) where
  pub decimal_on : i < length w → decimal v (drop i w) ≡ decimal (v * 10 + (get_or w i 0 - 48)) (drop (i + 1) w)
  unfolding decimal
  decimal_on h = rw (drop_next w i h)

  pub decimal_out : length w ≤ i → decimal v (drop i w) ≡ v
  unfolding decimal
  decimal_out h = rw (drop_of_length-le w {i = i} h)
