-- Numbers put into an answer room, from a place on. Assumes nothing.
use mathlib.Core.Path.{◌≡◌, refl, sym, ap, ◌∙◌}
use mathlib.Core.List.{List, [], ◌∷◌, ◌++◌}
use Prim.Native.Nat.{ℕ, suc, ◌+◌, ◌*◌, ◌≤◌, ◌<◌}
use native.Mathlib.Numerals.{add-one}
use native.Mathlib.Omega.{arith}
use lib.ListN.{length, get_or, set, take, drop, length-append, take-append-drop, drop_of_length-le}
use lib.Seq.{drop-cons, drop-drop, length-take-le}
use Rattle.verdicts.specs.declared.Told.{Told}
use Rattle.tables.specs.Over.{over}
use Rattle.tables.proofs.Over.{Filling, filling_none, filling_left, filling_more, filling_done}
use Rattle.sheet.specs.declared.Pair.{Pair}
use Rattle.sheet.specs.Sheet.{pair}
use Rattle.probe.specs.Numbers.{told_numbers, pair_numbers}

-- ---- the first four places

pub put_four : (w : List ℕ) (a b c d : ℕ) → 4 ≤ length w → set (set (set (set w 0 a) 1 b) 2 c) 3 d ≡ over (a ∷ b ∷ c ∷ d ∷ []) w
put_four w a b c d h = filling_done (filling_more d (filling_more c (filling_more b (filling_more a (filling_none (a ∷ b ∷ c ∷ d ∷ []) w h))))) refl

-- numbers after those are numbers with those before them
module _ (t : Told) (a b : ℕ) (w : List ℕ) where
  abbrev four : List ℕ
  four = told_numbers t a b

  pub told_and_more : (new : List ℕ) → over (take 4 (over four w) ++ new) (over four w) ≡ over (four ++ new) w
  told_and_more new =
      let e : 4 + length new ≡ length (four ++ new) = omega arith in
      ap (λ (l : List ℕ). four ++ new ++ l) (drop-drop (length new) 4 w ∙ ap (λ (n : ℕ). drop n w) e)

  pub told_and_one : (x : ℕ) → 5 ≤ length w → set (over four w) 4 x ≡ over (four ++ x ∷ []) w
  told_and_one x h = filling_done (filling_more x F) refl
    where
      F : Filling (four ++ x ∷ []) (x ∷ []) w (over four w) 4
      F = record { front = four; long = refl; all_is = refl; now_is = refl; fits = h }

  pub told_and_two : (x y : ℕ) → 6 ≤ length w → set (set (over four w) 4 x) 5 y ≡ over (four ++ x ∷ y ∷ []) w
  told_and_two x y h = filling_done (filling_more y (filling_more x F)) refl
    where
      F : Filling (four ++ x ∷ y ∷ []) (x ∷ y ∷ []) w (over four w) 4
      F = record { front = four; long = refl; all_is = refl; now_is = refl; fits = h }

-- ---- the pairs of a sheet after them

pub pairs_length : (ps : List Pair) → length (pair_numbers ps) ≡ length ps * 2
unfolding pair_numbers
pairs_length [] = refl
pairs_length (p ∷ ps) = omega (arith, pairs_length ps)

-- the pairs from i on are still to come
abbrev pub Putting : List Pair → List ℕ → List ℕ → ℕ → Type 0
Putting ps was now i = Filling (take 4 was ++ pair_numbers ps) (pair_numbers (drop i ps)) was now (4 + i * 2)

module _ (ps : List Pair) (was : List ℕ) where
  pub putting_none : 4 + length ps * 2 ≤ length was → Putting ps was was 0
  putting_none h =
      record {
        front = take 4 was;
        long = length-take-le 4 was (omega arith);
        all_is = refl;
        now_is = sym (take-append-drop 4 was);
        fits = omega (arith, length-append (take 4 was) (pair_numbers ps), length-take-le 4 was (omega arith), pairs_length ps);
      }

  module _ (now : List ℕ) (i : ℕ) (P : Putting ps was now i) where
    pub putting_more : (x y : ℕ) → x ≡ (get_or ps i (pair 0 0)).first → y ≡ (get_or ps i (pair 0 0)).second → i < length ps
        → Putting ps was (set (set now (4 + i * 2) x) (5 + i * 2) y) (i + 1)
    unfolding pair_numbers
    putting_more x y e f h =
        let d : pair_numbers (drop i ps) ≡ x ∷ y ∷ pair_numbers (drop (suc i) ps) = ap pair_numbers (drop-cons ps i (pair 0 0) h) ∙ rw (e, f) in
        let l : pair_numbers (drop (suc i) ps) ≡ pair_numbers (drop (i + 1) ps) = rw (add-one i) in
        let s : 4 + i * 2 + 1 ≡ 5 + i * 2 = omega arith in
        let n : 5 + i * 2 + 1 ≡ 4 + (i + 1) * 2 = omega arith in
        filling_left _ l (rw n at (filling_more y (rw s at (filling_more x (filling_left _ d P)))))

    pub putting_done : length ps ≤ i → now ≡ over (take 4 was ++ pair_numbers ps) was
    unfolding pair_numbers
    putting_done h = filling_done P (ap pair_numbers (drop_of_length-le ps h))
