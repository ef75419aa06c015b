-- A room filled from the front, one number at a time. Assumes nothing.
use mathlib.Core.Path.{◌≡◌, refl, ap, sym, ◌∙◌}
use mathlib.Core.List.{List, [], ◌∷◌, ◌++◌, append-nil, append_assoc}
use Prim.Native.Nat.{ℕ, suc, ◌+◌, ◌≤◌, ◌<◌}
use native.Mathlib.Numerals.{add-one}
use native.Mathlib.Omega.{arith}
use lib.ListN.{length, get_or, set, drop, length-append, length-drop}
use lib.Seq.{drop-cons, set_at}
use Rattle.tables.specs.Over.{over}

-- of all the numbers those left are still to come; the first i stand in the room, which is as it was from there on
pub record Filling (all left was now : List ℕ) (i : ℕ) : Type 0 where
  pub front : List ℕ
  pub long : length front ≡ i
  pub all_is : all ≡ front ++ left
  pub now_is : now ≡ front ++ drop i was
  pub fits : length all ≤ length was

pub filling_none : (all was : List ℕ) → length all ≤ length was → Filling all all was was 0
filling_none all was h = record { front = []; long = refl; all_is = refl; now_is = refl; fits = h }

pub filling_left : {all left was now : List ℕ} {i : ℕ} (left' : List ℕ) → left ≡ left' → Filling all left was now i → Filling all left' was now i
filling_left left' e f =
    record { front = f.front; long = f.long; all_is = f.all_is ∙ ap (λ (l : List ℕ). f.front ++ l) e; now_is = f.now_is; fits = f.fits }

module _ {all left was now : List ℕ} {i : ℕ} (f : Filling all left was now i) where
  pub filling_count : i + length left ≡ length all
  filling_count = omega (arith, f.long, ap length f.all_is, length-append f.front left)

  pub filling_room : i + length left ≤ length was
  filling_room = omega (arith, filling_count, f.fits)

  pub filling_long : length now ≡ length was
  filling_long = omega (arith, f.long, filling_room, ap length f.now_is, length-append f.front (drop i was), length-drop i was)

  pub filling_done : left ≡ [] → now ≡ over all was
  filling_done e =
      let a : all ≡ f.front = f.all_is ∙ ap (λ (l : List ℕ). f.front ++ l) e ∙ append-nil f.front in
      f.now_is ∙ rw (a, f.long)

pub filling_more : {all left was now : List ℕ} {i : ℕ} (x : ℕ) → Filling all (x ∷ left) was now i → Filling all left was (set now i x) (i + 1)
filling_more {all} {left} {was} {now} {i} x f =
    let h : i < length was = omega (arith, filling_room f) in
    record {
      front = f.front ++ (x ∷ []);
      long = omega (arith, f.long, length-append f.front (x ∷ []));
      all_is = f.all_is ∙ sym (append_assoc f.front (x ∷ []) left);
      now_is =
          rw (f.now_is, drop-cons was i 0 h, set_at f.front (get_or was i 0) (drop (suc i) was) x i f.long, add-one i)
          (sym (append_assoc f.front (x ∷ []) (drop (suc i) was)));
      fits = f.fits;
    }

-- three at once
pub filling_three : {all left was now : List ℕ} {i : ℕ} (x y z : ℕ) → Filling all (x ∷ y ∷ z ∷ left) was now i
    → Filling all left was (set (set (set now i x) (i + 1) y) (i + 2) z) (i + 3)
filling_three {i = i} x y z f =
    let p : i + 1 + 1 ≡ i + 2 = omega arith in
    let q : i + 2 + 1 ≡ i + 3 = omega arith in
    rw q at (filling_more z (rw p at (filling_more y (filling_more x f))))
