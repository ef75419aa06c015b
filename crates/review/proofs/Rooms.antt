-- What goes into the generation room: generations as they stand. Assumes nothing.
use mathlib.Core.Path.{◌≡◌, refl, sym, ap, ap₂, ◌∙◌}
use mathlib.Core.List.{List, [], ◌∷◌, ◌++◌}
use Prim.Native.Nat.{ℕ, zero, suc, ◌+◌, ◌-◌, ◌≤◌, ◌<◌}
use native.Mathlib.Omega.{arith}
use lib.ListN.{length, get_or, take, drop, length-append, length-drop}
use lib.Seq.{length-take-le, get_or-take, get_or-drop, get_or-append-add}
use Rattle.tables.specs.Over.{over}

-- the first n numbers of a list, over a room
abbrev pub put : List ℕ → ℕ → List ℕ → List ℕ
put g n r = over (take n g) r

-- a room into whose first n places they were copied
module _ (g r now : List ℕ) (n : ℕ) (is : now ≡ take n g) (fits : n ≤ length g) where
  pub put_is : now ++ drop n r ≡ put g n r
  put_is = ap₂ (λ (a : List ℕ) (i : ℕ). a ++ drop i r) is (sym (length-take-le n g fits))

  pub put_long : n ≤ length r → length (now ++ drop n r) ≡ length r
  put_long l = omega (arith, length-append now (drop n r), length-drop n r, ap length is, length-take-le n g fits)

-- the numbers that were put stand in front, and the room beyond is kept
front : (l r : List ℕ) (c : ℕ) → c < length l → get_or (l ++ r) c 0 ≡ get_or l c 0
front [] r c h = absurd (omega arith)
front (x ∷ l) r zero h = refl
front (x ∷ l) r (suc c) h = front l r c (omega arith)

module _ (g r : List ℕ) (m : ℕ) (fits : m ≤ length g) where
  pub put_front : (c : ℕ) → c < m → get_or (put g m r) c 0 ≡ get_or g c 0
  put_front c l = front (take m g) (drop (length (take m g)) r) c (omega (arith, length-take-le m g fits)) ∙ get_or-take m g c 0 l

  pub put_beyond : (p : ℕ) → m ≤ p → get_or (put g m r) p 0 ≡ get_or r p 0
  put_beyond p l =
      let e : p ≡ length (take m g) + (p - m) = omega (arith, length-take-le m g fits) in
      ap (λ (n : ℕ). get_or (put g m r) n 0) e ∙ get_or-append-add (take m g) (drop (length (take m g)) r) (p - m) 0 ∙ get_or-drop (length (take m g)) r (p - m) 0
      ∙ ap (λ (n : ℕ). get_or r n 0) (sym e)
