-- The way upwards from a list, one row after another. Assumes nothing.
use mathlib.Core.Path.{◌≡◌, refl, sym, ◌∙◌, subst}
use mathlib.Core.Bool.{Bool, true, false, ◌&&◌, ◌||◌}
use mathlib.Core.List.{List}
use Prim.Native.Nat.{ℕ, suc, ◌-◌, ◌≤◌, ◌<◌}
use native.Mathlib.Omega.{arith}
use borrow.Author.Tests.{lt-ltb, le-ltb}
use Rattle.kernels.specs.Rows.{statements, list_of}
use Rattle.kernels.specs.Refusals.{owner, has_owner, meets_upwards}

module _ (s : List ℕ) (p : ℕ → Bool) where
  once : (n b : ℕ) → 0 < n → meets_upwards s p n b ≡ has_owner s b && (p (owner s b) || meets_upwards s p (n - 1) (list_of s (owner s b)))
  unfolding meets_upwards
  once n b l =
      let e : n ≡ suc (n - 1) = omega arith in
      subst (λ (m : ℕ). meets_upwards s p m b ≡ has_owner s b && (p (owner s b) || meets_upwards s p (n - 1) (list_of s (owner s b)))) (sym e) refl

  -- the answer X is the one from list b, with n rows left to go, and row j is the next
  module _ (X : Bool) (n b j : ℕ) (E : X ≡ meets_upwards s p n b) (l : 0 < n) (q : j ≡ owner s b) where
    pub up_none : statements s ≤ j → false ≡ X
    up_none h = sym (E ∙ once n b l ∙ rw (← q, le-ltb j (statements s) h))

    pub up_met : j < statements s → p j ≡ true → true ≡ X
    up_met h m = sym (E ∙ once n b l ∙ rw (← q, lt-ltb j (statements s) h, m))

    pub up_more : j < statements s → p j ≡ false → (d : ℕ) → d ≡ list_of s j → X ≡ meets_upwards s p (n - 1) d
    up_more h m d e = E ∙ once n b l ∙ rw (← q, lt-ltb j (statements s) h, m, e)

  pub up_end : (X : Bool) (n b : ℕ) → X ≡ meets_upwards s p n b → n ≤ 0 → false ≡ X
  unfolding meets_upwards
  up_end X n b E l = let e : n ≡ 0 = omega arith in sym (E ∙ rw e)
