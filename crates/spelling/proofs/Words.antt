-- Bytes are alike exactly when they are the same. Assumes nothing.
use mathlib.Core.Path.{◌≡◌, refl, sym, ap}
use mathlib.Core.Bool.{Bool, true, false, ◌&&◌, true≢false}
use mathlib.Core.List.{List, [], ◌∷◌}
use mathlib.Core.Logic.{◌⊎◌, inl, inr}
use Prim.Native.Nat.{ℕ}
use native.Mathlib.Omega.{arith}
use lib.Dec.{eqb}
use lib.ListN.{length}
use borrow.Author.Tests.{eq-eqb, ne_eqb, eqb-true}
use Rattle.spelling.specs.Words.{same_bytes}

pub both : (a b : Bool) → (a && b) ≡ true → (a ≡ true) × (b ≡ true)
both true b e = (refl, e)
both false b e = absurd (true≢false (sym e))

pub alike_same : (s w : List ℕ) → same_bytes s w ≡ true → s ≡ w
unfolding same_bytes
alike_same [] [] e = refl
alike_same [] (c ∷ w) e = absurd (true≢false (sym e))
alike_same (b ∷ s) [] e = absurd (true≢false (sym e))
alike_same (b ∷ s) (c ∷ w) e =
    let h = both (eqb b c) (same_bytes s w) e in
    let x : b ≡ c = eqb-true b c h.0 in
    let y : s ≡ w = alike_same s w h.1 in
    cc

pub alike_long : (s w : List ℕ) → (length s ≡ length w → ⊥) → same_bytes s w ≡ false
unfolding same_bytes
alike_long [] [] n = absurd (n refl)
alike_long [] (c ∷ w) n = refl
alike_long (b ∷ s) [] n = refl
alike_long (b ∷ s) (c ∷ w) n = rw (alike_long s w (λ e. n (rw e))) (no (eqb b c))
  where
    no : (a : Bool) → (a && false) ≡ false
    no true = refl
    no false = refl

-- what is still to compare, where a byte stands on each side
module _ {s w t v : List ℕ} {b c : ℕ} (e : s ≡ b ∷ t) (f : w ≡ c ∷ v) where
  pub alike_on : b ≡ c → same_bytes t v ≡ same_bytes s w
  unfolding same_bytes
  alike_on h = rw (e, f, eq-eqb b c h) refl

  pub alike_off : (b ≡ c → ⊥) → same_bytes s w ≡ false
  unfolding same_bytes
  alike_off n = rw (e, f, ne_eqb b c n) refl

-- nothing is left on one side, and so on the other
pub alike_out : (s w : List ℕ) → (s ≡ []) ⊎ (w ≡ []) → length s ≡ length w → same_bytes s w ≡ true
unfolding same_bytes
alike_out [] [] h n = refl
alike_out [] (c ∷ w) h n = absurd (omega arith)
alike_out (b ∷ s) [] h n = absurd (omega arith)
alike_out (b ∷ s) (c ∷ w) (inl e) n = absurd (omega (arith, ap length e))
alike_out (b ∷ s) (c ∷ w) (inr e) n = absurd (omega (arith, ap length e))
