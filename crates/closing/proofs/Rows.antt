-- Rows done one after the other. Assumes nothing.
use Prim.Native.Nat.{ℕ, ◌+◌, ◌*◌, ◌/◌, ◌≤◌, ◌<◌}
use native.Mathlib.Nat.{mul-le-mul_right, suc-mul}
use native.Mathlib.Numerals.{add-one}
use native.Mathlib.Omega.{arith}
use native.Mathlib.Decide.{ℕ_discrete}
use mathlib.Core.Path.{◌≡◌, refl, sym, ap, ◌∙◌}
use mathlib.Core.Logic.{inr, by_cases, ◌≢◌}
use mathlib.Core.Bool.{Bool}
use mathlib.Core.List.{List}
use Rattle.relation.specs.Bits.{bit_at, RowIs}
use Rattle.relation.proofs.Rows.{by_word, other_row}
use Rattle.closing.specs.Needs.{RowsAre}

pub rows_none : (b : List ℕ) (w : ℕ) (f : ℕ → ℕ → Bool) → RowsAre b b w 0 f
rows_none b w f = record { len = refl; bits = λ i j h. absurd (omega arith); kept = λ p h. refl }

-- one row more
pub rows_more : (b r s : List ℕ) (w i : ℕ) (f : ℕ → ℕ → Bool) (g : ℕ → Bool) → RowsAre b r w i f → RowIs r s w i g → ((j : ℕ) → j < 32 * w → g j ≡ f i j)
    → RowsAre b s w (i + 1) f
rows_more b r s w i f g R N e =
    record {
      len = N.len ∙ R.len;
      bits = λ x j hx hj.
          by_cases (ℕ_discrete i x) (λ (q : i ≡ x). rw (sym q) (N.bits j hj ∙ e j hj))
          (λ (n : i ≢ x). other_row r s w i x j N.outside n hj ∙ R.bits x j (omega arith) hj);
      kept = λ p h.
          let g : i * w + w ≤ p = omega (arith, suc-mul i w, ap (λ (x : ℕ). x * w) (add-one i)) in
          N.outside p (inr g) ∙ R.kept p (omega arith);
    }

-- a row that is not done is as it was
pub not_done : (b r : List ℕ) (w i k j : ℕ) (f : ℕ → ℕ → Bool) → RowsAre b r w i f → i ≤ k → bit_at r w k j ≡ bit_at b w k j
not_done b r w i k j f R h = by_word r b w k j (R.kept (k * w + j / 32) (omega (arith, mul-le-mul_right {m = i} {n = k} w h)))
