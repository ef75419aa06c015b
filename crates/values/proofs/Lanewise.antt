-- The lanes for which an expression is not 0, one after the other.
use Rattle.std.proofs.Common.{◌≡◌, ℕ, zero, suc, ◌+◌, ◌-◌, ◌*◌, ◌/◌, ◌%◌, ◌^◌, ◌<◌, ◌≤◌, Bool, true, false, cond, not, ◌&&◌, ◌||◌, eqb, ltb, ◌≢◌, List, sym, refl, ap, ◌∙◌, subst, ap₂, ⊎_elim, mod-eq_of_lt, add-one, arith, le-ltb, lt-ltb, eq-eqb, ne_eqb}
use mathlib.Core.Logic.{by_cases}
use native.Mathlib.Decide.{ℕ_discrete, dec_lt}
use lib.Bits.{bit_or, or_zero_l}
use lib.Count.{count_leading_zeros, leading_length}
use Rattle.relation.specs.Bits.{bit_of}
use Rattle.relation.proofs.Truth.{split, right}
use Rattle.relation.proofs.Words.{or_bit, own_bit, other_bit, one_shl, rem_bit}
use Rattle.warps.specs.Language.{Expr, Mem, eval, test}
use Rattle.warps.specs.Warp.{act}
use Rattle.kernels.specs.Limits.{most_expressions}
use Rattle.values.specs.Expressions.{expression, acting}
use Rattle.values.proofs.Filling.{past_limit}

pub acts_as : (m t v : ℕ) (e : Expr) (μ : Mem) → v ≡ eval e t μ → eqb (m / 2 ^ t % 2) 1 && not (eqb v 0) ≡ bit_of m t && test e t μ
unfolding bit_of test
acts_as m t v e μ q = rw q

pub acting_none : (m : ℕ) (e : Expr) (μ : Mem) → 0 ≡ acting m e μ 0
unfolding acting
acting_none m e μ = refl

module _ (m : ℕ) (e : Expr) (μ : Mem) (t w : ℕ) (E : w ≡ acting m e μ t) (r : Bool) (q : r ≡ bit_of m t && test e t μ) where
  pub acting_hit : t < 32 → r ≡ true → bit_or w ((1 * 2 ^ t) % 2 ^ 32) ≡ acting m e μ (t + 1)
  unfolding acting
  acting_hit l p = ap₂ bit_or E (one_shl t 32 l) ∙ sym (rw (add-one t, ← q, p))

  pub acting_miss : r ≡ false → w ≡ acting m e μ (t + 1)
  unfolding acting
  acting_miss p = E ∙ sym (rw (add-one t, ← q, p))

-- past the limit every expression is 0
pub acting_limit : (x : List ℕ) (i m : ℕ) (μ : Mem) (n : ℕ) → most_expressions ≤ i → 0 ≡ acting m (expression x i) μ n
unfolding acting test
acting_limit x i m μ zero h = refl
acting_limit x i m μ (suc n) h = rw (← past_limit x i n μ h) (off (bit_of m n) _ (acting_limit x i m μ n h))
  where
    off : (b : Bool) (u : ℕ) {v : ℕ} → 0 ≡ v → 0 ≡ cond (b && false) u v
    off true u q = q
    off false u q = q

-- lanes past the length of the mask are not in it
high_bit : (m n t : ℕ) → m < 2 ^ n → n ≤ t → bit_of m t ≡ false
high_bit m n t h l = ap (λ (w : ℕ). bit_of w t) (sym (mod-eq_of_lt h)) ∙ rem_bit m n t ∙ rw (le-ltb t n l)

pub acting_stays : (m : ℕ) (e : Expr) (μ : Mem) (n k : ℕ) → m < 2 ^ n → n ≤ k → acting m e μ n ≡ acting m e μ k
unfolding acting
acting_stays m e μ n zero h l = let z : n ≡ 0 = omega arith in rw z
acting_stays m e μ n (suc k) h l =
    by_cases (ℕ_discrete n (suc k)) (λ (q : n ≡ suc k). ap (acting m e μ) q)
    (λ (q : n ≢ suc k). let i : n ≤ k = omega arith in rw (high_bit m n k h i) (acting_stays m e μ n k h i))

pub count_leading : (m : ℕ) → m < 2 ^ 32 → m < 2 ^ (32 - count_leading_zeros 32 m)
count_leading m h = let (n, e, l, _) = leading_length 32 m h in let q : 32 - count_leading_zeros 32 m ≡ n = omega arith in rw q l

-- a mask of one lane
pub one_on : (m t v : ℕ) (e : Expr) (μ : Mem) → v ≡ eval e t μ → v ≢ 0 → m ≡ cond (test e t μ) m 0
unfolding test
one_on m t v e μ q n = rw (← q, ne_eqb v 0 n)

pub one_off : (m t v : ℕ) (e : Expr) (μ : Mem) → v ≡ eval e t μ → v ≡ 0 → 0 ≡ cond (test e t μ) m 0
unfolding test
one_off m t v e μ q z = rw (← q, eq-eqb v 0 z)

acting_lower : (t : ℕ) (e : Expr) (μ : Mem) (n : ℕ) → n ≤ t → acting (1 * 2 ^ t) e μ n ≡ 0
unfolding acting
acting_lower t e μ zero l = refl
acting_lower t e μ (suc n) l = rw (other_bit t n (λ q. omega arith)) (acting_lower t e μ n (omega arith))

acting_single : (t : ℕ) (e : Expr) (μ : Mem) → cond (test e t μ) (1 * 2 ^ t) 0 ≡ acting (1 * 2 ^ t) e μ (suc t)
unfolding acting
acting_single t e μ = rw (own_bit t, acting_lower t e μ t (omega arith), or_zero_l (cond (test e t μ) (1 * 2 ^ t) 0))

pub acting_alone : (m : ℕ) (e : Expr) (μ : Mem) (n r : ℕ) → n ≢ 0 → n ≤ 32 → m < 2 ^ n → m ≡ (1 * 2 ^ (n - 1)) % 2 ^ 32 → r ≡ cond (test e (n - 1) μ) m 0 → r ≡ acting m e μ 32
acting_alone m e μ n r z l h q p =
    let c : suc (n - 1) ≡ n = omega arith in
    let w : m ≡ 1 * 2 ^ (n - 1) = q ∙ one_shl (n - 1) 32 (omega arith) in
    p ∙ subst (λ (x : ℕ). cond (test e (n - 1) μ) x 0 ≡ acting x e μ (suc (n - 1))) (sym w) (acting_single (n - 1) e μ) ∙ ap (acting m e μ) c ∙ acting_stays m e μ n 32 h l

or_false : (b : Bool) → b || false ≡ b
or_false true = refl
or_false false = refl

-- the word's bits
acting_below : (m : ℕ) (e : Expr) (μ : Mem) (n t : ℕ) → bit_of (acting m e μ n) t ≡ ltb t n && (bit_of m t && test e t μ)
unfolding acting
acting_below m e μ zero t = zero_word t ∙ sym (rw (le-ltb t 0 (omega arith)))
  where
    zero_word : (t : ℕ) → bit_of 0 t ≡ false
    zero_word t = rem_bit 0 0 t ∙ rw (le-ltb t 0 (omega arith))
acting_below m e μ (suc n) t =
    by_cases (ℕ_discrete t n)
    (λ (q : t ≡ n).
    rw (lt-ltb t (suc n) (omega arith)) (subst (λ (u : ℕ). bit_of (acting m e μ (suc n)) u ≡ bit_of m u && test e u μ) (sym q)
    (⊎_elim (λ (b : bit_of m n && test e n μ ≡ true). rw b (or_bit (acting m e μ n) (1 * 2 ^ n) n ∙ right (bit_of (acting m e μ n) n) _ (own_bit n)))
    (λ (b : bit_of m n && test e n μ ≡ false). rw b (acting_below m e μ n n ∙ rw (le-ltb n n (omega arith)))) (split (bit_of m n && test e n μ)))))
    (λ (q : t ≢ n).
    let r : ltb t (suc n) ≡ ltb t n = by_cases (dec_lt t n) (λ (l : t < n). rw (lt-ltb t n l, lt-ltb t (suc n) (omega arith))) (λ (l : ¬ (t < n)). rw (le-ltb t n (omega arith), le-ltb t (suc n) (omega arith))) in
    rw r
    (⊎_elim (λ (b : bit_of m n && test e n μ ≡ true). rw b (or_bit (acting m e μ n) (1 * 2 ^ n) t ∙ rw (other_bit n t q) (or_false (bit_of (acting m e μ n) t) ∙ acting_below m e μ n t)))
    (λ (b : bit_of m n && test e n μ ≡ false). rw b (acting_below m e μ n t)) (split (bit_of m n && test e n μ))))

-- it is act, where the mask has no lane from 32 on
pub acting_bit : (m : ℕ) (e : Expr) (μ : Mem) → ((t : ℕ) → 32 ≤ t → bit_of m t ≡ false) → (t : ℕ) → bit_of (acting m e μ 32) t ≡ act (bit_of m) e μ t
acting_bit m e μ h t =
    acting_below m e μ 32 t ∙ by_cases (dec_lt t 32) (λ (q : t < 32). rw (lt-ltb t 32 q)) (λ (q : ¬ (t < 32)). rw (le-ltb t 32 (omega arith), h t (omega arith)))
