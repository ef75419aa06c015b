-- Laws of counting, and the search among the numbers below n. Assumes nothing.
use mathlib.Core.Path.{◌≡◌, refl, ap, ap₂, ◌∙◌}
use mathlib.Core.Logic.{◌⊎◌, inl, inr, by_cases, ◌≢◌}
use mathlib.Core.Bool.{Bool, true, false}
use Prim.Native.Nat.{ℕ, zero, suc, ◌+◌, ◌≤◌, ◌<◌}
use native.Mathlib.Omega.{arith}
use native.Mathlib.Decide.{ℕ_discrete}
use Rattle.relation.proofs.Truth.{isnt}
use Rattle.schedules.specs.Tally.{bit, tally}

-- p's numbers below n are among q's
abbrev pub Within : ℕ → (ℕ → Bool) → (ℕ → Bool) → Type 0
Within n p q = (i : ℕ) → i < n → p i ≡ true → q i ≡ true

bit_le : (a b : Bool) → (a ≡ true → b ≡ true) → bit a ≤ bit b
bit_le true b h = rw (h refl) (omega arith)
bit_le false b h = omega arith

bit_full : (a b : Bool) → bit b ≤ bit a → b ≡ true → a ≡ true
bit_full true b h e = refl
bit_full false true h e = absurd (omega arith)
bit_full false false h e = e

pub tally_le : (n : ℕ) (p q : ℕ → Bool) → Within n p q → tally n p ≤ tally n q
unfolding tally
tally_le zero p q h = omega arith
tally_le (suc n) p q h = omega (arith, bit_le (p n) (q n) (h n (omega arith)), tally_le n p q (λ i l. h i (omega arith)))

pub tally_most : (n : ℕ) (p : ℕ → Bool) → tally n p ≤ n
unfolding tally
tally_most zero p = omega arith
tally_most (suc n) p = omega (arith, bit_le (p n) true (λ _. refl), tally_most n p)

-- where there are as many of either, q's are among p's too
pub tally_full : (n : ℕ) (p q : ℕ → Bool) → Within n p q → tally n q ≤ tally n p → Within n q p
unfolding tally
tally_full zero p q h t i l e = absurd (omega arith)
tally_full (suc n) p q h t i l e =
    let below : Within n p q = λ i l. h i (omega arith) in
    let low : tally n p ≤ tally n q = tally_le n p q below in
    let top : bit (p n) ≤ bit (q n) = bit_le (p n) (q n) (h n (omega arith)) in
    by_cases (ℕ_discrete i n) (λ (s : i ≡ n). rw s (bit_full (p n) (q n) (omega arith) (rw s at e)))
    (λ (s : i ≢ n). tally_full n p q below (omega arith) i (omega arith) e)

pub tally_ext : (n : ℕ) (p q : ℕ → Bool) → ((i : ℕ) → i < n → p i ≡ q i) → tally n p ≡ tally n q
unfolding tally
tally_ext zero p q h = refl
tally_ext (suc n) p q h = ap₂ (λ b k. bit b + k) (h n (omega arith)) (tally_ext n p q (λ i l. h i (omega arith)))

-- q has one number more than p
pub tally_one : (n : ℕ) (p q : ℕ → Bool) (c : ℕ) → c < n → p c ≡ false → q c ≡ true → ((i : ℕ) → i ≢ c → q i ≡ p i) → tally n q ≡ suc (tally n p)
unfolding tally
tally_one zero p q c l pc qc h = absurd (omega arith)
tally_one (suc n) p q c l pc qc h =
    by_cases (ℕ_discrete n c)
    (λ (s : n ≡ c). rw (ap p s ∙ pc, ap q s ∙ qc) (omega (arith, tally_ext n q p (λ i l. h i (omega arith)))))
    (λ (s : n ≢ c). rw (h n s) (omega (arith, tally_one n p q c (omega arith) pc qc h)))

pub tally_pos : (n : ℕ) (p : ℕ → Bool) (c : ℕ) → c < n → p c ≡ true → 1 ≤ tally n p
unfolding tally
tally_pos zero p c l e = absurd (omega arith)
tally_pos (suc n) p c l e =
    by_cases (ℕ_discrete n c) (λ (s : n ≡ c). rw (s, e) (omega arith)) (λ (s : n ≢ c). omega (arith, tally_pos n p c (omega arith) e))

pub tally_all : (n : ℕ) (p : ℕ → Bool) → ((i : ℕ) → i < n → p i ≡ true) → tally n p ≡ n
unfolding tally
tally_all zero p h = refl
tally_all (suc n) p h = rw (h n (omega arith)) (omega (arith, tally_all n p (λ i l. h i (omega arith))))

pub tally_none : (n : ℕ) (p : ℕ → Bool) → ((i : ℕ) → i < n → ¬ (p i ≡ true)) → tally n p ≡ 0
unfolding tally
tally_none zero p h = refl
tally_none (suc n) p h = rw (isnt (p n) (h n (omega arith))) (omega (arith, tally_none n p (λ i l. h i (omega arith))))

-- a number below n that passes, or none
pub find : {A : ℕ → Type 0} (n : ℕ) → ((i : ℕ) → Dec (A i)) → ((i : ℕ) × (i < n) × A i) ⊎ ((i : ℕ) → i < n → ¬ A i)
find zero p = inr (λ i l. absurd (omega arith))
find {A} (suc n) p = by_cases (p n) (λ (a : A n). inl (n, omega arith, a)) (λ (m : ¬ A n). go m (find n p))
  where
    go : ¬ A n → ((i : ℕ) × (i < n) × A i) ⊎ ((i : ℕ) → i < n → ¬ A i) → ((i : ℕ) × (i < suc n) × A i) ⊎ ((i : ℕ) → i < suc n → ¬ A i)
    go m (inl w) = inl (w.0, omega arith, w.2)
    go m (inr f) = inr (λ i l. by_cases (ℕ_discrete i n) (λ (s : i ≡ n). rw s m) (λ (s : i ≢ n). f i (omega arith)))
