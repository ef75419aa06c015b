-- What is printed above a schedule is so, where it ends in 7, 8 or 9 or some command has another generation. Assumes nothing.
use mathlib.Core.Path.{◌≡◌, refl}
use mathlib.Core.Logic.{◌⊎◌, inl, inr, by_cases, ◌≢◌}
use mathlib.Core.Bool.{true, false}
use mathlib.Core.List.{List}
use Prim.Native.Nat.{ℕ, ◌<◌}
use native.Mathlib.Decide.{dec_lt, ℕ_discrete}
use native.Mathlib.Omega.{arith}
use borrow.Author.Tests.{lt-ltb, ne_eqb, eqb-false, not-true, not-false, eqb-true}
use Rattle.tables.specs.Lowest.{lowest}
use Rattle.tables.specs.Rows.{rows}
use Rattle.tables.proofs.Lowest.{lowest_first}
use Rattle.verdicts.specs.Numbers.{ends_unclean}
use Rattle.relation.proofs.Truth.{clashing}
use Rattle.steps.specs.Ending.{judged}
use Rattle.steps.specs.Going.{played, generation}
use Rattle.exhibits.specs.Shown.{differs, other_generation_of, what_is_shown, Says}

-- there are words for each number that is not clean
pub else_clean : (n : ℕ) → n ≢ 7 → n ≢ 8 → n ≢ 9 → ends_unclean n ≡ false
else_clean n a b d = rw (ne_eqb n 7 a, ne_eqb n 8 b, ne_eqb n 9 d)

module _ (commands lengths : List ℕ) (g : ℕ → ℕ) (τ : List ℕ) where
  abbrev f : ℕ → ℕ
  f = generation (played commands lengths τ)

  abbrev number : ℕ
  number = (judged lengths (played commands lengths τ)).number

  -- another generation is found where there is one
  other_true : (c : ℕ) × (c < rows commands) × (f c ≢ g c) → Says commands lengths g τ (other_generation_of f g (rows commands))
  unfolding other_generation_of Says
  other_true (c, l, n) =
      let d = lowest (differs f g) (rows commands) in
      let L = lowest_first (differs f g) (rows commands) in
      by_cases (dec_lt d (rows commands))
      (λ (h : d < rows commands). rw (lt-ltb d (rows commands) h) (h, refl, refl, eqb-false _ _ (not-true _ (L.passes h))))
      (λ (h : ¬ (d < rows commands)). absurd (n (eqb-true _ _ (not-false _ (L.below c (omega arith))))))

  pub shown_true : (ends_unclean number ≡ true) ⊎ ((c : ℕ) × (c < rows commands) × (f c ≢ g c)) → Says commands lengths g τ (what_is_shown commands lengths g τ)
  unfolding what_is_shown Says
  shown_true h =
      by_cases (ℕ_discrete number 7) (λ (e : number ≡ 7). rw e (e, refl))
      (λ (a : number ≢ 7).
      by_cases (ℕ_discrete number 8) (λ (e : number ≡ 8). rw e (e, refl))
      (λ (b : number ≢ 8).
      by_cases (ℕ_discrete number 9) (λ (e : number ≡ 9). rw e (e, refl))
      (λ (d : number ≢ 9). rw (ne_eqb number 7 a, ne_eqb number 8 b, ne_eqb number 9 d) (other_true (by h a b d)))))
    where
      by : (ends_unclean number ≡ true) ⊎ ((c : ℕ) × (c < rows commands) × (f c ≢ g c)) → number ≢ 7 → number ≢ 8 → number ≢ 9
          → (c : ℕ) × (c < rows commands) × (f c ≢ g c)
      by (inl w) a b d = clashing w (else_clean number a b d)
      by (inr o) a b d = o
