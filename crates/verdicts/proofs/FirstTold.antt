-- Verdicts in the order tested: the first that is not 0 is told. Assumes nothing.
use mathlib.Core.Path.{◌≡◌, refl, ap, ◌∙◌, subst}
use mathlib.Core.Logic.{by_cases, ◌≢◌}
use native.Mathlib.Decide.{ℕ_discrete}
use borrow.Author.Tests.{eq-eqb, ne_eqb}
use Rattle.verdicts.specs.declared.Told.{Told}
use Rattle.verdicts.specs.declared.Refusal.{Refusal}
use Rattle.verdicts.specs.Verdicts.{tell, refused}
use Rattle.verdicts.specs.FirstTold.{or_else}
use Rattle.verdicts.proofs.Verdicts.{refused_some}

pub or_first : (a b : Told) → a.number ≢ 0 → a ≡ or_else a b
or_first a b n = rw (ne_eqb a.number 0 n)

pub or_second : (a b : Told) → a.number ≡ 0 → b ≡ or_else a b
or_second a b e = rw (eq-eqb a.number 0 e)

-- what holds of the first, and of the second where the first is 0, holds of what is told
pub or_either : (P : Told → Type 0) (a b : Told) → P a → (a.number ≡ 0 → P b) → P (or_else a b)
or_either P a b p q =
    by_cases (ℕ_discrete a.number 0) (λ (e : a.number ≡ 0). subst P (or_second a b e) (q e))
    (λ (n : a.number ≢ 0). subst P (or_first a b n) p)

-- where 0 is told, both are 0
pub or_zero : (a b : Told) → (or_else a b).number ≡ 0 → (a.number ≡ 0) × (b.number ≡ 0)
or_zero a b e =
    by_cases (ℕ_discrete a.number 0) (λ (z : a.number ≡ 0). (z, ap (λ (t : Told). t.number) (or_second a b z) ∙ e))
    (λ (n : a.number ≢ 0). absurd (n (ap (λ (t : Told). t.number) (or_first a b n) ∙ e)))

-- three in the order tested, however they are grouped
pub or_assoc : (a b c : Told) → or_else (or_else a b) c ≡ or_else a (or_else b c)
or_assoc a b c =
    by_cases (ℕ_discrete a.number 0) (λ (z : a.number ≡ 0). rw (eq-eqb a.number 0 z))
    (λ (n : a.number ≢ 0). rw (ne_eqb a.number 0 n) (rw (ne_eqb a.number 0 n)))

-- what is refused is told first, and what passes leaves it to the second
pub or_refused : (r : Refusal) {a : Told} → refused r ≡ a → (b : Told) → refused r ≡ or_else a b
or_refused r e b = rw (← e) (or_first (refused r) b (refused_some r))

pub or_passed : {a : Told} → tell 0 0 0 ≡ a → (b : Told) → b ≡ or_else a b
or_passed e b = rw (← e) refl
