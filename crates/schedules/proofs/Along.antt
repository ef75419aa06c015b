-- What a log has run, a log that goes on from it has run too, with the same generation.
use mathlib.Core.Path.{◌≡◌, refl, sym, ◌∙◌, subst}
use mathlib.Core.Logic.{◌⊎◌, inl, inr, by_cases, ◌≢◌}
use mathlib.Core.Bool.{true}
use mathlib.Core.List.{List, [], ◌∷◌}
use Prim.Native.Nat.{ℕ}
use native.Mathlib.Decide.{ℕ_discrete}
use Rattle.relation.proofs.Truth.{clashing}
use Rattle.schedules.specs.Machine.{Program, state}
use Rattle.schedules.specs.HappensBefore.{Goes, stays, more}
use Rattle.schedules.proofs.Logs.{LegalLog}
use Rattle.schedules.proofs.Step.{ran_other, ran_kept, gen_other}

pub first_more : (c : ℕ) {τ υ : List ℕ} → Goes (c ∷ τ) υ → Goes τ υ
first_more c stays = more c stays
first_more c (more d r) = more d (first_more c r)

-- of two earlier parts one is an earlier part of the other
pub nested : {τ υ l : List ℕ} → Goes τ l → Goes υ l → Goes τ υ ⊎ Goes υ τ
nested stays q = inr q
nested (more c p) stays = inl (more c p)
nested (more c p) (more _ q) = nested p q

module _ (P : Program) where
  pub legal_then : {τ υ : List ℕ} → Goes τ υ → LegalLog P υ → LegalLog P τ
  legal_then stays h = h
  legal_then (more c r) h = legal_then r h.0

  pub ran_then : {τ υ : List ℕ} → Goes τ υ → (x : ℕ) → (state P τ).ran x ≡ true → (state P υ).ran x ≡ true
  unfolding state
  ran_then stays x h = h
  ran_then (more {υ} c r) x h = ran_kept P (state P υ) c x (ran_then r x h)

  pub gen_then : {τ υ : List ℕ} → Goes τ υ → LegalLog P υ → (x : ℕ) → (state P τ).ran x ≡ true → (state P υ).gen x ≡ (state P τ).gen x
  unfolding state
  gen_then stays L x h = refl
  gen_then (more {υ} c r) L x h =
      gen_other P (state P υ) c x (λ e. clashing (ran_then r x h) (rw e at L.1.fresh)) ∙ gen_then r L.0 x h

  -- a command that has run, ran at some step
  pub met : (y : ℕ) (l : List ℕ) → (state P l).ran y ≡ true → (part : List ℕ) × Goes (y ∷ part) l
  unfolding state
  met y [] h = clashing h refl
  met y (c ∷ l) h =
      by_cases (ℕ_discrete c y) (λ (e : c ≡ y). (l, subst (λ (y : ℕ). Goes (y ∷ l) (c ∷ l)) e stays))
      (λ (n : c ≢ y). let (part, r) = met y l (sym (ran_other P (state P l) c y n) ∙ h) in (part, more c r))
