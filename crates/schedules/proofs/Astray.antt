-- A log that has run what c does not reach, as far as it goes, and not c: it has run all of that, or strays from the generations. Assumes nothing.
use mathlib.Core.Path.{◌≡◌, refl}
use mathlib.Core.Logic.{◌⊎◌, inl, inr, ⊎_elim, by_cases, ◌≢◌}
use mathlib.Core.Bool.{Bool, true, false}
use mathlib.Core.List.{List}
use Prim.Native.Nat.{ℕ, ◌<◌}
use native.Mathlib.Decide.{ℕ_discrete}
use Rattle.relation.proofs.Truth.{clashing, split, isnt}
use Rattle.schedules.specs.Machine.{Program, Lawful, State, state}
use Rattle.schedules.specs.HappensBefore.{Reaches, Reuse, NoReuse}
use Rattle.schedules.proofs.Tally.{find}
use Rattle.schedules.proofs.Logs.{Allowed, LegalLog, CleanLog}
use Rattle.schedules.proofs.Good.{good}
use Rattle.schedules.proofs.Final.{Final, final}
use Rattle.schedules.proofs.Agree.{Agrees, catches_up}
use Rattle.schedules.proofs.Sound.{agrees}
use Rattle.schedules.proofs.Cut.{apart, apart_in, apart_out, shut}
use Rattle.schedules.proofs.Soon.{soon}
use Rattle.schedules.specs.Shows.{Avoids}

module _ {P : Program} (W : Lawful P) {σ : List ℕ} (C : CleanLog P σ) {c d : ℕ} (lc : c < P.size) {E : ℕ → Bool} (Q : Avoids P (state P σ).gen c d E)
    (τ : List ℕ) (only : (x : ℕ) → (state P τ).ran x ≡ true → E x ≡ true) (none : (x : ℕ) → E x ≡ true → ¬ Allowed P (state P τ) x) where
  open P use {size}

  abbrev S : State
  S = state P σ

  abbrev T : State
  T = state P τ

  F : Final P S
  F = final W C

  pub not_c : T.ran c ≡ false
  not_c = isnt _ (λ t. clashing (only c t) Q.without)

  -- ---- where the log agrees, all that c does not reach has run

  module _ (A : Agrees P S T) where
    pub has_all : (x : ℕ) → x < size → ¬ Reaches P S.gen c x → T.ran x ≡ true
    has_all x lx n =
        catches_up W F (apart P S.gen c) (shut W C lc) A
        (λ z dz B. none z (Q.apart z B.low (apart_out lc B.low dz)) B)
        σ C.legal (λ x e. refl) x (F.all x lx) (apart_in lc lx n)

  -- ---- a reuse fault: it does not agree

  module _ (R : Reuse P S.gen c d) where
    agrees_not : ¬ Agrees P S T
    agrees_not A = none d Q.also (soon W C R A not_c (has_all A))

    pub astray : LegalLog P τ → (x : ℕ) × (x < size) × (T.ran x ≡ true) × (T.gen x ≢ S.gen x)
    astray L = go (find size differs?)
      where
        Differs : ℕ → Type 0
        Differs x = (T.ran x ≡ true) × (T.gen x ≢ S.gen x)

        differs? : (x : ℕ) → Dec (Differs x)
        differs? x =
            ⊎_elim
            (λ (t : T.ran x ≡ true). by_cases (ℕ_discrete (T.gen x) (S.gen x)) (λ (e : T.gen x ≡ S.gen x). no (λ h. h.1 e)) (λ (n : T.gen x ≢ S.gen x). yes (t, n)))
            (λ (f : T.ran x ≡ false). no (λ h. clashing h.0 f))
            (split (T.ran x))

        go : ((x : ℕ) × (x < size) × Differs x) ⊎ ((x : ℕ) → x < size → ¬ Differs x) → (x : ℕ) × (x < size) × (T.ran x ≡ true) × (T.gen x ≢ S.gen x)
        go (inl w) = (w.0, w.1, w.2.0, w.2.1)
        go (inr f) =
            let G = good W τ L in
            absurd (agrees_not (record {
              good = G;
              same = λ x r. by_cases (ℕ_discrete (T.gen x) (S.gen x)) (λ (e : T.gen x ≡ S.gen x). e) (λ (n : T.gen x ≢ S.gen x). absurd (f x (G.low x r) (r, n)));
            }))

  -- ---- no reuse fault: x has run, and c has not

  pub first_of : NoReuse P S.gen → LegalLog P τ → (x : ℕ) → x < size → ¬ Reaches P S.gen c x → T.ran x ≡ true
  first_of loose L = has_all (agrees W C loose τ L)
