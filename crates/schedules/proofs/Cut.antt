-- A clean log cut down to the commands that one command does not reach: it goes on like the whole, or it strays from its generations.
use mathlib.Core.Path.{◌≡◌, refl, sym, ap, ◌∙◌, subst}
use mathlib.Core.Logic.{◌⊎◌, inl, inr, ⊎_elim, by_cases, ◌≢◌}
use mathlib.Core.Bool.{Bool, true, false, not}
use mathlib.Core.List.{List, [], ◌∷◌}
use Prim.Native.Nat.{ℕ, suc, ◌<◌}
use native.Mathlib.Decide.{ℕ_discrete}
use Rattle.relation.specs.Chains.{goes}
use Rattle.relation.proofs.Truth.{clashing, split, isnt}
use Rattle.schedules.specs.Machine.{Program, Lawful, State, Mismatch, Matches, state, Ready}
use Rattle.schedules.specs.HappensBefore.{Edge, along, Reaches, reach}
use Rattle.schedules.proofs.Logs.{Allowed, LegalLog, CleanLog}
use Rattle.schedules.proofs.Step.{ran_same, ran_other, ran_kept, gen_other}
use Rattle.schedules.proofs.Good.{good}
use Rattle.schedules.proofs.Tests.{matches?}
use Rattle.schedules.proofs.Final.{Final, final}
use Rattle.schedules.proofs.Agree.{Agrees, Same, carry, shorter}
use Rattle.schedules.proofs.Table.{edge_low, decides}

-- a legal log that does not do what g says: it comes to a mismatch, or has another generation
pub data Strays (P : Program) (g : ℕ → ℕ) : Type 0 where
  faults : (τ : List ℕ) → LegalLog P τ → (c : ℕ) → Allowed P (state P τ) c → Mismatch P (state P τ) c → Strays P g
  differs : (τ : List ℕ) → LegalLog P τ → (x : ℕ) → (state P τ).ran x ≡ true → (state P τ).gen x ≢ g x → Strays P g

-- a legal log of S's generations that has run just those of l that are in D
pub record CutOff (P : Program) (S : State) (D : ℕ → Bool) (l : List ℕ) : Type 0 where
  pub log : List ℕ
  pub legal : LegalLog P log
  pub agrees : Agrees P S (state P log)
  pub only : (x : ℕ) → (state P log).ran x ≡ true → ((state P l).ran x ≡ true) × (D x ≡ true)
  pub all : (x : ℕ) → (state P l).ran x ≡ true → D x ≡ true → (state P log).ran x ≡ true

module _ {P : Program} (W : Lawful P) {S : State} (F : Final P S) where
  open P use {size, first}

  pub try : (τ : List ℕ) → LegalLog P τ → Agrees P S (state P τ) → {c : ℕ} → Allowed P (state P τ) c
      → Strays P S.gen ⊎ (LegalLog P (c ∷ τ) × Agrees P S (state P (c ∷ τ)))
  unfolding state
  try τ h E {c} A = go (matches? P (state P τ) E.good c)
    where
      go : Mismatch P (state P τ) c ⊎ Matches P (state P τ) c → Strays P S.gen ⊎ (LegalLog P (c ∷ τ) × Agrees P S (state P (c ∷ τ)))
      go (inl w) = inl (faults τ h c A w)
      go (inr m) =
          by_cases (ℕ_discrete ((state P (c ∷ τ)).gen c) (S.gen c))
          (λ (e : (state P (c ∷ τ)).gen c ≡ S.gen c).
          let same : Same S (state P (c ∷ τ)) = λ x r. by_cases (ℕ_discrete c x)
          (λ (q : c ≡ x). subst (λ (x : ℕ). (state P (c ∷ τ)).gen x ≡ S.gen x) q e)
          (λ (n : c ≢ x). gen_other P (state P τ) c x n ∙ E.same x (sym (ran_other P (state P τ) c x n) ∙ r)) in
          inr ((h, A, m), record { good = good W (c ∷ τ) (h, A, m); same = same }))
          (λ (n : (state P (c ∷ τ)).gen c ≢ S.gen c). inl (differs (c ∷ τ) (h, A, m) c (ran_same P (state P τ) c c refl) n))

  -- D has, with each command, those that have an edge to it
  module _ (D : ℕ → Bool) (shut : (y z : ℕ) → Edge P S.gen y z → D z ≡ true → D y ≡ true) where
    -- where the command before c is ready in l and in D, c is allowed in the part
    allowed_in : (l : List ℕ) → Agrees P S (state P l) → (K : CutOff P S D l) → (c : ℕ) → c < size → (state P K.log).ran c ≡ false
        → ((y : ℕ) → c ≡ suc y → first c ≡ false → Ready P (state P l) y × (D y ≡ true)) → Allowed P (state P K.log) c
    allowed_in l E K c low fresh ready =
        record {
          low = low;
          fresh = fresh;
          ready =
              λ y e f.
              let (r, d) = ready y e f in
              carry W F E K.agrees y r (K.all y r.run d) (λ x edge ran. K.all x ran (shut x y edge d));
        }

    pub part : (l : List ℕ) → LegalLog P l → Same S (state P l) → Strays P S.gen ⊎ CutOff P S D l
    unfolding state
    part [] h same =
        inr (record { log = []; legal = tt; agrees = record { good = good W [] tt; same = same }; only = λ x e. clashing e refl; all = λ x e. clashing e refl })
    part (c ∷ l) h same = ⊎_elim inl (λ (K : CutOff P S D l). go K (split (D c))) (part l h.0 E.same)
      where
        s : State
        s = state P l

        E : Agrees P S s
        E = shorter W F c l h same

        A : Allowed P s c
        A = h.1

        longer : (K : CutOff P S D l) → D c ≡ true → LegalLog P (c ∷ K.log) × Agrees P S (state P (c ∷ K.log)) → CutOff P S D (c ∷ l)
        longer K d w =
            let t = state P K.log in
            record {
              log = c ∷ K.log;
              legal = w.0;
              agrees = w.1;
              only = λ x e. by_cases (ℕ_discrete c x) (λ (q : c ≡ x). (ran_same P s c x q, ap D (sym q) ∙ d))
                  (λ (n : c ≢ x). let (r, dx) = K.only x (sym (ran_other P t c x n) ∙ e) in (ran_kept P s c x r, dx));
              all = λ x e dx. by_cases (ℕ_discrete c x) (λ (q : c ≡ x). ran_same P t c x q)
                  (λ (n : c ≢ x). ran_kept P t c x (K.all x (sym (ran_other P s c x n) ∙ e) dx));
            }

        go : CutOff P S D l → (D c ≡ true) ⊎ (D c ≡ false) → Strays P S.gen ⊎ CutOff P S D (c ∷ l)
        go K (inl d) =
            ⊎_elim inl (λ w. inr (longer K d w))
            (try K.log K.legal K.agrees (allowed_in l E K c A.low (isnt _ (λ t. clashing (K.only c t).0 A.fresh))
            (λ y e f. (A.ready y e f, shut y c (along A.low e f) d))))
        go K (inr d) =
            inr (record {
              log = K.log;
              legal = K.legal;
              agrees = K.agrees;
              only = λ x e. (ran_kept P s c x (K.only x e).0, (K.only x e).1);
              all = λ x e dx. K.all x (sym (ran_other P s c x (λ q. clashing dx (rw q at d))) ∙ e) dx;
            })

-- c does not reach x
pub apart : (P : Program) → (ℕ → ℕ) → ℕ → ℕ → Bool
apart P g c x = not (reach P g c x)

module _ {P : Program} {g : ℕ → ℕ} {c x : ℕ} (lc : c < P.size) (lx : x < P.size) where
  pub apart_in : ¬ Reaches P g c x → apart P g c x ≡ true
  unfolding apart
  apart_in n = ap not (isnt (reach P g c x) (λ t. n ((decides P g c x lc lx).0 t)))

  pub apart_out : apart P g c x ≡ true → ¬ Reaches P g c x
  unfolding apart
  apart_out h p = clashing h (ap not ((decides P g c x lc lx).1 p))

module _ {P : Program} (W : Lawful P) {σ : List ℕ} (C : CleanLog P σ) {c : ℕ} (low : c < P.size) where
  abbrev g : ℕ → ℕ
  g = (state P σ).gen

  pub shut : (y z : ℕ) → Edge P g y z → apart P g c z ≡ true → apart P g c y ≡ true
  shut y z e h =
      let (ly, lz) = edge_low e in
      apart_in low ly (λ p. apart_out low lz h (goes p e))

  -- σ without what c reaches
  pub cut : Strays P g ⊎ CutOff P (state P σ) (apart P g c) σ
  cut = part W (final W C) (apart P g c) shut σ C.legal (λ x e. refl)
