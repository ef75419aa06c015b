-- With no reuse fault the relation is the order that all legal logs share.
use mathlib.Core.Path.{◌≡◌, refl, sym, ◌∙◌}
use mathlib.Core.Logic.{◌⊎◌, inl, inr, ⊎_elim, ◌≢◌}
use mathlib.Core.Bool.{true, false}
use mathlib.Core.List.{List, ◌∷◌}
use Prim.Native.Nat.{ℕ, ◌<◌}
use Rattle.relation.specs.Chains.{here, goes}
use Rattle.relation.proofs.Truth.{clashing, split, isnt}
use Rattle.schedules.specs.Machine.{Program, Lawful, state}
use Rattle.schedules.specs.HappensBefore.{Edge, along, meets, Reaches, NoReuse, Goes, Before}
use Rattle.schedules.proofs.Logs.{Allowed, LegalLog, CleanLog}
use Rattle.schedules.proofs.Step.{ran_same, ran_other}
use Rattle.schedules.proofs.Tests.{not_matching}
use Rattle.schedules.proofs.Along.{first_more, nested, legal_then, ran_then, met}
use Rattle.schedules.proofs.Final.{final}
use Rattle.schedules.proofs.Agree.{past}
use Rattle.schedules.proofs.Sound.{agrees, fits}
use Rattle.schedules.proofs.Cut.{Strays, faults, differs, CutOff, apart, apart_in, apart_out, cut}

-- ---- two commands of one log

module _ {P : Program} {x y : ℕ} where
  pub not_both : {l : List ℕ} → Before P x y l → ¬ Before P y x l
  not_both p q =
      ⊎_elim (λ (r : Goes p.part q.part). clashing (ran_then P r x p.sooner) q.later)
      (λ (r : Goes q.part p.part). clashing (ran_then P r y q.sooner) p.later)
      (nested p.goes_on q.goes_on)

  pub one_of : (l : List ℕ) → LegalLog P l → (state P l).ran x ≡ true → (state P l).ran y ≡ true → x ≢ y → Before P x y l ⊎ Before P y x l
  unfolding state
  one_of l L hx hy n =
      let (part, r) = met P y l hy in
      let s = state P part in
      ⊎_elim
      (λ (t : s.ran x ≡ true).
      inl (record { part = part; goes_on = first_more y r; sooner = t; later = (legal_then P r L).1.fresh; at_last = hy }))
      (λ (f : s.ran x ≡ false).
      inr (record { part = y ∷ part; goes_on = r; sooner = ran_same P s y y refl; later = ran_other P s y x (λ e. n (sym e)) ∙ f; at_last = hx }))
      (split (s.ran x))

-- ---- with no reuse fault

module _ {P : Program} (W : Lawful P) {σ : List ℕ} (C : CleanLog P σ) (none : NoReuse P (state P σ).gen) where
  open P use {size, registers}

  abbrev g : ℕ → ℕ
  g = (state P σ).gen

  -- what reaches an access has run where the access may run
  ran_ahead : {x y : ℕ} → Reaches P g x y → x ≢ y → registers y ≡ false → (l : List ℕ) → LegalLog P l → Allowed P (state P l) y → (state P l).ran x ≡ true
  ran_ahead here n reg l L A = absurd (n refl)
  ran_ahead {x} (goes {k} {j = y} p e) n reg l L A = go e
    where
      go : Edge P g k y → (state P l).ran x ≡ true
      go (along low q f) = (past (final W C) (agrees W C none l L) p (A.ready k q f)).run
      go (meets _ _ _ syn _ _) = clashing (W.sync_registers y syn) reg

  pub always_log : {x y : ℕ} → Reaches P g x y → x ≢ y → registers y ≡ false → (l : List ℕ) → LegalLog P l → (state P l).ran y ≡ true → Before P x y l
  always_log {x} {y} p n reg l L h =
      let (part, r) = met P y l h in
      let (K, A, _) = legal_then P r L in
      record { part = part; goes_on = first_more y r; sooner = ran_ahead p n reg part K A; later = A.fresh; at_last = h }

  pub keeps : ¬ Strays P g
  keeps (faults τ h c A w) = not_matching w (fits W C none τ h A)
  keeps (differs τ h x ran n) = n ((agrees W C none τ h).same x ran)

  -- a legal log that has run x and not y
  pub without : (x y : ℕ) → x < size → y < size → ¬ Reaches P g y x → (l : List ℕ) × LegalLog P l × ((state P l).ran x ≡ true) × ((state P l).ran y ≡ false)
  without x y lx ly n = ⊎_elim (λ d. absurd (keeps d)) from (cut W C ly)
    where
      from : CutOff P (state P σ) (apart P g y) σ → (l : List ℕ) × LegalLog P l × ((state P l).ran x ≡ true) × ((state P l).ran y ≡ false)
      from K =
          (K.log, K.legal, K.all x ((final W C).all x lx) (apart_in ly lx n), isnt _ (λ t. apart_out ly ly (K.only y t).1 here))
