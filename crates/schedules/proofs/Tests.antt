-- What can be tested in a state: whether a command is ready, allowed, or mismatches.
use mathlib.Core.Path.{◌≡◌, refl, subst}
use mathlib.Core.Logic.Dec
use mathlib.Core.Logic.{◌⊎◌, inl, inr, ⊎_elim, by_cases}
use mathlib.Core.Bool.{true, false, Bool-discrete}
use Prim.Native.Nat.{ℕ, zero, suc, ◌≤◌, ◌<◌}
use native.Mathlib.Nat.{suc_inj}
use native.Mathlib.Omega.{arith}
use native.Mathlib.Decide.{dec_le}
use Rattle.relation.proofs.Truth.{clashing, split, isnt}
use Rattle.schedules.specs.Machine.{Program, State, Member, Mismatch, Matches, Ready}
use Rattle.schedules.proofs.Tally.{find}
use Rattle.schedules.proofs.Logs.{Allowed}
use Rattle.schedules.proofs.Step.{member?}
use Rattle.schedules.proofs.Good.{Good}

pub not_matching : {P : Program} {s : State} {c : ℕ} → Mismatch P s c → ¬ Matches P s c
not_matching w m = clashing w.clashes (m w.reg w.with w.waits)

-- a command that follows a ready one and is not allowed has run
pub has_run_lem : {P : Program} {s : State} (c : ℕ) → ¬ Allowed P s c → c < P.size → ((y : ℕ) → c ≡ suc y → P.first c ≡ false → Ready P s y) → s.ran c ≡ true
has_run_lem {s = s} c stop l r =
    ⊎_elim (λ (t : s.ran c ≡ true). t) (λ (f : s.ran c ≡ false). absurd (stop (record { low = l; fresh = f; ready = r }))) (split (s.ran c))

module _ (P : Program) (s : State) where
  open P use {size, first, registers, syncs, barrier, clash}

  pub ready? : (y : ℕ) → Dec (Ready P s y)
  ready? y =
      ⊎_elim
      (λ (r : s.ran y ≡ true). ⊎_elim
      (λ (z : syncs y ≡ true). by_cases (dec_le (s.gen y) (s.done (barrier y))) (λ (l : s.gen y ≤ s.done (barrier y)). yes (record { run = r; freed = λ _. l }))
      (λ (n : ¬ (s.gen y ≤ s.done (barrier y))). no (λ h. n (h.freed z))))
      (λ (z : syncs y ≡ false). yes (record { run = r; freed = λ t. clashing t z }))
      (split (syncs y)))
      (λ (r : s.ran y ≡ false). no (λ h. clashing h.run r))
      (split (s.ran y))

  before? : (c : ℕ) → Dec ((y : ℕ) → c ≡ suc y → first c ≡ false → Ready P s y)
  before? zero = yes (λ y e. absurd (omega arith))
  before? (suc y) =
      ⊎_elim (λ (t : first (suc y) ≡ true). yes (λ z e f. clashing t f))
      (λ (t : first (suc y) ≡ false). by_cases (ready? y) (λ (r : Ready P s y). yes (λ z e f. subst (Ready P s) (suc_inj e) r))
      (λ (n : ¬ Ready P s y). no (λ h. n (h y refl t))))
      (split (first (suc y)))

  pub allowed? : (c : ℕ) → Dec (Allowed P s c)
  allowed? c =
      by_cases (dec_le (suc c) size)
      (λ (l : c < size). ⊎_elim (λ (t : s.ran c ≡ true). no (λ h. clashing t h.fresh))
      (λ (f : s.ran c ≡ false). by_cases (before? c) (λ r. yes (record { low = l; fresh = f; ready = r })) (λ n. no (λ h. n h.ready)))
      (split (s.ran c)))
      (λ n. no (λ h. n h.low))

  pub matches? : Good P s → (c : ℕ) → Mismatch P s c ⊎ Matches P s c
  matches? G c =
      ⊎_elim (λ (r : registers c ≡ true). go r (find size (λ d. Dec.and (member? P s b k d) (Bool-discrete (clash d c) true))))
      (λ (r : registers c ≡ false). inr (λ t. clashing t r))
      (split (registers c))
    where
      b : ℕ
      b = barrier c

      k : ℕ
      k = suc (s.done b)

      go : registers c ≡ true → ((d : ℕ) × (d < size) × (Member P s b k d × (clash d c ≡ true))) ⊎ ((d : ℕ) → d < size → ¬ (Member P s b k d × (clash d c ≡ true)))
          → Mismatch P s c ⊎ Matches P s c
      go r (inl w) = inl (record { reg = r; with = w.0; waits = w.2.0; clashes = w.2.1 })
      go r (inr f) = inr (λ t d h. isnt (clash d c) (λ e. f d (G.low d h.run) (h, e)))
