-- One step of the machine: the members of a generation, counted, and what a command that runs changes.
use mathlib.Core.Path.{◌≡◌}
use mathlib.Core.Logic.{⊎_elim, ◌≢◌}
use mathlib.Core.Bool.{Bool, true, false, ◌&&◌}
use Prim.Native.Nat.{ℕ, suc, ◌≤◌}
use native.Mathlib.Omega.{arith}
use lib.Dec.{eqb}
use borrow.Author.Tests.{eqb-true, eq-eqb, ne_eqb}
use Rattle.relation.proofs.Truth.{clashing, split, isnt, both, right}
use Rattle.schedules.specs.Tally.{bit}
use Rattle.schedules.specs.Machine.{Program, State, Member, member, completes, next}

-- ---- members, counted

pub member_in : {P : Program} {s : State} {b k c : ℕ} → Member P s b k c → member P s b k c ≡ true
unfolding member
member_in m = rw (m.run, m.reg, eq-eqb _ _ m.at, eq-eqb _ _ m.gen)

pub member_out : {P : Program} {s : State} {b k c : ℕ} → member P s b k c ≡ true → Member P s b k c
unfolding member
member_out e =
    let (u, e₁) = both _ _ e in
    let (v, e₂) = both _ _ e₁ in
    let (w, x) = both _ _ e₂ in
    record { run = u; reg = v; at = eqb-true _ _ w; gen = eqb-true _ _ x }

pub member? : (P : Program) (s : State) (b k c : ℕ) → Dec (Member P s b k c)
member? P s b k c =
    ⊎_elim (λ (t : member P s b k c ≡ true). yes (member_out t)) (λ (f : member P s b k c ≡ false). no (λ m. clashing (member_in m) f))
    (split (member P s b k c))

-- ---- c runs

module _ (P : Program) (s : State) (c : ℕ) where
  open P use {registers, barrier}

  pub ran_same : (x : ℕ) → c ≡ x → (next P s c).ran x ≡ true
  unfolding next
  ran_same x e = rw (eq-eqb c x e)

  pub ran_other : (x : ℕ) → c ≢ x → (next P s c).ran x ≡ s.ran x
  unfolding next
  ran_other x n = rw (ne_eqb c x n)

  pub ran_kept : (x : ℕ) → s.ran x ≡ true → (next P s c).ran x ≡ true
  unfolding next
  ran_kept x h = right (eqb c x) _ h

  pub gen_same : (x : ℕ) → c ≡ x → registers c ≡ true → (next P s c).gen x ≡ suc (s.done (barrier c))
  unfolding next
  gen_same x e r = rw (eq-eqb c x e, r)

  pub gen_idle : (x : ℕ) → c ≡ x → registers c ≡ false → (next P s c).gen x ≡ 0
  unfolding next
  gen_idle x e r = rw (eq-eqb c x e, r)

  pub gen_other : (x : ℕ) → c ≢ x → (next P s c).gen x ≡ s.gen x
  unfolding next
  gen_other x n = rw (ne_eqb c x n)

  pub done_up : (b : ℕ) → s.done b ≤ (next P s c).done b
  unfolding next
  done_up b = omega arith

  pub done_top : (b : ℕ) → (next P s c).done b ≤ suc (s.done b)
  unfolding next
  done_top b = omega (arith, bit_top (registers c && (eqb (barrier c) b && completes P s c)))
    where
      bit_top : (b : Bool) → bit b ≤ 1
      bit_top true = omega arith
      bit_top false = omega arith

  pub done_more : (b : ℕ) → registers c ≡ true → barrier c ≡ b → completes P s c ≡ true → (next P s c).done b ≡ suc (s.done b)
  unfolding next
  done_more b r a e = rw (r, eq-eqb _ _ a, e) (omega arith)

  pub done_kept : (b : ℕ) → (registers c ≡ true → barrier c ≡ b → completes P s c ≡ false) → (next P s c).done b ≡ s.done b
  unfolding next
  done_kept b h =
      let still : registers c && (eqb (barrier c) b && completes P s c) ≡ false = isnt _ (λ t.
      let (r, e) = both _ _ t in
      let (a, f) = both _ _ e in
      clashing f (h r (eqb-true _ _ a))) in
      rw still (omega arith)
