-- What a kept wait is in the machine: whether a thread is blocked, and where. A step changes both alike. Assumes nothing.
use mathlib.Core.Path.{◌≡◌, refl, sym, ◌∙◌}
use mathlib.Core.Logic.{◌≢◌}
use mathlib.Core.Bool.{true}
use mathlib.Core.List.{List, [], ◌∷◌}
use Prim.Native.Nat.{ℕ, suc, ◌+◌, ◌≤◌}
use native.Mathlib.Nat.{suc_inj}
use native.Mathlib.Omega.{arith}
use Rattle.schedules.specs.Machine.{Program, Lawful, State, Open, Matches, completes, next, state, Ready}
use Rattle.schedules.specs.Threads.{Threads, at, log_of, after, Blocked, Steps, Legal}
use Rattle.schedules.proofs.Logs.{Allowed}
use Rattle.schedules.proofs.Step.{ran_same, gen_same, done_more}
use Rattle.schedules.proofs.Good.{Good, ready_kept, member_kept, joins}
use Rattle.schedules.proofs.Threads.{stand, may, good_after, at_same, at_other}

module _ (P : Program) (H : Threads P) where
  open P use {syncs, barrier}
  open H use {low}

  -- the last command of thread t is a sync that waits in its open generation, and w is its barrier plus 1
  pub record Held (υ : List ℕ) (t w : ℕ) : Type 0 where
    pub last : ℕ
    pub is_last : at P H υ t ≡ suc last
    pub own : low t ≤ last
    pub sync : syncs last ≡ true
    pub waits : Open P (after P H υ) last last
    pub there : w ≡ barrier last + 1

  pub record WaitIs (υ : List ℕ) (t w : ℕ) : Type 0 where
    pub free : w ≡ 0 → ¬ Blocked P H υ t
    pub held : w ≢ 0 → Held υ t w

module _ {P : Program} {H : Threads P} where
  open P use {syncs, registers, barrier}

  pub held_blocked : {υ : List ℕ} {t w : ℕ} → Held P H υ t w → Blocked P H υ t
  held_blocked h = record { last = h.last; is_last = h.is_last; own = h.own; unready = λ r. omega (arith, r.freed h.sync) }

  pub wait_start : (t : ℕ) → WaitIs P H [] t 0
  unfolding at
  wait_start t = record { free = λ _ B. omega arith; held = λ n. absurd (n refl) }

  -- ---- thread t steps

  module _ (W : Lawful P) {υ : List ℕ} (L : Legal P H υ) {t : ℕ} (st : Steps P H υ t) (m : Matches P (after P H υ) (at P H υ t)) where
    abbrev s : State
    s = after P H υ

    abbrev c : ℕ
    c = at P H υ t

    G : Good P s
    G = good_after H W υ L

    A : Allowed P s c
    A = may H (stand H υ L) st

    -- another thread that does not wait at a barrier that completes
    pub wait_other : {u w : ℕ} → t ≢ u → ((b : ℕ) → w ≡ b + 1 → (next P s c).done b ≡ s.done b) → WaitIs P H υ u w → WaitIs P H (t ∷ υ) u w
    unfolding log_of state
    wait_other {u} {w} n kept x = record { free = λ z B. x.free z (before B); held = λ nz. after_it (x.held nz) }
      where
        before : Blocked P H (t ∷ υ) u → Blocked P H υ u
        before B =
            record {
              last = B.last;
              is_last = sym (at_other H υ t u n) ∙ B.is_last;
              own = B.own;
              unready = λ r. B.unready (ready_kept W G A m B.last r);
            }

        after_it : Held P H υ u w → Held P H (t ∷ υ) u w
        after_it h =
            record {
              last = h.last;
              is_last = at_other H υ t u n ∙ h.is_last;
              own = h.own;
              sync = h.sync;
              waits = rw (kept (barrier h.last) h.there) (member_kept W G A m h.waits);
              there = h.there;
            }

    -- another thread that waits where t completes the barrier
    pub wait_freed : {u w : ℕ} → t ≢ u → registers c ≡ true → completes P s c ≡ true → w ≡ barrier c + 1 → WaitIs P H υ u w
        → WaitIs P H (t ∷ υ) u 0
    unfolding log_of state
    wait_freed {u} {w} n r f e x = record { free = λ _ B. B.unready (ready B); held = λ nz. absurd (nz refl) }
      where
        h : Held P H υ u w
        h = x.held (λ z. omega arith)

        ready : (B : Blocked P H (t ∷ υ) u) → Ready P (next P s c) B.last
        ready B =
            let is : h.last ≡ B.last = suc_inj (sym h.is_last ∙ sym (at_other H υ t u n) ∙ B.is_last) in
            let here : barrier c ≡ barrier h.last = omega (arith, h.there) in
            let k = member_kept W G A m h.waits in
            rw (sym is) (record { run = k.run; freed = λ _. omega (arith, done_more P s c (barrier h.last) r here f) })

    -- t itself, after a command that is no sync or that completes its barrier
    pub wait_gone : (syncs c ≡ true → completes P s c ≡ true) → WaitIs P H (t ∷ υ) t 0
    unfolding log_of state
    wait_gone f = record { free = λ _ B. B.unready (rw (sym (is B)) ready); held = λ nz. absurd (nz refl) }
      where
        is : (B : Blocked P H (t ∷ υ) t) → c ≡ B.last
        is B = suc_inj (sym (at_same H υ t) ∙ B.is_last)

        ready : Ready P (next P s c) c
        ready =
            record {
              run = ran_same P s c c refl;
              freed =
                  λ y.
                  let r = W.sync_registers c y in
                  omega (arith, gen_same P s c c refl r, done_more P s c (barrier c) r refl (f y));
            }

    -- t itself, after a sync that does not
    pub wait_on : syncs c ≡ true → (next P s c).done (barrier c) ≡ s.done (barrier c) → WaitIs P H (t ∷ υ) t (barrier c + 1)
    unfolding log_of state
    wait_on y d =
        record {
          free = λ z. absurd (omega arith);
          held =
              λ _.
              record {
                last = c;
                is_last = at_same H υ t;
                own = ((stand H υ L).range t st.exists).0;
                sync = y;
                waits = rw d (joins W G A m (W.sync_registers c y));
                there = refl;
              };
        }
