-- What a kept barrier is in the machine: its open generation. A command that registers changes both alike. Assumes nothing.
use mathlib.Core.Path.{◌≡◌, refl, sym, ap, ◌∙◌}
use mathlib.Core.Logic.{by_cases, ◌⊎◌, inl, inr, ◌≢◌}
use mathlib.Core.Bool.{true, false, not}
use Prim.Native.Nat.{ℕ, suc, ◌+◌, ◌≤◌, ◌<◌}
use native.Mathlib.Decide.{ℕ_discrete}
use native.Mathlib.Numerals.{add-one}
use native.Mathlib.Omega.{arith}
use lib.Dec.{eqb}
use Rattle.relation.proofs.Truth.{clashing}
use Rattle.schedules.specs.Machine.{Program, Lawful, State, start, Member, registered, member, completes, next, Mismatch, Matches}
use Rattle.schedules.proofs.Tally.{tally_pos, tally_none, find}
use Rattle.schedules.proofs.Logs.{Allowed}
use Rattle.schedules.proofs.Step.{member_in, member_out, member?, done_more, done_kept}
use Rattle.schedules.proofs.Good.{Good, lacking, member_old, joins, joined, registered_same, registered_more, like, absent}
use Rattle.barriers.specs.declared.barrier.Phase.{Phase}
use Rattle.barriers.specs.declared.barrier.Phase.TheVariants.{Unset, Expecting}
use Rattle.barriers.specs.declared.barrier.Barrier.{Barrier}
use Rattle.barriers.specs.Barrier.{so_far, is_set, refuses, unset, expecting}

module _ (P : Program) where
  open P use {size, count}

  -- what has registered in b's open generation, all of one count
  pub data PhaseIs (s : State) (b : ℕ) : Phase → Type 0 where
    is_unset : registered P s b (suc (s.done b)) ≡ 0 → PhaseIs s b Unset
    is_expecting : {n got : ℕ} → registered P s b (suc (s.done b)) ≡ got → 1 ≤ got
        → ((d : ℕ) → Member P s b (suc (s.done b)) d → count d ≡ n) → PhaseIs s b (Expecting n got)

  pub record BarrierIs (s : State) (b : ℕ) (v : Barrier) : Type 0 where
    pub done : v.done ≡ s.done b
    pub phase : PhaseIs s b v.phase

-- where nothing is a member, nothing has registered
pub none_registered : {P : Program} {s : State} {b k : ℕ} → ((d : ℕ) → ¬ Member P s b k d) → registered P s b k ≡ 0
unfolding registered
none_registered {P} {s} {b} {k} none = tally_none P.size (member P s b k) (λ d l e. none d (member_out e))

pub barrier_start : (P : Program) (b : ℕ) → BarrierIs P start b (unset 0)
barrier_start P b = record { done = refl; phase = is_unset (none_registered (λ d h. clashing h.run refl)) }

module _ {P : Program} {s : State} {b : ℕ} where
  pub so_far_lem : {v : Phase} → PhaseIs P s b v → so_far v ≡ registered P s b (suc (s.done b))
  so_far_lem (is_unset e) = sym e
  so_far_lem (is_expecting e l f) = sym e

  pub unset_none : {v : Phase} → PhaseIs P s b v → is_set v ≡ false → registered P s b (suc (s.done b)) ≡ 0
  unset_none (is_unset e) f = e
  unset_none (is_expecting e l g) f = clashing refl f

  pub none_unset : {v : Phase} → PhaseIs P s b v → registered P s b (suc (s.done b)) ≡ 0 → is_set v ≡ false
  none_unset (is_unset e) z = refl
  none_unset (is_expecting e l g) z = absurd (omega arith)

-- ---- whether a command that registers matches

module _ {P : Program} {s : State} (G : Good P s) {c : ℕ} (by_count : (d : ℕ) → P.clash d c ≡ not (eqb (P.count d) (P.count c))) where
  open P use {size, registers, barrier, count}

  pub matching : {v : Phase} → PhaseIs P s (barrier c) v → refuses v (count c) ≡ false → Matches P s c
  unfolding registered
  matching (is_unset e) f r d h =
      absurd (omega (arith, tally_pos size (member P s (barrier c) (suc (s.done (barrier c)))) d (G.low d h.run) (member_in h)))
  matching (is_expecting e l alike) f r d h = by_count d ∙ ap (λ (n : ℕ). not (eqb n (count c))) (alike d h) ∙ f

  pub mismatching : {v : Phase} → PhaseIs P s (barrier c) v → registers c ≡ true → refuses v (count c) ≡ true → Mismatch P s c
  unfolding registered
  mismatching (is_unset e) r f = clashing f refl
  mismatching (is_expecting {n} {got} e l alike) r f = go (find size (member? P s b k))
    where
      b : ℕ
      b = barrier c

      k : ℕ
      k = suc (s.done b)

      go : ((d : ℕ) × (d < size) × Member P s b k d) ⊎ ((d : ℕ) → d < size → ¬ Member P s b k d) → Mismatch P s c
      go (inl w) = record { reg = r; with = w.0; waits = w.2; clashes = by_count w.0 ∙ ap (λ (n : ℕ). not (eqb n (count c))) (alike w.0 w.2) ∙ f }
      go (inr none) = absurd (omega (arith, tally_none size (member P s b k) (λ i l t. none i l (member_out t))))

-- ---- c runs

module _ {P : Program} (W : Lawful P) {s : State} (G : Good P s) {c : ℕ} (A : Allowed P s c) (m : Matches P s c) where
  open P use {registers, barrier, count}

  abbrev s' : State
  s' = next P s c

  -- a barrier where c does not register stays as it is
  pub barrier_other : {b : ℕ} {v : Barrier} → ((k : ℕ) → ¬ Member P s' b k c) → BarrierIs P s b v → BarrierIs P s' b v
  barrier_other {b} {v} out B = record { done = B.done ∙ sym d; phase = go B.phase }
    where
      d : s'.done b ≡ s.done b
      d = absent W G A m b (out _)

      r : registered P s' b (suc (s'.done b)) ≡ registered P s b (suc (s.done b))
      r = ap (λ (n : ℕ). registered P s' b (suc n)) d ∙ registered_same W G A m b (suc (s.done b)) (out _)

      go : {v : Phase} → PhaseIs P s b v → PhaseIs P s' b v
      go (is_unset e) = is_unset (r ∙ e)
      go (is_expecting e l alike) = is_expecting (r ∙ e) l (λ x h. alike x (rw d at (member_old W G A m (λ q. out _ (rw (sym q) at h)) h)))

  module _ (reg : registers c ≡ true) {v : Barrier} (B : BarrierIs P s (barrier c) v) where
    abbrev b : ℕ
    b = barrier c

    -- with c, registrations reach the count in both
    pub completes_is : eqb (so_far v.phase + 1) (count c) ≡ completes P s c
    unfolding completes
    completes_is = ap (λ (n : ℕ). eqb n (count c)) (add-one _ ∙ ap suc (so_far_lem B.phase))

    pub barrier_full : completes P s c ≡ true → BarrierIs P s' b (unset (v.done + 1))
    barrier_full f = record { done = omega (arith, d); phase = is_unset (none_registered none) }
      where
        d : s'.done b ≡ suc (s.done b)
        d = done_more P s c b reg refl f

        none : (i : ℕ) → ¬ Member P s' b (suc (s'.done b)) i
        none i h =
            by_cases (ℕ_discrete c i) (λ (e : c ≡ i). omega (arith, d, joined W G A m (rw (sym e) at h)))
            (λ (n : c ≢ i).
            let q : ¬ (suc (s'.done b) ≤ s.done b) = omega (arith, d) in
            omega (arith, d, (lacking G (member_old W G A m n h) q).0))

    pub barrier_more : completes P s c ≡ false → BarrierIs P s' b (expecting (count c) (so_far v.phase + 1) v.done)
    barrier_more f =
        record {
          done = B.done ∙ sym d;
          phase =
              is_expecting
              (ap (λ (n : ℕ). registered P s' b (suc n)) d ∙ registered_more W G A m (joins W G A m reg) ∙ sym (add-one _ ∙ ap suc (so_far_lem B.phase)))
              (omega arith) (λ x h. like W G A m (joins W G A m reg) (rw d at h));
        }
      where
        d : s'.done b ≡ s.done b
        d = done_kept P s c b (λ _ _. f)
