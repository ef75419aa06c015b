-- What holds after every legal log: a generation is complete and has its count, or is open and has fewer, and its members do not clash.
use mathlib.Core.Path.{◌≡◌, refl, sym, ap, ap₂, ◌∙◌, subst}
use mathlib.Core.Logic.{◌⊎◌, inl, inr, ⊎_elim, by_cases, ◌≢◌}
use mathlib.Core.Bool.{true, false}
use mathlib.Core.List.{List, [], ◌∷◌}
use Prim.Native.Nat.{ℕ, suc, ◌≤◌, ◌<◌}
use native.Mathlib.Omega.{arith}
use native.Mathlib.Decide.{ℕ_discrete, dec_le}
use borrow.Author.Tests.{eqb-true, eqb-false}
use Rattle.relation.proofs.Truth.{clashing, split, isnt, same_test}
use Rattle.schedules.specs.Machine.{Program, Lawful, State, start, Member, member, registered, Matches, completes, next, state, Ready}
use Rattle.schedules.proofs.Tally.{tally_ext, tally_one, tally_none, find}
use Rattle.schedules.proofs.Logs.{Allowed, LegalLog}
use Rattle.schedules.proofs.Step.{member_in, member_out, member?, ran_same, ran_other, ran_kept, gen_same, gen_idle, gen_other, done_up, done_top, done_more, done_kept}

-- the generation k of b is complete and has its count n, or it is the open one and has fewer
pub data Stage (P : Program) (s : State) (b k n : ℕ) : Type 0 where
  closed : k ≤ s.done b → registered P s b k ≡ n → Stage P s b k n
  opened : k ≡ suc (s.done b) → registered P s b k < n → Stage P s b k n

pub record Good (P : Program) (s : State) : Type 0 where
  -- what has run is a command of the program
  pub low : (x : ℕ) → s.ran x ≡ true → x < P.size
  -- what stands before it in its thread has run and does not block
  pub order : (y : ℕ) → s.ran (suc y) ≡ true → P.first (suc y) ≡ false → Ready P s y
  -- reads and writes have generation 0
  pub idle : (x : ℕ) → P.registers x ≡ false → s.gen x ≡ 0
  -- generations are counted from 1
  pub pos : {b k x : ℕ} → Member P s b k x → 1 ≤ k
  -- each is complete or open, by the count of any member
  pub stage : {b k x : ℕ} → Member P s b k x → Stage P s b k (P.count x)
  -- a complete one has a member
  pub some : (b k : ℕ) → 1 ≤ k → k ≤ s.done b → (x : ℕ) × Member P s b k x
  -- members do not clash
  pub apart : {b k x y : ℕ} → Member P s b k x → Member P s b k y → x ≢ y → P.clash x y ≡ false

good_start : (P : Program) → Good P start
good_start P =
    record {
      low = λ x e. clashing e refl;
      order = λ y e. clashing e refl;
      idle = λ x e. refl;
      pos = λ m. clashing m.run refl;
      stage = λ m. clashing m.run refl;
      some = λ b k p q. absurd (omega arith);
      apart = λ m. clashing m.run refl;
    }

module _ {P : Program} (W : Lawful P) {s : State} (G : Good P s) {c : ℕ} (A : Allowed P s c) (m : Matches P s c) where
  open P use {size, first, registers, barrier, count, clash}

  abbrev s' : State
  s' = next P s c

  apart_from : (x : ℕ) → s.ran x ≡ true → c ≢ x
  apart_from x e q = clashing e (rw q at A.fresh)

  pub ready_kept : (y : ℕ) → Ready P s y → Ready P s' y
  ready_kept y r =
      record {
        run = ran_kept P s c y r.run;
        freed = λ z. rw (gen_other P s c y (apart_from y r.run)) (omega (arith, r.freed z, done_up P s c (barrier y)));
      }

  pub member_kept : {b k x : ℕ} → Member P s b k x → Member P s' b k x
  member_kept {x = x} h =
      record { run = ran_kept P s c x h.run; reg = h.reg; at = h.at; gen = gen_other P s c x (apart_from x h.run) ∙ h.gen }

  pub member_old : {b k x : ℕ} → c ≢ x → Member P s' b k x → Member P s b k x
  member_old {x = x} n h = record { run = sym (ran_other P s c x n) ∙ h.run; reg = h.reg; at = h.at; gen = sym (gen_other P s c x n) ∙ h.gen }

  pub joins : registers c ≡ true → Member P s' (barrier c) (suc (s.done (barrier c))) c
  joins r = record { run = ran_same P s c c refl; reg = r; at = refl; gen = gen_same P s c c refl r }

  pub joined : {b k : ℕ} → Member P s' b k c → k ≡ suc (s.done b)
  joined h = sym h.gen ∙ gen_same P s c c refl h.reg ∙ ap (λ (b : ℕ). suc (s.done b)) h.at

  member_other : (b k x : ℕ) → c ≢ x → member P s' b k x ≡ member P s b k x
  member_other b k x n = same_test _ _ (λ e. member_in (member_old n (member_out e))) (λ e. member_in (member_kept (member_out e)))

  not_yet : (b k : ℕ) → member P s b k c ≡ false
  unfolding member
  not_yet b k = rw A.fresh

  pub registered_same : (b k : ℕ) → ¬ Member P s' b k c → registered P s' b k ≡ registered P s b k
  unfolding registered
  registered_same b k h =
      tally_ext size _ _ (λ x l. by_cases (ℕ_discrete c x)
      (λ (e : c ≡ x). subst (λ (x : ℕ). member P s' b k x ≡ member P s b k x) e (isnt _ (λ t. h (member_out t)) ∙ sym (not_yet b k)))
      (λ (n : c ≢ x). member_other b k x n))

  pub registered_more : {b k : ℕ} → Member P s' b k c → registered P s' b k ≡ suc (registered P s b k)
  unfolding registered
  registered_more {b} {k} h =
      tally_one size (member P s b k) (member P s' b k) c A.low (not_yet b k) (member_in h) (λ x n. member_other b k x (λ e. n (sym e)))

  -- who is of c's generation waits where c registers
  meet : {b k x : ℕ} → Member P s' b k c → Member P s b k x → clash x c ≡ false
  meet {x = x} hc h =
      m hc.reg x (record { run = h.run; reg = h.reg; at = h.at ∙ sym hc.at; gen = h.gen ∙ sym hc.gen ∙ gen_same P s c c refl hc.reg })

  pub like : {b k x : ℕ} → Member P s' b k c → Member P s' b k x → count x ≡ count c
  like {x = x} hc h =
      by_cases (ℕ_discrete c x) (λ (e : c ≡ x). ap count (sym e)) (λ (n : c ≢ x). W.clash_count x c (meet hc (member_old n h)))

  room : {b k : ℕ} → Member P s' b k c → registered P s b k < count c
  unfolding registered
  room {b} {k} hc = go (find size (member? P s b k))
    where
      waits : (x : ℕ) → Member P s b k x → Stage P s b k (count x) → registered P s b k < count c
      waits x h (closed l e) = absurd (omega (arith, joined hc))
      waits x h (opened e l) = rw (like hc (member_kept h)) at l

      go : ((i : ℕ) × (i < size) × Member P s b k i) ⊎ ((i : ℕ) → i < size → ¬ Member P s b k i) → registered P s b k < count c
      go (inl w) = waits w.0 w.2 (G.stage w.2)
      go (inr f) = rw (tally_none size (member P s b k) (λ i l t. f i l (member_out t))) (W.counts c A.low hc.reg)

  stage_in : {b k x : ℕ} → Member P s' b k c → Member P s' b k x → Stage P s' b k (count x)
  unfolding completes
  stage_in {b} {k} {x} hc hx =
      let k-is : k ≡ suc (s.done b) = joined hc in
      let more : registered P s' b k ≡ suc (registered P s b k) = registered_more hc in
      let here : registered P s b k ≡ registered P s (barrier c) (suc (s.done (barrier c))) =
      ap₂ (registered P s) (sym hc.at) (sym hc.gen ∙ gen_same P s c c refl hc.reg) in
      let alike : count x ≡ count c = like hc hx in
      ⊎_elim
      (λ (t : completes P s c ≡ true).
      let full : suc (registered P s (barrier c) (suc (s.done (barrier c)))) ≡ count c = eqb-true _ _ t in
      closed (omega (arith, done_more P s c b hc.reg hc.at t)) (omega arith))
      (λ (f : completes P s c ≡ false).
      let kept : s'.done b ≡ s.done b = done_kept P s c b (λ r a. f) in
      let short : suc (registered P s b k) ≢ count c = λ e. eqb-false _ _ f (ap suc (sym here) ∙ e) in
      opened (omega arith) (omega (arith, room hc)))
      (split (completes P s c))

  pub absent : (b : ℕ) → ¬ Member P s' b (suc (s.done b)) c → s'.done b ≡ s.done b
  absent b n = done_kept P s c b (λ r a. absurd (n (rw a at (joins r))))

  stage_out : {b k x : ℕ} → ¬ Member P s' b k c → Member P s' b k x → Stage P s' b k (count x)
  stage_out {b} {k} {x} n hx = go (G.stage (member_old (λ e. n (rw (sym e) at hx)) hx))
    where
      kept : registered P s' b k ≡ registered P s b k
      kept = registered_same b k n

      go : Stage P s b k (count x) → Stage P s' b k (count x)
      go (closed l e) = closed (omega (arith, done_up P s c b)) (kept ∙ e)
      go (opened e l) =
          let d : s'.done b ≡ s.done b = absent b (rw e at n) in
          opened (omega arith) (omega (arith, kept))

  some_next : (b k : ℕ) → 1 ≤ k → k ≤ s'.done b → (x : ℕ) × Member P s' b k x
  some_next b k p q =
      by_cases (dec_le k (s.done b)) (λ (l : k ≤ s.done b). let (x, h) = G.some b k p l in (x, member_kept h))
      (λ (n : ¬ (k ≤ s.done b)). by_cases (member? P s' b (suc (s.done b)) c)
      (λ (h : Member P s' b (suc (s.done b)) c).
      let e : suc (s.done b) ≡ k = omega (arith, done_top P s c b) in
      (c, rw e at h))
      (λ (o : ¬ Member P s' b (suc (s.done b)) c). absurd (omega (arith, absent b o))))

  apart_next : {b k x y : ℕ} → Member P s' b k x → Member P s' b k y → x ≢ y → clash x y ≡ false
  apart_next {x = x} {y = y} hx hy n =
      by_cases (ℕ_discrete c x)
      (λ (e : c ≡ x).
      let d : c ≢ y = λ q. n (sym e ∙ q) in
      subst (λ (x : ℕ). clash x y ≡ false) e (W.clash_sym c y ∙ meet (rw (sym e) at hx) (member_old d hy)))
      (λ (d : c ≢ x). by_cases (ℕ_discrete c y)
      (λ (e : c ≡ y). subst (λ (y : ℕ). clash x y ≡ false) e (meet (rw (sym e) at hy) (member_old d hx)))
      (λ (f : c ≢ y). G.apart (member_old d hx) (member_old f hy) n))

  good_next : Good P s'
  good_next =
      record {
        low = λ x e. by_cases (ℕ_discrete c x) (λ (q : c ≡ x). rw q at A.low) (λ (n : c ≢ x). G.low x (sym (ran_other P s c x n) ∙ e));
        order =
            λ y e f. by_cases (ℕ_discrete c (suc y)) (λ (q : c ≡ suc y). ready_kept y (A.ready y q (ap first q ∙ f)))
            (λ (n : c ≢ suc y). ready_kept y (G.order y (sym (ran_other P s c (suc y) n) ∙ e) f));
        idle = λ x r. by_cases (ℕ_discrete c x) (λ (q : c ≡ x). gen_idle P s c x q (ap registers q ∙ r)) (λ (n : c ≢ x). gen_other P s c x n ∙ G.idle x r);
        pos = λ {b} {k} {x} h. by_cases (ℕ_discrete c x) (λ (q : c ≡ x). omega (arith, joined (rw (sym q) at h))) (λ (n : c ≢ x). G.pos (member_old n h));
        stage = λ {b} {k} {x} h. by_cases (member? P s' b k c) (λ i. stage_in i h) (λ o. stage_out o h);
        some = some_next;
        apart = apart_next;
      }

pub good : {P : Program} → Lawful P → (l : List ℕ) → LegalLog P l → Good P (state P l)
unfolding state
good {P} W [] h = good_start P
good W (c ∷ l) h = good_next W (good W l h.0) h.1 h.2

pub full : {P : Program} {s : State} → Good P s → {b k x : ℕ} → Member P s b k x → k ≤ s.done b → registered P s b k ≡ P.count x
full {P} {s} G {b} {k} {x} h l = go (G.stage h)
  where
    go : Stage P s b k (P.count x) → registered P s b k ≡ P.count x
    go (closed l e) = e
    go (opened e n) = absurd (omega arith)

pub lacking : {P : Program} {s : State} → Good P s → {b k x : ℕ} → Member P s b k x → ¬ (k ≤ s.done b)
    → (k ≡ suc (s.done b)) × (registered P s b k < P.count x)
lacking {P} {s} G {b} {k} {x} h n = go (G.stage h)
  where
    go : Stage P s b k (P.count x) → (k ≡ suc (s.done b)) × (registered P s b k < P.count x)
    go (closed l e) = absurd (n l)
    go (opened e l) = (e, l)
