-- A state T of the generations of a final state S: what is complete in one is complete in the other, and with no reuse fault T goes on so.
use mathlib.Core.Path.{◌≡◌, refl, sym, ap, ◌∙◌}
use mathlib.Core.Logic.{⊎_elim, by_cases, ◌≢◌}
use mathlib.Core.Bool.{Bool, true, false}
use mathlib.Core.List.{List, [], ◌∷◌}
use Prim.Native.Nat.{ℕ, suc, pred, ◌≤◌, ◌<◌}
use native.Mathlib.Omega.{arith}
use native.Mathlib.Decide.{ℕ_discrete, dec_le}
use Rattle.relation.specs.Chains.{here, goes}
use Rattle.relation.proofs.Truth.{clashing, split}
use Rattle.schedules.specs.Machine.{Program, Lawful, State, Member, member, registered, Matches, next, state, Ready}
use Rattle.schedules.specs.HappensBefore.{Edge, along, meets, Reaches, NoReuse}
use Rattle.schedules.proofs.Tally.{tally_le, tally_full}
use Rattle.schedules.proofs.Logs.{Allowed, LegalLog}
use Rattle.schedules.proofs.Step.{member_in, member_out, ran_other, ran_kept, gen_same, gen_idle, gen_other}
use Rattle.schedules.proofs.Good.{Good, good, full, lacking}
use Rattle.schedules.proofs.Tests.{has_run_lem}
use Rattle.schedules.proofs.Final.{Final, itself, class_size}

-- T's generations are S's, on what T has run
abbrev pub Same : State → State → Type 0
Same S T = (x : ℕ) → T.ran x ≡ true → T.gen x ≡ S.gen x

pub record Agrees (P : Program) (S T : State) : Type 0 where
  pub good : Good P T
  pub same : Same S T

module _ {P : Program} {S : State} (F : Final P S) {T : State} (E : Agrees P S T) where
  open P use {size, registers, syncs, barrier}

  pub up : {b k x : ℕ} → Member P T b k x → Member P S b k x
  up {x = x} h = record { run = F.all x (E.good.low x h.run); reg = h.reg; at = h.at; gen = sym (E.same x h.run) ∙ h.gen }

  down : {b k x : ℕ} → Member P S b k x → T.ran x ≡ true → Member P T b k x
  down {x = x} h r = record { run = r; reg = h.reg; at = h.at; gen = E.same x r ∙ h.gen }

  -- a generation that is complete in T has all that S has in it
  pub grown : {b k y : ℕ} → k ≤ T.done b → Member P S b k y → Member P T b k y
  unfolding registered
  grown {b} {k} {y} l h =
      let (x, hx) = E.good.some b k (F.good.pos h) l in
      let e : registered P T b k ≡ registered P S b k = full E.good hx l ∙ sym (class_size F (up hx)) in
      member_out (tally_full size (member P T b k) (member P S b k) (λ i _ t. member_in (up (member_out t))) (omega arith) y (F.good.low y h.run) (member_in h))

  -- a generation of S that has all run in T is complete there
  pub closes : {b k x : ℕ} → Member P S b k x → ((y : ℕ) → Member P S b k y → T.ran y ≡ true) → k ≤ T.done b
  unfolding registered
  closes {b} {k} {x} h all =
      by_cases (dec_le k (T.done b)) (λ (l : k ≤ T.done b). l)
      (λ (n : ¬ (k ≤ T.done b)).
      absurd
      (omega (
        arith,
        (lacking E.good (down h (all x h)) n).1,
        class_size F h,
        tally_le size (member P S b k) (member P T b k) (λ i _ t. let m = member_out t in member_in (down m (all i m))),
      )))

  back : (y z : ℕ) → Edge P S.gen y z → Ready P T z → Ready P T y
  back y z (along l e f) r = E.good.order y (rw e at r.run) (rw e at f)
  back y z (meets ly lz reg syn at ge) r =
      let in-S : Member P S (barrier z) (S.gen z) y = record { run = F.all y ly; reg = reg; at = at; gen = ge } in
      let low : S.gen z ≤ T.done (barrier z) = omega (arith, r.freed syn, E.same z r.run) in
      let h : Member P T (barrier z) (S.gen z) y = grown low in-S in
      record { run = h.run; freed = λ _. rw (h.at, h.gen) low }

  -- what reaches a ready command is ready
  pub past : {x z : ℕ} → Reaches P S.gen x z → Ready P T z → Ready P T x
  past here r = r
  past (goes {k} {j} p e) r = past p (back k j e r)

  module _ (none : NoReuse P S.gen) {c : ℕ} (A : Allowed P T c) where
    -- c registers in the generation that it has in S
    due : registers c ≡ true → suc (T.done (barrier c)) ≡ S.gen c
    due r =
        let b = barrier c in
        let k = S.gen c in
        let own : Member P S b k c = itself F c A.low r in
        let top : k ≤ S.done b = F.over own in
        let new : ¬ (k ≤ T.done b) = λ l. clashing (grown l own).run A.fresh in
        by_cases (dec_le k (suc (T.done b))) (λ (l : k ≤ suc (T.done b)). omega arith)
        (λ (n : ¬ (k ≤ suc (T.done b))).
        let (d, hd) = F.good.some b (pred k) (omega arith) (omega arith) in
        absurd (omega (
          arith,
          closes hd (λ x hx.
              let up_one : S.gen c ≡ suc (S.gen x) = omega (arith, hx.gen) in
              let w = none x c (record { low₁ = F.good.low x hx.run; low₂ = A.low; reg₁ = hx.reg; reg₂ = r; at = hx.at; gen = up_one }) in
              (past w.reached (A.ready w.before w.is_before w.not_first)).run),
        )))

    pub matches : Matches P T c
    matches r d h = F.good.apart (rw (due r) at (up h)) (itself F c A.low r) (λ e. clashing h.run (rw (sym e) at A.fresh))

    pub same_next : Same S (next P T c)
    same_next x h =
        by_cases (ℕ_discrete c x)
        (λ (e : c ≡ x).
        ⊎_elim (λ (r : registers c ≡ true). gen_same P T c x e r ∙ due r ∙ ap S.gen e)
        (λ (r : registers c ≡ false). gen_idle P T c x e r ∙ sym (F.good.idle x (ap registers (sym e) ∙ r)))
        (split (registers c)))
        (λ (n : c ≢ x). gen_other P T c x n ∙ E.same x (sym (ran_other P T c x n) ∙ h))

module _ {P : Program} (W : Lawful P) {S : State} (F : Final P S) where
  open P use {size, syncs, barrier}

  -- what is ready in s is ready in T, where T has run all that s has run and that leads there
  pub carry : {s T : State} → Agrees P S s → Agrees P S T → (y : ℕ) → Ready P s y → T.ran y ≡ true
      → ((x : ℕ) → Edge P S.gen x y → s.ran x ≡ true → T.ran x ≡ true) → Ready P T y
  carry {s} {T} D E y r ran all = record { run = ran; freed = freed }
    where
      low : y < size
      low = E.good.low y ran

      freed : syncs y ≡ true → T.gen y ≤ T.done (barrier y)
      freed syn =
          let l : S.gen y ≤ s.done (barrier y) = omega (arith, r.freed syn, D.same y r.run) in
          rw (E.same y ran)
          (closes F E (itself F y low (W.sync_registers y syn))
          (λ x h. all x (meets (F.good.low x h.run) low h.reg syn h.at h.gen) (grown F D l h).run))

  -- a log agrees where a longer one does
  pub shorter : (c : ℕ) (l : List ℕ) → LegalLog P (c ∷ l) → Same S (state P (c ∷ l)) → Agrees P S (state P l)
  unfolding state
  shorter c l h same =
      record {
        good = good W l h.0;
        same =
            λ x r.
            let n : c ≢ x = λ e. clashing r (rw e at h.1.fresh) in
            sym (gen_other P (state P l) c x n) ∙ same x (ran_kept P (state P l) c x r);
      }

  -- D has, with each command, those that have an edge to it: a state that no step of D can follow has run all of D that a log of S's generations has
  module _ (D : ℕ → Bool) (shut : (y z : ℕ) → Edge P S.gen y z → D z ≡ true → D y ≡ true) where
    pub catches_up : {T : State} → Agrees P S T → ((c : ℕ) → D c ≡ true → ¬ Allowed P T c)
        → (l : List ℕ) → LegalLog P l → Same S (state P l) → (x : ℕ) → (state P l).ran x ≡ true → D x ≡ true → T.ran x ≡ true
    unfolding state
    catches_up E stop [] h same x e d = clashing e refl
    catches_up {T} E stop (c ∷ l) h same x e d =
        let A = h.1 in
        let B : Agrees P S (state P l) = shorter c l h same in
        let ih = catches_up E stop l h.0 B.same in
        by_cases (ℕ_discrete c x)
        (λ (q : c ≡ x).
        let dc : D c ≡ true = ap D q ∙ d in
        ap T.ran (sym q)
        ∙ has_run_lem c (stop c dc) A.low
        (λ y a b.
        let r = A.ready y a b in
        let dy = shut y c (along A.low a b) dc in
        carry B E y r (ih y r.run dy) (λ z edge ran. ih z ran (shut z y edge dy))))
        (λ (n : c ≢ x). ih x (sym (ran_other P (state P l) c x n) ∙ e) d)

  -- a state that no step can follow has run all that a log of S's generations has
  pub overtakes : {T : State} → Agrees P S T → ((c : ℕ) → ¬ Allowed P T c)
      → (l : List ℕ) → LegalLog P l → Same S (state P l) → (x : ℕ) → (state P l).ran x ≡ true → T.ran x ≡ true
  overtakes E stop l h same x e = catches_up (λ _. true) (λ y z _ _. refl) E (λ c _. stop c) l h same x e refl
