-- Schedules of threads and logs of commands are the same: a step of a thread is allowed where its next command is, and clean is clean.
use mathlib.Core.Path.{◌≡◌, refl, sym, ap, ap₂, ◌∙◌, subst}
use mathlib.Core.Logic.{by_cases, ◌≢◌}
use mathlib.Core.Bool.{true, false}
use mathlib.Core.List.{List, [], ◌∷◌}
use Prim.Native.Nat.{ℕ, suc, pred, ◌≤◌, ◌<◌}
use native.Mathlib.Omega.{arith}
use native.Mathlib.Decide.{ℕ_discrete}
use borrow.Author.Tests.{eq-eqb, ne_eqb}
use Rattle.relation.proofs.Truth.{clashing, isnt}
use Rattle.schedules.specs.Machine.{Program, Lawful, State, Matches, state, Ready}
use Rattle.schedules.specs.Threads.{Threads, at, log_of, after, Blocked, Steps, Legal, Stops, Clean}
use Rattle.schedules.specs.HappensBefore.{Goes, stays, more}
use Rattle.schedules.proofs.Logs.{Allowed, LegalLog, StopsLog, CleanLog}
use Rattle.schedules.proofs.Step.{ran_same, ran_other}
use Rattle.schedules.proofs.Good.{Good, good}
use Rattle.schedules.proofs.Tests.{ready?}

module _ {P : Program} (H : Threads P) where
  open P use {size, first}
  open H use {threads, thread, low, high}

  -- x has run exactly when its thread stands past it
  pub record Stand (υ : List ℕ) : Type 0 where
    pub range : (t : ℕ) → t < threads → (low t ≤ at P H υ t) × (at P H υ t ≤ high t)
    pub behind : (x : ℕ) → x < size → (after P H υ).ran x ≡ true → x < at P H υ (thread x)
    pub ahead : (x : ℕ) → x < size → x < at P H υ (thread x) → (after P H υ).ran x ≡ true

  -- t's step moves t on, and nobody else
  module _ (υ : List ℕ) (t : ℕ) where
    pub at_same : at P H (t ∷ υ) t ≡ suc (at P H υ t)
    unfolding at
    at_same = rw (eq-eqb t t refl) (omega arith)

    pub at_other : (u : ℕ) → t ≢ u → at P H (t ∷ υ) u ≡ at P H υ u
    unfolding at
    at_other u n = rw (ne_eqb t u n) (omega arith)

    grows : (u : ℕ) → at P H υ u ≤ at P H (t ∷ υ) u
    unfolding at
    grows u = omega arith

  -- below c in its thread, c is not the first
  later : (c : ℕ) → c < size → low (thread c) < c → first c ≡ false
  later c lc l = isnt _ (λ f. omega (arith, H.is_first_in_thread c lc f))

  -- the last command of a thread that is not blocked is ready
  freed : {υ : List ℕ} {t y : ℕ} → ¬ Blocked P H υ t → at P H υ t ≡ suc y → low t ≤ y → Ready P (after P H υ) y
  freed {υ} {t} {y} free e l =
      by_cases (ready? P (after P H υ) y) (λ (r : Ready P (after P H υ) y). r)
      (λ (n : ¬ Ready P (after P H υ) y). absurd (free (record { last = y; is_last = e; own = l; unready = n })))

  module _ {υ : List ℕ} (S : Stand υ) where
    abbrev s : State
    s = after P H υ

    -- a thread's next command is its own
    its : {t : ℕ} → Steps P H υ t → (thread (at P H υ t) ≡ t) × (at P H υ t < size)
    its {t} st = H.only t (at P H υ t) st.exists (S.range t st.exists).0 st.left

    -- the next command of a thread that may step is allowed
    pub may : {t : ℕ} → Steps P H υ t → Allowed P s (at P H υ t)
    may {t} st =
        let c = at P H υ t in
        let (th, lc) = its st in
        record {
          low = lc;
          fresh = isnt _ (λ r. absurd (omega (arith, rw th at (S.behind c lc r))));
          ready = λ y e nf. let l : low t < c = rw th at (H.not_first c lc nf) in freed st.free e (omega arith);
        }

    -- and no other command is
    pub must : {c : ℕ} → Allowed P s c → (c ≡ at P H υ (thread c)) × Steps P H υ (thread c)
    must {c} A = (sym at_c, record { exists = lt; left = rw at_c (H.home c lc).2; free = free })
      where
        lc : c < size
        lc = A.low

        lt : thread c < threads
        lt = (H.home c lc).0

        reached : ¬ (c < at P H υ (thread c))
        reached l = clashing (S.ahead c lc l) A.fresh

        low_at : low (thread c) ≤ at P H υ (thread c)
        low_at = (S.range (thread c) lt).0

        caught : ¬ (at P H υ (thread c) < c)
        caught l =
            let y = pred c in
            let e : c ≡ suc y = omega arith in
            let r = A.ready y e (later c lc (omega (arith, low_at))) in
            let (th, ly) = H.only (thread c) y lt (omega (arith, low_at)) (omega (arith, (H.home c lc).2)) in
            omega (arith, rw th at (S.behind y ly r.run))

        at_c : at P H υ (thread c) ≡ c
        at_c = omega (arith, reached, caught)

        free : ¬ Blocked P H υ (thread c)
        free b = b.unready (A.ready b.last (sym at_c ∙ b.is_last) (later c lc (omega (arith, at_c, b.is_last, b.own))))

    -- where no thread is blocked, all that ran is ready
    all_ready : Good P s → ((t : ℕ) → t < threads → ¬ Blocked P H υ t) → (y : ℕ) → s.ran y ≡ true → Ready P s y
    all_ready G free y h =
        let ly : y < size = G.low y h in
        let (lt, lo, _) = H.home y ly in
        let l : y < at P H υ (thread y) = S.behind y ly h in
        by_cases (ℕ_discrete (at P H υ (thread y)) (suc y)) (λ (e : at P H υ (thread y) ≡ suc y). freed (free (thread y) lt) e lo)
        (λ (n : at P H υ (thread y) ≢ suc y).
        let (th, lz) = H.only (thread y) (suc y) lt (omega arith) (omega (arith, (S.range (thread y) lt).1)) in
        G.order y (S.ahead (suc y) lz (rw th (omega arith))) (later (suc y) lz (rw th (omega arith))))

    module _ {t : ℕ} (st : Steps P H υ t) where
      abbrev c : ℕ
      c = at P H υ t

      th : thread c ≡ t
      th = (its st).0

      stand_next : Stand (t ∷ υ)
      unfolding log_of state
      stand_next =
          record {
            range =
                λ u lu. by_cases (ℕ_discrete t u) (λ (e : t ≡ u). rw (sym e) (omega (arith, at_same υ t, S.range t st.exists, st.left)))
                (λ (n : t ≢ u). rw (at_other υ t u n) (S.range u lu));
            behind =
                λ x lx r. by_cases (ℕ_discrete c x) (λ (e : c ≡ x). rw (ap thread (sym e) ∙ th) (omega (arith, at_same υ t)))
                (λ (n : c ≢ x). omega (arith, S.behind x lx (sym (ran_other P s c x n) ∙ r), grows υ t (thread x)));
            ahead =
                λ x lx l. by_cases (ℕ_discrete c x) (λ (e : c ≡ x). ran_same P s c x e)
                (λ (n : c ≢ x). ran_other P s c x n ∙ S.ahead x lx (by_cases (ℕ_discrete t (thread x))
                (λ (e : t ≡ thread x). let l' : x < suc c = omega (arith, at_same υ t, rw (sym e) at l) in rw (sym e) (omega arith))
                (λ (d : t ≢ thread x). rw (at_other υ t (thread x) d) at l)));
          }

  stand_start : Stand []
  unfolding at log_of state
  stand_start =
      record { range = λ t l. (omega arith, H.span t); behind = λ x l e. clashing e refl; ahead = λ x l e. absurd (omega (arith, (H.home x l).1)) }

  -- ---- a legal schedule is a legal log, and a legal log is one

  pub stand : (υ : List ℕ) → Legal P H υ → Stand υ
  stand [] h = stand_start
  stand (t ∷ υ) h = stand_next (stand υ h.0) h.1

  pub legal_log : (υ : List ℕ) → Legal P H υ → LegalLog P (log_of P H υ)
  unfolding log_of
  legal_log [] h = tt
  legal_log (t ∷ υ) h = (legal_log υ h.0, may (stand υ h.0) h.1, h.2)

  pub goes_commands : {τ υ : List ℕ} → Goes τ υ → Goes (log_of P H τ) (log_of P H υ)
  unfolding log_of
  goes_commands stays = stays
  goes_commands (more {υ} t r) = more (at P H υ t) (goes_commands r)

  -- the schedule of a legal log
  pub led : (l : List ℕ) → LegalLog P l → (υ : List ℕ) × Legal P H υ × (log_of P H υ ≡ l)
  unfolding log_of
  led [] h = ([], tt, refl)
  led (c ∷ l) h =
      let (υ, g, e) = led l h.0 in
      let there : Allowed P (after P H υ) c × Matches P (after P H υ) c = subst (λ (l : List ℕ). Allowed P (state P l) c × Matches P (state P l) c) (sym e) (h.1, h.2) in
      let (q, st) = must (stand υ g) there.0 in
      (thread c ∷ υ, (g, st, subst (Matches P (after P H υ)) q there.1), ap₂ ◌∷◌ (sym q) e)

  -- ---- it stops where the other does, and is clean where the other is

  pub stops_log : (υ : List ℕ) → Legal P H υ → Stops P H υ → StopsLog P (log_of P H υ)
  stops_log υ h stop c A = stop (thread c) (must (stand υ h) A).1

  module _ (W : Lawful P) where
    pub good_after : (υ : List ℕ) → Legal P H υ → Good P (after P H υ)
    good_after υ h = good W (log_of P H υ) (legal_log υ h)

    pub clean_log : {υ : List ℕ} → Clean P H υ → CleanLog P (log_of P H υ)
    clean_log {υ} C =
        record {
          legal = legal_log υ C.legal;
          stops = stops_log υ C.legal C.stops;
          free = all_ready (stand υ C.legal) (good_after υ C.legal) C.unblocked;
          unset = C.unset;
        }

    pub clean_run : {υ : List ℕ} → Legal P H υ → CleanLog P (log_of P H υ) → Clean P H υ
    clean_run {υ} g C =
        let S = stand υ g in
        record {
          legal = g;
          stops = λ t st. C.stops _ (may S st);
          unblocked =
              λ t lt b.
              let (th, lc) = H.only t b.last lt b.own (omega (arith, (S.range t lt).1, b.is_last)) in
              b.unready (C.free b.last (S.ahead b.last lc (rw th (omega (arith, b.is_last)))));
          unset = C.unset;
        }
