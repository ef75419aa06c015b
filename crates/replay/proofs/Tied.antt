-- One step of the kept replay state is one step of the machine: it runs the same command, or mismatches where that does. Assumes nothing.
use mathlib.Core.Path.{◌≡◌, refl, sym, ap, ◌∙◌, subst}
use mathlib.Core.Logic.{by_cases, ⊎_elim, ◌≢◌}
use mathlib.Core.Bool.{Bool, true, false}
use mathlib.Core.List.{List, ◌∷◌}
use Prim.Native.Nat.{ℕ, ◌+◌, ◌<◌}
use native.Mathlib.Decide.{ℕ_discrete}
use native.Mathlib.Omega.{arith}
use lib.Dec.{eqb}
use lib.ListN.{length, get_or, set, length-set, length-map, get_or-map}
use lib.Seq.{get_or-set_same, get_or-set_other}
use borrow.Author.Tests.{eq-eqb, ne_eqb, lt-ltb}
use Rattle.tables.specs.Limits.{most_threads, barriers}
use Rattle.tables.specs.Rows.{name, count, first_row, registers, syncs}
use Rattle.rules.specs.Rules.{Keeps}
use Rattle.relation.proofs.Truth.{clashing, split}
use Rattle.schedules.specs.Machine.{Program, State, Mismatch, Matches, completes, next, state}
use Rattle.schedules.specs.Threads.{Threads, at, after, gens, Steps}
use Rattle.schedules.proofs.Logs.{Allowed}
use Rattle.schedules.proofs.Step.{gen_same, gen_idle, done_kept}
use Rattle.schedules.proofs.Good.{Good}
use Rattle.schedules.proofs.Threads.{stand, may, good_after, at_same, at_other}
use Rattle.turns.specs.Turns.{let_go_of, released}
use Rattle.barriers.specs.declared.barrier.Barrier.{Barrier}
use Rattle.steps.specs.declared.state.Replay.{Replay}
use Rattle.steps.specs.declared.step.How.TheVariants as how
use Rattle.steps.specs.declared.step.Did.TheVariants.{NotAllowed, Took}
use Rattle.steps.specs.declared.step.Stepped.{Stepped}
use Rattle.barriers.specs.Counting.{top}
use Rattle.barriers.specs.Barrier.{so_far, refuses, registration, unset, expecting}
use Rattle.steps.specs.State.{ran_so_far, waiting, barrier_at, freed}
use Rattle.steps.specs.Step.{allowed, command, registering, running, stepped}
use Rattle.steps.specs.Step as step
use Rattle.barriers.proofs.Registering.{counted_more}
use Rattle.programs.specs.Program.{program}
use Rattle.programs.proofs.Programs.{lawful, named, threads}
use Rattle.replay.proofs.Phases.{BarrierIs, matching, mismatching, barrier_other, completes_is, barrier_full, barrier_more}
use Rattle.replay.proofs.Waits.{WaitIs, wait_other, wait_freed, wait_gone, wait_on}
use Rattle.replay.proofs.Ties.{Stands, command_is, steps_allowed, waits_not, few_got, few_done}

-- who waits for w does so no more
get_d_released : (w : ℕ) (l : List ℕ) (u : ℕ) → w ≢ 0 → get_or (released w l) u 0 ≡ let_go_of w (get_or l u 0)
get_d_released w l u n = rw (ne_eqb 0 w (λ e. n (sym e))) at (get_or-map (let_go_of w) l u 0)

-- ---- what a command that registers does, by the tests

module _ (s : Replay) (t c : ℕ) (sync : Bool) (b n : ℕ) where
  abbrev old : Barrier
  old = barrier_at s b

  clash_is : refuses old.phase n ≡ true → registering s t c sync b n ≡ record { after = s; did = Took (how.Mismatch c) }
  unfolding registering registration
  clash_is e = rw e

  module _ (got : so_far old.phase < top) (done : old.done < top) where
    full_is : refuses old.phase n ≡ false → eqb (so_far old.phase + 1) n ≡ true
        → registering s t c sync b n ≡ step.ran (freed (step.entered s t sync b (unset (old.done + 1))) b) c (old.done + 1)
    unfolding registering registration
    full_is e f = rw (e, counted_more (so_far old.phase) got, counted_more old.done done, f)

    more_is : refuses old.phase n ≡ false → eqb (so_far old.phase + 1) n ≡ false
        → registering s t c sync b n ≡ step.ran (step.entered s t sync b (expecting n (so_far old.phase + 1) old.done)) c (old.done + 1)
    unfolding registering registration
    more_is e f = rw (e, counted_more (so_far old.phase) got, counted_more old.done done, f)

module _ {commands lengths : List ℕ} (K : Keeps commands lengths) where
  abbrev P : Program
  P = program commands lengths

  abbrev H : Threads P
  H = threads K

  pub not_allowed : (s : Replay) (t : ℕ) → allowed lengths s t ≡ false → stepped commands lengths s t ≡ record { after = s; did = NotAllowed }
  unfolding stepped
  not_allowed s t e = rw e

  -- what an allowed step does
  pub data Outcome (υ : List ℕ) (s : Replay) (t : ℕ) : Type 0 where
    ran : (stepped commands lengths s t).did ≡ Took (how.Ran (at P H υ t) (gens P H (t ∷ υ) (at P H υ t))) → Matches P (after P H υ) (at P H υ t)
        → Stands K (t ∷ υ) (stepped commands lengths s t).after → Outcome υ s t
    mismatched : (stepped commands lengths s t).did ≡ Took (how.Mismatch (at P H υ t)) → (stepped commands lengths s t).after ≡ s
        → Mismatch P (after P H υ) (at P H υ t) → Outcome υ s t

  module _ {υ : List ℕ} {s : Replay} (S : Stands K υ s) {t : ℕ} (st : Steps P H υ t) where
    abbrev σ : State
    σ = after P H υ

    abbrev c : ℕ
    c = at P H υ t

    G : Good P σ
    G = good_after H (lawful K) υ S.legal

    A : Allowed P σ c
    A = may H (stand H υ S.legal) st

    few : t < most_threads
    few = omega arith

    runs_it : stepped commands lengths s t ≡ running commands s t c
    unfolding stepped
    runs_it = rw (steps_allowed K S t st) (ap (running commands s t) (command_is K S t st.exists))

    there : registers commands c ≡ true → name commands c < barriers
    there = named K c A.low

    registers_it : registers commands c ≡ true → running commands s t c ≡ registering s t c (syncs commands c) (name commands c) (count commands c)
    unfolding running
    registers_it reg = rw (reg, lt-ltb (name commands c) barriers (there reg))

    its_barrier : registers commands c ≡ true → BarrierIs P σ (name commands c) (barrier_at s (name commands c))
    its_barrier reg = S.tie.barrier (name commands c) (there reg)

    -- ---- a command that matches

    module _ (m : Matches P σ c) where
      ran_so : {s' : Replay} {g : ℕ} → running commands s t c ≡ step.ran s' c g → g ≡ gens P H (t ∷ υ) c → Stands K (t ∷ υ) s' → Outcome υ s t
      ran_so {s'} {g} e q S' =
          let is : stepped commands lengths s t ≡ step.ran s' c g = runs_it ∙ e in
          ran (ap (λ (r : Stepped). r.did) is ∙ ap (λ (g : ℕ). Took (how.Ran c g)) q) m
          (subst (Stands K (t ∷ υ)) (sym (ap (λ (r : Stepped). r.after) is)) S')

      -- the state after it, from its waits and barriers
      tied : (ws : List ℕ) (bs : List Barrier) → length ws ≡ most_threads → length bs ≡ barriers → WaitIs P H (t ∷ υ) t (get_or ws t 0)
          → ((u : ℕ) → u < length lengths → t ≢ u → WaitIs P H (t ∷ υ) u (get_or ws u 0))
          → ((b : ℕ) → b < barriers → BarrierIs P (next P σ c) b (get_or bs b (unset 0)))
          → Stands K (t ∷ υ) (record { next = set s.next t (ran_so_far s t + 1); waits = ws; barriers = bs })
      unfolding state Rattle.schedules.specs.Threads.log_of
      tied ws bs ls lb own others each =
          record {
            legal = (S.legal, st, m);
            tie =
                record {
                  next_long = length-set s.next t _ ∙ S.tie.next_long;
                  waits_long = ls;
                  barriers_long = lb;
                  command = command';
                  wait = λ u l. by_cases (ℕ_discrete t u) (λ (e : t ≡ u). rw (sym e) own) (λ (n : t ≢ u). others u l n);
                  barrier = each;
                };
          }
        where
          command' : (u : ℕ) → u < length lengths → first_row lengths u + get_or (set s.next t (ran_so_far s t + 1)) u 0 ≡ at P H (t ∷ υ) u
          command' u l =
              by_cases (ℕ_discrete t u)
              (λ (e : t ≡ u).
              rw (sym e) (omega (arith, get_or-set_same s.next t (ran_so_far s t + 1) 0 (omega (arith, few)), at_same H υ t, command_is K S t st.exists)))
              (λ (n : t ≢ u). omega (arith, get_or-set_other s.next t u (ran_so_far s t + 1) 0 (λ e. n (sym e)), at_other H υ t u n, command_is K S u l))

      -- where no generation completes, the others wait as before
      as_before : ((b : ℕ) → (next P σ c).done b ≡ σ.done b) → (u : ℕ) → u < length lengths → t ≢ u → WaitIs P H (t ∷ υ) u (waiting s u)
      as_before d u l n = wait_other (lawful K) S.legal st m n (λ b _. d b) (S.tie.wait u l)

      own_gone : (syncs commands c ≡ true → completes P σ c ≡ true) → WaitIs P H (t ∷ υ) t (waiting s t)
      own_gone f = rw (waits_not K S st) (wait_gone (lawful K) S.legal st m f)

      -- it does not register
      idle : registers commands c ≡ false → Outcome υ s t
      unfolding running state Rattle.schedules.specs.Threads.log_of
      idle f =
          ran_so (rw f) (sym (gen_idle P σ c c refl f))
          (tied s.waits s.barriers S.tie.waits_long S.tie.barriers_long
          (own_gone (λ y. clashing ((lawful K).sync_registers c y) f))
          (as_before (λ b. done_kept P σ c b (λ r _. clashing r f)))
          (λ b l. barrier_other (lawful K) G A m (λ k h. clashing h.reg f) (S.tie.barrier b l)))

      -- it registers
      module _ (reg : registers commands c ≡ true) where
        abbrev b : ℕ
        b = name commands c

        abbrev v : Barrier
        v = barrier_at s (name commands c)

        B : BarrierIs P σ b v
        B = its_barrier reg

        -- the barriers, where b is v'
        all_barriers : (v' : Barrier) → BarrierIs P (next P σ c) b v' → (a : ℕ) → a < barriers
            → BarrierIs P (next P σ c) a (get_or (set s.barriers b v') a (unset 0))
        all_barriers v' B' a l =
            by_cases (ℕ_discrete b a)
            (λ (e : b ≡ a). rw (sym e, get_or-set_same s.barriers b v' (unset 0) (omega (arith, there reg))) B')
            (λ (n : b ≢ a). rw (get_or-set_other s.barriers b a v' (unset 0) (λ e. n (sym e)))
            (barrier_other (lawful K) G A m (λ k h. n h.at) (S.tie.barrier a l)))

        generation : v.done + 1 ≡ gens P H (t ∷ υ) c
        unfolding state Rattle.schedules.specs.Threads.log_of
        generation = omega (arith, B.done, gen_same P σ c c refl reg)

        barriers_long : (v' : Barrier) → length (set s.barriers b v') ≡ barriers
        barriers_long v' = length-set s.barriers b v' ∙ S.tie.barriers_long

        module _ (fits : refuses v.phase (count commands c) ≡ false) where
          got : so_far v.phase < top
          got = few_got K S b (there reg)

          done : v.done < top
          done = few_done K S b (there reg)

          -- those who wait there are let go, t among them
          module _ (f : completes P σ c ≡ true) (ws : List ℕ) (long : length ws ≡ most_threads) (mine : let_go_of (b + 1) (get_or ws t 0) ≡ 0)
              (rest : (u : ℕ) → t ≢ u → get_or ws u 0 ≡ waiting s u) where
            now : (u : ℕ) → get_or (released (b + 1) ws) u 0 ≡ let_go_of (b + 1) (get_or ws u 0)
            now u = get_d_released (b + 1) ws u (λ e. omega arith)

            others : (u : ℕ) → u < length lengths → t ≢ u → WaitIs P H (t ∷ υ) u (get_or (released (b + 1) ws) u 0)
            others u l n =
                by_cases (ℕ_discrete (waiting s u) (b + 1))
                (λ (e : waiting s u ≡ b + 1).
                rw (now u, rest u n, eq-eqb _ _ e) (wait_freed (lawful K) S.legal st m n reg f e (S.tie.wait u l)))
                (λ (d : waiting s u ≢ b + 1).
                let kept : (a : ℕ) → waiting s u ≡ a + 1 → (next P σ c).done a ≡ σ.done a = λ a w. done_kept P σ c a (λ r q. absurd (omega arith)) in
                rw (now u, rest u n, ne_eqb _ _ d) (wait_other (lawful K) S.legal st m n kept (S.tie.wait u l)))

            let_go_so : Stands K (t ∷ υ)
                (record { next = set s.next t (ran_so_far s t + 1); waits = released (b + 1) ws; barriers = set s.barriers b (unset (v.done + 1)) })
            let_go_so =
                tied (released (b + 1) ws) _ (length-map ws (let_go_of (b + 1)) ∙ long) (barriers_long _)
                (rw (now t ∙ mine) (wait_gone (lawful K) S.legal st m (λ _. f))) others (all_barriers _ (barrier_full (lawful K) G A m reg B f))

          full : completes P σ c ≡ true → Outcome υ s t
          full f =
              ran_so (registers_it reg ∙ full_is s t c (syncs commands c) b (count commands c) got done fits (completes_is (lawful K) G A m reg B ∙ f)) generation
              (go (syncs commands c))
            where
              go : (y : Bool) → Stands K (t ∷ υ) (freed (step.entered s t y b (unset (v.done + 1))) b)
              go true =
                  let_go_so f (set s.waits t (b + 1)) (length-set s.waits t (b + 1) ∙ S.tie.waits_long)
                  (rw (get_or-set_same s.waits t (b + 1) 0 (omega (arith, few, S.tie.waits_long)), eq-eqb (b + 1) (b + 1) refl))
                  (λ u n. get_or-set_other s.waits t u (b + 1) 0 (λ e. n (sym e)))
              go false =
                  let_go_so f s.waits S.tie.waits_long (rw (waits_not K S st, ne_eqb 0 (b + 1) (λ e. omega arith))) (λ u n. refl)

          part : completes P σ c ≡ false → Outcome υ s t
          part f =
              ran_so (registers_it reg ∙ more_is s t c (syncs commands c) b (count commands c) got done fits (completes_is (lawful K) G A m reg B ∙ f)) generation
              (go (syncs commands c) refl)
            where
              v' : Barrier
              v' = expecting (count commands c) (so_far v.phase + 1) v.done

              kept : (a : ℕ) → (next P σ c).done a ≡ σ.done a
              kept a = done_kept P σ c a (λ _ _. f)

              bars : (a : ℕ) → a < barriers → BarrierIs P (next P σ c) a (get_or (set s.barriers b v') a (unset 0))
              bars = all_barriers v' (barrier_more (lawful K) G A m reg B f)

              go : (y : Bool) → syncs commands c ≡ y → Stands K (t ∷ υ) (step.entered s t y b v')
              go false y = tied s.waits _ S.tie.waits_long (barriers_long v') (own_gone (λ z. clashing z y)) (as_before kept) bars
              go true y =
                  tied (set s.waits t (b + 1)) _ (length-set s.waits t (b + 1) ∙ S.tie.waits_long) (barriers_long v')
                  (rw (get_or-set_same s.waits t (b + 1) 0 (omega (arith, few))) (wait_on (lawful K) S.legal st m y (kept b)))
                  (λ u l n. rw (get_or-set_other s.waits t u (b + 1) 0 (λ e. n (sym e))) (as_before kept u l n))
                  bars

    -- ---- and one that does not

    clashes : registers commands c ≡ true → refuses (barrier_at s (name commands c)).phase (count commands c) ≡ true → Outcome υ s t
    clashes reg e =
        let is = runs_it ∙ registers_it reg ∙ clash_is s t c (syncs commands c) (name commands c) (count commands c) e in
        mismatched (ap (λ (r : Stepped). r.did) is) (ap (λ (r : Stepped). r.after) is) (mismatching G (λ d. refl) (its_barrier reg).phase reg e)

    matched : registers commands c ≡ true → refuses (barrier_at s (name commands c)).phase (count commands c) ≡ false → Outcome υ s t
    matched reg e =
        let m = matching G (λ d. refl) (its_barrier reg).phase e in
        ⊎_elim (full m reg e) (part m reg e) (split (completes P σ c))

    taken : Outcome υ s t
    taken =
        ⊎_elim
        (λ (reg : registers commands c ≡ true). ⊎_elim (clashes reg) (matched reg) (split (refuses (barrier_at s (name commands c)).phase (count commands c))))
        (λ (f : registers commands c ≡ false). idle (λ r. clashing r f) f)
        (split (registers commands c))

  pub outcome : {υ : List ℕ} {s : Replay} → Stands K υ s → (t : ℕ) → Steps P H υ t → Outcome υ s t
  outcome S t st = taken S st
