-- The kept replay state and the machine's state after the same steps: what each says of the other. Assumes nothing.
use mathlib.Core.Path.{◌≡◌, sym, ◌∙◌}
use mathlib.Core.Logic.{by_cases, ◌≢◌}
use mathlib.Core.Bool.{true, false}
use mathlib.Core.List.{List, []}
use Prim.Native.Nat.{ℕ, suc, ◌≤◌, ◌<◌}
use native.Mathlib.Decide.{ℕ_discrete}
use native.Mathlib.Omega.{arith}
use lib.Dec.{ltb}
use lib.ListN.{length, get_or, replicate, length-replicate, get_or-replicate}
use borrow.Author.Tests.{ltb-true, lt-ltb, eqb-true, eqb-false, eq-eqb, not-true, not-false}
use Rattle.tables.specs.Limits.{most_rows, most_threads, barriers}
use Rattle.tables.specs.Rows.{rows, thread_of}
use Rattle.rules.specs.Rules.{Keeps}
use Rattle.relation.proofs.Truth.{same_test, both, pair}
use Rattle.schedules.specs.Machine.{Program, registered, member, state}
use Rattle.schedules.specs.Threads.{Threads, at, after, Blocked, Steps, Legal}
use Rattle.schedules.proofs.Tally.{tally_most}
use Rattle.schedules.proofs.Threads.{stand, may, good_after}
use Rattle.turns.specs.Turns.{held, may_step}
use Rattle.turns.proofs.Turns.{left_is}
use Rattle.steps.specs.declared.state.Replay.{Replay}
use Rattle.barriers.specs.Counting.{top}
use Rattle.barriers.specs.Barrier.{so_far}
use Rattle.steps.specs.State.{start, ran_so_far, waiting, barrier_at}
use Rattle.steps.specs.Step.{allowed, command}
use Rattle.steps.specs.Ending.{is_blocked, barrier_set}
use Rattle.steps.proofs.Changing as changing
use Rattle.programs.specs.Program.{program}
use Rattle.programs.proofs.Programs.{lawful, named, threads}
use Rattle.replay.proofs.Phases.{BarrierIs, barrier_start, so_far_lem, unset_none, none_unset, none_registered}
use Rattle.replay.proofs.Waits.{WaitIs, held_blocked, wait_start}
use Rattle.replay.proofs.Few.{legal_few, done_few}

module _ {commands lengths : List ℕ} (K : Keeps commands lengths) where
  abbrev P : Program
  P = program commands lengths

  abbrev H : Threads P
  H = threads K

  pub record Tie (υ : List ℕ) (s : Replay) : Type 0 where
    pub next_long : length s.next ≡ most_threads
    pub waits_long : length s.waits ≡ most_threads
    pub barriers_long : length s.barriers ≡ barriers
    pub command : (t : ℕ) → t < length lengths → command lengths s t ≡ at P H υ t
    pub wait : (t : ℕ) → t < length lengths → WaitIs P H υ t (waiting s t)
    pub barrier : (b : ℕ) → b < barriers → BarrierIs P (after P H υ) b (barrier_at s b)

  -- s stands for what the steps of a legal schedule lead to
  pub record Stands (υ : List ℕ) (s : Replay) : Type 0 where
    pub legal : Legal P H υ
    pub tie : Tie υ s

  pub stands_start : Stands [] start
  unfolding start at state Rattle.schedules.specs.Threads.log_of
  stands_start =
      record {
        legal = tt;
        tie =
            record {
              next_long = length-replicate _ _;
              waits_long = length-replicate _ _;
              barriers_long = length-replicate _ _;
              command = λ t l. omega (arith, zeros t l);
              wait = λ t l. rw (zeros t l) (wait_start t);
              barrier = λ b l. rw (get_or-replicate barriers b _ _ l) (barrier_start P b);
            };
      }
    where
      zeros : (t : ℕ) → t < length lengths → get_or (replicate {A = ℕ} most_threads 0) t 0 ≡ 0
      zeros t l = get_or-replicate most_threads t 0 0 (omega arith)

  -- a barrier past the last has no command
  pub no_barrier : (υ : List ℕ) → Legal P H υ → (b : ℕ) → barriers ≤ b → registered P (after P H υ) b (suc ((after P H υ).done b)) ≡ 0
  no_barrier υ L b past =
      none_registered (λ d h. omega (arith, h.at, named K d ((good_after H (lawful K) υ L).low d h.run) h.reg))

  module _ {υ : List ℕ} {s : Replay} (S : Stands υ s) where
    -- ---- whether a thread may step

    pub command_is : (t : ℕ) → t < length lengths → command lengths s t ≡ at P H υ t
    command_is = S.tie.command

    pub allowed_steps : (t : ℕ) → allowed lengths s t ≡ true → Steps P H υ t
    allowed_steps t e =
        let m = changing.may commands lengths s t e in
        let l = m.left.there in
        record { exists = l; left = omega (arith, m.left.left, command_is t l); free = (S.tie.wait t l).free m.free }

    -- what may step does not wait
    pub waits_not : {t : ℕ} → Steps P H υ t → waiting s t ≡ 0
    waits_not {t} st =
        by_cases (ℕ_discrete (waiting s t) 0) (λ (e : waiting s t ≡ 0). e)
        (λ (n : waiting s t ≢ 0). absurd (st.free (held_blocked ((S.tie.wait t st.exists).held n))))

    pub steps_allowed : (t : ℕ) → Steps P H υ t → allowed lengths s t ≡ true
    unfolding allowed may_step
    steps_allowed t st =
        let more : ran_so_far s t < get_or lengths t 0 = omega (arith, command_is t st.exists) in
        let few : t < most_threads = omega (arith, st.exists, K.few_threads) in
        pair _ _ (sym (left_is lengths t (ran_so_far s t) few st.exists) ∙ lt-ltb _ _ more) (eq-eqb _ _ (waits_not st))

    pub command_row : (t : ℕ) → Steps P H υ t → at P H υ t < rows commands
    command_row t st = (may H (stand H υ S.legal) st).low

    -- ---- what the state tells of threads, barriers and commands

    pub blocked_is : (t : ℕ) → t < length lengths → (is_blocked s t ≡ true → Blocked P H υ t) × (is_blocked s t ≡ false → ¬ Blocked P H υ t)
    unfolding held
    blocked_is t l =
        let w = S.tie.wait t l in
        let few : t < most_threads = omega (arith, l, K.few_threads) in
        (λ e. held_blocked (w.held (eqb-false _ _ (not-true _ (both (ltb t most_threads) _ e).1))), λ e. w.free (eqb-true _ _ (not-false _ (rw (lt-ltb t most_threads few) at e))))

    pub unset_is : (b : ℕ) → b < barriers
        → (barrier_set s b ≡ false → registered P (after P H υ) b (suc ((after P H υ).done b)) ≡ 0)
        × (registered P (after P H υ) b (suc ((after P H υ).done b)) ≡ 0 → barrier_set s b ≡ false)
    unset_is b l = let v = (S.tie.barrier b l).phase in (unset_none v, none_unset v)

    pub has_run_lem : (c : ℕ) → c < rows commands → ltb c (command lengths s (thread_of lengths c)) ≡ (after P H υ).ran c
    has_run_lem c l =
        let R = stand H υ S.legal in
        let is = command_is (thread_of lengths c) (H.home c l).0 in
        let n = command lengths s (thread_of lengths c) in
        same_test _ _ (λ e. R.ahead c l (omega (arith, ltb-true c n e, is))) (λ e. lt-ltb c n (omega (arith, R.behind c l e, is)))

    -- ---- its counters stay small: no test would ever find one at its largest

    pub few_got : (b : ℕ) → b < barriers → so_far (barrier_at s b).phase < top
    unfolding registered most_rows
    few_got b l =
        omega (arith, so_far_lem (S.tie.barrier b l).phase, tally_most (rows commands) (member P (after P H υ) b (suc ((after P H υ).done b))), K.few_rows)

    pub few_done : (b : ℕ) → b < barriers → (barrier_at s b).done < top
    unfolding most_rows
    few_done b l = omega (arith, (S.tie.barrier b l).done, done_few K υ b, legal_few K υ S.legal, K.few_rows)
