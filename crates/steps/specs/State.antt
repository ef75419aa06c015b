-- The replay state: how many commands each thread has run, what it waits for (0, or the barrier plus 1), and the barriers (R12, R15, R17).
use Rattle.std.specs.Prelude.{ℕ, ◌+◌, get_or, set, replicate}
use Rattle.tables.specs.Limits.{most_threads, barriers}
use Rattle.turns.specs.Turns.{released}
use Rattle.barriers.specs.declared.barrier.Barrier.{Barrier}
use Rattle.steps.specs.declared.state.Replay.{Replay}
use Rattle.barriers.specs.Barrier.{unset}

-- All barriers start unset and all threads unblocked (R15).
unfoldable pub start : Replay
start = record { next = replicate most_threads 0; waits = replicate most_threads 0; barriers = replicate barriers (unset 0) }

-- how many commands thread t has run (R15)
abbrev pub ran_so_far : Replay → ℕ → ℕ
ran_so_far s t = get_or s.next t 0

-- what thread t waits for: 0, or the barrier plus 1 (R15)
abbrev pub waiting : Replay → ℕ → ℕ
waiting s t = get_or s.waits t 0

-- barrier b (R15)
abbrev pub barrier_at : Replay → ℕ → Barrier
barrier_at s b = get_or s.barriers b (unset 0)

-- thread t has run one command more (R17)
abbrev pub advanced : Replay → ℕ → Replay
advanced s t = record { next = set s.next t (ran_so_far s t + 1); waits = s.waits; barriers = s.barriers }

-- barrier b is v (R17)
abbrev pub stored : Replay → ℕ → Barrier → Replay
stored s b v = record { next = s.next; waits = s.waits; barriers = set s.barriers b v }

-- thread t waits at barrier b (R17)
abbrev pub blocked : Replay → ℕ → ℕ → Replay
blocked s t b = record { next = s.next; waits = set s.waits t (b + 1); barriers = s.barriers }

-- every thread blocked at barrier b is released (R12)
abbrev pub freed : Replay → ℕ → Replay
freed s b = record { next = s.next; waits = released (b + 1) s.waits; barriers = s.barriers }
