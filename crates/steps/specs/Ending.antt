-- How a replay that went through ended (R19, R37).
use Rattle.std.specs.Prelude.{Bool, cond, List, ℕ, ◌-◌, ltb, length}
use Rattle.tables.specs.Limits.{barriers}
use Rattle.tables.specs.Lowest.{lowest}
use Rattle.verdicts.specs.Verdicts.{tell, numbered}
use Rattle.verdicts.specs.FirstTold.{or_else}
use Rattle.verdicts.specs.declared.Told.{Told}
use Rattle.turns.specs.Turns.{held}
use Rattle.steps.specs.declared.state.Replay.{Replay}
use Rattle.steps.specs.declared.going.Replayed.{Replayed}
use Rattle.barriers.specs.Barrier.{is_set}
use Rattle.steps.specs.State.{barrier_at}
use Rattle.steps.specs.Step.{allowed, command}

-- A blocked thread with nothing left to run hasn't finished (R19).
abbrev pub is_blocked : Replay → ℕ → Bool
is_blocked s t = held s.waits t

-- barrier b is set (R10)
abbrev pub barrier_set : Replay → ℕ → Bool
barrier_set s b = is_set (barrier_at s b).phase

-- the last command run by thread t (R37); where that would be before the first row, 0 (R80)
abbrev pub last_run : List ℕ → Replay → ℕ → ℕ
last_run lengths s t = command lengths s t - 1

-- the lowest thread that may step (R24), the lowest blocked thread (R37), or the number of threads
abbrev pub lowest_allowed : List ℕ → Replay → ℕ
lowest_allowed lengths s = lowest (allowed lengths s) (length lengths)

abbrev pub lowest_blocked : List ℕ → Replay → ℕ
lowest_blocked lengths s = lowest (is_blocked s) (length lengths)

-- the lowest barrier that is set, or the number of barriers (R37)
abbrev pub lowest_set : Replay → ℕ
lowest_set s = lowest (barrier_set s) barriers

-- 6: the schedule stops while a step is allowed. 8: no step allowed, some thread blocked. 9: all finished, a barrier still set (R37).
unfoldable pub ended : List ℕ → Replay → ℕ → Told
ended lengths s steps =
    cond (ltb (lowest_allowed lengths s) (length lengths)) (tell 6 steps 0)
    (cond (ltb (lowest_blocked lengths s) (length lengths)) (tell 8 (last_run lengths s (lowest_blocked lengths s)) 0)
    (cond (ltb (lowest_set s) barriers) (tell 9 (lowest_set s) 0) (tell 0 0 0)))

-- 5 and 7, judged step by step; then 6, 8, 9 (R37, R38)
unfoldable pub judged : List ℕ → Replayed → Told
judged lengths r = or_else (numbered r.verdict) (ended lengths r.state r.steps)
