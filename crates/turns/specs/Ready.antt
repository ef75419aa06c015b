-- The sets that a schedule writer keeps, so that no thread need be looked at twice (R24, R62).
use Rattle.std.specs.Prelude.{Bool, cond, not, ◌&&◌, List, Option, ℕ, zero, suc, eqb}
use Rattle.tables.specs.Limits.{most_threads}
use Rattle.tables.specs.Lowest.{if_below}
use Rattle.sets.specs.declared.Set.{Set}
use Rattle.sets.specs.Set.{none, put, has_but}
use Rattle.turns.specs.declared.ready.Ready.{Ready}
use Rattle.turns.specs.Turns.{held, has_any_left, does_go_first, lowest_or}

-- no thread is looked at
abbrev pub none_ready : Ready
none_ready = record { left = none; first = none }

-- thread t is looked at, which has run n commands and of which x is the next
unfoldable pub looked : List ℕ → List Bool → Ready → (t n x : ℕ) → Ready
looked lengths early r t n x =
    record { left = put r.left t (has_any_left lengths t n); first = put r.first t (has_any_left lengths t n && does_go_first early x) }

-- the threads below k that are blocked
unfoldable pub held_below : List ℕ → (k : ℕ) → Set
held_below waits zero = none
held_below waits (suc k) = put (held_below waits k) k (held waits k)

-- of so many threads those who are blocked after thread t came to wait for `wait` and those were released who waited for `frees`
abbrev pub held_after : List ℕ → (threads t wait frees : ℕ) → Set → Set
held_after waits threads t wait frees blocked = cond (eqb frees 0) (put blocked t (not (eqb wait 0))) (held_below waits threads)

-- the lowest thread that is not blocked and goes first, or else the lowest that is not blocked and has a command left (R24, R62)
abbrev pub chosen : Ready → Set → Option ℕ
chosen r blocked = if_below most_threads (lowest_or (has_but r.first blocked) (has_but r.left blocked) most_threads)
