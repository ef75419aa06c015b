-- Whose turn it is. Of each thread two lists say how many commands it has run (next), and what it waits for (waits): 0, or the barrier plus 1. A number past the limit is no thread (R12, R16, R19, R80).
use Rattle.std.specs.Prelude.{Bool, false, cond, not, ◌&&◌, List, map, ℕ, eqb, ltb, length, get_or, set}
use Rattle.tables.specs.Limits.{most_threads}
use Rattle.tables.specs.Lowest.{lowest}

-- ---- who waits

-- thread t is blocked (R19); a number past the limit is no thread (R80)
unfoldable pub held : List ℕ → ℕ → Bool
held waits t = ltb t most_threads && not (eqb (get_or waits t 0) 0)

-- every thread that waits for w is released (R12)
abbrev pub let_go_of : ℕ → ℕ → ℕ
let_go_of w waits = cond (eqb waits w) 0 waits

abbrev pub released : ℕ → List ℕ → List ℕ
released w = map (let_go_of w)

-- thread t waits for `wait` (R17), and then those are released who wait for `frees` (R12); nobody is where that is 0
abbrev pub settled : (t wait frees : ℕ) → List ℕ → List ℕ
settled t wait frees waits = released frees (set waits t wait)

-- ---- who may step

-- thread t exists, which no number past the limit does (R80), and has a command left after n of them (R16)
unfoldable pub has_any_left : List ℕ → (t n : ℕ) → Bool
has_any_left lengths t n = ltb t most_threads && (ltb t (length lengths) && ltb n (get_or lengths t 0))

-- A step is allowed if its thread exists, has a command left and isn't blocked: thread t, which has run n commands and waits for `wait` (R16).
abbrev pub may_go : List ℕ → (t n wait : ℕ) → Bool
may_go lengths t n wait = has_any_left lengths t n && eqb wait 0

-- the same, of the two lists (R16)
unfoldable pub may_step : List ℕ → List ℕ → List ℕ → ℕ → Bool
may_step lengths next waits t = may_go lengths t (get_or next t 0) (get_or waits t 0)

-- ---- who goes first

-- a command goes first where a list says so; a list that is too short says no
abbrev pub does_go_first : List Bool → ℕ → Bool
does_go_first early x = get_or early x false

-- the lowest number below n that passes p, or else the lowest that passes q, or n
abbrev pub lowest_or : (p q : ℕ → Bool) → ℕ → ℕ
lowest_or p q n = cond (ltb (lowest p n) n) (lowest p n) (lowest q n)
