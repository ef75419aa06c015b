-- What the parts ask for and pass on; nothing public speaks of it.
use Rattle.std.specs.Prelude.{◌≡◌, ⊤, IfSome, Bool, cond, List, Option, None, Some, ℕ, ◌+◌, ◌<◌, length, get_or, set}
use Rattle.tables.specs.Limits.{barriers}
use Rattle.tables.specs.Lowest.{lowest}
use Rattle.tables.specs.Rows.{name, count, first_row, syncs}
use Rattle.turns.specs.Turns.{settled, may_go}
use Rattle.barriers.specs.declared.barrier.Barrier.{Barrier}
use Rattle.barriers.specs.declared.barrier.Met.{Met}
use Rattle.barriers.specs.declared.barrier.Met.TheVariants.{Clash, Stays, Completes}
use Rattle.steps.specs.declared.change.Change.{Change}
use Rattle.steps.specs.declared.change.Entered.{Entered}
use Rattle.steps.specs.declared.row.Entrant.{Entrant}
use Rattle.steps.specs.declared.row.Row.{Row}
use Rattle.steps.specs.declared.row.Row.TheVariants as row
use Rattle.steps.specs.declared.row.Row.TheVariants.{Passes, Enters}
use Rattle.steps.specs.declared.state.Replay.{Replay}
use Rattle.steps.specs.declared.step.How.TheVariants.{Mismatch, Ran}
use Rattle.steps.specs.declared.step.Did.{Did}
use Rattle.steps.specs.declared.step.Did.TheVariants as did
use Rattle.steps.specs.declared.step.Did.TheVariants.{Took}
use Rattle.barriers.specs.Counting.{counted}
use Rattle.barriers.specs.Barrier.{unset, registration}
use Rattle.steps.specs.State.{ran_so_far, waiting}
use Rattle.steps.specs.Step.{enters}
use Rattle.steps.specs.Writing.{picked}

-- ---- what a step changes: three numbers of the state, and at most one barrier; each function that makes steps stores just that

-- row c as a step needs it
unfoldable pub row_at : List ℕ → ℕ → Row
row_at commands c =
    cond (enters commands c)
    (Enters (record { command = c; barrier = name commands c; count = count commands c; syncs = syncs commands c }))
    (Passes c)

-- the row of thread t, if it may step: its rows begin at `first`, it has run n of them and waits for `wait`
unfoldable pub row_of_thread : List ℕ → List ℕ → (t first n wait : ℕ) → Row
row_of_thread commands lengths t first n wait = cond (may_go lengths t n wait) (row_at commands (first + n)) row.NotAllowed

-- the barrier that a row enters, if any, is there
abbrev pub KnownRow : Row → Type 0
KnownRow row.NotAllowed = ⊤
KnownRow (Passes c) = ⊤
KnownRow (Enters e) = e.barrier < barriers

-- what a sync waits for at barrier b
abbrev pub wait_of : Bool → ℕ → ℕ
wait_of syncs b = cond syncs (b + 1) 0

-- nobody waits, nobody is released, and no barrier is entered
abbrev pub still : Did → Change
still did = record { did = did; wait = 0; frees = 0; entered = None }

-- by what is met
abbrev pub changing : Entrant → (generation : ℕ) → Barrier → Met → Change
changing e generation v Clash = still (Took (Mismatch e.command))
changing e generation v Stays =
    record { did = Took (Ran e.command generation); wait = wait_of e.syncs e.barrier; frees = 0; entered = Some (record { barrier = e.barrier; after = v }) }
changing e generation v Completes =
    record { did = Took (Ran e.command generation); wait = wait_of e.syncs e.barrier; frees = e.barrier + 1; entered = Some (record { barrier = e.barrier; after = v }) }

-- what a command changes that enters its barrier, which is v
unfoldable pub entering : Entrant → Barrier → Change
entering e v = changing e (counted v.done) (registration v e.count).after (registration v e.count).met

-- what a row changes, where these are the barriers
abbrev pub changed : Row → List Barrier → Change
changed row.NotAllowed bs = still did.NotAllowed
changed (Passes c) bs = still (Took (Ran c 0))
changed (Enters e) bs = entering e (get_or bs e.barrier (unset 0))

-- the barrier that a change enters, if any, is there
abbrev pub KnownChange : Change → Type 0
KnownChange d = IfSome d.entered (λ (x : Entered). x.barrier < barriers)

module _ (commands lengths : List ℕ) (s : Replay) (t : ℕ) where
  -- the row of thread t's step, and what it changes
  abbrev pub step_row : Row
  step_row = row_of_thread commands lengths t (first_row lengths t) (ran_so_far s t) (waiting s t)

  abbrev pub step_change : Change
  step_change = changed step_row s.barriers

  -- it is found
  pub record Found (made : Change) : Type 0 where
    pub change_is : made ≡ step_change
    pub known : KnownChange made

-- the barriers, where that one was entered
abbrev pub placed : Option Entered → List Barrier → List Barrier
placed None bs = bs
placed (Some x) bs = set bs x.barrier x.after

-- the state with that change made, of thread t
abbrev pub applied : Replay → (t : ℕ) → Change → Replay
applied s t d =
    record { next = set s.next t (ran_so_far s t + 1); waits = settled t d.wait d.frees s.waits; barriers = placed d.entered s.barriers }

-- ---- where threads begin

-- no thread begins so far on: sums below it can be made without a test
abbrev pub far : ℕ
far = 17592186044416

-- the first rows of the threads below n, none of which is large
pub record FirstRows (lengths : List ℕ) (n : ℕ) (firsts : List ℕ) : Type 0 where
  pub each : (t : ℕ) → t < n → get_or firsts t 0 ≡ first_row lengths t
  pub small : (t : ℕ) → get_or firsts t 0 < far

-- ---- who goes first

-- the lowest thread that may step and whose next command goes first, or the number of threads
abbrev pub lowest_picked : (ℕ → Bool) → List ℕ → Replay → ℕ
lowest_picked early lengths s = lowest (picked early lengths s) (length lengths)
