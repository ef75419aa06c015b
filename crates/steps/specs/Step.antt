-- One step runs the next command of one thread (R12, R13, R16 to R18). It is defined for every state, every two tables and every number: what a table or a list has no place for is 0 (R80).
use Rattle.std.specs.Prelude.{Bool, true, false, cond, ◌&&◌, List, ℕ, ◌+◌, ltb}
use Rattle.tables.specs.Limits.{barriers}
use Rattle.tables.specs.Rows.{name, count, registers, syncs, first_row}
use Rattle.turns.specs.Turns.{may_step}
use Rattle.barriers.specs.declared.barrier.Barrier.{Barrier}
use Rattle.barriers.specs.declared.barrier.Met.{Met}
use Rattle.barriers.specs.declared.barrier.Met.TheVariants.{Clash, Stays, Completes}
use Rattle.steps.specs.declared.state.Replay.{Replay}
use Rattle.steps.specs.declared.step.How.TheVariants.{Mismatch, Ran}
use Rattle.steps.specs.declared.step.Did.TheVariants.{NotAllowed, Took}
use Rattle.steps.specs.declared.step.Stepped.{Stepped}
use Rattle.barriers.specs.Counting.{counted}
use Rattle.barriers.specs.Barrier.{registration}
use Rattle.steps.specs.State.{ran_so_far, barrier_at, advanced, stored, blocked, freed}

-- Read and write change no barrier. An arrive or a sync registers, at a barrier that is there (R17); one that names none, which no table that passes has, runs as a read does (R80).
abbrev pub enters : List ℕ → ℕ → Bool
enters commands c = registers commands c && ltb (name commands c) barriers

-- A step is allowed if its thread exists, has a command left and isn't blocked (R16).
unfoldable pub allowed : List ℕ → Replay → ℕ → Bool
allowed lengths s t = may_step lengths s.next s.waits t

-- the next command of thread t (R17)
abbrev pub command : List ℕ → Replay → ℕ → ℕ
command lengths s t = first_row lengths t + ran_so_far s t

-- the command ran, and has this generation
abbrev pub ran : Replay → ℕ → ℕ → Stepped
ran after c generation = record { after = after; did = Took (Ran c generation) }

-- Arrive registers and goes on. Sync registers and blocks its thread (R17).
abbrev pub blocked_if : Bool → Replay → ℕ → ℕ → Replay
blocked_if true s t b = blocked s t b
blocked_if false s t b = s

-- Thread t's command has registered at barrier b, which is v then (R17).
abbrev pub entered : Replay → (t : ℕ) → Bool → (b : ℕ) → Barrier → Replay
entered s t syncs b v = blocked_if syncs (advanced (stored s b v) t) t b

-- What thread t's command c meets at barrier b. A mismatch keeps the state it met (R18). When registrations reach the count, in that same step every thread blocked
-- there is released, a sync's own thread among them (R12).
abbrev pub meeting : Replay → (t c : ℕ) → Bool → (b generation : ℕ) → Barrier → Met → Stepped
meeting s t c syncs b generation v Clash = record { after = s; did = Took (Mismatch c) }
meeting s t c syncs b generation v Stays = ran (entered s t syncs b v) c generation
meeting s t c syncs b generation v Completes = ran (freed (entered s t syncs b v) b) c generation

-- A command's generation is one more than the completed generations of its barrier when it registers (R13).
unfoldable pub registering : Replay → (t c : ℕ) → Bool → (b count : ℕ) → Stepped
registering s t c syncs b count =
    meeting s t c syncs b (counted (barrier_at s b).done) (registration (barrier_at s b) count).after (registration (barrier_at s b) count).met

-- Thread t runs its command c (R17). Reads and writes have generation 0 (R13).
unfoldable pub running : List ℕ → Replay → (t c : ℕ) → Stepped
running commands s t c =
    cond (enters commands c) (registering s t c (syncs commands c) (name commands c) (count commands c)) (ran (advanced s t) c 0)

-- Thread t steps (R17). A step that is not allowed keeps the state it met (R18).
unfoldable pub stepped : List ℕ → List ℕ → Replay → ℕ → Stepped
stepped commands lengths s t = cond (allowed lengths s t) (running commands s t (command lengths s t)) (record { after = s; did = NotAllowed })
