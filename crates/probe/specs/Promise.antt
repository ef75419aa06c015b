-- What the doors promise (R84). Each has one answer only (proofs/Unique). At exit a room has a prime.
use Rattle.std.specs.Prelude.{◌≡◌, cond, List, ℕ, ◌≤◌, ◌<◌, leb, length, Result}
use Rattle.verdicts.specs.Verdicts.{result_told}
use Rattle.verdicts.specs.declared.Refusal.{Refusal}
use Rattle.relation.specs.Chains.{Chain}
use Rattle.relation.specs.Table as table
use Rattle.relation.specs.Table.{words, Related}
use Rattle.tables.specs.Over.{over}
use Rattle.notation.specs.Reading.{Reading, answered}
use Rattle.notation.specs.Promise.{Read}
use Rattle.replay.specs.Doors.{WritesSchedule}
use Rattle.review.specs.Agreement.{number}
use Rattle.evidence.specs.declared.door.Evidence.{Evidence}
use Rattle.evidence.specs.Doors.{Evidenced}
use Rattle.kernels.specs.declared.kernel.KernelRefusal.{KernelRefusal}
use Rattle.runs.specs.declared.Course.{Course}
use Rattle.runs.specs.Run.{RunsKernel}
use Rattle.probe.specs.Numbers.{answer_room, review_numbers, written_numbers, reading_numbers, run_told, warp_numbers}

-- The contract of `probe_review` (R84).
pub record ProbesReview (commands lengths schedule relation generations evidence answer relation' generations' evidence' answer' : List ℕ) (n : ℕ) : Type 0 where
  -- 14: a short answer room; nothing is touched
  pub refuses : length answer < answer_room
      → (n ≡ 14) × (relation' ≡ relation) × (generations' ≡ generations) × (evidence' ≡ evidence) × (answer' ≡ answer)
  -- else what the review with evidence answers, of which its own promise leaves no choice; numbers after those are kept
  pub found : answer_room ≤ length answer
      → (r : Evidence) × Evidenced commands lengths schedule relation generations evidence r relation' generations' evidence'
      × (n ≡ number r.finding) × (answer' ≡ over (review_numbers r) answer)

-- The contract of `probe_schedule` (R84).
pub record ProbesSchedule (commands lengths room answer room' answer' : List ℕ) (n : ℕ) : Type 0 where
  pub refuses : length answer < answer_room → (n ≡ 14) × (room' ≡ room) × (answer' ≡ answer)
  pub wrote : answer_room ≤ length answer → (r : Result ℕ Refusal) × WritesSchedule commands lengths room room' r × (n ≡ (result_told r).number) × (answer' ≡ over (written_numbers r) answer)

-- The contract of `probe_read` (R84).
pub record ProbesRead (text commands lengths answer commands' lengths' answer' : List ℕ) (n : ℕ) : Type 0 where
  pub refuses : length answer < answer_room → (n ≡ 14) × (commands' ≡ commands) × (lengths' ≡ lengths) × (answer' ≡ answer)
  pub read : answer_room ≤ length answer → (r : Reading) × Read text commands lengths commands' lengths' r × (n ≡ (answered r).told.number) × (answer' ≡ over (reading_numbers r (length text)) answer)

-- The contract of `probe_close`: 1 where there is room for the table, which is then closed under chains, and 0 where there is none (R84).
pub record ProbesClose (relation : List ℕ) (m : ℕ) (relation' : List ℕ) (n : ℕ) : Type 0 where
  pub answers : n ≡ cond (leb (words m) (length relation)) 1 0
  pub closed : table.Writes (Chain (Related relation m)) relation relation' m (leb (words m) (length relation))

-- The contract of `probe_warp`: what `run_kernel` answers, of which its own promise leaves no choice (R84).
pub record ProbesWarp (statements expressions : List ℕ) (lanes steps : ℕ) (cells answer cells' answer' : List ℕ) (n : ℕ) : Type 0 where
  pub refuses : length answer < answer_room → (n ≡ 14) × (cells' ≡ cells) × (answer' ≡ answer)
  pub ran : answer_room ≤ length answer → (r : Result Course KernelRefusal) × RunsKernel statements expressions lanes steps cells cells' r × (n ≡ (run_told r).told.number) × (answer' ≡ over (warp_numbers r) answer)
