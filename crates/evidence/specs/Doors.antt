-- What a review with evidence promises (D1, R58 to R61).
use Rattle.std.specs.Prelude.{◌≡◌, ◌≢◌, false, List, [], ◌∷◌, ◌++◌, ℕ, ◌+◌, ◌*◌, ◌≤◌, ◌<◌, length, get_or, take, drop}
use Rattle.tables.specs.Rows.{rows}
use Rattle.rules.specs.Rules.{checked}
use Rattle.verdicts.specs.Verdicts.{numbered}
use Rattle.verdicts.specs.Numbers.{has_pairs}
use Rattle.verdicts.specs.declared.Told.{Told}
use Rattle.sheet.specs.declared.Pair.{Pair}
use Rattle.sheet.specs.Sheet.{pair, sheet_of, kept_pairs}
use Rattle.verdicts.specs.FirstTold.{or_else}
use Rattle.steps.specs.Writing.{FilledBy}
use Rattle.rooms.specs.declared.short.Room.{Room}
use Rattle.rooms.specs.Short.{room_of, first_short}
use Rattle.rooms.specs.Refusals.{review_rooms, review_refusal}
use Rattle.review.specs.Judge.{reaches}
use Rattle.review.specs.Agreement.{number, Reviewed}
use Rattle.evidence.specs.declared.door.Evidence.{Evidence}
use Rattle.evidence.specs.Evidence.{Disputes, HasBefore, evidence_room, evidence_of}

-- the rooms of a review with evidence, the lowest digit first: those of a review, and 4 the evidence room (R39)
abbrev pub evidence_rooms : (m relation_length generation_length given : ℕ) → List Room
evidence_rooms m relation_length generation_length given = review_rooms m relation_length generation_length ++ room_of 4 (evidence_room m) given ∷ []

-- 1 to 4, of tables and the lengths of the three rooms (R58)
unfoldable pub evidence_refusal : List ℕ → List ℕ → (relation_length generation_length given : ℕ) → Told
evidence_refusal commands lengths relation_length generation_length given =
    or_else (checked commands lengths) (first_short (evidence_rooms (rows commands) relation_length generation_length given))

-- the same of three rooms that are lent (R58)
abbrev pub refusal_of : (commands lengths relation generations room : List ℕ) → Told
refusal_of commands lengths relation generations room = evidence_refusal commands lengths (length relation) (length generations) (length room)

-- the i-th of schedules of m entries each that stand end to end (R60)
abbrev pub schedule_at : ℕ → ℕ → List ℕ → List ℕ
schedule_at m i room = take m (drop (i * m) room)

-- The k-th pair's two schedules, x first before y first (R60).
pub record Opposes (commands lengths room : List ℕ) (k : ℕ) (p : Pair) : Type 0 where
  pub x_first : HasBefore commands lengths p.first p.second (schedule_at (rows commands) (k * 2) room)
  pub y_first : HasBefore commands lengths p.second p.first (schedule_at (rows commands) (k * 2 + 1) room)

-- What stands in the evidence room, of tables and rooms that pass.
pub record HoldsEvidence (commands lengths schedule room : List ℕ) (r : Evidence) (room' : List ℕ) : Type 0 where
  -- the schedules, from the front, end to end; the answer says how many entries; the rest of the room is kept (R61)
  pub written : FilledBy (evidence_of commands lengths (reaches commands lengths schedule) (number r.finding) r.finding.sheet) room room' r.entries
  -- 10: a second schedule, of as many entries as are told (R59)
  pub disputes : number r.finding ≡ 10 → Disputes commands lengths schedule (take r.entries room')
  -- 11: for each pair kept two schedules of M entries each, in opposite orders (R60)
  pub opposes : number r.finding ≡ 11 → (k : ℕ) → k < length (kept_pairs r.finding.sheet)
      → Opposes commands lengths room' k (get_or (kept_pairs r.finding.sheet) k (pair 0 0))
  pub count : number r.finding ≡ 11 → r.entries ≡ length (kept_pairs r.finding.sheet) * rows commands * 2
  -- other verdicts write nothing (R61)
  pub nothing : has_pairs (number r.finding) ≡ false → (r.entries ≡ 0) × (room' ≡ room)

-- Tables and rooms pass.
pub record Admissible (commands lengths relation generations room : List ℕ) : Type 0 where
  pub admitted : (review_refusal commands lengths (length relation) (length generations)).number ≡ 0
  pub fits : evidence_room (rows commands) ≤ length room

-- Nothing was done (D1, R58).
pub record Untouched (relation generations room : List ℕ) (r : Evidence) (relation' generations' room' : List ℕ) : Type 0 where
  pub sheet : r.finding.sheet ≡ sheet_of []
  pub entries : r.entries ≡ 0
  pub relation_kept : relation' ≡ relation
  pub generations_kept : generations' ≡ generations
  pub room_kept : room' ≡ room

-- The contract of `review_evidence`: 1 to 4 with nothing done; or the review as it is without evidence, and the evidence (R58).
pub record Evidenced (commands lengths schedule relation generations room : List ℕ) (r : Evidence) (relation' generations' room' : List ℕ) : Type 0 where
  pub refused : (refusal_of commands lengths relation generations room).number ≢ 0
      → (numbered r.finding.verdict ≡ refusal_of commands lengths relation generations room) × Untouched relation generations room r relation' generations' room'
  pub reviewed : (refusal_of commands lengths relation generations room).number ≡ 0
      → Reviewed commands lengths schedule relation generations r.finding relation' generations'
  pub holds : (refusal_of commands lengths relation generations room).number ≡ 0 → HoldsEvidence commands lengths schedule room r room'
