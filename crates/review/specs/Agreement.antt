-- What a review promises: the three demands (D1 to D3, R36, R40); and what follows from them for two reviews of one program (R64).
use Rattle.std.specs.Prelude.{◌≡◌, Bool, true, false, List, [], ◌↔◌, ◌≢◌, ℕ, ◌≤◌, ◌<◌, length, get_or, take}
use Rattle.tables.specs.Rows.{rows}
use Rattle.tables.specs.Over.{over}
use Rattle.verdicts.specs.Verdicts.{tell, numbered}
use Rattle.verdicts.specs.Numbers.{has_pairs, fills, is_verdict, settles, disagrees}
use Rattle.relation.specs.Bits.{Words}
use Rattle.relation.specs.Table.{words}
use Rattle.findings.specs.declared.finding.Finding.{Finding}
use Rattle.steps.specs.Going.{played}
use Rattle.happens.specs.HappensBefore.{Reached}
use Rattle.sheet.specs.Sheet.{sheet_of}
use Rattle.faults.specs.Faults.{conflict}
use Rattle.rooms.specs.Refusals.{review_refusal}
use Rattle.findings.specs.Findings.{fault_pairs}
use Rattle.review.specs.Judge.{generations_by, TellsReach, verdict_by, reaches}
use Rattle.replay.specs.Schedules.{Complete, Agree, InOneOrder, Disagree}

-- the number of a review's verdict
abbrev pub number : Finding → ℕ
number r = (numbered r.verdict).number

-- A verdict for every input (D1). Unless it is 10 or 11, the sheet is empty (R36); unless it is 0, 10 or 11, the lent rooms keep every number they held (R40); beyond
-- what they are filled with they keep it always.
pub record Safe (commands relation generations : List ℕ) (r : Finding) (relation' generations' : List ℕ) : Type 0 where
  pub verdict : is_verdict (number r) ≡ true
  pub empty : has_pairs (number r) ≡ false → r.sheet ≡ sheet_of []
  pub relation_kept : fills (number r) ≡ false → relation' ≡ relation
  pub generations_kept : fills (number r) ≡ false → generations' ≡ generations
  pub relation_beyond : (p : ℕ) → words (rows commands) ≤ p → get_or relation' p 0 ≡ get_or relation p 0
  pub generations_beyond : (p : ℕ) → rows commands ≤ p → get_or generations' p 0 ≡ get_or generations p 0

-- The verdict with its place, the pairs, their order and their total, every bit of happens-before, and each generation are those
-- of the definitions (D2), for every table that tells what reaches what; there is one (`RoundsTell`). The rooms are filled with them (R40).
pub record Exact (commands lengths schedule relation generations : List ℕ) (r : Finding) (relation' generations' : List ℕ) : Type 0 where
  pub verdict : (ρ : ℕ → ℕ → Bool) → TellsReach commands lengths schedule ρ
      → numbered r.verdict ≡ verdict_by commands lengths schedule ρ (length relation) (length generations)
  pub sheet : (ρ : ℕ → ℕ → Bool) → TellsReach commands lengths schedule ρ → fills (number r) ≡ true
      → r.sheet ≡ sheet_of (fault_pairs commands lengths (generations_by commands lengths schedule) ρ)
  pub relation_holds : fills (number r) ≡ true → Reached commands lengths (generations_by commands lengths schedule) relation relation'
  pub generations_hold : fills (number r) ≡ true → generations' ≡ over (take (rows commands) (played commands lengths schedule).generations) generations

-- The table of Warshall's rounds tells what reaches what (D2, R26).
abbrev pub RoundsTell : Type 0
RoundsTell = (commands lengths schedule : List ℕ) → TellsReach commands lengths schedule (reaches commands lengths schedule)

-- Every two conflicting accesses stand in the same order in all legal complete schedules (D3).
abbrev pub SameOrder : List ℕ → List ℕ → Type 0
SameOrder commands lengths =
    (x y : ℕ) → x < rows commands → y < rows commands → x ≢ y → conflict commands x y ≡ true → InOneOrder commands lengths x y

-- Of a verdict's number: 0 or 11 exactly when the schedule offered is legal and complete and every legal complete schedule ends
-- clean with the same generation for each command; 0 exactly when, besides, every two conflicting accesses stand in the same order in all of
-- those schedules; 7 to 10 only where that agreement fails, and the schedules that show it are given (D3).
pub record Judges (commands lengths schedule : List ℕ) (n : ℕ) : Type 0 where
  pub agreement : (settles n ≡ true) ↔ (Complete commands lengths schedule × Agree commands lengths)
  pub order : (n ≡ 0) ↔ (Complete commands lengths schedule × Agree commands lengths × SameOrder commands lengths)
  pub disagreement : disagrees n ≡ true → Disagree commands lengths

-- The contract of `review` (D1 to D3). The third holds for tables and rooms that pass refusals 1 to 4.
pub record Reviewed (commands lengths schedule relation generations : List ℕ) (r : Finding) (relation' generations' : List ℕ) : Type 0 where
  pub demand₁ : Safe commands relation generations r relation' generations'
  pub demand₂ : Exact commands lengths schedule relation generations r relation' generations'
  pub demand₃ : review_refusal commands lengths (length relation) (length generations) ≡ tell 0 0 0 → Judges commands lengths schedule (number r)

-- ---- one program, one file (R64, 2026-10)

-- A review of a program: the schedule that was offered, the rooms as they were lent, what was found, and the rooms as they were given back, that of the
-- relation with words of 32 bits in it.
pub record Review (commands lengths : List ℕ) : Type 0 where
  pub schedule : List ℕ
  pub relation : List ℕ
  pub generations : List ℕ
  pub found : Finding
  pub relation' : List ℕ
  pub generations' : List ℕ
  pub meets : Reviewed commands lengths schedule relation generations found relation' generations'
  pub room_of_words : Words relation'

-- Two of them leave one file: the same verdict with its places, the same sheet with its total, the same words of the relation, M × ⌈M/32⌉, and the same M
-- generations (R64). Beyond these each room is its owner's, and keeps what it held (`relation_beyond`, `generations_beyond` of Safe).
pub record SameFile {commands lengths : List ℕ} (a b : Review commands lengths) : Type 0 where
  pub verdict : numbered a.found.verdict ≡ numbered b.found.verdict
  pub sheet : a.found.sheet ≡ b.found.sheet
  pub relation : (p : ℕ) → p < words (rows commands) → get_or a.relation' p 0 ≡ get_or b.relation' p 0
  pub generations : (c : ℕ) → c < rows commands → get_or a.generations' c 0 ≡ get_or b.generations' c 0

-- its tables and rooms passed refusals 1 to 4
abbrev pub Unrefused : {commands lengths : List ℕ} → Review commands lengths → Type 0
Unrefused {commands} {lengths} r = review_refusal commands lengths (length r.relation) (length r.generations) ≡ tell 0 0 0

module _ (commands lengths : List ℕ) where
  -- Any two reviews of one program that both end in 0 or 11 leave one file, whatever schedules they were offered and whatever rooms they were lent (R64).
  -- Excepted is what hangs on the schedule offered, or may:
  --   verdict 10: which commands meet in a generation, and so which pairs are at fault (`TenDiffers` of Examples: one program, two files);
  --   evidence (2026-04): for 10 it speaks against the schedule offered, and for 11 any schedules will do that show the race;
  --   the sets of 2026-06: who is let go, and when.
  abbrev pub OneFile : Type 0
  OneFile = (a b : Review commands lengths) → settles (number a.found) ≡ true → settles (number b.found) ≡ true → SameFile a b

  -- And one such review speaks for all: who offers any legal and complete schedule, with rooms that pass, ends with its file (R64).
  abbrev pub OneForAll : Type 0
  OneForAll = (a b : Review commands lengths) → settles (number a.found) ≡ true → Complete commands lengths b.schedule → Unrefused b → SameFile a b
