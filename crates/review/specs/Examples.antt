-- The starred examples, as the requests have changed them: one table, and the one test that each of its rows is to pass (R78).
use Rattle.std.specs.Prelude.{◌≡◌, Bool, true, false, cond, ◌&&◌, List, [], ◌∷◌, ◌++◌, ℕ, zero, suc, ◌+◌, ◌*◌, ◌^◌, eqb, take}
use Rattle.tables.specs.Rows.{rows}
use Rattle.verdicts.specs.Verdicts.{tell}
use Rattle.verdicts.specs.Numbers.{fills}
use Rattle.verdicts.specs.declared.Told.{Told}
use Rattle.relation.specs.Table.{words}
use Rattle.schedules.specs.Tally.{bit}
use Rattle.sheet.specs.declared.Pair.{Pair}
use Rattle.steps.specs.Going.{played}
use Rattle.sheet.specs.Sheet.{pair, sheet_of}
use Rattle.findings.specs.Findings.{fault_pairs}
use Rattle.review.specs.Judge.{verdict_of, generations_by, reaches}
use Rattle.review.specs.Agreement.{number, Review, SameFile, Unrefused}

-- ---- the table

-- numbers that the rules give for an example, or do not
pub data Given : Type 0 where
  given : List ℕ → Given
  unsaid : Given

-- A program and a schedule, and what the rules say of them: the verdict with its place, the pairs in their order (none outside 10 and 11),
-- their total, the generation of each command, and happens-before, one word a command.
pub record Example : Type 0 where
  pub commands : List ℕ
  pub lengths : List ℕ
  pub schedule : List ℕ
  pub verdict : Told
  pub pairs : List Pair
  pub total : ℕ
  pub generations : Given
  pub relation : Given

abbrev pub example : (commands lengths schedule : List ℕ) → Told → List Pair → ℕ → (generations relation : Given) → Example
example commands lengths schedule verdict pairs total generations relation =
    record {
      commands = commands;
      lengths = lengths;
      schedule = schedule;
      verdict = verdict;
      pairs = pairs;
      total = total;
      generations = generations;
      relation = relation;
    }

-- the tables of C: four syncs, and a thread for each
abbrev pub four_syncs : List ℕ
four_syncs = 3 ∷ 0 ∷ 2 ∷ 3 ∷ 0 ∷ 2 ∷ 3 ∷ 0 ∷ 2 ∷ 3 ∷ 0 ∷ 2 ∷ []

abbrev pub one_each : List ℕ
one_each = 1 ∷ 1 ∷ 1 ∷ 1 ∷ []

-- The examples (R78). A row of commands is kind, name, count. Kind 0 read, 1 write, 2 arrive, 3 sync; reads and writes have count 0 (R2, R4).
unfoldable pub examples : List Example
examples =
    -- A: write 7; arrive 0 2 || sync 0 2; read 7, schedule 0 0 1 1: verdict 0, generations 0 1 1 0, relation words 15 14 12 8
    example (1 ∷ 7 ∷ 0 ∷ 2 ∷ 0 ∷ 2 ∷ 3 ∷ 0 ∷ 2 ∷ 0 ∷ 7 ∷ 0 ∷ []) (2 ∷ 2 ∷ []) (0 ∷ 0 ∷ 1 ∷ 1 ∷ [])
    (tell 0 0 0) [] 0 (given (0 ∷ 1 ∷ 1 ∷ 0 ∷ [])) (given (15 ∷ 14 ∷ 12 ∷ 8 ∷ []))
    -- A by another schedule, 1 0 0 1: the same file (2026-10)
    ∷ example (1 ∷ 7 ∷ 0 ∷ 2 ∷ 0 ∷ 2 ∷ 3 ∷ 0 ∷ 2 ∷ 0 ∷ 7 ∷ 0 ∷ []) (2 ∷ 2 ∷ []) (1 ∷ 0 ∷ 0 ∷ 1 ∷ [])
    (tell 0 0 0) [] 0 (given (0 ∷ 1 ∷ 1 ∷ 0 ∷ [])) (given (15 ∷ 14 ∷ 12 ∷ 8 ∷ []))
    -- A2: as A, schedule 1 1: 5, place 1
    ∷ example (1 ∷ 7 ∷ 0 ∷ 2 ∷ 0 ∷ 2 ∷ 3 ∷ 0 ∷ 2 ∷ 0 ∷ 7 ∷ 0 ∷ []) (2 ∷ 2 ∷ []) (1 ∷ 1 ∷ [])
    (tell 5 1 0) [] 0 unsaid unsaid
    -- B: arrive 0 2; write 7 || read 7; sync 0 2, schedule 0 0 1 1: 11, pair 1 2, total 1
    ∷ example (2 ∷ 0 ∷ 2 ∷ 1 ∷ 7 ∷ 0 ∷ 0 ∷ 7 ∷ 0 ∷ 3 ∷ 0 ∷ 2 ∷ []) (2 ∷ 2 ∷ []) (0 ∷ 0 ∷ 1 ∷ 1 ∷ [])
    (tell 11 1 2) (pair 1 2 ∷ []) 1 unsaid unsaid
    -- B by another schedule, 1 0 0 1: the same file (2026-10)
    ∷ example (2 ∷ 0 ∷ 2 ∷ 1 ∷ 7 ∷ 0 ∷ 0 ∷ 7 ∷ 0 ∷ 3 ∷ 0 ∷ 2 ∷ []) (2 ∷ 2 ∷ []) (1 ∷ 0 ∷ 0 ∷ 1 ∷ [])
    (tell 11 1 2) (pair 1 2 ∷ []) 1 unsaid unsaid
    -- C: sync 0 2 || sync 0 2 || sync 0 2 || sync 0 2, schedule 0 1 2 3: 10, place 0 2, total 4, pairs 0 2, 1 2, 0 3, 1 3
    ∷ example four_syncs one_each (0 ∷ 1 ∷ 2 ∷ 3 ∷ [])
    (tell 10 0 2) (pair 0 2 ∷ pair 1 2 ∷ pair 0 3 ∷ pair 1 3 ∷ []) 4 unsaid unsaid
    -- C by another schedule, 0 2 1 3: 10 again, and another file, since others meet first (2026-10)
    ∷ example four_syncs one_each (0 ∷ 2 ∷ 1 ∷ 3 ∷ [])
    (tell 10 0 1) (pair 0 1 ∷ pair 2 1 ∷ pair 0 3 ∷ pair 2 3 ∷ []) 4 unsaid unsaid
    -- D: arrive 0 2 || arrive 0 2 || arrive 0 2 || arrive 0 2, schedule 0 1 2 3: the same as C
    ∷ example (2 ∷ 0 ∷ 2 ∷ 2 ∷ 0 ∷ 2 ∷ 2 ∷ 0 ∷ 2 ∷ 2 ∷ 0 ∷ 2 ∷ []) one_each (0 ∷ 1 ∷ 2 ∷ 3 ∷ [])
    (tell 10 0 2) (pair 0 2 ∷ pair 1 2 ∷ pair 0 3 ∷ pair 1 3 ∷ []) 4 unsaid unsaid
    -- E: sync 0 2 || (second thread empty), schedule 0: 8, command 0
    ∷ example (3 ∷ 0 ∷ 2 ∷ []) (1 ∷ 0 ∷ []) (0 ∷ []) (tell 8 0 0) [] 0 unsaid unsaid
    -- F, by 2026-02: arrive 0 2 || (second thread empty), schedule 0: 9, barrier 0
    ∷ example (2 ∷ 0 ∷ 2 ∷ []) (1 ∷ 0 ∷ []) (0 ∷ []) (tell 9 0 0) [] 0 unsaid unsaid
    -- F without the empty thread: a count one above the threads, 3, command 0
    ∷ example (2 ∷ 0 ∷ 2 ∷ []) (1 ∷ []) (0 ∷ []) (tell 3 0 0) [] 0 unsaid unsaid
    -- G, by 2026-02: arrive 0 2 || sync 0 3 || (third thread empty), schedule 0 1: 7, command 1
    ∷ example (2 ∷ 0 ∷ 2 ∷ 3 ∷ 0 ∷ 3 ∷ []) (1 ∷ 1 ∷ 0 ∷ []) (0 ∷ 1 ∷ []) (tell 7 1 0) [] 0 unsaid unsaid
    -- G, schedule 1 0: 7, command 0
    ∷ example (2 ∷ 0 ∷ 2 ∷ 3 ∷ 0 ∷ 3 ∷ []) (1 ∷ 1 ∷ 0 ∷ []) (1 ∷ 0 ∷ []) (tell 7 0 0) [] 0 unsaid unsaid
    -- G without the empty thread: the first row passes with a count equal to the threads, the second is 3, command 1
    ∷ example (2 ∷ 0 ∷ 2 ∷ 3 ∷ 0 ∷ 3 ∷ []) (1 ∷ 1 ∷ []) (0 ∷ 1 ∷ []) (tell 3 1 0) [] 0 unsaid unsaid
    -- H: sync 0 1; sync 0 1, schedule 0 0: 0, generations 1 2, relation 3 2
    ∷ example (3 ∷ 0 ∷ 1 ∷ 3 ∷ 0 ∷ 1 ∷ []) (2 ∷ []) (0 ∷ 0 ∷ []) (tell 0 0 0) [] 0 (given (1 ∷ 2 ∷ [])) (given (3 ∷ 2 ∷ []))
    -- J: sync 0 2 || sync 0 2; arrive 0 2 || sync 0 2, schedule 0 1 1 2: 10, pairs 0 3 and 1 3
    ∷ example (3 ∷ 0 ∷ 2 ∷ 3 ∷ 0 ∷ 2 ∷ 2 ∷ 0 ∷ 2 ∷ 3 ∷ 0 ∷ 2 ∷ []) (1 ∷ 2 ∷ 1 ∷ []) (0 ∷ 1 ∷ 1 ∷ 2 ∷ [])
    (tell 10 0 3) (pair 0 3 ∷ pair 1 3 ∷ []) 2 unsaid unsaid
    -- J2: as J, schedule 0 2 1: 8, command 1
    ∷ example (3 ∷ 0 ∷ 2 ∷ 3 ∷ 0 ∷ 2 ∷ 2 ∷ 0 ∷ 2 ∷ 3 ∷ 0 ∷ 2 ∷ []) (1 ∷ 2 ∷ 1 ∷ []) (0 ∷ 2 ∷ 1 ∷ [])
    (tell 8 1 0) [] 0 unsaid unsaid
    -- K: one thread, no commands, no steps: 0
    ∷ example [] (0 ∷ []) [] (tell 0 0 0) [] 0 unsaid unsaid
    -- L (unstarred), by 2026-02: arrive 0 2; arrive 0 2 || (second thread empty), schedule 0 0: 0, since one thread is counted twice (R14)
    ∷ example (2 ∷ 0 ∷ 2 ∷ 2 ∷ 0 ∷ 2 ∷ []) (2 ∷ 0 ∷ []) (0 ∷ 0 ∷ []) (tell 0 0 0) [] 0 unsaid unsaid
    ∷ []

-- ---- the test

module _ {A : Type 0} where
  -- every one passes
  unfoldable pub all : (A → Bool) → List A → Bool
  all p [] = true
  all p (x ∷ xs) = p x && all p xs

  -- two lists are equally long and the same in each place
  unfoldable pub same : (A → A → Bool) → List A → List A → Bool
  same p [] [] = true
  same p [] (y ∷ ys) = false
  same p (x ∷ xs) [] = false
  same p (x ∷ xs) (y ∷ ys) = p x y && same p xs ys

abbrev pub same_told : Told → Told → Bool
same_told a b = eqb a.number b.number && (eqb a.place b.place && eqb a.also b.also)

abbrev pub same_pair : Pair → Pair → Bool
same_pair p q = eqb p.first q.first && eqb p.second q.second

-- nothing is asked where nothing is said
abbrev pub as_given : List ℕ → Given → Bool
as_given found (given numbers) = same eqb found numbers
as_given found unsaid = true

-- the word with bit j set exactly when j passes, for j below m: the whole row of happens-before, as no example has more than 32 commands
unfoldable pub word : (ℕ → Bool) → ℕ → ℕ
word p zero = 0
word p (suc j) = word p j + bit (p j) * 2 ^ j

-- f of the numbers below m, in order
unfoldable pub below : (ℕ → ℕ) → ℕ → List ℕ
below f zero = []
below f (suc i) = below f i ++ f i ∷ []

-- What the definitions say of an example, with rooms that are just large enough.
module _ (e : Example) where
  open e use {commands, lengths, schedule}

  abbrev pub verdict_found : Told
  verdict_found = verdict_of commands lengths schedule (words (rows commands)) (rows commands)

  -- the pairs of the sheet: it is empty outside 0, 10 and 11 (R36)
  abbrev pub pairs_found : List Pair
  pairs_found =
      cond (fills verdict_found.number) (fault_pairs commands lengths (generations_by commands lengths schedule) (reaches commands lengths schedule)) []

  abbrev pub generations_found : List ℕ
  generations_found = take (rows commands) (played commands lengths schedule).generations

  abbrev pub relation_found : List ℕ
  relation_found = below (λ i. word (reaches commands lengths schedule i) (rows commands)) (rows commands)

  -- It is what the rules say (R78).
  unfoldable pub holds : Bool
  holds =
      same_told verdict_found e.verdict && (same same_pair pairs_found e.pairs && (eqb (sheet_of pairs_found).total e.total
      && (as_given generations_found e.generations && as_given relation_found e.relation)))

-- ---- one program, two files

-- Why `OneFile` (Agreement) excepts 10: whatever rooms C is reviewed in, schedules 0 1 2 3 and 0 2 1 3 both get 10, and leave two files (R64).
abbrev pub TenDiffers : Type 0
TenDiffers =
    (a b : Review four_syncs one_each) → Unrefused a → Unrefused b → a.schedule ≡ 0 ∷ 1 ∷ 2 ∷ 3 ∷ [] → b.schedule ≡ 0 ∷ 2 ∷ 1 ∷ 3 ∷ []
    → (number a.found ≡ 10) × (number b.found ≡ 10) × ¬ SameFile a b
