-- What the parts ask for and pass on; nothing public speaks of it.
use Rattle.std.specs.Prelude.{◌≡◌, Bool, true, false, List, ◌≢◌, ℕ, ◌+◌, ◌-◌, ◌*◌, ◌/◌, ◌%◌, ◌≤◌, ◌<◌, ltb, length, get_or}
use Rattle.tables.specs.Limits.{most_rows, barriers}
use Rattle.tables.specs.Rows.{rows, kind, name, arrive, registers}
use Rattle.verdicts.specs.Verdicts.{tell, numbered}
use Rattle.verdicts.specs.declared.Verdict.{Verdict}
use Rattle.relation.specs.Table.{related}
use Rattle.rooms.specs.Rooms.{number_at}
use Rattle.sheet.specs.declared.Pair.{Pair}
use Rattle.sheet.specs.Sheet.{sheet_of}
use Rattle.faults.specs.declared.faults.Fault.{Fault}
use Rattle.faults.specs.declared.faults.Fault.TheVariants.{Reuse, Race}
use Rattle.faults.specs.Faults.{along_row, all_rows, pair_of, faults}
use Rattle.faults.specs.Tests.{seen_at, is_fault}
use Rattle.findings.specs.declared.finding.Finding.{Finding}
use Rattle.findings.specs.declared.searched.Searched.{Searched}
use Rattle.findings.specs.Findings.{first_pair, or_pairs}

-- ---- the pairs that the tests find by the heads of the rows, and what their sheet tells

module _ (s : Searched) (f : Fault) where
  -- the test of outer number i and inner number j, by the heads of the rows
  unfoldable pub is_fault_at : ℕ → ℕ → Bool
  is_fault_at i j =
      is_fault s.relation.now (rows s.commands.now) f
      (seen_at s.heads.now s.commands.now s.generations.now i) (seen_at s.heads.now s.commands.now s.generations.now j)

  -- the pairs of outer number i
  abbrev pub row_found : ℕ → List Pair
  row_found i = along_row (is_fault_at i) (pair_of f i) (rows s.commands.now)

  -- all pairs, in their order
  abbrev pub all_found : List Pair
  all_found = all_rows is_fault_at (pair_of f) (rows s.commands.now) (rows s.commands.now)

-- the number of a fault's verdict
abbrev pub fault_number : Fault → ℕ
fault_number Reuse = 10
fault_number Race = 11

-- pairs of one kind tell their first, or 0
abbrev pub kind_told : Fault → List Pair → Verdict → Type 0
kind_told f ps v = numbered v ≡ first_pair (fault_number f) ps (tell 0 0 0)

-- the verdict and the sheet of pairs of one kind
pub record Found (f : Fault) (ps : List Pair) (r : Finding) : Type 0 where
  pub verdict : kind_told f ps r.verdict
  pub sheet : r.sheet ≡ sheet_of ps

-- the verdict and the sheet of both kinds: races count only when there is no reuse fault
pub record Looked (reuses races : List Pair) (r : Finding) : Type 0 where
  pub verdict : numbered r.verdict ≡ first_pair 10 reuses (first_pair 11 races (tell 0 0 0))
  pub sheet : r.sheet ≡ sheet_of (or_pairs reuses races)

-- by the heads of the rows
abbrev pub LookedBy : Searched → Finding → Type 0
LookedBy s = Looked (all_found s Reuse) (all_found s Race)

-- by the lengths of the threads
abbrev pub LookedOver : List ℕ → List ℕ → List ℕ → List ℕ → Finding → Type 0
LookedOver commands lengths generations relation =
    Looked
    (faults commands lengths (number_at generations) (related relation (rows commands)) Reuse)
    (faults commands lengths (number_at generations) (related relation (rows commands)) Race)

-- ---- lists of the commands that a fault can pair: for reuse the registering ones, by barrier and generation; for races the accesses, by address

-- such a fault can pair command c
abbrev pub listed : Searched → Fault → ℕ → Bool
listed s Reuse c = registers s.commands.now c
listed s Race c = ltb (kind s.commands.now c) arrive

-- the list of a barrier and generation. There are as many lists as rows, and others may share it: that costs time alone.
abbrev pub list_of_barrier : ℕ → ℕ → ℕ
list_of_barrier barrier generation = (barrier * (most_rows / barriers) + generation) % most_rows

-- the list of command c
abbrev pub key : Searched → Fault → ℕ → ℕ
key s Reuse c = list_of_barrier (name s.commands.now c) (number_at s.generations.now c)
key s Race c = name s.commands.now c % most_rows

-- the list in which outer number i finds its faults: c₂ that of the generation before its own, and x its own
abbrev pub wanted : Searched → Fault → ℕ → ℕ
wanted s Reuse i = list_of_barrier (name s.commands.now i) (number_at s.generations.now i + (most_rows - 1))
wanted s Race i = key s Race i

-- n is the first number from a on in list k; where there is none, it is past all rows
pub record Next (s : Searched) (f : Fault) (k a n : ℕ) : Type 0 where
  pub from : a ≤ n
  pub here : n < rows s.commands.now → (listed s f n ≡ true) × (key s f n ≡ k)
  pub none : (j : ℕ) → a ≤ j → j < rows s.commands.now → j < n → listed s f j ≡ true → key s f j ≢ k

-- the lists of the commands from c on: the front of each, and the next after each command
pub record Lists (s : Searched) (f : Fault) (fronts nexts : List ℕ) (c : ℕ) : Type 0 where
  pub fronts_fit : length fronts ≡ most_rows
  pub nexts_fit : length nexts ≡ most_rows
  pub front : (k : ℕ) → k < most_rows → Next s f k c (get_or fronts k 0)
  pub next : (d : ℕ) → c ≤ d → d < rows s.commands.now → listed s f d ≡ true → Next s f (key s f d) (d + 1) (get_or nexts d 0)

-- n is the first number from a on that can be paired with outer number i: those before it are no faults
pub record Candidate (s : Searched) (f : Fault) (i a n : ℕ) : Type 0 where
  pub here : n < rows s.commands.now → (listed s f n ≡ true) × (key s f n ≡ wanted s f i)
  pub none : (j : ℕ) → a ≤ j → j < rows s.commands.now → j < n → is_fault_at s f i j ≡ false
