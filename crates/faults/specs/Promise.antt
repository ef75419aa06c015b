-- What each public function promises.
use Rattle.std.specs.Prelude.{◌≡◌, Bool, List, ℕ}
use Rattle.sheet.specs.declared.Pair.{Pair}
use Rattle.faults.specs.declared.faults.Fault.{Fault}
use Rattle.faults.specs.declared.faults.Seen.{Seen}
use Rattle.faults.specs.Faults.{pair_of}
use Rattle.faults.specs.Tests.{is_fault}

-- `pair_of`
abbrev pub AnswersPairOf : (fault : Fault) (i j : ℕ) (r : Pair) → Type 0
AnswersPairOf fault i j r = r ≡ pair_of fault i j

-- `is_fault`
abbrev pub AnswersIsFault : (fault : Fault) (relation : List ℕ) (m : ℕ) (outer inner : Seen) (r : Bool) → Type 0
AnswersIsFault fault relation m outer inner r = r ≡ is_fault relation m fault outer inner
