-- The numbers that an answer room gets, from its first place on (R84).
use Rattle.std.specs.Prelude.{List, [], ◌∷◌, ◌++◌, ℕ, ◌/◌, ◌%◌, ◌^◌, min, Result, Ok, Err}
use Rattle.std.specs.Result.{result_unwrap_or}
use Rattle.verdicts.specs.Verdicts.{tell, result_told, numbered}
use Rattle.verdicts.specs.declared.Refusal.{Refusal}
use Rattle.verdicts.specs.declared.Told.{Told}
use Rattle.notation.specs.Reading.{Reading, answered, rest_at}
use Rattle.sheet.specs.declared.Pair.{Pair}
use Rattle.evidence.specs.declared.door.Evidence.{Evidence}
use Rattle.kernels.specs.declared.kernel.KernelRefusal.{KernelRefusal}
use Rattle.kernels.specs.Refusals.{refusal_number, refusal_place}
use Rattle.runs.specs.declared.Course.{Course}
use Rattle.runs.specs.Run.{ending_number}
use Rattle.probe.specs.declared.ran.Ran.{Ran}

-- an answer room has at least so many numbers (R84)
unfoldable pub answer_room : ℕ
answer_room = 36

-- the largest number that one of its places holds
abbrev pub largest : ℕ
largest = 4294967295

-- two places, and two numbers more (R84)
abbrev pub told_numbers : Told → ℕ → ℕ → List ℕ
told_numbers t a b = t.place ∷ t.also ∷ a ∷ b ∷ []

-- both numbers of each pair
unfoldable pub pair_numbers : List Pair → List ℕ
pair_numbers [] = []
pair_numbers (p ∷ ps) = p.first ∷ p.second ∷ pair_numbers ps

-- the numbers that a review is told by: the total stands third, how many entries of evidence there are fourth, and then the sheet's pairs (R84)
abbrev pub review_numbers : Evidence → List ℕ
review_numbers r = told_numbers (numbered r.finding.verdict) r.finding.sheet.total r.entries ++ pair_numbers r.finding.sheet.pairs

-- those of a written schedule: its length stands third, or 0 where it was refused (R84)
abbrev pub written_numbers : Result ℕ Refusal → List ℕ
written_numbers r = told_numbers (result_told r) (result_unwrap_or r 0) 0

-- Those of a reading of n bytes: then commands, threads, and where the rest begins.
-- In a text of 4 GiB or more, which is refused by 13, that is told as the largest number (R84).
abbrev pub reading_numbers : Reading → ℕ → List ℕ
reading_numbers r n = told_numbers (answered r).told (answered r).command_count (answered r).thread_count ++ min (rest_at r n) largest ∷ []

-- A run is told by its refusal's number and place, or 0; how it ended, or 0; and the steps taken (R84).
abbrev pub run_told : Result Course KernelRefusal → Ran
run_told (Ok course) = record { told = tell 0 0 0; ending = ending_number course.ending; taken = course.taken }
run_told (Err refusal) = record { told = tell (refusal_number refusal) (refusal_place refusal) 0; ending = 0; taken = 0 }

-- Those of a warp's run: its place, how it ended, and then the steps taken, the low half and the high half (R84).
abbrev pub warp_numbers : Result Course KernelRefusal → List ℕ
warp_numbers r = told_numbers (run_told r).told (run_told r).ending 0 ++ (run_told r).taken % 2 ^ 32 ∷ (run_told r).taken / 2 ^ 32 ∷ []
