-- What the program holds before it prints: the bytes of a review's room up to the first zero, which are the report (R57). What is then written no contract can say.
use Rattle.std.specs.Prelude.{◌≡◌, List, ◌++◌, ℕ, ◌≤◌, length, take}
use Rattle.printing.specs.Zeros.{length_before_zero}
use Rattle.report.specs.Report.{report}
use Rattle.desk.specs.Conclusion.{of_text}
use Rattle.desk.specs.Evidence.{text_exhibits}

-- So many bytes stand at the start of the room. The second part follows from the first: it says so in the form that a slice asks for.
abbrev pub IsPrefixLen : ℕ → List ℕ → Type 0
IsPrefixLen n room = (n ≤ length room) × (n ≡ length (take n room))

-- `before_zero`: so many bytes stand before the first zero, or in all. The second part says again, in the form that a slice asks for, that they stand in the room.
abbrev pub AnswersBeforeZero : (room : List ℕ) (r : ℕ) → Type 0
AnswersBeforeZero room r = (r ≡ length_before_zero room) × IsPrefixLen r room

-- `report_of`: the first n bytes are the report of the text, whole and alone (R57)
abbrev pub HoldsReport : (text bytes : List ℕ) (n : ℕ) → Type 0
HoldsReport text bytes n = (take n bytes ≡ report (of_text text)) × IsPrefixLen n bytes

-- `evidence_of`: with evidence the report and the exhibits (R57, R63)
abbrev pub HoldsExhibits : (text bytes : List ℕ) (n : ℕ) → Type 0
HoldsExhibits text bytes n = (take n bytes ≡ report (of_text text) ++ text_exhibits text) × IsPrefixLen n bytes
