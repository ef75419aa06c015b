-- What holds of every text, whatever rooms are lent. Theorems, in proofs/, has a proof of each under the same name in small letters.
use Rattle.std.specs.Prelude.{◌≡◌, List, ◌++◌, ℕ, ◌≤◌, ◌<◌, length, get_or}
use Rattle.sheet.specs.Sheet.{pair, kept_pairs}
use Rattle.printing.specs.Zeros.{NoZero}
use Rattle.report.specs.Report.{report}
use Rattle.desk.specs.Conclusion.{of_text}
use Rattle.desk.specs.Promise.{least_room, Possible}
use Rattle.desk.specs.Evidence.{least_evidence, text_exhibits, Against, BothOrders}

-- Any report has room (D1, R54), and so has any report with exhibits (R63).
abbrev pub ReportFits : Type 0
ReportFits = (text : List ℕ) → length (report (of_text text)) ≤ least_room

abbrev pub EvidenceFits : Type 0
EvidenceFits = (text : List ℕ) → length (report (of_text text) ++ text_exhibits text) ≤ least_evidence

-- Which numbers are told of texts, and what 3, 12 and 13 say of them (D1, R53).
abbrev pub TextPossible : Type 0
TextPossible = (text : List ℕ) → Possible text (of_text text).told

-- No zero byte is printed: in a room of zeros, a report ends before the first of them (R57).
abbrev pub NoZeroPrinted : Type 0
NoZeroPrinted = (text : List ℕ) → NoZero (report (of_text text) ++ text_exhibits text)

-- Of every text that is told 10 or 11 there are the schedules that show it, in whatever room they are printed (R59, R60).
abbrev pub ReuseShown : Type 0
ReuseShown = (text : List ℕ) → (of_text text).told.number ≡ 10 → Against text

abbrev pub RacesShown : Type 0
RacesShown =
    (text : List ℕ) → (of_text text).told.number ≡ 11 → (k : ℕ) → k < length (kept_pairs (of_text text).sheet) → BothOrders text (get_or (kept_pairs (of_text text).sheet) k (pair 0 0))
