-- In a room of zeros the bytes before the first zero are what was written, since that has no zero. Assumes nothing.
use mathlib.Core.Path.{◌≡◌, refl, ap, ◌∙◌}
use mathlib.Core.List.{List, ◌++◌}
use Prim.Native.Nat.{ℕ, zero, suc, ◌+◌}
use native.Mathlib.Omega.{arith}
use lib.ListN.{length, get_or, take, drop, replicate, length-replicate}
use lib.Seq.{get_or-drop, take-append_seam}
use Rattle.tables.specs.Over.{over}
use Rattle.spelling.proofs.Runs.{run_none_at, run_past}
use Rattle.printing.specs.Zeros.{nonzero, length_before_zero, NoZero}
use Rattle.report.specs.Report.{report}
use Rattle.report.proofs.Zeros.{report_no_zero}
use Rattle.desk.specs.Conclusion.{of_text}
use Rattle.desk.specs.Promise.{least_room, TextReviewed}
use Rattle.desk.specs.Evidence.{least_evidence, text_exhibits, TextEvidenced}
use Rattle.desk.proofs.Theorems.{no_zero_printed}
use Rattle.cuckoomoss.specs.Printed.{AnswersBeforeZero, HoldsReport, HoldsExhibits}

-- a room of zeros
abbrev zeros : ℕ → List ℕ
zeros k = replicate k 0

zero_at : (k i : ℕ) → get_or (zeros k) i 0 ≡ 0
zero_at zero i = refl
zero_at (suc k) zero = refl
zero_at (suc k) (suc i) = zero_at k i

long_zeros : (k : ℕ) → length (zeros k) ≡ k
long_zeros k = length-replicate k 0

-- the bytes before the first zero
abbrev before_first : List ℕ → List ℕ
before_first room = take (length_before_zero room) room

-- in a room of zeros over which bytes without a zero were written these are what was written
written_first : (w : List ℕ) (k : ℕ) → NoZero w → before_first (over w (zeros k)) ≡ w
written_first w k f =
    let rest = drop (length w) (zeros k) in
    let z : length_before_zero rest ≡ 0 = run_none_at nonzero rest (rw (get_or-drop (length w) (zeros k) 0 0, zero_at k (length w + 0))) in
    let e : length_before_zero (w ++ rest) ≡ length w = omega (arith, run_past nonzero w rest f, z) in
    ap (λ (n : ℕ). take n (w ++ rest)) e ∙ take-append_seam w rest

pub report_held : {text bytes : List ℕ} {n r : ℕ} → TextReviewed text (zeros least_room) bytes n → AnswersBeforeZero bytes r → HoldsReport text bytes r
report_held {text} {bytes} R B = (
  ap (λ (k : ℕ). take k bytes) B.0 ∙ ap before_first (R.prints (omega (arith, long_zeros least_room)))
      ∙ written_first (report (of_text text)) least_room (report_no_zero (of_text text)),
  B.1,
)

pub exhibits_held : {text bytes : List ℕ} {n r : ℕ} → TextEvidenced text (zeros least_evidence) bytes n → AnswersBeforeZero bytes r → HoldsExhibits text bytes r
exhibits_held {text} {bytes} R B = (
  ap (λ (k : ℕ). take k bytes) B.0 ∙ ap before_first (R.prints (omega (arith, long_zeros least_evidence)))
      ∙ written_first (report (of_text text) ++ text_exhibits text) least_evidence (no_zero_printed text),
  B.1,
)
