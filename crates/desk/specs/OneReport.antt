-- One program, one file, of texts (R65, 2026-10). The schedule that is judged is the writer's, and so hangs on the program alone: here neither verdict 10 nor
-- evidence is excepted.
use Rattle.std.specs.Prelude.{◌≡◌, true, List, ℕ, ◌*◌}
use Rattle.tables.specs.Limits.{most_rows, most_threads}
use Rattle.verdicts.specs.Verdicts.{numbered}
use Rattle.verdicts.specs.Numbers.{settles}
use Rattle.grammar.specs.Grammar.{Listing, Denotes, listing_lengths}
use Rattle.notation.specs.Promise.{Within}
use Rattle.review.specs.Agreement.{number, Review}
use Rattle.desk.specs.Conclusion.{of_text}
use Rattle.desk.specs.Promise.{numbers}
use Rattle.desk.specs.Evidence.{text_exhibits}

-- The text denotes the listing, which is within the limits (R65).
pub record Readable (x : Listing) (text : List ℕ) : Type 0 where
  pub denotes : Denotes text x
  pub within : Within text (most_rows * 3) most_threads x

-- Two texts of one program have one report, and one evidence: what is printed of them (`prints` of TextReviewed and of TextEvidenced) is the same (R65).
abbrev pub OneReport : Type 0
OneReport = (x : Listing) (a b : List ℕ) → Readable x a → Readable x b → (of_text a ≡ of_text b) × (text_exhibits a ≡ text_exhibits b)

-- And where some schedule, in some rooms, got 0 or 11, the report tells what was found by it (R65).
abbrev pub SameAsReview : Type 0
SameAsReview =
    (x : Listing) (text : List ℕ) → Readable x text → (r : Review (numbers x) (listing_lengths x)) → settles (number r.found) ≡ true
    → of_text text ≡ record { told = numbered r.found.verdict; sheet = r.found.sheet }
