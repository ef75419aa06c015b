-- Two answers that meet the contract of a public function for the same inputs are equal; for `read` that is `read_one` (Readings). Assumes nothing.
use mathlib.Core.Path.{◌≡◌, sym, ◌∙◌}
use mathlib.Core.List.{List}
use Prim.Native.Nat.{ℕ}
use denote.Ref.{Bor}
use Rattle.verdicts.specs.declared.Told.{Told}
use Rattle.notation.specs.Reading.{Reading}
use Rattle.notation.specs.Promise.{AnswersReadingTold, AnswersRestOf}

pub reading_told_one : (reading : Reading) {r s : Told} → AnswersReadingTold reading r → AnswersReadingTold reading s → r ≡ s
reading_told_one reading e f = e ∙ sym f

-- of the slice: its bytes, and where it points
pub reading_rest_one : (text : Bor (List ℕ)) (reading : Reading) (r s : Bor (List ℕ)) → AnswersRestOf text reading r → AnswersRestOf text reading s
    → (r.now ≡ s.now) × (r.ref_ptr ≡ s.ref_ptr)
reading_rest_one text reading r s (e, e') (f, f') = (e ∙ sym f, e' ∙ sym f')
