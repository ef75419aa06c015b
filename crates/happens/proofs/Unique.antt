-- Any two outcomes that meet the contract of a door are equal. Assumes nothing.
use mathlib.Core.Path.{◌≡◌, refl, sym, ap, ◌∙◌}
use mathlib.Core.List.{List}
use Prim.Native.Nat.{ℕ}
use Rattle.std.specs.Prelude.{Result, Ok, Err}
use Rattle.verdicts.specs.declared.Refusal.{Refusal}
use Rattle.verdicts.specs.declared.Told.{Told}
use Rattle.verdicts.proofs.Verdicts.{refused_one, refused_some}
use Rattle.relation.specs.Bits.{Words}
use Rattle.relation.proofs.Rooms.{holds_one}
use Rattle.happens.specs.Promise.{PutsHappensBefore}

-- words of 32 bits stand in the rooms
pub put_happens_before_one : (commands lengths generations relation : List ℕ) (a b : Result (Unit {0}) Refusal) {ra rb : List ℕ} → Words ra → Words rb
    → PutsHappensBefore commands lengths generations relation a ra → PutsHappensBefore commands lengths generations relation b rb → (a ≡ b) × (ra ≡ rb)
put_happens_before_one commands lengths generations relation (Ok x) (Ok y) wa wb A B = (refl, holds_one _ _ _ _ _ wa wb A.holds B.holds)
put_happens_before_one commands lengths generations relation (Err r) (Err s) wa wb A B = (ap Err (refused_one r s (A.refusal ∙ sym B.refusal)), A.kept ∙ sym B.kept)
put_happens_before_one commands lengths generations relation (Ok x) (Err s) wa wb A B = absurd (refused_some s (ap (λ (t : Told). t.number) (B.refusal ∙ sym A.refusal)))
put_happens_before_one commands lengths generations relation (Err r) (Ok y) wa wb A B = absurd (refused_some r (ap (λ (t : Told). t.number) (A.refusal ∙ sym B.refusal)))
