-- Any two answers that meet the contract of a public function are equal. Assumes nothing.
use mathlib.Core.Path.{◌≡◌, sym, ◌∙◌}
use mathlib.Core.Bool.{Bool}
use mathlib.Core.List.{List}
use Prim.Native.Nat.{ℕ}
use Rattle.std.specs.Prelude.{Result}
use Rattle.verdicts.specs.declared.Refusal.{Refusal}
use Rattle.verdicts.proofs.Verdicts.{result_told_one}
use Rattle.rooms.specs.declared.short.Room.{Room}
use Rattle.rooms.specs.Promise.{AnswersShortRoom, AnswersRefuseSizes, AnswersRefuse, AnswersAdmits}

pub refuse_one : (commands lengths : List ℕ) (wide high : ℕ) (a b : Result (Unit {0}) Refusal) → AnswersRefuse commands lengths wide high a → AnswersRefuse commands lengths wide high b → a ≡ b
refuse_one commands lengths wide high a b A B = result_told_one a b (A ∙ sym B)

pub admits_one : (commands lengths : List ℕ) (wide high : ℕ) (a b : Bool) → AnswersAdmits commands lengths wide high a → AnswersAdmits commands lengths wide high b → a ≡ b
admits_one commands lengths wide high a b A B = A ∙ sym B

pub refuse_sizes_one : (commands : List ℕ) (wide high : ℕ) (a b : Result (Unit {0}) Refusal) → AnswersRefuseSizes commands wide high a → AnswersRefuseSizes commands wide high b → a ≡ b
refuse_sizes_one commands wide high a b A B = result_told_one a b (A ∙ sym B)

pub short_room_one : (rooms : List Room) (a b : Result (Unit {0}) Refusal) → AnswersShortRoom rooms a → AnswersShortRoom rooms b → a ≡ b
short_room_one rooms a b A B = result_told_one a b (A ∙ sym B)
