-- What each public function promises, of how many numbers there are in the relation room and in the generation room.
use Rattle.std.specs.Prelude.{◌≡◌, Bool, List, ℕ, Result, eqb}
use Rattle.verdicts.specs.Verdicts.{result_told}
use Rattle.verdicts.specs.declared.Refusal.{Refusal}
use Rattle.rooms.specs.declared.short.Room.{Room}
use Rattle.rooms.specs.Short.{first_short}
use Rattle.rooms.specs.Refusals.{review_refusal, size_refusal}

-- `short_room`
abbrev pub AnswersShortRoom : (rooms : List Room) (r : Result (Unit {0}) Refusal) → Type 0
AnswersShortRoom rooms r = result_told r ≡ first_short rooms

-- `refuse_sizes`
abbrev pub AnswersRefuseSizes : (commands : List ℕ) (wide high : ℕ) (r : Result (Unit {0}) Refusal) → Type 0
AnswersRefuseSizes commands wide high r = result_told r ≡ size_refusal commands wide high

-- `refuse`
abbrev pub AnswersRefuse : (commands lengths : List ℕ) (wide high : ℕ) (r : Result (Unit {0}) Refusal) → Type 0
AnswersRefuse commands lengths wide high r = result_told r ≡ review_refusal commands lengths wide high

-- `admits`
abbrev pub AnswersAdmits : (commands lengths : List ℕ) (wide high : ℕ) (r : Bool) → Type 0
AnswersAdmits commands lengths wide high r = r ≡ eqb (review_refusal commands lengths wide high).number 0
