-- What `put_happens_before` promises (R81).
use Rattle.std.specs.Prelude.{◌≡◌, List, ℕ, Result, OnOk, OnErr, length}
use Rattle.verdicts.specs.Verdicts.{result_told}
use Rattle.verdicts.specs.declared.Refusal.{Refusal}
use Rattle.rooms.specs.Refusals.{size_refusal}
use Rattle.rooms.specs.Rooms.{number_at}
use Rattle.happens.specs.HappensBefore.{Reached}

-- Any numbers may stand in the tables. Refusal 1 or 4, by the lengths alone, and the room as it was; or none, and the room holds what reaches what over the generations (R81).
pub record PutsHappensBefore (commands lengths generations relation : List ℕ) (r : Result (Unit {0}) Refusal) (relation' : List ℕ) : Type 0 where
  pub refusal : result_told r ≡ size_refusal commands (length relation) (length generations)
  pub kept : OnErr r (relation' ≡ relation)
  pub holds : OnOk r (Reached commands lengths (number_at generations) relation relation')
