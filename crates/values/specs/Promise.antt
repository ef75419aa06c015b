-- What each public function promises.
use Rattle.std.specs.Prelude.{◌≡◌, ℕ, List}
use Rattle.warps.specs.Language.{Mem, eval}
use Rattle.values.specs.Expressions.{expression, acting}

-- `value`
abbrev pub AnswersValue : (expressions : List ℕ) (root lane : ℕ) (cells : Mem) (r : ℕ) → Type 0
AnswersValue expressions root lane cells r = r ≡ eval (expression expressions root) lane cells

-- `acting_lanes`
abbrev pub AnswersActingLanes : (expressions : List ℕ) (root mask : ℕ) (cells : Mem) (r : ℕ) → Type 0
AnswersActingLanes expressions root mask cells r = r ≡ acting mask (expression expressions root) cells 32
