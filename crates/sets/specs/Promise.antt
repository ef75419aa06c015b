-- What each public function promises.
use Rattle.std.specs.Prelude.{◌≡◌, Bool, Option, ℕ}
use Rattle.sets.specs.declared.Set.{Set}
use Rattle.sets.specs.Set.{has, none, put, lowest_but}

-- `Set::none`
abbrev pub AnswersSetNone : (r : Set) → Type 0
AnswersSetNone r = r ≡ none

-- `Set::has`
abbrev pub AnswersHas : (set : Set) (t : ℕ) (r : Bool) → Type 0
AnswersHas set t r = r ≡ has set t

-- `Set::put`
abbrev pub AnswersPut : (set : Set) (t : ℕ) (on : Bool) (r : Set) → Type 0
AnswersPut set t on r = r ≡ put set t on

-- `Set::lowest_but`
abbrev pub AnswersLowestBut : (set other : Set) (r : Option ℕ) → Type 0
AnswersLowestBut set other r = r ≡ lowest_but set other
