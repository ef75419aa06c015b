-- What each public function promises.
use Rattle.std.specs.Prelude.{◌≡◌, Bool, ℕ}
use Rattle.barriers.specs.declared.barrier.Barrier.{Barrier}
use Rattle.barriers.specs.declared.barrier.Registration.{Registration}
use Rattle.barriers.specs.Counting.{counted}
use Rattle.barriers.specs.Barrier.{is_set, registration}

-- `more`
abbrev pub AnswersMore : (n r : ℕ) → Type 0
AnswersMore n r = r ≡ counted n

-- `Barrier::register`
abbrev pub AnswersRegister : (barrier : Barrier) (count : ℕ) (r : Registration) → Type 0
AnswersRegister barrier count r = r ≡ registration barrier count

-- `Barrier::is_set`
abbrev pub AnswersIsSet : (barrier : Barrier) (r : Bool) → Type 0
AnswersIsSet barrier r = r ≡ is_set barrier.phase
