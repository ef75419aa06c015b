-- What each public function promises.
use Rattle.std.specs.Prelude.{◌≡◌, Bool, Option, List, ℕ}
use Rattle.spelling.specs.declared.bytes.Class.{Class}
use Rattle.spelling.specs.Bytes.{class_of, of_class, run}
use Rattle.spelling.specs.Words.{same_bytes}
use Rattle.spelling.specs.Numbers.{numeral_of}

-- `class_of`
abbrev pub AnswersClassOf : (byte : ℕ) (r : Class) → Type 0
AnswersClassOf byte r = r ≡ class_of byte

-- `run_of`, of the class of a number
abbrev pub AnswersRunOf : (bytes : List ℕ) (class r : ℕ) → Type 0
AnswersRunOf bytes class r = r ≡ run (of_class class) bytes

-- `same`
abbrev pub AnswersSame : (bytes word : List ℕ) (r : Bool) → Type 0
AnswersSame bytes word r = r ≡ same_bytes bytes word

-- `read_number`
abbrev pub AnswersReadNumber : (bytes : List ℕ) (r : Option ℕ) → Type 0
AnswersReadNumber bytes r = r ≡ numeral_of bytes
