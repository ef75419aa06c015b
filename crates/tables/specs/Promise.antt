-- What each public function promises; for `put_heads` that is `Heads`.
use Rattle.std.specs.Prelude.{◌≡◌, Bool, List, ℕ, min, eqb}
use Rattle.tables.specs.Limits.{most_threads}
use Rattle.tables.specs.Rows.{name, first_row}
use Rattle.tables.specs.Heads.{own_head}

-- `first_row`
abbrev pub AnswersFirstRow : (lengths : List ℕ) (thread r : ℕ) → Type 0
AnswersFirstRow lengths thread r = r ≡ first_row lengths (min thread most_threads)

-- `same_name`
abbrev pub AnswersSameName : (commands : List ℕ) (i j : ℕ) (r : Bool) → Type 0
AnswersSameName commands i j r = r ≡ eqb (name commands i) (name commands j)

-- `is_first`
abbrev pub AnswersIsFirst : (heads : List ℕ) (c : ℕ) (r : Bool) → Type 0
AnswersIsFirst heads c r = r ≡ own_head heads c
