-- What the public functions promise that only answer; what those promise that write a room stands in Table: `Writes`, `Puts` and `Joins`.
use Rattle.std.specs.Prelude.{◌≡◌, Bool, List, ℕ, get_or}
use Rattle.relation.specs.Table.{words, related}

-- `table_words`
abbrev pub AnswersTableWords : (m r : ℕ) → Type 0
AnswersTableWords m r = r ≡ words m

-- `related`
abbrev pub AnswersRelated : (room : List ℕ) (m i j : ℕ) (r : Bool) → Type 0
AnswersRelated room m i j r = r ≡ related room m i j

-- `at`: the item at a place, or another past the end
abbrev pub AnswersAt : {A : Type 0} (items : List A) (i : ℕ) (other r : A) → Type 0
AnswersAt items i other r = r ≡ get_or items i other
