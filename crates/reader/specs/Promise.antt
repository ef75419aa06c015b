-- What each public function promises; for `Reader::token` and `token_from` that is the grammar's `AnswersTokenAt`.
use Rattle.std.specs.Prelude.{◌≡◌, List, ℕ}
use Rattle.std.specs.Borrow.{Bor}
use Rattle.reader.specs.declared.Reader.{Reader}
use Rattle.reader.specs.Places.{place_in, rest_in, ahead}

-- `Reader::new`, at place 0, and `Reader::moved`: the reader stands on the lent text and on a place
abbrev pub StandsAt : (text : Bor (List ℕ)) (at : ℕ) (r : Reader) → Type 0
StandsAt text at r = (r.text ≡ text) × (r.at ≡ at)

-- `Reader::rest` and `rest_from`: the bytes, and where they stand in memory
abbrev pub AnswersRest : (text : Bor (List ℕ)) (at : ℕ) (r : Bor (List ℕ)) → Type 0
AnswersRest text at r = (r.now ≡ rest_in text.now at) × (r.ref_ptr ≡ ahead text.ref_ptr (place_in text.now at))
