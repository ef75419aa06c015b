-- Any two answers that meet a contract are equal: a reader, and of a slice its bytes and where it points; of a token the grammar's `token_at_one`. Assumes nothing.
use mathlib.Core.Path.{◌≡◌, sym, ◌∙◌}
use mathlib.Core.List.{List}
use Prim.Native.Nat.{ℕ}
use denote.Ref.{Bor}
use Rattle.reader.specs.declared.Reader.{Reader}
use Rattle.reader.specs.Promise.{StandsAt, AnswersRest}

-- a reader is its text and its place
pub stands_one : (text : Bor (List ℕ)) (at : ℕ) {a b : Reader} → StandsAt text at a → StandsAt text at b → a ≡ b
stands_one text at (p, q) (p', q') = λ i. record { text = (p ∙ sym p') i; at = (q ∙ sym q') i }

pub rest_one : (text : Bor (List ℕ)) (at : ℕ) (s t : Bor (List ℕ)) → AnswersRest text at s → AnswersRest text at t → (s.now ≡ t.now) × (s.ref_ptr ≡ t.ref_ptr)
rest_one text at s t (p, q) (p', q') = (p ∙ sym p', q ∙ sym q')
