-- What is proved of texts. Grammars, in proofs/, has it, under the name `one_listing`.
use Rattle.std.specs.Prelude.{◌≡◌, List, ℕ}
use Rattle.grammar.specs.Grammar.{Listing, Denotes}

-- A text denotes one listing at most (D2).
abbrev pub OneListing : Type 0
OneListing = (text : List ℕ) (x y : Listing) → Denotes text x → Denotes text y → x ≡ y
