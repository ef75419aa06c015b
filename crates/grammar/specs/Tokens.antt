-- The token that bytes begin with, and the token at a place of a text (R43).
use Rattle.std.specs.Prelude.{cond, ◌&&◌, Option, Some, None, List, ℕ, ◌+◌, eqb, length, get_or, take, drop}
use Rattle.tables.specs.Rows.{read, write, arrive, sync}
use Rattle.spelling.specs.Bytes.{is, letter, digit, run, blanks, skip}
use Rattle.spelling.specs.Words.{same_bytes}
use Rattle.spelling.specs.Numbers.{numeral_of}
use Rattle.spelling.specs.Tokens as T
use Rattle.grammar.specs.declared.tokens.Token.{Token}
use Rattle.grammar.specs.declared.tokens.Token.TheVariants.{Access, Signal, Return, Number, Semi, Bars, Misfit}
use Rattle.grammar.specs.declared.tokens.Piece.{Piece}
use Rattle.grammar.specs.declared.tokens.Met.{Met}
use Rattle.grammar.specs.declared.tokens.Met.TheVariants as M
use Rattle.grammar.specs.Spelling.{read_word, write_word, arrive_word, sync_word, return_word}

-- the token of a run of letters, of a run of digits, and of a list that begins with neither (R44, R45)
unfoldable pub word_of : List ℕ → Token
word_of w =
    cond (same_bytes w read_word) (Access read)
    (cond (same_bytes w write_word) (Access write)
    (cond (same_bytes w arrive_word) (Signal arrive) (cond (same_bytes w sync_word) (Signal sync) (cond (same_bytes w return_word) Return Misfit))))

abbrev pub numeral : Option ℕ → Token
numeral (Some n) = Number n
numeral None = Misfit

abbrev pub number_of : List ℕ → Token
number_of w = numeral (numeral_of w)

abbrev pub sized : Token → ℕ → Piece
sized t n = record { token = t; size = n }

-- one bar alone is no token, nor is any other byte (R43)
unfoldable pub mark_of : List ℕ → Piece
mark_of s =
    cond (eqb (get_or s 0 0) 59) (sized Semi 1) (cond (eqb (get_or s 0 0) 124 && eqb (get_or s 1 0) 124) (sized Bars 2) (sized Misfit 1))

-- the token that bytes begin with, and how many bytes it takes (R43)
unfoldable pub piece_of : List ℕ → Piece
piece_of s =
    cond (is letter (get_or s 0 0)) (sized (word_of (take (run (is letter) s) s)) (run (is letter) s))
    (cond (is digit (get_or s 0 0)) (sized (number_of (take (run (is digit) s) s)) (run (is digit) s)) (mark_of s))

abbrev pub token_of : List ℕ → Token
token_of s = (piece_of s).token

abbrev pub size_of : List ℕ → ℕ
size_of s = (piece_of s).size

-- what stands at a place after its blanks (R43)
abbrev pub met_in : List ℕ → ℕ → Met
met_in s from = cond (eqb (length s) 0) (M.End from) (M.Token (token_of s) from (from + size_of s))

unfoldable pub token_at : List ℕ → ℕ → Met
token_at text at = met_in (skip (drop at text)) (at + blanks (drop at text))

-- the tokens of a text, and their places (R43)
abbrev pub tokens : List ℕ → List Token
tokens text = T.tokens size_of token_of text

abbrev pub starts : List ℕ → List ℕ
starts text = T.starts size_of text 0
