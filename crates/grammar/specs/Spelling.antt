-- Tokens: a longest run of lower-case letters, a longest run of digits, `;`, `||` (R43 to R45).
use Rattle.std.specs.Prelude.{◌≡◌, ◌⊎◌, Bool, false, List, [], ◌∷◌, ℕ}
use Rattle.tables.specs.Rows.{read, write, arrive, sync}
use Rattle.spelling.specs.Bytes.{is, letter, digit}
use Rattle.spelling.specs.Numbers.{Means}
use Rattle.grammar.specs.declared.tokens.Token.{Token}
use Rattle.grammar.specs.declared.tokens.Token.TheVariants.{Access, Signal, Return, Number, Semi, Bars, Misfit}

-- the words (R44)
abbrev pub read_word : List ℕ
read_word = 114 ∷ 101 ∷ 97 ∷ 100 ∷ []

abbrev pub write_word : List ℕ
write_word = 119 ∷ 114 ∷ 105 ∷ 116 ∷ 101 ∷ []

abbrev pub arrive_word : List ℕ
arrive_word = 97 ∷ 114 ∷ 114 ∷ 105 ∷ 118 ∷ 101 ∷ []

abbrev pub sync_word : List ℕ
sync_word = 115 ∷ 121 ∷ 110 ∷ 99 ∷ []

abbrev pub return_word : List ℕ
return_word = 114 ∷ 101 ∷ 116 ∷ 117 ∷ 114 ∷ 110 ∷ []

-- the bytes spell the token (R43 to R45)
abbrev pub Spelling : List ℕ → Token → Type 0
Spelling w (Access k) = ((k ≡ read) × (w ≡ read_word)) ⊎ ((k ≡ write) × (w ≡ write_word))
Spelling w (Signal k) = ((k ≡ arrive) × (w ≡ arrive_word)) ⊎ ((k ≡ sync) × (w ≡ sync_word))
Spelling w Return = w ≡ return_word
Spelling w (Number n) = Means w n
Spelling w Semi = w ≡ 59 ∷ []
Spelling w Bars = w ≡ 124 ∷ 124 ∷ []
Spelling w Misfit = ⊥

-- a word goes as far as its letters do, a number as far as its digits (R43)
abbrev pub extends : Token → ℕ → Bool
extends (Access k) b = is letter b
extends (Signal k) b = is letter b
extends Return b = is letter b
extends (Number n) b = is digit b
extends Semi b = false
extends Bars b = false
extends Misfit b = false
