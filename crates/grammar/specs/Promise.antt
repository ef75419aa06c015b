-- What each public function promises.
use Rattle.std.specs.Prelude.{◌≡◌, Bool, List, ℕ}
use Rattle.grammar.specs.declared.tokens.Token.{Token}
use Rattle.grammar.specs.declared.tokens.Met.{Met}
use Rattle.grammar.specs.declared.automaton.State.{State}
use Rattle.grammar.specs.declared.automaton.TokenMove.{TokenMove}
use Rattle.grammar.specs.Tokens.{token_at}
use Rattle.grammar.specs.Automaton.{token_moves, may_end}

-- `token_at`; and of the crate reader `Reader::token` and `token_from`
abbrev pub AnswersTokenAt : (text : List ℕ) (at : ℕ) (r : Met) → Type 0
AnswersTokenAt text at r = r ≡ token_at text at

-- `take_token`
abbrev pub AnswersTakeToken : (state : State) (token : Token) (r : TokenMove) → Type 0
AnswersTakeToken state token r = r ≡ token_moves state token

-- `may_end`
abbrev pub AnswersMayEnd : (state : State) (r : Bool) → Type 0
AnswersMayEnd state r = r ≡ may_end state
