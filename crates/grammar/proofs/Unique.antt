-- Two answers that meet the contract of a public function for the same inputs are equal. Assumes nothing.
use mathlib.Core.Path.{◌≡◌, sym, ◌∙◌}
use mathlib.Core.Bool.{Bool}
use mathlib.Core.List.{List}
use Prim.Native.Nat.{ℕ}
use Rattle.grammar.specs.declared.tokens.Token.{Token}
use Rattle.grammar.specs.declared.tokens.Met.{Met}
use Rattle.grammar.specs.declared.automaton.State.{State}
use Rattle.grammar.specs.declared.automaton.TokenMove.{TokenMove}
use Rattle.grammar.specs.Promise.{AnswersTokenAt, AnswersTakeToken, AnswersMayEnd}

pub token_at_one : (text : List ℕ) (at : ℕ) {r s : Met} → AnswersTokenAt text at r → AnswersTokenAt text at s → r ≡ s
token_at_one text at e f = e ∙ sym f

pub take_token_one : (state : State) (token : Token) {r s : TokenMove} → AnswersTakeToken state token r → AnswersTakeToken state token s → r ≡ s
take_token_one state token e f = e ∙ sym f

pub may_end_one : (state : State) {r s : Bool} → AnswersMayEnd state r → AnswersMayEnd state s → r ≡ s
may_end_one state e f = e ∙ sym f
