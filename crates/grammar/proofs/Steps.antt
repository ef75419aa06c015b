-- What a token does, where it goes on and where it is refused. Assumes nothing.
use Prim.Native.Nat.{ℕ}
use Rattle.grammar.specs.declared.tokens.Token.{Token}
use Rattle.grammar.specs.declared.tokens.Token.TheVariants.{Access, Signal, Return, Number, Semi, Bars, Misfit}
use Rattle.grammar.specs.declared.automaton.State.{State}
use Rattle.grammar.specs.declared.automaton.State.TheVariants.{Word, Address, Barrier, Count, Close, Parting}
use Rattle.grammar.specs.declared.automaton.TokenMove.{TokenMove}
use Rattle.grammar.specs.declared.automaton.TokenMove.TheVariants.{Refuse, On, Row, Thread}
use Rattle.grammar.specs.Automaton.{at_word, at_number, at_close, at_parting, token_moves}

-- a property of a token and its move holds of every token, once it holds of those that go on and of refusal
module _ (P : Token → TokenMove → Type 0) (off : (t : Token) → P t Refuse) where
  by_command : ((k : ℕ) → P (Access k) (On (Address k))) → ((k : ℕ) → P (Signal k) (On (Barrier k))) → P Return Thread → (t : Token) → P t (at_word t)
  by_command a s r (Access k) = a k
  by_command a s r (Signal k) = s k
  by_command a s r Return = r
  by_command a s r (Number n) = off (Number n)
  by_command a s r Semi = off Semi
  by_command a s r Bars = off Bars
  by_command a s r Misfit = off Misfit

  by_number : (f : ℕ → TokenMove) → ((n : ℕ) → P (Number n) (f n)) → (t : Token) → P t (at_number f t)
  by_number f y (Access k) = off (Access k)
  by_number f y (Signal k) = off (Signal k)
  by_number f y Return = off Return
  by_number f y (Number n) = y n
  by_number f y Semi = off Semi
  by_number f y Bars = off Bars
  by_number f y Misfit = off Misfit

  by_close : P Semi (On Word) → (t : Token) → P t (at_close t)
  by_close y (Access k) = off (Access k)
  by_close y (Signal k) = off (Signal k)
  by_close y Return = off Return
  by_close y (Number n) = off (Number n)
  by_close y Semi = y
  by_close y Bars = off Bars
  by_close y Misfit = off Misfit

  by_part : P Bars (On Word) → (t : Token) → P t (at_parting t)
  by_part y (Access k) = off (Access k)
  by_part y (Signal k) = off (Signal k)
  by_part y Return = off Return
  by_part y (Number n) = off (Number n)
  by_part y Semi = off Semi
  by_part y Bars = y
  by_part y Misfit = off Misfit

-- of a state, a token and its move
pub by_step : (P : State → Token → TokenMove → Type 0) → ((s : State) (t : Token) → P s t Refuse)
    → ((k : ℕ) → P Word (Access k) (On (Address k))) → ((k : ℕ) → P Word (Signal k) (On (Barrier k))) → P Word Return Thread
    → ((k g : ℕ) → P (Address k) (Number g) (Row k g 0)) → ((k b : ℕ) → P (Barrier k) (Number b) (On (Count k b)))
    → ((k b n : ℕ) → P (Count k b) (Number n) (Row k b n)) → P Close Semi (On Word) → P Parting Bars (On Word)
    → (s : State) (t : Token) → P s t (token_moves s t)
unfolding token_moves
by_step P off a s r g b n c p Word = by_command (P Word) (off Word) a s r
by_step P off a s r g b n c p (Address k) = by_number (P (Address k)) (off (Address k)) (λ x. Row k x 0) (g k)
by_step P off a s r g b n c p (Barrier k) = by_number (P (Barrier k)) (off (Barrier k)) (λ x. On (Count k x)) (b k)
by_step P off a s r g b n c p (Count k x) = by_number (P (Count k x)) (off (Count k x)) (λ y. Row k x y) (n k x)
by_step P off a s r g b n c p Close = by_close (P Close) (off Close) c
by_step P off a s r g b n c p Parting = by_part (P Parting) (off Parting) p
