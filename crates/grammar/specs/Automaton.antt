-- The reader, token by token (R44).
use Rattle.std.specs.Prelude.{Bool, true, false, ℕ}
use Rattle.spelling.specs.Machine.{Move, refuse, on, row_done, thread_done, row}
use Rattle.grammar.specs.declared.tokens.Token.{Token}
use Rattle.grammar.specs.declared.tokens.Token.TheVariants.{Access, Signal, Return, Number, Semi, Bars, Misfit}
use Rattle.grammar.specs.declared.automaton.State.{State}
use Rattle.grammar.specs.declared.automaton.State.TheVariants.{Word, Address, Barrier, Count, Close, Parting}
use Rattle.grammar.specs.declared.automaton.TokenMove.{TokenMove}
use Rattle.grammar.specs.declared.automaton.TokenMove.TheVariants.{Refuse, On, Row, Thread}

-- where the word of a command or `return` is expected
abbrev pub at_word : Token → TokenMove
at_word (Access k) = On (Address k)
at_word (Signal k) = On (Barrier k)
at_word Return = Thread
at_word (Number n) = Refuse
at_word Semi = Refuse
at_word Bars = Refuse
at_word Misfit = Refuse

-- where a number is expected
abbrev pub at_number : (ℕ → TokenMove) → Token → TokenMove
at_number f (Access k) = Refuse
at_number f (Signal k) = Refuse
at_number f Return = Refuse
at_number f (Number n) = f n
at_number f Semi = Refuse
at_number f Bars = Refuse
at_number f Misfit = Refuse

-- where `;` is expected
abbrev pub at_close : Token → TokenMove
at_close (Access k) = Refuse
at_close (Signal k) = Refuse
at_close Return = Refuse
at_close (Number n) = Refuse
at_close Semi = On Word
at_close Bars = Refuse
at_close Misfit = Refuse

-- where `||` is expected
abbrev pub at_parting : Token → TokenMove
at_parting (Access k) = Refuse
at_parting (Signal k) = Refuse
at_parting Return = Refuse
at_parting (Number n) = Refuse
at_parting Semi = Refuse
at_parting Bars = On Word
at_parting Misfit = Refuse

-- what a token does, by what is expected (R44)
unfoldable pub token_moves : State → Token → TokenMove
token_moves Word t = at_word t
token_moves (Address k) t = at_number (λ g. Row k g 0) t
token_moves (Barrier k) t = at_number (λ b. On (Count k b)) t
token_moves (Count k b) t = at_number (λ n. Row k b n) t
token_moves Close t = at_close t
token_moves Parting t = at_parting t

-- whether the text may end here (R44)
abbrev pub may_end : State → Bool
may_end Word = false
may_end (Address k) = false
may_end (Barrier k) = false
may_end (Count k b) = false
may_end Close = false
may_end Parting = true

-- what is expected after a row is `;`, and after a thread `||` or the end
abbrev pub move : TokenMove → Move State
move Refuse = refuse
move (On s) = on s
move (Row k n c) = row_done (row k n c) Close
move Thread = thread_done Parting

abbrev pub next_move : State → Token → Move State
next_move s t = move (token_moves s t)
