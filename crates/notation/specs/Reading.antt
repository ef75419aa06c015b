-- What a reading answers, and what the lent tables then hold (R41, R42, R46 to R51).
use Rattle.std.specs.Prelude.{Bool, cond, ◌||◌, Result, Ok, Err, List, ℕ, ◌/◌, min, ltb, length, get_or, drop}
use Rattle.std.proofs.Math.Option.{Option, none, some}
use Rattle.tables.specs.Limits.{most_rows, most_threads}
use Rattle.verdicts.specs.Verdicts.{tell}
use Rattle.verdicts.specs.declared.Told.{Told}
use Rattle.spelling.specs.Machine.{Outcome, found, flat}
use Rattle.tables.specs.Over.{over}
use Rattle.grammar.specs.declared.automaton.State.TheVariants.{Word}
use Rattle.notation.specs.declared.scan.Sizes.{Sizes}
use Rattle.notation.specs.declared.reading.Unread.{Unread}
use Rattle.notation.specs.declared.reading.Unread.TheVariants.{Unfit, Over}
use Rattle.grammar.specs.Tokens.{tokens, starts}
use Rattle.grammar.specs.Automaton.{next_move, may_end}

-- a text has at most so many bytes (R47)
unfoldable pub most_bytes : ℕ
most_bytes = 32768

-- what is found in a text
abbrev pub read_of : List ℕ → Outcome
read_of text = found next_move may_end (tokens text) Word 0

abbrev pub row_numbers : List ℕ → List ℕ
row_numbers text = flat (read_of text).rows

abbrev pub thread_lengths : List ℕ → List ℕ
thread_lengths text = (read_of text).lengths

abbrev pub sizes : ℕ → ℕ → Sizes
sizes m t = record { commands = m; threads = t }

-- what the judging pass answers: so many commands and threads, or the place of a refusal
abbrev pub Scanned : Type 0
Scanned = Result Sizes ℕ

-- what a reading answers
abbrev pub Reading : Type 0
Reading = Result Sizes Unread

-- 12 where a token doesn't fit, or at the text's length (R48); else how many commands and threads were found
abbrev pub scanned_by : List ℕ → ℕ → ℕ → ℕ → Option ℕ → Scanned
scanned_by places end m t none = Ok (sizes m t)
scanned_by places end m t (some i) = Err (get_or places i end)

unfoldable pub scanned_of : List ℕ → Scanned
scanned_of text =
    scanned_by (starts text) (length text) (length (read_of text).rows) (length (read_of text).lengths) (read_of text).stop

-- the numbers of an answer: a refusal's number and place, else 0 and the numbers of commands and threads (R42, R51)
pub record Answer : Type 0 where
  pub told : Told
  pub command_count : ℕ
  pub thread_count : ℕ

abbrev pub answer : Told → ℕ → ℕ → Answer
answer d m t = record { told = d; command_count = m; thread_count = t }

-- those of each case: 12, 13, and what is accepted (R41, R42, R51)
abbrev pub answered : Reading → Answer
answered (Err (Unfit p)) = answer (tell 12 p 0) 0 0
answered (Err Over) = answer (tell 13 0 0) 0 0
answered (Ok s) = answer (tell 0 0 0) s.commands s.threads

-- more commands or threads than a table has, or than the lent rooms hold: one of c numbers for the commands, one of l for the lengths (R50)
unfoldable pub is_too_many : ℕ → ℕ → ℕ → ℕ → Bool
is_too_many m t c l = ltb most_rows m || ltb most_threads t || ltb (c / 3) m || ltb l t

-- 12 (R48); then 13 for too many (R50)
abbrev pub answer_of : Scanned → ℕ → ℕ → Answer
answer_of (Err p) c l = answer (tell 12 p 0) 0 0
answer_of (Ok s) c l = cond (is_too_many s.commands s.threads c l) (answer (tell 13 0 0) 0 0) (answer (tell 0 0 0) s.commands s.threads)

-- 13 for too many bytes is tested first (R47); for all else only after the whole text has passed 12 (R50). No rule of rows is asked (R46).
unfoldable pub reading : List ℕ → ℕ → ℕ → Answer
reading text c l = cond (ltb most_bytes (length text)) (answer (tell 13 0 0) 0 0) (answer_of (scanned_of text) c l)

-- a table is written in its first places where the reading is accepted, and untouched otherwise (R51)
abbrev pub written : Reading → List ℕ → List ℕ → List ℕ
written (Err (Unfit p)) new old = old
written (Err Over) new old = old
written (Ok s) new old = over new old

-- the rest of a text begins at the offending token, and in every answer but 12 at the text's end (R49)
abbrev pub rest_at : Reading → ℕ → ℕ
rest_at (Err (Unfit p)) n = min p n
rest_at (Err Over) n = n
rest_at (Ok s) n = n

abbrev pub rest_of : Reading → List ℕ → List ℕ
rest_of r text = drop (rest_at r (length text)) text
