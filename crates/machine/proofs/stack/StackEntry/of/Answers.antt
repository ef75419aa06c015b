-- `of` meets its contract: each number stands for one entry. Assumes nothing.
use mathlib.Core.Path.{sym}
use native.Mathlib.Omega.{arith}
use Rattle.machine.proofs.Held.{entry_row, entry_again, entry_token}
use Rattle.machine.proofs.stack.StackEntry.of.Goals as goal

pub returns-then-number-lt-AGAIN : goal.returns-then-number-lt-AGAIN
returns-then-number-lt-AGAIN c = (sym (entry_row _ c.if-number-lt-AGAIN.true), omega arith)

pub returns-then-number-lt-TOKENS : goal.returns-then-number-lt-TOKENS
returns-then-number-lt-TOKENS c =
    (sym (entry_again _ c.if-number-lt-AGAIN.false c.if-number-lt-TOKENS.true), omega arith)

pub returns : goal.returns
returns c = (sym (entry_token _ c.if-number-lt-TOKENS.false), (omega arith, omega arith))
