-- `number` meets its contract, by the entry. Assumes nothing.
use mathlib.Core.Path.{sym, ap, ◌∙◌}
use Rattle.machine.specs.Needs.{meant}
use Rattle.machine.proofs.Held.{entry_row, again_number, token_number}
use Rattle.machine.proofs.stack.StackEntry.number.Goals as goal

pub returns-in-Row : goal.returns-in-Row
returns-in-Row c = entry_row _ (rw c.in-Row.is at c.requires) ∙ sym (ap meant c.in-Row.is)

pub returns-in-Again : goal.returns-in-Again
returns-in-Again c = again_number _ (rw c.in-Again.is at c.requires) ∙ sym (ap meant c.in-Again.is)

pub returns-in-Token : goal.returns-in-Token
returns-in-Token c =
    let (k, m) = rw c.in-Token.is at c.requires in
    token_number _ _ k m ∙ sym (ap meant c.in-Token.is)
