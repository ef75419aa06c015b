-- `bad_commands` meets its contract: the two tests, in one disjunction. Assumes nothing.
use mathlib.Core.Path.{sym}
use mathlib.Core.Logic.{inl}
use borrow.Author.Tests.{eq-eqb}
use Rattle.tables.specs.Limits.{most_rows}
use Rattle.rules.proofs.Rules.{bad_commands}
use Rattle.rules.proofs.bad_commands.Goals as goal

pub returns-then-numbers-ne0 : goal.returns-then-numbers-ne0
returns-then-numbers-ne0 c = sym (bad_commands c.args.commands.now (inl c.if-numbers-ne0.true))

pub returns : goal.returns
unfolding most_rows
returns c = simp (eq-eqb _ _ c.if-numbers-ne0.false)
