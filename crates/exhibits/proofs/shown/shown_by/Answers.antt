-- `shown_by` meets its contract, by the verdict of the schedule. Assumes nothing.
use mathlib.Core.Path.{◌∙◌}
use borrow.Author.Rules.{rules}
use Rattle.tables.specs.Limits.{most_rows}
use Rattle.exhibits.proofs.Showing.{shows_as, shows_other}
use Rattle.exhibits.proofs.shown.shown_by.Goals as goal

pub other_generation-requires : goal.other_generation-requires
unfolding most_rows
other_generation-requires c = (search rules, c.requires.fit)

pub returns-in-Mismatch : goal.returns-in-Mismatch
returns-in-Mismatch c = shows_as _ c.judge-judged.ensures c.in-Mismatch.is

pub returns-in-Blocked : goal.returns-in-Blocked
returns-in-Blocked c = shows_as _ c.judge-judged.ensures c.in-Blocked.is

pub returns-in-StillSet : goal.returns-in-StillSet
returns-in-StillSet c = shows_as _ c.judge-judged.ensures c.in-StillSet.is

pub returns-in_default : goal.returns-in_default
returns-in_default c = c.other_generation.ensures ∙ shows_other _ c.judge-judged.ensures c.in_default.not-Mismatch c.in_default.not-Blocked c.in_default.not-StillSet
