-- `keeps_rules` meets its contract: its tests are the rules'. Assumes nothing.
use mathlib.Core.Path.{refl}
use mathlib.Core.Bool.{and_assoc}
use borrow.Author.Tests.{lt-ltb, le-ltb}
use Rattle.tables.specs.Limits.{addresses, barriers, most_count}
use Rattle.rules.specs.Rules.{does_row_keep}
use Rattle.rules.proofs.keeps_rules.Goals as goal

pub returns-then-kind-lt-ARRIVE : goal.returns-then-kind-lt-ARRIVE
unfolding does_row_keep addresses barriers most_count
returns-then-kind-lt-ARRIVE c = simp (lt-ltb _ _ c.if-kind-lt-ARRIVE.true)

pub returns : goal.returns
unfolding does_row_keep addresses barriers most_count
returns c = simp (le-ltb _ _ c.if-kind-lt-ARRIVE.false, and_assoc) refl
