-- `enter` meets its contract, by what is met. Assumes nothing.
use mathlib.Core.Path.{◌∙◌}
use native.Mathlib.Omega.{arith}
use Rattle.tables.specs.Limits.{barriers}
use Rattle.steps.proofs.RowTests.{enters_clash, enters_stays, enters_completes}
use Rattle.steps.proofs.change.enter.Goals as goal

pub overflow_cast-result : goal.overflow_cast-result
unfolding barriers
overflow_cast-result c = let l = c.requires in omega arith

pub overflow_add-result : goal.overflow_add-result
unfolding barriers
overflow_add-result c = let l = c.requires in omega arith

pub returns-in-Clash : goal.returns-in-Clash
returns-in-Clash c = c.still.ensures ∙ enters_clash _ _ _ c.register-registration.ensures c.in-Clash.is

pub returns-in-Stays : goal.returns-in-Stays
returns-in-Stays c =
    enters_stays _ _ _ c.register-registration.ensures c.more-generation.ensures c.wait_if.ensures c.in-Stays.is

pub returns-in-Completes : goal.returns-in-Completes
returns-in-Completes c =
    enters_completes _ _ _ c.register-registration.ensures c.more-generation.ensures c.wait_if-in-Completes.ensures c.in-Completes.is
