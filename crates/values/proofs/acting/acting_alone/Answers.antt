-- `acting_alone` meets its contract, by the value. Assumes nothing.
use Rattle.values.proofs.Lanewise.{one_on, one_off}
use Rattle.values.proofs.acting.acting_alone.Goals as goal

pub returns-then-value-ne0 : goal.returns-then-value-ne0
returns-then-value-ne0 c = one_on _ _ _ _ _ c.value.ensures c.if-value-ne0.true

pub returns : goal.returns
returns c = one_off _ _ _ _ _ c.value.ensures c.if-value-ne0.false
