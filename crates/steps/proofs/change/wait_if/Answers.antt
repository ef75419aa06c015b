-- `wait_if` meets its contract, by its test. Assumes nothing.
use Rattle.steps.proofs.change.wait_if.Goals as goal

pub returns-then-syncs : goal.returns-then-syncs
returns-then-syncs c = rw c.if-syncs.true

pub returns-else-syncs : goal.returns-else-syncs
returns-else-syncs c = rw c.if-syncs.false
