-- `first_bad_statement` meets its contract: what is searched for is the definition's test. Assumes nothing.
use Rattle.std.proofs.Common.{rules}
use Rattle.kernels.specs.Refusals.{is_bad_statement}
use Rattle.kernels.proofs.statements.first_bad_statement.Goals as goal

pub returns : goal.returns
unfolding is_bad_statement
returns c = c.first.ensures (is_bad_statement c.args.s.now c.args.count) (λ i r l e. search rules)
