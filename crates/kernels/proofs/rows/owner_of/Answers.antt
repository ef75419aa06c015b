-- `owner_of` meets its contract: what is searched for is the definition's test. Assumes nothing.
use Rattle.std.proofs.Common.{rules}
use Rattle.kernels.specs.Refusals.{has_body}
use Rattle.kernels.proofs.rows.owner_of.Goals as goal

pub returns : goal.returns
unfolding has_body
returns c = c.first.ensures (has_body c.args.s.now c.args.b) (λ i r l e. search rules)
