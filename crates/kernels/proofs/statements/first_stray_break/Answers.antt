-- `first_stray_break` meets its contract: what is searched for is the definition's test. Assumes nothing.
use Rattle.std.proofs.Common.{rules}
use Rattle.kernels.specs.Refusals.{is_stray_break}
use Rattle.kernels.proofs.statements.first_stray_break.Goals as goal

pub returns : goal.returns
unfolding is_stray_break
returns c = c.first.ensures (is_stray_break c.args.s.now) (λ i r l e. search rules)
