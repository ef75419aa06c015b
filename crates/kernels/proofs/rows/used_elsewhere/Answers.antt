-- `used_elsewhere` meets its contract: what is searched for is the definition's test. Assumes nothing.
use mathlib.Core.Path.{◌∙◌}
use Rattle.std.proofs.Common.{rules}
use Rattle.kernels.specs.Rows.{statements}
use Rattle.kernels.specs.Refusals.{has_body, uses, uses_besides, is_used_elsewhere}
use Rattle.kernels.proofs.Finds.{is_found}
use Rattle.kernels.proofs.rows.used_elsewhere.Goals as goal

pub returns : goal.returns
unfolding is_used_elsewhere uses_besides uses has_body
returns c =
    let a = c.args in
    c.is_some.ensures ∙ is_found (uses_besides a.s.now a.i a.b) (statements a.s.now) (c.first.ensures (uses_besides a.s.now a.i a.b) (λ i r l e. search rules))
