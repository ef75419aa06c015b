-- `some_bad_expression` meets its contract: what is searched for is the definition's test. Assumes nothing.
use mathlib.Core.Path.{◌∙◌}
use Rattle.std.proofs.Common.{rules}
use Rattle.kernels.specs.Rows.{expressions}
use Rattle.kernels.specs.Refusals.{bad_expression}
use Rattle.kernels.proofs.Finds.{is_found}
use Rattle.kernels.proofs.expressions.some_bad_expression.Goals as goal

pub returns : goal.returns
unfolding bad_expression
returns c =
    let e = c.args.e.now in
    c.is_some.ensures ∙ is_found (bad_expression e) (expressions e) (c.first.ensures (bad_expression e) (λ i r l f. search rules))
