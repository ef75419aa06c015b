-- `is_missing` meets its contract: what is searched for is the definition's test. Assumes nothing.
use mathlib.Core.Path.{ap, ◌∙◌}
use mathlib.Core.Bool.{not}
use Rattle.std.proofs.Common.{rules}
use Rattle.kernels.specs.Rows.{statements}
use Rattle.kernels.specs.Refusals.{lies_in, missing}
use Rattle.kernels.proofs.Finds.{is_found, not_twice}
use Rattle.kernels.proofs.rows.is_missing.Goals as goal

pub returns : goal.returns
unfolding missing lies_in
returns c =
    let a = c.args in
    not_twice c.is_none.ensures ∙ ap not (is_found (lies_in a.s.now a.b) (statements a.s.now) (c.first.ensures (lies_in a.s.now a.b) (λ i r l e. search rules)))
