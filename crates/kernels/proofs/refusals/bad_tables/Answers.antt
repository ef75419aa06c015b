-- `bad_tables` meets its contract: its tests are the definition's, in two parts. Assumes nothing.
use mathlib.Core.Path.{sym, ◌∙◌}
use Rattle.kernels.specs.Limits.{most_statements, most_expressions, most_lanes}
use Rattle.kernels.specs.Refusals.{are_bad_tables}
use Rattle.kernels.proofs.refusals.bad_tables.Goals as goal

pub returns-then-lanes-bad_length : goal.returns-then-lanes-bad_length
unfolding are_bad_tables most_statements most_expressions most_lanes
returns-then-lanes-bad_length c = sym (rw (← c.bad_length.ensures, ← c.bad_length-2.ensures, c.if-lanes-bad_length.true))

pub returns : goal.returns
unfolding are_bad_tables most_statements most_expressions most_lanes
returns c =
    c.some_bad_expression.ensures ∙ sym (rw (← c.bad_length.ensures, ← c.bad_length-2.ensures, c.if-lanes-bad_length.false))
