-- `fill_row` meets its contract: a row has operands or none. Assumes nothing.
use Rattle.std.proofs.Common.{arith}
use Rattle.kernels.specs.Limits.{most_expressions}
use Rattle.values.proofs.Filling.{is_pair}
use Rattle.values.proofs.Several.{strips, leaf_row, pair_row}
use Rattle.values.proofs.wide.fill_row.Goals as goal

pub overflow_mul-i : goal.overflow_mul-i
unfolding most_expressions
overflow_mul-i c = omega arith

pub overflow_add-i : goal.overflow_add-i
unfolding most_expressions
overflow_add-i c = omega arith

pub returns-in-Number : goal.returns-in-Number
returns-in-Number c =
    let a = c.args in
    leaf_row a.expressions.now _ _ a.cells.now c.kind_at-kind.ensures c.at-x.ensures c.at-held.ensures c.fill_leaf.ensures

pub overflow_mul-i-in-Sum : goal.overflow_mul-i-in-Sum
unfolding most_expressions
overflow_mul-i-in-Sum c = omega arith

pub overflow_add-i-in-Sum : goal.overflow_add-i-in-Sum
unfolding most_expressions
overflow_add-i-in-Sum c = omega arith

pub fill_pair-requires : goal.fill_pair-requires
fill_pair-requires c = (is_pair _ c.in-Sum.is, strips c.requires _ _ c.strip-a.ensures c.strip-b.ensures)

pub returns-in-Sum : goal.returns-in-Sum
returns-in-Sum c =
    let a = c.args in
    pair_row a.expressions.now _ _ a.cells.now c.kind_at-kind.ensures c.at-x.ensures c.at-y.ensures c.strip-a.ensures c.strip-b.ensures c.fill_pair.ensures
