-- `leaf_value` meets its contract, by the row's kind. Assumes nothing.
use Rattle.values.proofs.Filling.{is_number, is_cell, is_lane}
use Rattle.values.proofs.rows.leaf_value.Goals as goal

pub returns-in-Number : goal.returns-in-Number
returns-in-Number c a b = is_number _ _ a b _ _ c.in-Number.is

pub returns-in-Cell : goal.returns-in-Cell
returns-in-Cell c a b = is_cell _ _ a b _ _ c.in-Cell.is

pub returns-in_default : goal.returns-in_default
returns-in_default c a b = is_lane _ _ a b _ _ c.requires c.in_default.not-Number c.in_default.not-Cell
