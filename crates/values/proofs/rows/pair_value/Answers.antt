-- `pair_value` meets its contract, by the row's kind. Assumes nothing.
use Rattle.std.proofs.Common.{refl, ◌∙◌, arith}
use Rattle.values.proofs.Filling.{is_sum, is_difference, is_less, byte_of}
use Rattle.values.proofs.rows.pair_value.Goals as goal

pub returns-in-Sum : goal.returns-in-Sum
returns-in-Sum c x held lane = is_sum _ x _ _ held lane c.in-Sum.is _ refl

pub returns-in-Difference : goal.returns-in-Difference
returns-in-Difference c x held lane = is_difference _ x _ _ held lane c.in-Difference.is _ (omega arith)

pub returns-in_default : goal.returns-in_default
returns-in_default c x held lane =
    c.from.ensures ∙ byte_of _ ∙ is_less _ x _ _ held lane c.requires c.in_default.not-Sum c.in_default.not-Difference
