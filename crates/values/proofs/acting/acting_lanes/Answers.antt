-- `acting_lanes` meets its contract: no lane, one, or several. Assumes nothing.
use Rattle.std.proofs.Common.{◌∙◌, arith}
use Rattle.kernels.specs.Limits.{most_expressions}
use Rattle.values.proofs.Lanewise.{acting_none, acting_limit, acting_stays, acting_alone}
use Rattle.values.proofs.acting.acting_lanes.Goals as goal

pub returns-then-root-ge-EXPRESSIONS : goal.returns-then-root-ge-EXPRESSIONS
unfolding most_expressions
returns-then-root-ge-EXPRESSIONS c = acting_limit _ _ _ _ _ c.if-root-ge-EXPRESSIONS.true

pub returns-then-count-eq0 : goal.returns-then-count-eq0
returns-then-count-eq0 c = acting_none _ _ _ ∙ acting_stays _ _ _ 0 32 (rw c.if-count-eq0.true at c.lane_count-count.ensures.0) (omega arith)

pub returns-then-mask-count : goal.returns-then-mask-count
returns-then-mask-count c =
    let n = c.lane_count-count.ensures in
    acting_alone _ _ _ _ _ c.if-count-eq0.false n.1 n.0 c.if-mask-count.true c.acting_alone.ensures

pub acting_several-requires : goal.acting_several-requires
unfolding most_expressions
acting_several-requires c = (omega arith, c.lane_count-count.ensures.1)

pub returns : goal.returns
returns c = let n = c.lane_count-count.ensures in c.acting_several.ensures ∙ acting_stays _ _ _ _ 32 n.0 n.1
