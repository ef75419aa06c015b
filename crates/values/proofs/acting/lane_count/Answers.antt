-- `lane_count` meets its contract: the zeros above the highest lane and the lanes up to it make 32. Assumes nothing.
use Rattle.std.proofs.Common.{arith}
use lib.Count.{leading_le}
use Rattle.values.proofs.Lanewise.{count_leading}
use Rattle.values.proofs.acting.lane_count.Goals as goal

pub overflow_sub-result : goal.overflow_sub-result
overflow_sub-result c = leading_le 32 _

pub returns : goal.returns
returns c = (count_leading _ (omega arith), omega arith)
