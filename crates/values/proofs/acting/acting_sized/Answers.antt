-- `acting_sized` meets its contract: the room serves. Assumes nothing.
use Rattle.std.proofs.Common.{arith}
use Rattle.values.proofs.Several.{new_room}
use Rattle.values.proofs.acting.acting_sized.Goals as goal

pub whole_as_slice-acting_in : goal.whole_as_slice-acting_in
whole_as_slice-acting_in g c = omega arith

pub acting_in-requires : goal.acting_in-requires
acting_in-requires g c = let (fits, few, l, m) = c.requires in new_room _ _ _ fits l m
