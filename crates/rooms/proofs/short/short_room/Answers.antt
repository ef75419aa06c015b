-- `short_room` meets its contract: none of the rooms before the one that the loop has come to is short. Assumes nothing.
use native.Mathlib.Omega.{arith}
use Rattle.rooms.proofs.Rooms.{gone_all, gone_short, gone_more}
use Rattle.rooms.proofs.short.short_room.Goals as goal

pub returns-then-room : goal.returns-then-room
returns-then-room c = gone_short _ _ c.loop-room.invariant c.loop-room-test.true c.if-room.true

pub loop-room-preserved : goal.loop-room-preserved
loop-room-preserved c = gone_more _ _ c.loop-room.invariant c.loop-room-test.true c.if-room.false

pub returns : goal.returns
returns c = gone_all c.args.rooms.now c.loop-room.room-index c.loop-room.invariant (omega arith)
