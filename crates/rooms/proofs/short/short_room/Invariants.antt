use mathlib.Core.Path.{◌≡◌}
use lib.ListN.{drop}
use Rattle.rooms.specs.Short.{first_short}
use Rattle.rooms.proofs.short.short_room.Given as goal

abbrev pub invariant-loop-room : goal.invariant-loop-room
invariant-loop-room l = first_short (drop l.room-index l.rooms) ≡ first_short l.rooms
