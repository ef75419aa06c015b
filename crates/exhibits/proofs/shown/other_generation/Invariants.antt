-- `other_generation` meets its contract: below c no generation is another. Assumes nothing.
use Rattle.rooms.specs.Rooms.{number_at}
use Rattle.tables.proofs.Scans.{Scanned}
use Rattle.exhibits.specs.Shown.{differs}
use Rattle.exhibits.proofs.shown.other_generation.Given as goal

abbrev pub invariant-loop-c : goal.invariant-loop-c
invariant-loop-c l = Scanned (differs (number_at l.found) (number_at l.offered)) l.m l.c
