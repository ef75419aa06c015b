-- No sync from j on is met. Assumes nothing.
use Rattle.std.proofs.Common.{◌≡◌}
use Rattle.happens.specs.Needs.{does_meet_row, last_below, last_met_of}
use Rattle.happens.proofs.leaders.last_met.Given as goal

abbrev pub invariant-loop-j : goal.invariant-loop-j
invariant-loop-j l = last_met_of l.offered.commands.now l.offered.generations.now l.c ≡ last_below (does_meet_row l.offered.commands.now l.offered.generations.now l.c) l.j
