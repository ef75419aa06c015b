-- The pairs of the commands below c are listed. Assumes nothing.
use Rattle.std.proofs.Common.{◌*◌}
use Rattle.happens.specs.Needs.{DrawsBelow, Adds}
use Rattle.happens.proofs.pairs.put_pairs.Given as goal

abbrev pub invariant-loop-c : goal.invariant-loop-c
invariant-loop-c l = Adds (3 * l.c) (DrawsBelow l.offered.commands.now l.offered.generations.now l.offered.heads.now l.leaders l.c) l.initial.listed.numbers l.listed.numbers 0 l.listed.count
