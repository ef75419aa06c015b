-- The syncs below c have taken their seats. Assumes nothing.
use Rattle.happens.specs.Needs.{Seated}
use Rattle.happens.proofs.leaders.choose.Given as goal

abbrev pub invariant-loop-c : goal.invariant-loop-c
invariant-loop-c l = Seated l.offered.commands.now l.offered.generations.now l.leaders l.c
