-- The commands from c on are listed. Assumes nothing.
use Rattle.findings.specs.Needs.{Lists}
use Rattle.findings.proofs.lists.list.Given as goal

abbrev pub invariant-loop-c : goal.invariant-loop-c
invariant-loop-c l = Lists l.searched l.fault l.fronts l.nexts l.c
