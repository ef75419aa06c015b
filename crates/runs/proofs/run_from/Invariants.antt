-- `run_from` meets its contract: what the loop has come to is the warp after the steps taken. Assumes nothing.
use lib.ListN.{length}
use Rattle.runs.specs.Run.{kernel_run, tell_run}
use Rattle.runs.proofs.Running.{Going}
use Rattle.runs.proofs.run_from.Given as goal

abbrev pub invariant-loop-taken : goal.invariant-loop-taken
invariant-loop-taken l = Going l.code l.expressions (tell_run (kernel_run l.code l.expressions l.lanes l.steps l.initial.cells)) (length l.initial.cells) l.steps l.stack l.stand l.cells l.taken
