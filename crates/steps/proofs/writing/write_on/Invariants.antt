-- `write_on` meets its contract: after some steps the room has what they are, and the sets say who may step next. Assumes nothing.
use Rattle.steps.proofs.Written.{Writing}
use Rattle.steps.proofs.writing.write_on.Given as goal

abbrev pub invariant-loop-steps : goal.invariant-loop-steps
invariant-loop-steps l =
    Writing l.early l.commands l.lengths l.initial.room l.initial.state l.room l.state l.ready l.blocked l.steps
