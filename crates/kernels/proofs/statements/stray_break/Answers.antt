-- `stray_break` meets its contract, by the row's kind. Assumes nothing.
use Rattle.std.proofs.Common.{rules}
use Rattle.kernels.specs.Refusals.{is_while}
use Rattle.kernels.proofs.statements.stray_break.Goals as goal

pub returns-then-is : goal.returns-then-is
unfolding is_while
returns-then-is c =
    simp (c.meets.ensures (is_while c.args.s.now) (λ j r l e. search rules), ← c.is.ensures, c.if-is.true)
