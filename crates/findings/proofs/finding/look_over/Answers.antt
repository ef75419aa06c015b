-- The room has the heads of all rows, by which the faults are those by the lengths. Assumes nothing.
use Rattle.std.proofs.Common.{ℕ, arith}
use Rattle.std.proofs.Math.ListN.{length-replicate}
use Rattle.tables.specs.Limits.{most_rows}
use Rattle.tables.proofs.Filling.{headed}
use Rattle.findings.proofs.Looks.{looked_over}
use Rattle.findings.proofs.finding.look_over.Goals as goal

pub returns : goal.returns
unfolding most_rows
returns c = looked_over _ (headed _ (omega (arith, c.requires.0, length-replicate {A = ℕ} 512 0)) c.put_heads.ensures) c.look.ensures
