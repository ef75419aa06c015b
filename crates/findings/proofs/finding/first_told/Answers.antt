-- A sheet tells whether there is a pair, and the first. Assumes nothing.
use Rattle.findings.specs.Needs.{fault_number}
use Rattle.findings.proofs.Looks.{told_none, told_first}
use Rattle.findings.proofs.finding.first_told.Goals as goal

pub returns-then-sheet-eq0 : goal.returns-then-sheet-eq0
returns-then-sheet-eq0 c ps is = told_none (fault_number c.args.fault) _ ps is c.if-sheet-eq0.true

pub returns-in-Reuse : goal.returns-in-Reuse
returns-in-Reuse c ps is = rw c.in-Reuse.is (told_first 10 _ ps is c.if-sheet-eq0.false)

pub returns-in-Race : goal.returns-in-Race
returns-in-Race c ps is = rw c.in-Race.is (told_first 11 _ ps is c.if-sheet-eq0.false)
