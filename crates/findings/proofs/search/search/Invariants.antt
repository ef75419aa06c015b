-- The sheet has the faults of the outer numbers below i. Assumes nothing.
use Rattle.std.proofs.Common.{◌≡◌}
use Rattle.tables.specs.Rows.{rows}
use Rattle.sheet.specs.Sheet.{sheet_of}
use Rattle.faults.specs.Faults.{pair_of, all_rows}
use Rattle.findings.specs.Needs.{is_fault_at}
use Rattle.findings.proofs.search.search.Given as goal

abbrev pub invariant-loop-i : goal.invariant-loop-i
invariant-loop-i l = l.found ≡ sheet_of (all_rows (is_fault_at l.searched l.fn.fault) (pair_of l.fn.fault) (rows l.searched.commands.now) l.i)
