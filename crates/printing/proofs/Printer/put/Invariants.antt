-- `put` meets its contract: after i turns the first i bytes are put. Assumes nothing.
use lib.ListN.{take}
use Rattle.printing.specs.Putting.{Prints}
use Rattle.printing.proofs.Printer.put.Given as goal

abbrev pub invariant-loop-byte : goal.invariant-loop-byte
invariant-loop-byte l = Prints l.initial.self l.self (take l.byte-index l.bytes)
