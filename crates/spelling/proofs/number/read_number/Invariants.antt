-- `read_number` meets its contract: the bytes that the loop has passed are digits, of the value it holds. Assumes nothing.
use mathlib.Core.Path.{◌≡◌}
use Prim.Native.Nat.{◌+◌, ◌≤◌}
use lib.ListN.{drop}
use Rattle.spelling.specs.Bytes.{is, digit, run}
use Rattle.spelling.specs.Numbers.{most_number, decimal}
use Rattle.spelling.proofs.number.read_number.Given as goal

abbrev pub invariant-loop-byte : goal.invariant-loop-byte
invariant-loop-byte l =
    (l.byte-index + run (is digit) (drop l.byte-index l.bytes) ≡ run (is digit) l.bytes) × (decimal l.value (drop l.byte-index l.bytes) ≡ decimal 0 l.bytes) × (l.value ≤ most_number)
