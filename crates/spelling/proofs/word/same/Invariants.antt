-- `same` meets its contract: what the loop has still to compare tells what the whole does, and is as long on both sides. Assumes nothing.
use mathlib.Core.Path.{◌≡◌}
use lib.ListN.{length}
use Rattle.spelling.specs.Words.{same_bytes}
use Rattle.spelling.proofs.word.same.Given as goal

abbrev pub invariant-loop-byte : goal.invariant-loop-byte
invariant-loop-byte l =
    let a = l.byte-iterator.a.rest.now in
    let b = l.byte-iterator.b.rest.now in
    (same_bytes a b ≡ same_bytes l.bytes l.word) × (length a ≡ length b)
