-- What the parts that read standard input pass on; nothing public speaks of it.
use Rattle.std.specs.Prelude.{Result, Ok, Err, List, ℕ}
use Rattle.std.specs.declared.io.Error.{Error}
use Rattle.cuckoomoss.specs.Printed.{IsPrefixLen}

-- bytes that came stand at the start of the room; of a read that failed nothing is said
abbrev pub CameWithin : Result ℕ Error → List ℕ → Type 0
CameWithin (Ok n) room = IsPrefixLen n room
CameWithin (Err _) room = Unit {0}
