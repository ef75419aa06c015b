-- Bytes put into a room, from a place on.
use Rattle.std.specs.Prelude.{◌≡◌, List, ℕ, ◌+◌, max, min, length}
use Rattle.std.proofs.lemmas.List.Edits.{sets}
use Rattle.printing.specs.declared.Printer.{Printer}

-- the place n bytes on: not past the end of a room of that size, nor back where it stood past it
abbrev pub past : ℕ → ℕ → ℕ → ℕ
past size at n = max at (min (at + n) size)

-- the bytes are put, those without room left out, and the answer is the place after them
pub record PutsBytes (before after : List ℕ) (at : ℕ) (bytes : List ℕ) (next : ℕ) : Type 0 where
  pub room : after ≡ sets before at bytes
  pub on : next ≡ past (length before) at (length bytes)

-- a printer has put the bytes, and stands on the room that it stood on
pub record Prints (p q : Printer) (bytes : List ℕ) : Type 0 where
  pub puts : PutsBytes p.room.now q.room.now p.at bytes q.at
  pub same : q.room.ghost_name ≡ p.room.ghost_name
