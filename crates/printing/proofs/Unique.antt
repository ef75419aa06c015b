-- Two outcomes that meet the contract of a public function for the same inputs are equal. Assumes nothing.
use mathlib.Core.Path.{◌≡◌, sym, ◌∙◌}
use mathlib.Core.List.{List}
use Prim.Native.Nat.{ℕ}
use Rattle.printing.specs.declared.Printer.{Printer}
use Rattle.printing.specs.Putting.{PutsBytes, Prints}

-- of bytes put into a room: the room that is left, and the place after them
pub puts_bytes_unique : {before a b : List ℕ} {at m n : ℕ} {bytes : List ℕ} → PutsBytes before a at bytes m → PutsBytes before b at bytes n → (a ≡ b) × (m ≡ n)
puts_bytes_unique p q = (p.room ∙ sym q.room, p.on ∙ sym q.on)

-- of all that print: the bytes in the room, the place, and which room it is
pub puts_unique : {p a b : Printer} {bytes : List ℕ} → Prints p a bytes → Prints p b bytes
    → (a.room.now ≡ b.room.now) × (a.at ≡ b.at) × (a.room.ghost_name ≡ b.room.ghost_name)
puts_unique f g =
    let h = puts_bytes_unique f.puts g.puts in
    (h.0, h.1, f.same ∙ sym g.same)
