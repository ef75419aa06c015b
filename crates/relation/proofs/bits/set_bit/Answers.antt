-- One word is stored, with one bit more. Assumes nothing.
use Rattle.relation.proofs.Rows.{stored}
use borrow.Author.Rules.{rules}
use Rattle.relation.proofs.bits.set_bit.Goals as goal

pub returns : goal.returns
returns c = let a = c.args in stored a.room.now a.w a.i a.j (search rules)
