-- The product of m and its width fits. Assumes nothing.
use Rattle.relation.proofs.Rooms.{words_fit}
use borrow.Author.Rules.{rules}
use Rattle.relation.proofs.table.table_words.Goals as goal

pub overflow_mul-result : goal.overflow_mul-result
overflow_mul-result c = record { fits = rw c.row_words.ensures (words_fit c.args.m (search rules)) }
