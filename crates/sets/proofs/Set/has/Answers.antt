-- `Set::has` meets its contract, by the limit and then by the bit. Assumes nothing.
use borrow.Author.Tests.{lt-ltb, le-ltb}
use Rattle.relation.specs.Bits.{bit_of}
use Rattle.tables.specs.Limits.{most_threads}
use Rattle.sets.specs.Words.{in_words}
use Rattle.sets.specs.Set.{has}
use Rattle.sets.proofs.Set.has.Goals as goal

pub returns-then-t-ge-THREADS : goal.returns-then-t-ge-THREADS
unfolding has most_threads
returns-then-t-ge-THREADS c = rw (le-ltb _ _ c.if-t-ge-THREADS.true)

pub returns : goal.returns
unfolding has in_words bit_of most_threads
returns c = rw (lt-ltb _ _ c.if-t-ge-THREADS.false)
