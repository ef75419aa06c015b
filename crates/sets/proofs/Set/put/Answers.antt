-- `Set::put` meets its contract, by the limit and then by the word. Assumes nothing.
use borrow.Author.Tests.{lt-ltb, le-ltb}
use Rattle.tables.specs.Limits.{most_threads}
use Rattle.sets.specs.Words.{put_at}
use Rattle.sets.specs.Set.{put}
use Rattle.sets.proofs.Set.put.Goals as goal

pub returns-then-t-ge-THREADS : goal.returns-then-t-ge-THREADS
unfolding put most_threads
returns-then-t-ge-THREADS c = rw (le-ltb _ _ c.if-t-ge-THREADS.true)

pub returns : goal.returns
unfolding put put_at most_threads
returns c = rw (lt-ltb _ _ c.if-t-ge-THREADS.false, ← c.put_bit.ensures)
