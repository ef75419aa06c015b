-- `Set::none` meets its contract: the array has the limit's length. Assumes nothing.
use borrow.Author.Rules.{rules}
use Rattle.sets.specs.Set.{set_words, none}
use Rattle.sets.proofs.Set.none.Goals as goal

pub returns : goal.returns
unfolding none set_words
returns c = search rules
