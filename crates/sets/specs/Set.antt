-- A set of threads: those below the limit whose bit is set.
use Rattle.std.specs.Prelude.{Bool, cond, not, ◌&&◌, Option, ℕ, ◌/◌, ltb, replicate}
use Rattle.tables.specs.Limits.{most_threads}
use Rattle.tables.specs.Lowest.{found}
use Rattle.sets.specs.declared.Set.{Set}
use Rattle.sets.specs.Words.{in_words, put_at}

-- so many words of 64 bits
unfoldable pub set_words : ℕ
unfolding most_threads
set_words = most_threads / 64

-- is thread t in it?
unfoldable pub has : Set → ℕ → Bool
has s t = ltb t most_threads && in_words s.words t

unfoldable pub none : Set
none = record { words = replicate set_words 0 }

-- thread t is in it, or not; a number past the limit is no thread (R80)
unfoldable pub put : Set → ℕ → Bool → Set
put s t on = cond (ltb t most_threads) (record { words = put_at s.words t on }) s

-- thread t is in a and not in b
abbrev pub has_but : Set → Set → ℕ → Bool
has_but a b t = has a t && not (has b t)

-- the lowest such thread, if there is one
abbrev pub lowest_but : Set → Set → Option ℕ
lowest_but a b = found (has_but a b) most_threads
