-- The grammar of the written notation, apart from the reader: which tokens write which table, and which text denotes it (R44, R46).
use Rattle.std.specs.Prelude.{◌≡◌, List, [], ◌∷◌, ◌++◌, map, ℕ, length}
use Rattle.spelling.specs.Machine.{Row, row}
use Rattle.spelling.specs.Spells as S
use Rattle.grammar.specs.declared.tokens.Token.{Token}
use Rattle.grammar.specs.declared.tokens.Token.TheVariants.{Access, Signal, Return, Number, Semi, Bars}
use Rattle.grammar.specs.Spelling.{Spelling, extends}

-- a command: an access of a kind to an address; a signal of a kind to a barrier, with a count (R44)
pub data Command : Type 0 where
  access : ℕ → ℕ → Command
  signal : ℕ → ℕ → ℕ → Command

-- `read g;` `write g;` `arrive b n;` `sync b n;` (R44)
abbrev pub command_tokens : Command → List Token
command_tokens (access k g) = Access k ∷ Number g ∷ Semi ∷ []
command_tokens (signal k b n) = Signal k ∷ Number b ∷ Number n ∷ Semi ∷ []

-- a thread is any number of commands and then `return` (R44)
unfoldable pub thread_tokens : List Command → List Token
thread_tokens [] = Return ∷ []
thread_tokens (c ∷ cs) = command_tokens c ++ thread_tokens cs

-- threads are parted by `||`: each but the first stands behind one (R44)
unfoldable pub behind : List (List Command) → List Token
behind [] = []
behind (t ∷ ts) = Bars ∷ (thread_tokens t ++ behind ts)

-- a listing: its first thread, and the others (R44)
pub record Listing : Type 0 where
  pub first : List Command
  pub others : List (List Command)

-- what a text of it consists of (R44)
abbrev pub listing_tokens : Listing → List Token
listing_tokens x = thread_tokens x.first ++ behind x.others

-- the tokens of a listing (R44)
abbrev pub Whole : List Token → Type 0
Whole ts = (x : Listing) × (ts ≡ listing_tokens x)

-- a text denotes a listing where it spells its tokens (R43, R44)
abbrev pub Spells : List ℕ → List Token → Type 0
Spells = S.Spells Spelling extends

abbrev pub Denotes : List ℕ → Listing → Type 0
Denotes text x = Spells text (listing_tokens x)

-- the listing's two tables: a row a command, in order, and a length a thread (R44), whatever the numbers (R46)
abbrev pub row_of : Command → Row
row_of (access k g) = row k g 0
row_of (signal k b n) = row k b n

unfoldable pub all_commands : List (List Command) → List Command
all_commands [] = []
all_commands (t ∷ ts) = t ++ all_commands ts

abbrev pub threads : Listing → List (List Command)
threads x = x.first ∷ x.others

abbrev pub listing_rows : Listing → List Row
listing_rows x = map row_of (all_commands (threads x))

abbrev pub listing_lengths : Listing → List ℕ
listing_lengths x = map (λ (t : List Command). length t) (threads x)
