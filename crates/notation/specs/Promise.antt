-- What a reading promises: by equation with the reader's definition, and by the grammar, without the automaton (D1, D2, R42, R47 to R51).
use Rattle.std.specs.Prelude.{◌≡◌, ◌⊎◌, Ok, Err, List, ℕ, ◌*◌, ◌≤◌, ◌<◌, length}
use Rattle.std.specs.Borrow.{Bor}
use Rattle.verdicts.specs.declared.Told.{Told}
use Rattle.tables.specs.Limits.{most_rows, most_threads}
use Rattle.spelling.specs.Machine.{flat}
use Rattle.spelling.specs.Refusal as R
use Rattle.tables.specs.Over.{over}
use Rattle.notation.specs.declared.scan.Sizes.{Sizes}
use Rattle.notation.specs.declared.reading.Unread.TheVariants.{Unfit, Over}
use Rattle.grammar.specs.Grammar.{Listing, Denotes, Spells, Whole, all_commands, threads, listing_rows, listing_lengths}
use Rattle.grammar.specs.Tokens.{tokens, starts}
use Rattle.reader.specs.Places.{ahead}
use Rattle.notation.specs.Reading.{most_bytes, row_numbers, thread_lengths, Reading, sizes, answered, reading, written, rest_at, rest_of}

-- a listing within the limits of a reading (R47, R50)
pub record Within (text : List ℕ) (c l : ℕ) (x : Listing) : Type 0 where
  pub bytes : length text ≤ most_bytes
  pub few_rows : length (all_commands (threads x)) ≤ most_rows
  pub few_threads : length (threads x) ≤ most_threads
  pub room : length (all_commands (threads x)) * 3 ≤ c
  pub places : length (threads x) ≤ l

-- the reading is that listing's two tables, and how many commands and threads they have (R51)
pub record GivesTables (commands lengths commands' lengths' : List ℕ) (r : Reading) (x : Listing) : Type 0 where
  pub many : r ≡ Ok (sizes (length (all_commands (threads x))) (length (threads x)))
  pub rows : commands' ≡ over (flat (listing_rows x)) commands
  pub lens : lengths' ≡ over (listing_lengths x) lengths

-- the place where a text is refused (R48)
abbrev pub RefusedAt : List ℕ → ℕ → Type 0
RefusedAt text p = R.Refused Spells Whole text (tokens text) (starts text) p

-- The promise by the grammar and the tokens of the text, without the automaton (D2). No text denotes two listings (`OneListing`, grammar).
pub record ByGrammar (text commands lengths commands' lengths' : List ℕ) (r : Reading) : Type 0 where
  -- a text that denotes a listing within the limits is read as that listing (R51)
  pub accepts : (x : Listing) → Denotes text x → Within text (length commands) (length lengths) x → GivesTables commands lengths commands' lengths' r x
  -- what is accepted denotes one
  pub accepted : (s : Sizes) → r ≡ Ok s → (x : Listing) × Denotes text x × Within text (length commands) (length lengths) x
  -- 12 exactly at the place where a text that is not too long is refused (R48)
  pub refuses : (p : ℕ) → r ≡ Err (Unfit p) → (length text ≤ most_bytes) × (p ≤ length text) × RefusedAt text p
  pub refused : (p : ℕ) → length text ≤ most_bytes → RefusedAt text p → r ≡ Err (Unfit p)
  -- 13 for a text that is too long (R47), or denotes a listing that is not within the limits (R50)
  pub too_much : r ≡ Err Over
      → (most_bytes < length text) ⊎ ((x : Listing) × Denotes text x × ¬ Within text (length commands) (length lengths) x)
  -- both tables are untouched by 12 and 13 (D1, R51)
  pub untouched : ((s : Sizes) → ¬ (r ≡ Ok s)) → (commands' ≡ commands) × (lengths' ≡ lengths)

-- The promise by equation, and by the grammar (D1, D2).
pub record Read (text commands lengths commands' lengths' : List ℕ) (r : Reading) : Type 0 where
  pub answers : answered r ≡ reading text (length commands) (length lengths)
  pub rows_hold : commands' ≡ written r (row_numbers text) commands
  pub lengths_hold : lengths' ≡ written r (thread_lengths text) lengths
  pub by_grammar : ByGrammar text commands lengths commands' lengths' r

-- `told`: a refusal's number and place, or 0 (R42)
abbrev pub AnswersReadingTold : (reading : Reading) (r : Told) → Type 0
AnswersReadingTold reading r = r ≡ (answered reading).told

-- `rest`: the rest of the text, where it stands in memory (R49)
abbrev pub AnswersRestOf : (text : Bor (List ℕ)) (reading : Reading) (r : Bor (List ℕ)) → Type 0
AnswersRestOf text reading r = (r.now ≡ rest_of reading text.now) × (r.ref_ptr ≡ ahead text.ref_ptr (rest_at reading (length text.now)))
