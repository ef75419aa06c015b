-- A program's two tables, where they are not too long, pass refusals 1 and 2. Assumes nothing.
use mathlib.Core.Path.{◌≡◌, refl, ap, ◌∙◌}
use mathlib.Core.Logic.{◌⊎◌}
use mathlib.Core.List.{List, [], ◌∷◌, map}
use Prim.Native.Nat.{ℕ, ◌*◌, ◌%◌, ◌≤◌}
use native.Mathlib.Omega.{arith}
use lib.ListN.{length, length-append, length-map}
use Rattle.tables.specs.Limits.{most_rows, most_threads}
use Rattle.tables.specs.Rows.{rows, total}
use Rattle.rules.specs.Rules.{checked}
use Rattle.rules.proofs.Rules.{good_commands, refuses_rows}
use Rattle.spelling.specs.Machine.{flat}
use Rattle.grammar.specs.Grammar as G
use Rattle.grammar.specs.Grammar.{Listing, row_of, all_commands, threads, listing_rows, listing_lengths}
use Rattle.notation.proofs.Passes.{flat_long}

-- the lengths of threads add up to the commands
adds_up : (ts : List (List G.Command)) → total (map (λ (t : List G.Command). length t) ts) ≡ length (all_commands ts)
unfolding total all_commands
adds_up [] = refl
adds_up (t ∷ ts) = omega (arith, adds_up ts, length-append t (all_commands ts))

module _ (x : Listing) where
  abbrev commands : List ℕ
  commands = flat (listing_rows x)

  abbrev lengths : List ℕ
  lengths = listing_lengths x

  -- three numbers a command
  pub listing_long : length commands ≡ length (all_commands (threads x)) * 3
  listing_long = flat_long (listing_rows x) ∙ ap (λ (n : ℕ). n * 3) (length-map (all_commands (threads x)) row_of)

  pub listing_rows_lem : rows commands ≡ length (all_commands (threads x))
  listing_rows_lem = omega (arith, listing_long)

  pub listing_checked : length (all_commands (threads x)) ≤ most_rows → length (threads x) ≤ most_threads
      → ((checked commands lengths).number ≡ 0) ⊎ ((checked commands lengths).number ≡ 3)
  listing_checked few_rows few_threads =
      let whole : length commands % 3 ≡ 0 = omega (arith, listing_long) in
      let few : rows commands ≤ most_rows = omega (arith, listing_rows_lem) in
      let most : length lengths ≤ most_threads = omega (arith, length-map (threads x) (λ (t : List G.Command). length t)) in
      let sum : total lengths ≡ rows commands = omega (arith, adds_up (threads x), listing_rows_lem) in
      refuses_rows commands lengths (good_commands commands whole few) (omega arith) most sum
