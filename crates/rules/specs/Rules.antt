-- Which tables pass: refusals 1, 2 and 3, in the order tested (R2, R4 to R7, R37).
use Rattle.std.specs.Prelude.{◌≡◌, Bool, true, cond, not, ◌&&◌, ◌||◌, List, ℕ, ◌%◌, ◌≤◌, ◌<◌, eqb, leb, ltb, length}
use Rattle.verdicts.specs.declared.Told.{Told}
use Rattle.tables.specs.Limits.{most_rows, most_threads, addresses, barriers, most_count}
use Rattle.tables.specs.Lowest.{lowest}
use Rattle.tables.specs.Rows.{rows, kind, name, count, arrive, sync, total}
use Rattle.verdicts.specs.Verdicts.{tell}

-- Reads and writes name an address and have count 0 (R4); arrives and syncs name a barrier and have a count from 1 to the limit (R5); there is no other kind (R2).
-- And, after these rules, no count is above the number of threads (R6, 2026-02).
unfoldable pub does_row_keep : (threads k n c : ℕ) → Bool
does_row_keep threads k n c =
    cond (ltb k arrive) (ltb n addresses && eqb c 0) (leb k sync && (ltb n barriers && (leb 1 c && (leb c most_count && leb c threads))))

-- row c keeps these rules (R2, R4 to R6)
abbrev pub keeps : List ℕ → (threads c : ℕ) → Bool
keeps commands threads c = does_row_keep threads (kind commands c) (name commands c) (count commands c)

-- the first row that breaks any of the rules, or M (R37)
unfoldable pub first_bad_of : List ℕ → (threads : ℕ) → ℕ
first_bad_of commands threads = lowest (λ c. not (keeps commands threads c)) (rows commands)

-- 1: command numbers not a multiple of 3, or too many rows (R2, R7, R37)
abbrev pub are_bad_commands : List ℕ → Bool
are_bad_commands commands = not (eqb (length commands % 3) 0) || ltb most_rows (rows commands)

-- 2: no thread or too many, or lengths that don't add up to M (R7, R37)
abbrev pub bad_lengths : List ℕ → List ℕ → Bool
bad_lengths commands lengths = eqb (length lengths) 0 || ltb most_threads (length lengths) || not (eqb (total lengths) (rows commands))

-- refusals 1 to 3 in the order tested, or 0 (R37)
unfoldable pub checked : List ℕ → List ℕ → Told
checked commands lengths =
    cond (are_bad_commands commands) (tell 1 0 0)
    (cond (bad_lengths commands lengths) (tell 2 0 0)
    (cond (ltb (first_bad_of commands (length lengths)) (rows commands)) (tell 3 (first_bad_of commands (length lengths)) 0) (tell 0 0 0)))

-- what tables that pass keep to (R2, R4 to R7)
pub record Keeps (commands lengths : List ℕ) : Type 0 where
  pub whole : length commands % 3 ≡ 0
  pub few_rows : rows commands ≤ most_rows
  pub some_thread : 1 ≤ length lengths
  pub few_threads : length lengths ≤ most_threads
  pub adds_up : total lengths ≡ rows commands
  pub each_row : (c : ℕ) → c < rows commands → keeps commands (length lengths) c ≡ true
