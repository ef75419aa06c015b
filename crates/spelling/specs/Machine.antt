-- A reader goes from token to token; a token completes a row, or a thread, or neither, or does not fit.
use Rattle.std.specs.Prelude.{Bool, cond, List, [], ◌∷◌, ℕ, suc}
use Rattle.std.proofs.Math.Option.{Option, none, some}

-- a row of a table
pub record Row : Type 0 where
  pub kind : ℕ
  pub name : ℕ
  pub count : ℕ

abbrev pub row : ℕ → ℕ → ℕ → Row
row k n c = record { kind = k; name = n; count = c }

-- rows as numbers, three a row (R2)
unfoldable pub flat : List Row → List ℕ
flat [] = []
flat (r ∷ rs) = r.kind ∷ r.name ∷ r.count ∷ flat rs

-- what a token does, and what is expected after it
pub data Move (S : Type 0) : Type 0 where
  refuse : Move S
  on : S → Move S
  row_done : Row → S → Move S
  thread_done : S → Move S

-- what is found: the rows, the lengths of the threads, and how many tokens stand before the one that does not fit, or before the end where it comes too soon
pub record Outcome : Type 0 where
  pub rows : List Row
  pub lengths : List ℕ
  pub stop : Option ℕ

abbrev pub outcome : List Row → List ℕ → Option ℕ → Outcome
outcome rs ls o = record { rows = rs; lengths = ls; stop = o }

-- one token more before
abbrev pub further : Option ℕ → Option ℕ
further none = none
further (some i) = some (suc i)

-- a token's move, with n rows of its thread so far; f finds the rest
abbrev pub found_after : {S : Type 0} → Move S → ℕ → (S → ℕ → Outcome) → Outcome
found_after refuse n f = outcome [] [] (some 0)
found_after (on s) n f = outcome (f s n).rows (f s n).lengths (further (f s n).stop)
found_after (row_done r s) n f = outcome (r ∷ (f s (suc n)).rows) (f s (suc n)).lengths (further (f s (suc n)).stop)
found_after (thread_done s) n f = outcome (f s 0).rows (n ∷ (f s 0).lengths) (further (f s 0).stop)

-- what is found in tokens, from a state
unfoldable pub found : {S T : Type 0} (next : S → T → Move S) (ends : S → Bool) → List T → S → ℕ → Outcome
found next ends [] s n = outcome [] [] (cond (ends s) none (some 0))
found next ends (t ∷ ts) s n = found_after (next s t) n (found next ends ts)
