-- The pairs of a row and of all rows, one number after the other, and how many they can be. Assumes nothing.
use mathlib.Core.Path.{◌≡◌, refl}
use mathlib.Core.Bool.{Bool, true, false, cond}
use mathlib.Core.List.{List, [], ◌∷◌, ◌++◌, append-nil}
use Prim.Native.Nat.{ℕ, zero, suc, ◌+◌, ◌*◌, ◌≤◌}
use native.Mathlib.Nat.{suc-mul, mul-le-mul}
use native.Mathlib.Numerals.{add-one}
use native.Mathlib.Omega.{arith}
use lib.ListN.{length, length-append}
use Rattle.tables.specs.Limits.{most_rows}
use Rattle.tables.specs.Rows.{rows}
use Rattle.rules.specs.Rules.{Keeps}
use Rattle.sheet.specs.declared.Pair.{Pair}
use Rattle.faults.specs.declared.faults.Fault.{Fault}
use Rattle.faults.specs.Faults.{pair_of, faulty, along_row, all_rows, faults}

-- ---- the pairs of a row

module _ (found : ℕ → Bool) (to : ℕ → Pair) where
  pub along_none : along_row found to 0 ≡ []
  unfolding along_row
  along_none = refl

  pub along_found : (j : ℕ) → found j ≡ true → along_row found to (j + 1) ≡ along_row found to j ++ to j ∷ []
  unfolding along_row
  along_found j f = rw (add-one, f)

  pub along_passed : (j : ℕ) → found j ≡ false → along_row found to (suc j) ≡ along_row found to j
  unfolding along_row
  along_passed j f = rw f (append-nil (along_row found to j))

  pub row_length : (j : ℕ) → length (along_row found to j) ≤ j
  unfolding along_row
  row_length zero = omega arith
  row_length (suc j) = omega (arith, length-append (along_row found to j) (cond (found j) (to j ∷ []) []), short (found j), row_length j)
    where
      short : (b : Bool) → length (cond b (to j ∷ []) []) ≤ 1
      short true = omega arith
      short false = omega arith

-- ---- the rows one after the other

module _ (found : ℕ → ℕ → Bool) (to : ℕ → ℕ → Pair) (m : ℕ) where
  pub all_none : all_rows found to m 0 ≡ []
  unfolding all_rows
  all_none = refl

  pub all_next : (i : ℕ) → all_rows found to m (i + 1) ≡ all_rows found to m i ++ along_row (found i) (to i) m
  unfolding all_rows
  all_next i = rw add-one

  pub all_length : (n : ℕ) → length (all_rows found to m n) ≤ n * m
  unfolding all_rows
  all_length zero = omega arith
  all_length (suc n) =
      omega (arith, length-append (all_rows found to m n) (along_row (found n) (to n) m), all_length n, row_length (found n) (to n) m, suc-mul n m)

-- ---- all faults of a kind

pub faults_few : {commands lengths : List ℕ} → Keeps commands lengths → (g : ℕ → ℕ) (ρ : ℕ → ℕ → Bool) (f : Fault)
    → length (faults commands lengths g ρ f) ≤ most_rows * most_rows
unfolding faults
faults_few {commands} {lengths} K g ρ f =
    let l = all_length (faulty commands lengths g ρ f) (pair_of f) (rows commands) (rows commands) in
    let m : rows commands * rows commands ≤ most_rows * most_rows = mul-le-mul K.few_rows K.few_rows in
    omega arith
