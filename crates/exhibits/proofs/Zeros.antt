-- Exhibits have no zero byte. Assumes nothing.
use mathlib.Core.Path.{refl}
use mathlib.Core.Bool.{Bool}
use mathlib.Core.List.{List, [], ◌∷◌, ◌++◌}
use Prim.Native.Nat.{ℕ}
use lib.Dec.{eqb}
use Rattle.spelling.specs.Bytes.{run}
use Rattle.sheet.specs.declared.Pair.{Pair}
use Rattle.sheet.specs.declared.Sheet.{Sheet}
use Rattle.sheet.specs.Sheet.{first_kept, kept_pairs}
use Rattle.printing.specs.Zeros.{NoZero}
use Rattle.printing.proofs.Zeros.{no_zero_append, either_no_zero}
use Rattle.wording.specs.declared.Shown.{Shown}
use Rattle.wording.specs.Lines.{shown_line, steps_line}
use Rattle.wording.proofs.Zeros.{shown_no_zero, steps_no_zero}
use Rattle.exhibits.specs.Exhibits.{exhibit, reuse_exhibit, order_exhibit, race_exhibits, exhibits}

exhibit_no_zero : (s : Shown) (τ : List ℕ) → NoZero (exhibit s τ)
exhibit_no_zero s τ = no_zero_append (shown_line s) (steps_line τ) (shown_no_zero s) (steps_no_zero τ)

module _ (commands lengths : List ℕ) (ρ : ℕ → ℕ → Bool) where
  reuse_no_zero : (g : ℕ → ℕ) (p : Pair) → NoZero (reuse_exhibit commands lengths ρ g p)
  unfolding reuse_exhibit
  reuse_no_zero g p = exhibit_no_zero _ _

  order_no_zero : (x y : ℕ) → NoZero (order_exhibit commands lengths ρ x y)
  unfolding order_exhibit
  order_no_zero x y = exhibit_no_zero _ _

  races_no_zero : (ps : List Pair) → NoZero (race_exhibits commands lengths ρ ps)
  unfolding race_exhibits run
  races_no_zero [] = refl
  races_no_zero (p ∷ ps) =
      no_zero_append (order_exhibit commands lengths ρ p.first p.second ++ order_exhibit commands lengths ρ p.second p.first) (race_exhibits commands lengths ρ ps)
      (no_zero_append (order_exhibit commands lengths ρ p.first p.second) (order_exhibit commands lengths ρ p.second p.first) (order_no_zero p.first p.second)
      (order_no_zero p.second p.first))
      (races_no_zero ps)

pub exhibits_no_zero : (commands lengths : List ℕ) (g : ℕ → ℕ) (ρ : ℕ → ℕ → Bool) (n : ℕ) (s : Sheet) → NoZero (exhibits commands lengths g ρ n s)
unfolding exhibits run
exhibits_no_zero commands lengths g ρ n s =
    either_no_zero (eqb n 10) _ _ (reuse_no_zero commands lengths ρ g (first_kept s)) (either_no_zero (eqb n 11) _ _ (races_no_zero commands lengths ρ (kept_pairs s)) refl)
