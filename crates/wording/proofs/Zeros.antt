-- The lines of evidence have no zero byte. Assumes nothing.
use mathlib.Core.Path.{refl}
use mathlib.Core.Bool.{Bool, true, false, cond}
use mathlib.Core.List.{List, [], ◌∷◌, ◌++◌}
use Prim.Native.Nat.{ℕ}
use lib.Dec.{eqb}
use lib.ListN.{length}
use Rattle.spelling.specs.Bytes.{run}
use Rattle.printing.specs.Marks.{space, newline}
use Rattle.printing.specs.Figures.{figures}
use Rattle.printing.specs.Zeros.{NoZero}
use Rattle.printing.proofs.Zeros.{no_zero_append, figures_no_zero, within_no_zero}
use Rattle.wording.specs.declared.Shown.{Shown}
use Rattle.wording.specs.declared.Shown.TheVariants.{First, Generation, Mismatch, Deadlock, LeftSet}
use Rattle.wording.specs.Lines.{command_word, first_word, gets_word, not_word, clash_word, deadlock_word, barrier_word, more_word, line_end, shown_line, parting_byte, steps_line}

pub shown_no_zero : (s : Shown) → NoZero (shown_line s)
unfolding shown_line run
shown_no_zero (First x y) = within_no_zero (command_word ++ figures x ++ first_word) y line_end (within_no_zero command_word x first_word refl refl) refl
shown_no_zero (Generation c g h) =
    within_no_zero (command_word ++ figures c ++ gets_word ++ figures g ++ not_word) h line_end
    (within_no_zero (command_word ++ figures c ++ gets_word) g not_word (within_no_zero command_word c gets_word refl refl) refl) refl
shown_no_zero (Mismatch c) = within_no_zero command_word c clash_word refl refl
shown_no_zero (Deadlock c) = within_no_zero deadlock_word c line_end refl refl
shown_no_zero (LeftSet b) = within_no_zero barrier_word b more_word refl refl

mark_no_zero : (b : Bool) → NoZero (cond b newline space ∷ [])
unfolding run
mark_no_zero true = refl
mark_no_zero false = refl

pub steps_no_zero : (σ : List ℕ) → NoZero (steps_line σ)
unfolding steps_line run
steps_no_zero [] = refl
steps_no_zero (t ∷ σ) =
    no_zero_append (figures t) (parting_byte (length σ) ∷ steps_line σ) (figures_no_zero t)
    (no_zero_append (parting_byte (length σ) ∷ []) (steps_line σ) (mark_no_zero (eqb (length σ) 0)) (steps_no_zero σ))
