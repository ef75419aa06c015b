-- Numbers in decimal have no zero byte, and neither have bytes that are put together of such. Assumes nothing.
use mathlib.Core.Bool.{Bool, true, false, cond}
use mathlib.Core.List.{List, [], ◌∷◌, ◌++◌}
use Prim.Native.Nat.{ℕ, zero, suc, ◌+◌, ◌/◌, ◌%◌}
use native.Mathlib.Omega.{arith}
use lib.Dec.{ltb}
use lib.ListN.{length-append}
use borrow.Author.Tests.{ne_eqb}
use Rattle.spelling.specs.Bytes.{run}
use Rattle.spelling.proofs.Runs.{run_past}
use Rattle.printing.specs.Figures.{figure, figures_to, figures}
use Rattle.printing.specs.Zeros.{nonzero, NoZero}

pub no_zero_append : (a b : List ℕ) → NoZero a → NoZero b → NoZero (a ++ b)
no_zero_append a b f g = omega (arith, run_past nonzero a b f, g, length-append a b)

figure_no_zero : (d : ℕ) → NoZero (figure d ∷ [])
unfolding run
figure_no_zero d = rw (ne_eqb (48 + d) 0 (omega arith))

pub either_no_zero : (b : Bool) (v w : List ℕ) → NoZero v → NoZero w → NoZero (cond b v w)
either_no_zero true v w f g = f
either_no_zero false v w f g = g

to_no_zero : (k n : ℕ) → NoZero (figures_to k n)
unfolding figures_to
to_no_zero zero n = figure_no_zero n
to_no_zero (suc k) n =
    either_no_zero (ltb n 10) _ _ (figure_no_zero n) (no_zero_append (figures_to k (n / 10)) (figure (n % 10) ∷ []) (to_no_zero k (n / 10)) (figure_no_zero (n % 10)))

pub figures_no_zero : (n : ℕ) → NoZero (figures n)
unfolding figures
figures_no_zero n = to_no_zero n n

-- a number with what stands before and after it
pub within_no_zero : (u : List ℕ) (n : ℕ) (v : List ℕ) → NoZero u → NoZero v → NoZero (u ++ figures n ++ v)
within_no_zero u n v f g = no_zero_append (u ++ figures n) v (no_zero_append u (figures n) f (figures_no_zero n)) g
