-- `first` meets its contract: no number that the loop has passed passes the test, whatever test the closure makes. Assumes nothing.
use mathlib.Core.Path.{◌≡◌}
use mathlib.Core.Bool.{Bool, false}
use Prim.Native.Nat.{ℕ, ◌<◌}
use Rattle.kernels.proofs.rows.first.Given as goal

abbrev pub invariant-loop-i : goal.invariant-loop-i
invariant-loop-i g l =
    (p : ℕ → Bool) → ((i : ℕ) (r : Bool) → i < l.n → goal.F-post g l.test i r → r ≡ p i) → (k : ℕ) → k < l.i → p k ≡ false
