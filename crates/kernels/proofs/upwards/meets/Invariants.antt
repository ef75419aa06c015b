-- `meets` meets its contract: the answer is the one from the list that the loop has come to, with the rows to go that are left, whatever test is made. Assumes nothing.
use mathlib.Core.Path.{◌≡◌}
use mathlib.Core.Bool.{Bool}
use Prim.Native.Nat.{ℕ, ◌-◌, ◌<◌}
use Rattle.kernels.specs.Rows.{statements}
use Rattle.kernels.specs.Refusals.{meets_upwards}
use Rattle.kernels.proofs.upwards.meets.Given as goal

abbrev pub invariant-loop : goal.invariant-loop
invariant-loop g l =
    (p : ℕ → Bool) → ((j : ℕ) (r : Bool) → j < statements l.s → goal.F-post g l.test j r → r ≡ p j)
    → meets_upwards l.s p (statements l.s) l.fn.b ≡ meets_upwards l.s p (statements l.s - l.counter) l.list
