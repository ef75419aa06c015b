-- Each answer, by the facts that lead to it, in the order tested. Assumes nothing.
use mathlib.Core.Path.{◌≡◌}
use mathlib.Core.Bool.{true, false}
use mathlib.Core.List.{List}
use Prim.Native.Nat.{ℕ, ◌≤◌, ◌<◌}
use borrow.Author.Tests.{lt-ltb, le-ltb}
use Rattle.kernels.specs.Rows.{statements, expressions}
use Rattle.kernels.specs.Refusals.{first_bad_statement_of, first_stray_break_of, are_bad_tables, ruling_of}
use Rattle.std.specs.Prelude.{Ok, Err}
use Rattle.kernels.specs.declared.kernel.KernelRefusal.TheVariants.{Malformed, StrayBreak}

module _ (s e : List ℕ) (lanes : ℕ) where
  pub refuses_tables : are_bad_tables s e lanes ≡ true → ruling_of s e lanes ≡ Err (Malformed 0)
  unfolding ruling_of
  refuses_tables t = rw t

  module _ (t : are_bad_tables s e lanes ≡ false) where
    -- the first bad statement is told, wherever a stray break stands
    pub refuses_statement : first_bad_statement_of s (expressions e) < statements s → ruling_of s e lanes ≡ Err (Malformed (first_bad_statement_of s (expressions e)))
    unfolding ruling_of
    refuses_statement l = rw (t, lt-ltb _ _ l)

    module _ (g : statements s ≤ first_bad_statement_of s (expressions e)) where
      pub refuses_break : first_stray_break_of s < statements s → ruling_of s e lanes ≡ Err (StrayBreak (first_stray_break_of s))
      unfolding ruling_of
      refuses_break l = rw (t, le-ltb _ _ g, lt-ltb _ _ l)

      pub refuses_none : statements s ≤ first_stray_break_of s → ruling_of s e lanes ≡ Ok tt
      unfolding ruling_of
      refuses_none l = rw (t, le-ltb _ _ g, le-ltb _ _ l)
