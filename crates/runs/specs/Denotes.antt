-- What a kernel's tables and the code's warp are in document 001's words (R66, R69).
use Rattle.std.specs.Prelude.{Bool, cond, List, [], ◌∷◌, ℕ, eqb}
use Rattle.relation.specs.Bits.{bit_of}
use Rattle.warps.specs.Language.{Stm, skip, assign, branch, while, again, break, invoke, return, Bodies}
use Rattle.warps.specs.Warp.{Item, stm, tok, Config}
use Rattle.warps.specs.Lists.{lists_of}
use Rattle.lanes.specs.Words.{state_of, token_type}
use Rattle.kernels.specs.Rows.{statements, list_of, kind_of, x_of, y_of, z_of, skip_kind, assign_kind, if_kind, while_kind, break_kind, call_kind}
use Rattle.kernels.specs.Refusals.{is_while, meets_upwards}
use Rattle.values.specs.Expressions.{expression}
use Rattle.machine.specs.Entries.{Entry, row, token}
use Rattle.machine.specs.Entries as entries
use Rattle.machine.specs.Step.{Warp}

-- list b lies in a loop of its own function
abbrev pub list_in_loop : List ℕ → (b : ℕ) → Bool
list_in_loop s b = meets_upwards s (is_while s) (statements s) b

module _ (s e : List ℕ) where
  -- the statement of row i (R66)
  unfoldable pub stm_of : (i : ℕ) → Stm
  stm_of i =
      cond (eqb (kind_of s i) skip_kind) skip
      (cond (eqb (kind_of s i) assign_kind) (assign (x_of s i) (expression e (y_of s i)))
      (cond (eqb (kind_of s i) if_kind) (branch (expression e (x_of s i)) (y_of s i) (z_of s i))
      (cond (eqb (kind_of s i) while_kind) (while (expression e (x_of s i)) (y_of s i))
      (cond (eqb (kind_of s i) break_kind) break (cond (eqb (kind_of s i) call_kind) (invoke (x_of s i)) return)))))

  -- its lists (R66)
  abbrev pub bodies_of : Bodies
  bodies_of = lists_of stm_of (list_of s) (statements s)

  -- an entry of the stack, and all of them
  abbrev pub item_of : Entry → Item
  item_of (row i) = stm (stm_of i)
  item_of (entries.again i) = stm (again (expression e (x_of s i)) (y_of s i))
  item_of (token kind mask) = tok (token_type kind) (bit_of mask)

  unfoldable pub items : List Entry → List Item
  items [] = []
  items (x ∷ W) = item_of x ∷ items W

  -- a warp as W, Θ, Δ, μ (R69)
  abbrev pub config_of : Warp → Config
  config_of w = record { stack = items w.stack; active = bit_of w.lanes.active; off = state_of w.lanes; mem = w.cells }
