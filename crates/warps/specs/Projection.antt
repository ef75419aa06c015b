-- Table 5 of document 001: what a warp's stack and disable states still hold for a lane (R73). The copy's table loses the activation of a waiting lane; the prose above it has it, and so has this.
use Rattle.std.specs.Prelude.{Bool, true, false, ◌&&◌, cond, List, [], ◌∷◌, ℕ, ltb}
use Rattle.warps.specs.Warp.{div, sync, brk, call, DisableState, on, Mask, DisableMask, Item, stm, tok, Config, awaits}
use Rattle.warps.specs.Threads.{brk_c, call_c, Piece, does, ctx, ThreadStacks}

-- π_θ is for an active lane, π_¬θ for one that waits in a disable state
pub data Mode : Type 0 where
  running : Mode
  waiting : DisableState → Mode

abbrev pub mode_of : Bool → DisableState → Mode
mode_of true d = running
mode_of false d = waiting d

-- a running lane has every statement, and a context for each `brk` and `call`; a `div` makes it wait. A waiting lane skips all until a token that has it in its mask and is what it awaits (R73).
unfoldable pub proj : (t : ℕ) → List Item → Mode → List Piece
proj t [] p = []
proj t (stm s ∷ W) running = does s ∷ proj t W running
proj t (tok call m ∷ W) running = ctx call_c ∷ proj t W running
proj t (tok brk m ∷ W) running = ctx brk_c ∷ proj t W running
proj t (tok sync m ∷ W) running = proj t W running
proj t (tok div m ∷ W) running = proj t W (waiting on)
proj t (stm s ∷ W) (waiting d) = proj t W (waiting d)
proj t (tok k m ∷ W) (waiting d) = cond (m t && awaits d k) (proj t W running) (proj t W (waiting d))

-- γ: the stack of each of the n lanes; other threads have none (R73)
abbrev pub stacks : ℕ → List Item → Mask → DisableMask → ThreadStacks
stacks n W Θ Δ t = cond (ltb t n) (proj t W (mode_of (Θ t) (Δ t))) []

abbrev pub stacks_of : ℕ → Config → ThreadStacks
stacks_of n c = stacks n c.stack c.active c.off
