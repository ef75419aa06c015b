-- What the parts ask for and pass on; nothing public speaks of it.
use Rattle.std.specs.Prelude.{◌≡◌, ℕ, ◌+◌, ◌^◌, ◌<◌, ◌≤◌, List, length}
use Rattle.warps.specs.Language.{Mem}
use Rattle.lanes.specs.declared.Lanes.{Lanes}
use Rattle.kernels.specs.Limits.{most_statements}
use Rattle.kernels.specs.Rows.{statements}
use Rattle.machine.specs.declared.stack.StackEntry.{StackEntry}
use Rattle.machine.specs.declared.stack.StackEntry.TheVariants.{Row, Again, Token}
use Rattle.machine.specs.declared.stack.Tower.{Tower}
use Rattle.machine.specs.Entries.{most_entries, stack_room, Entry, row, again, token, stack_in}
use Rattle.machine.specs.Step.{Warp, warp_of}

-- at most 256 statements, a stack's room, and a stack in it that is not over its limit
pub record CanStep (s : List ℕ) (t : Tower) : Type 0 where
  pub few : statements s ≤ most_statements
  pub wide : stack_room ≤ length t.room.now
  pub low : t.height ≤ most_entries

-- what an entry of the code stands for
abbrev pub meant : StackEntry → Entry
meant (Row i) = row i
meant (Again i) = again i
meant (Token kind mask) = token kind mask

-- it has a number
abbrev pub Small : StackEntry → Type 0
Small (Row i) = i < 256
Small (Again i) = i < 256
Small (Token kind mask) = (kind < 4) × (mask < 2 ^ 32)

-- the entries of a stack in its room, and the warp that it is with lanes and cells
abbrev pub entries : Tower → List Entry
entries t = stack_in t.room.now t.height

abbrev pub warp_in : Tower → Lanes → Mem → Warp
warp_in t L μ = warp_of t.room.now (record { height = t.height; lanes = L }) μ

-- what becomes of a stack stands in the room where it stood
pub record Stays (t u : Tower) : Type 0 where
  pub same : u.room.ghost_name ≡ t.room.ghost_name
  pub long : length u.room.now ≡ length t.room.now

-- it has these entries, and is at most so much higher
pub record Holds (t u : Tower) (rise : ℕ) (W : List Entry) : Type 0 where
  pub stays : Stays t u
  pub up : u.height ≤ t.height + rise
  pub held : entries u ≡ W

-- with lanes and cells it is this warp
pub record Becomes (t u : Tower) (L : Lanes) (μ : Mem) (w : Warp) : Type 0 where
  pub stays : Stays t u
  pub is : warp_in u L μ ≡ w
