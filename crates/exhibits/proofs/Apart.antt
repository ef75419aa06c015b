-- A schedule that is written stands at the front of its room, and is printed from there. Assumes nothing.
use mathlib.Core.Path.{◌≡◌, sym, ap, ◌∙◌}
use mathlib.Core.List.{List, ◌++◌}
use Prim.Native.Nat.{ℕ, ◌≤◌}
use native.Mathlib.Omega.{arith}
use lib.ListN.{length, take, drop, replicate, length-replicate}
use lib.Seq.{take_at}
use Rattle.tables.specs.Limits.{most_rows}
use Rattle.tables.specs.Rows.{rows}
use Rattle.rules.specs.Rules.{Keeps}
use Rattle.printing.specs.declared.Printer.{Printer}
use Rattle.printing.specs.Putting.{Prints}
use Rattle.printing.proofs.Placing.{puts_on}
use Rattle.steps.specs.Writing.{FilledBy}
use Rattle.wording.specs.declared.Shown.{Shown}
use Rattle.exhibits.specs.Shown.{what_is_shown}
use Rattle.wording.specs.Lines.{shown_line, steps_line}
use Rattle.exhibits.specs.Exhibits.{exhibit}
use Rattle.steps.proofs.Filled.{filled_room}

-- a full room of zeros has place for a schedule
pub full_room : {commands lengths : List ℕ} → Keeps commands lengths → Keeps commands lengths × (rows commands ≤ length (replicate {A = ℕ} 512 0))
unfolding most_rows
full_room K = (K, omega (arith, K.few_rows, length-replicate {A = ℕ} 512 0))

-- the front of the room is the schedule
module _ {σ room after : List ℕ} {n : ℕ} (B : FilledBy σ room after n) where
  front_is : take n after ≡ σ
  front_is = ap (take n) (filled_room B) ∙ take_at σ (drop n room) n (sym B.long)

  -- a line, and below it the front of the room
  pub puts_below : {line : List ℕ} {p q r : Printer} → Prints p q line → Prints q r (steps_line (take n after)) → Prints p r (line ++ steps_line σ)
  puts_below f g = puts_on f (rw front_is at g)

  -- the line says what the front of the room shows
  pub puts_shown : (commands lengths : List ℕ) (g : ℕ → ℕ) {s : Shown} {p q r : Printer} → s ≡ what_is_shown commands lengths g (take n after)
      → Prints p q (shown_line s) → Prints q r (steps_line (take n after)) → Prints p r (exhibit (what_is_shown commands lengths g σ) σ)
  puts_shown commands lengths g e f h = puts_below (rw (e ∙ ap (what_is_shown commands lengths g) front_is) at f) h
