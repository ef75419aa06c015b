-- Calls on a stack in its lent room, one after another. Assumes nothing.
use mathlib.Core.Path.{◌≡◌, refl, ◌∙◌}
use mathlib.Core.List.{List}
use Prim.Native.Nat.{ℕ, ◌≤◌}
use native.Mathlib.Omega.{arith}
use lib.ListN.{length}
use Rattle.machine.specs.declared.stack.Tower.{Tower}
use Rattle.machine.specs.Entries.{Entry, stack_in}
use Rattle.machine.specs.Needs.{Stays, Holds}

pub stays_none : (t : Tower) → Stays t t
stays_none t = record { same = refl; long = refl }

-- of another height in the same room, too
pub under : {t u : Tower} {h : ℕ} → Stays (record { room = t.room; height = h }) u → Stays t u
under p = record { same = p.same; long = p.long }

-- in the same room, as it was
pub lowered : {t u : Tower} {W : List Entry} → u.room ≡ t.room → u.height ≤ t.height → stack_in t.room.now u.height ≡ W → Holds t u 0 W
lowered {t} {u} e h q =
    record {
      stays = record { same = λ i. (e i).ghost_name; long = λ i. length (e i).now };
      up = omega arith;
      held = (λ i. stack_in (e i).now u.height) ∙ q;
    }
