-- `put` meets its contract: one entry more. Assumes nothing.
use mathlib.Core.Path.{refl, ap, ◌∙◌}
use mathlib.Core.List.{◌∷◌}
use native.Mathlib.Omega.{arith}
use lib.ListN.{length-set}
use Rattle.machine.specs.Entries.{Entry}
use Rattle.machine.specs.Needs.{entries}
use Rattle.machine.proofs.Held.{held_push}
use Rattle.machine.proofs.stack.Tower.put.Goals as goal

pub returns : goal.returns
returns c =
    let t = c.args.self.now in
    record {
      stays = record { same = refl; long = length-set _ _ _ };
      up = omega arith;
      held = held_push _ _ _ (omega arith) ∙ ap (λ (x : Entry). x ∷ entries t) c.number.ensures;
    }
