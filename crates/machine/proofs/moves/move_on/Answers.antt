-- `move_on` meets its contract, by the topmost entry. Assumes nothing.
use mathlib.Core.Path.{◌≡◌}
use Prim.Native.Nat.{ℕ, ◌+◌, ◌-◌}
use native.Mathlib.Omega.{arith}
use Rattle.machine.specs.declared.stack.StackEntry.{StackEntry}
use Rattle.machine.specs.declared.stack.StackEntry.TheVariants.{Row, Again, Token}
use Rattle.machine.proofs.Towers.{stays_none, under}
use Rattle.machine.proofs.Obeying.{step_none, step_token, step_inact, step_row, step_again}
use Rattle.machine.proofs.moves.move_on.Goals as goal
use Rattle.machine.proofs.moves.move_on.Goals.{in_default-via-in-Row+else-lanes-ne0, in_default-via-in-Again+else-lanes-ne0-2}

no_token : {x : StackEntry} {i : ℕ} → x ≡ Row i → (kind mask : ℕ) → x ≡ Token kind mask → ⊥
no_token p kind mask q = cc

nor_again : {x : StackEntry} {i : ℕ} → x ≡ Again i → (kind mask : ℕ) → x ≡ Token kind mask → ⊥
nor_again p kind mask q = cc

pub returns-then-tower-eq0 : goal.returns-then-tower-eq0
returns-then-tower-eq0 c = record { stays = stays_none _; is = step_none _ _ _ _ _ _ c.if-tower-eq0.true }

pub returns-in-Token : goal.returns-in-Token
returns-in-Token c =
    record {
      stays = under (stays_none _);
      is = step_token _ _ _ _ _ _ c.if-tower-eq0.false _ c.of.ensures.0 _ _ _ c.in-Token.is c.wake.ensures;
    }

pub returns-in-Row : goal.returns-in-Row
returns-in-Row c =
    record {
      stays = under c.obey.ensures.stays;
      is = step_row _ _ _ _ _ _ c.if-tower-eq0.false _ c.of.ensures.0 _ _ c.in-Row.is c.if-lanes-ne0.true c.obey.ensures.is;
    }

pub returns-in-Again : goal.returns-in-Again
returns-in-Again c =
    let h = c.args.tower.now.height in
    let back : h - 1 + 1 ≡ h = omega arith in
    record {
      stays = under c.repeat.ensures.stays;
      is = step_again _ _ _ _ _ _ c.if-tower-eq0.false _ c.of.ensures.0 _ _ c.in-Again.is c.if-lanes-ne0-2.true (rw back at c.repeat.ensures.is);
    }

pub returns-in_default : goal.returns-in_default
returns-in_default c =
    let D = c.drop_rows.ensures in
    elim c.in_default.branch [
      | in_default-via-in-Row+else-lanes-ne0 w ↦
          record {
            stays = under D.stays;
            is = step_inact _ _ _ _ _ _ c.if-tower-eq0.false _ c.of.ensures.0 _ (no_token w.in-Row.is) w.if-lanes-ne0.false D.held;
          }
      | in_default-via-in-Again+else-lanes-ne0-2 w ↦
          record {
            stays = under D.stays;
            is = step_inact _ _ _ _ _ _ c.if-tower-eq0.false _ c.of.ensures.0 _ (nor_again w.in-Again.is) w.if-lanes-ne0-2.false D.held;
          }
    ]
