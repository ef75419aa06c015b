-- `probe_close` meets its contract: 1 and 0 are the closing's answer. Assumes nothing.
use mathlib.Core.Path.{◌≡◌, refl, ap, subst, ◌∙◌}
use mathlib.Core.Bool.{Bool, true, false, cond}
use mathlib.Core.List.{List}
use Prim.Native.Nat.{ℕ}
use mir.Val.{bool_byte}
use Rattle.relation.specs.Chains.{Chain}
use Rattle.relation.specs.Table.{Related, Writes}
use Rattle.probe.specs.Promise.{ProbesClose}
use Rattle.probe.proofs.probe_close.Goals as goal

byte_of : (b : Bool) → bool_byte b ≡ cond b 1 0
byte_of true = refl
byte_of false = refl

closed : (relation relation' : List ℕ) (m n : ℕ) (said : Bool) → Writes (Chain (Related relation m)) relation relation' m said → n ≡ bool_byte said
    → ProbesClose relation m relation' n
closed relation relation' m n said W e =
    record {
      answers = e ∙ byte_of said ∙ ap (λ (b : Bool). cond b 1 0) W.answer;
      closed = subst (Writes (Chain (Related relation m)) relation relation' m) W.answer W;
    }

pub returns : goal.returns
returns c = closed _ _ _ _ _ c.close.ensures c.from.ensures
