-- What the doors answer, test by test.
use mathlib.Core.Path.{◌≡◌, refl, sym, ap, ap₂, ◌∙◌}
use mathlib.Core.Bool.{Bool, true, false, ◌&&◌}
use mathlib.Core.List.{List, ◌∷◌}
use Prim.Native.Nat.{ℕ, ◌≤◌}
use borrow.Author.Tests.{le-leb, leb-true}
use lib.Dec.{leb}
use lib.ListN.{length}
use Rattle.relation.proofs.Truth.{clashing, both}
use Rattle.warps.specs.Language.{Mem}
use Rattle.lanes.specs.Words.{call_token, all_of}
use Rattle.kernels.specs.Limits.{most_statements}
use Rattle.kernels.specs.Rows.{statements}
use Rattle.machine.specs.declared.stack.Stand.{Stand}
use Rattle.machine.specs.declared.stack.Tower.{Tower}
use Rattle.machine.specs.Entries.{most_entries, stack_room, Entry, token, stack_in, list_over}
use Rattle.machine.specs.Needs.{CanStep}
use Rattle.machine.specs.Step.{next_warp, warp_of, workable, StartsWarp, StepsWarp}
use Rattle.machine.proofs.Held.{held_none}

module _ (s room : List ℕ) (height : ℕ) where
  pub works : statements s ≤ most_statements → stack_room ≤ length room → height ≤ most_entries → workable s room height ≡ true
  unfolding workable
  works few wide low = rw (le-leb (statements s) most_statements few, le-leb stack_room (length room) wide, le-leb height most_entries low)

pub roomy : (s : List ℕ) (t : Tower) → workable s t.room.now t.height ≡ true → CanStep s t
unfolding workable
roomy s t e =
    let (w, low) = both (leb (statements s) most_statements && leb stack_room (length t.room.now)) (leb t.height most_entries) e in
    let (few, wide) = both (leb (statements s) most_statements) (leb stack_room (length t.room.now)) w in
    record { few = leb-true _ _ few; wide = leb-true _ _ wide; low = leb-true _ _ low }

module _ (s : List ℕ) (lanes : ℕ) (room : List ℕ) (r : Bool) (q : r ≡ workable s room 0) where
  pub started : {room' a : List ℕ} {all top : ℕ} → r ≡ true → all ≡ all_of lanes → stack_in a top ≡ list_over s 0 (token call_token all ∷ stack_in room 0) → room' ≡ a
      → StartsWarp s lanes room room' (record { height = top; lanes = record { active = all; broke = 0; returned = 0 } })
  started {top = top} p l h q' =
      record {
        stands =
            λ e μ i. record {
              stack = (ap (λ (a : List ℕ). stack_in a top) q' ∙ h ∙ ap₂ (λ (m : ℕ) (W : List Entry). list_over s 0 (token call_token m ∷ W)) l (held_none room 0 refl)) i;
              lanes = record { active = l i; broke = 0; returned = 0 };
              cells = μ;
            };
        refuses = λ e. clashing (sym q ∙ p) e;
      }

  pub unstarted : r ≡ false → StartsWarp s lanes room room (record { height = 0; lanes = record { active = 0; broke = 0; returned = 0 } })
  unstarted p = record { stands = λ e μ. clashing e (sym q ∙ p); refuses = λ e. (refl, refl) }

module _ (s e : List ℕ) (st : Stand) (room : List ℕ) (μ : Mem) (r : Bool) (q : r ≡ workable s room st.height) where
  pub stepped : {room' a : List ℕ} {μ' : Mem} {st' : Stand} → r ≡ true → warp_of a st' μ' ≡ next_warp s e (warp_of room st μ) → room' ≡ a → StepsWarp s e st room μ room' μ' st'
  stepped {μ' = μ'} {st'} p w q' = record { steps = λ b. ap (λ (a : List ℕ). warp_of a st' μ') q' ∙ w; keeps = λ b. clashing (sym q ∙ p) b }

  pub unstepped : r ≡ false → StepsWarp s e st room μ room μ st
  unstepped p = record { steps = λ b. clashing b (sym q ∙ p); keeps = λ b. (refl, refl, refl) }
