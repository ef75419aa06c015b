-- Nothing else meets the contracts of `start` and `step`: two answers stand alike and hold the same entries and cells; where nothing can be done, the rooms are the same number for number. Which
-- numbers stand in a room above its height is left open (docs/EXCEPTIONS.md).
use mathlib.Core.Path.{◌≡◌, sym, ap, ◌∙◌}
use mathlib.Core.Logic.{⊎_elim}
use mathlib.Core.Bool.{true, false}
use mathlib.Core.List.{List, []}
use Prim.Native.Nat.{ℕ}
use lib.ListN.{length}
use Rattle.relation.proofs.Truth.{split}
use Rattle.warps.specs.Language.{Mem}
use Rattle.machine.specs.declared.stack.Stand.{Stand}
use Rattle.machine.specs.Entries.{stack_in}
use Rattle.machine.specs.Step.{Warp, warp_of, workable, StartsWarp, StepsWarp}
use Rattle.machine.proofs.Held.{held_long}

pub record Alike (room₁ room₂ : List ℕ) (st₁ st₂ : Stand) : Type 0 where
  pub stand : st₁ ≡ st₂
  pub entries : stack_in room₁ st₁.height ≡ stack_in room₂ st₂.height

-- one warp stands in one way
alike : (room₁ room₂ : List ℕ) (st₁ st₂ : Stand) (μ₁ μ₂ : Mem) → warp_of room₁ st₁ μ₁ ≡ warp_of room₂ st₂ μ₂ → Alike room₁ room₂ st₁ st₂
alike room₁ room₂ st₁ st₂ μ₁ μ₂ e =
    let h : st₁.height ≡ st₂.height = sym (held_long room₁ st₁.height) ∙ ap (λ (w : Warp). length w.stack) e ∙ held_long room₂ st₂.height in
    record { stand = λ i. record { height = h i; lanes = (e i).lanes }; entries = ap (λ (w : Warp). w.stack) e }

both : {room room₁ room₂ : List ℕ} {st st₁ st₂ : Stand} → room₁ ≡ room → st₁ ≡ st → room₂ ≡ room → st₂ ≡ st → Alike room₁ room₂ st₁ st₂
both p q r t = record { stand = q ∙ sym t; entries = λ i. stack_in ((p ∙ sym r) i) ((q ∙ sym t) i).height }

module _ (s : List ℕ) (lanes : ℕ) (room : List ℕ) (room₁ room₂ : List ℕ) (st₁ st₂ : Stand) (A : StartsWarp s lanes room room₁ st₁) (B : StartsWarp s lanes room room₂ st₂) where
  pub starts_one : Alike room₁ room₂ st₁ st₂
  starts_one =
      ⊎_elim (λ (w : workable s room 0 ≡ true). alike room₁ room₂ st₁ st₂ [] [] (A.stands w [] ∙ sym (B.stands w [])))
      (λ (w : workable s room 0 ≡ false). both (A.refuses w).0 (A.refuses w).1 (B.refuses w).0 (B.refuses w).1) (split (workable s room 0))

  pub starts_kept : workable s room 0 ≡ false → room₁ ≡ room₂
  starts_kept w = (A.refuses w).0 ∙ sym (B.refuses w).0

module _ (s e : List ℕ) (st : Stand) (room : List ℕ) (μ : Mem) (room₁ room₂ : List ℕ) (μ₁ μ₂ : Mem) (st₁ st₂ : Stand)
    (A : StepsWarp s e st room μ room₁ μ₁ st₁) (B : StepsWarp s e st room μ room₂ μ₂ st₂) where
  pub steps_one : Alike room₁ room₂ st₁ st₂ × (μ₁ ≡ μ₂)
  steps_one =
      ⊎_elim
      (λ (w : workable s room st.height ≡ true).
      let q = A.steps w ∙ sym (B.steps w) in
      (alike room₁ room₂ st₁ st₂ μ₁ μ₂ q, ap (λ (w : Warp). w.cells) q))
      (λ (w : workable s room st.height ≡ false).
      let (a, b, c) = A.keeps w in
      let (x, y, z) = B.keeps w in
      (both a c x z, b ∙ sym y)) (split (workable s room st.height))

  pub steps_kept : workable s room st.height ≡ false → room₁ ≡ room₂
  steps_kept w = (A.keeps w).0 ∙ sym (B.keeps w).0
