-- A reuse fault (c₁, c₂) of a clean log, in a state of its generations in which c₁ has not run and all has that c₁ does not reach: c₂ is allowed, a generation too soon.
-- Assumes nothing.
use mathlib.Core.Path.{◌≡◌, refl, ◌∙◌}
use mathlib.Core.Logic.{by_cases}
use mathlib.Core.Bool.{true, false}
use mathlib.Core.List.{List}
use Prim.Native.Nat.{ℕ, suc, ◌≤◌, ◌<◌}
use native.Mathlib.Omega.{arith}
use native.Mathlib.Decide.{dec_le}
use Rattle.relation.specs.Chains.{goes}
use Rattle.relation.proofs.Truth.{clashing, isnt}
use Rattle.schedules.specs.Machine.{Program, Lawful, State, Member, state, Ready}
use Rattle.schedules.specs.HappensBefore.{Reaches, Reuse}
use Rattle.schedules.proofs.Logs.{Allowed, CleanLog}
use Rattle.schedules.proofs.Good.{lacking}
use Rattle.schedules.proofs.Final.{Final, final}
use Rattle.schedules.proofs.Agree.{Agrees, carry, grown}

module _ {P : Program} (W : Lawful P) {σ : List ℕ} (C : CleanLog P σ) {c₁ c₂ : ℕ} (R : Reuse P (state P σ).gen c₁ c₂)
    {T : State} (A : Agrees P (state P σ) T) (not_yet : T.ran c₁ ≡ false) (all : (x : ℕ) → x < P.size → ¬ Reaches P (state P σ).gen c₁ x → T.ran x ≡ true) where
  open P use {size, first, barrier}

  abbrev S : State
  S = state P σ

  F : Final P S
  F = final W C

  -- c₁ has not run, so its generation is not complete
  pub behind : ¬ (S.gen c₁ ≤ T.done (barrier c₂))
  behind l =
      let r = R.succeeds in
      let m : Member P S (barrier c₂) (S.gen c₁) c₁ = record { run = F.all c₁ r.low₁; reg = r.reg₁; at = r.at; gen = refl } in
      clashing (grown F A l m).run not_yet

  fresh : T.ran c₂ ≡ false
  fresh =
      isnt (T.ran c₂)
      (λ t.
      let r = R.succeeds in
      let e : T.gen c₂ ≡ suc (S.gen c₁) = A.same c₂ t ∙ r.gen in
      let m : Member P T (barrier c₂) (T.gen c₂) c₂ = record { run = t; reg = r.reg₂; at = refl; gen = refl } in
      by_cases (dec_le (T.gen c₂) (T.done (barrier c₂))) (λ (l : T.gen c₂ ≤ T.done (barrier c₂)). behind (omega arith))
      (λ (n : ¬ (T.gen c₂ ≤ T.done (barrier c₂))). behind (omega (arith, (lacking A.good m n).0))))

  -- c₁ does not reach the command before c₂, nor what leads there
  ready : (y : ℕ) → c₂ ≡ suc y → first c₂ ≡ false → Ready P T y
  ready y e f =
      let low : y < size = omega (arith, R.succeeds.low₂) in
      let far : ¬ Reaches P S.gen c₁ y = λ p. R.loose (record { before = y; is_before = e; not_first = f; reached = p }) in
      carry W F (record { good = F.good; same = λ x e. refl }) A y (C.free y (F.all y low)) (all y low far)
      (λ x edge ran. all x (F.good.low x ran) (λ p. far (goes p edge)))

  pub soon : Allowed P T c₂
  soon = record { low = R.succeeds.low₂; fresh = fresh; ready = ready }
