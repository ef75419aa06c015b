-- A reuse fault is real: cut down to what c₁ does not reach, a clean log comes to c₂ too early, and strays.
use mathlib.Core.Path.{◌≡◌, refl}
use mathlib.Core.Logic.{⊎_elim}
use mathlib.Core.Bool.{true, false}
use mathlib.Core.List.{List, ◌∷◌}
use Prim.Native.Nat.{ℕ, ◌<◌}
use native.Mathlib.Omega.{arith}
use Rattle.relation.specs.Chains.{here}
use Rattle.relation.proofs.Truth.{isnt}
use Rattle.schedules.specs.Machine.{Program, Lawful, State, state}
use Rattle.schedules.specs.HappensBefore.{Reaches, Reuse}
use Rattle.schedules.proofs.Logs.{LegalLog, CleanLog}
use Rattle.schedules.proofs.Step.{ran_same, gen_same}
use Rattle.schedules.proofs.Final.{Final, final}
use Rattle.schedules.proofs.Agree.{Agrees}
use Rattle.schedules.proofs.Cut.{Strays, CutOff, try, apart, apart_in, apart_out, cut}
use Rattle.schedules.proofs.Soon.{behind, soon}

module _ {P : Program} (W : Lawful P) {σ : List ℕ} (C : CleanLog P σ) {c₁ c₂ : ℕ} (R : Reuse P (state P σ).gen c₁ c₂) where
  abbrev S : State
  S = state P σ

  F : Final P S
  F = final W C

  low₁ : c₁ < P.size
  low₁ = R.succeeds.low₁

  early : CutOff P S (apart P S.gen c₁) σ → Strays P S.gen
  unfolding state
  early K =
      let T = state P K.log in
      let not_yet : T.ran c₁ ≡ false = isnt _ (λ t. apart_out low₁ low₁ (K.only c₁ t).1 here) in
      let all : (x : ℕ) → x < P.size → ¬ Reaches P S.gen c₁ x → T.ran x ≡ true = λ x lx far. K.all x (F.all x lx) (apart_in low₁ lx far) in
      ⊎_elim (λ d. d)
      (λ (w : LegalLog P (c₂ ∷ K.log) × Agrees P S (state P (c₂ ∷ K.log))).
      absurd (behind W C R K.agrees not_yet all
      (omega (arith, gen_same P T c₂ c₂ refl R.succeeds.reg₂, w.1.same c₂ (ran_same P T c₂ c₂ refl), R.succeeds.gen))))
      (try W F K.log K.legal K.agrees (soon W C R K.agrees not_yet all))

  pub strays : Strays P (state P σ).gen
  strays = ⊎_elim (λ d. d) early (cut W C low₁)
