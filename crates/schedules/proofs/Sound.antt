-- With no reuse fault in one clean log, every legal log has its generations, meets no mismatch, and is clean where it stops.
use mathlib.Core.Path.{◌≡◌, refl}
use mathlib.Core.Bool.{true}
use mathlib.Core.List.{List, [], ◌∷◌}
use Prim.Native.Nat.{ℕ, ◌<◌}
use Rattle.relation.proofs.Truth.{clashing}
use Rattle.schedules.specs.Machine.{Program, Lawful, Matches, state}
use Rattle.schedules.specs.HappensBefore.{NoReuse}
use Rattle.schedules.proofs.Logs.{Allowed, LegalLog, StopsLog, CleanLog}
use Rattle.schedules.proofs.Good.{good}
use Rattle.schedules.proofs.Final.{Final, final, clean_of}
use Rattle.schedules.proofs.Agree.{Agrees, up, closes, matches, same_next, overtakes}

module _ {P : Program} (W : Lawful P) {σ : List ℕ} (C : CleanLog P σ) (none : NoReuse P (state P σ).gen) where
  pub agrees : (τ : List ℕ) → LegalLog P τ → Agrees P (state P σ) (state P τ)
  unfolding state
  agrees [] h = record { good = good W [] h; same = λ x e. clashing e refl }
  agrees (c ∷ l) h = record { good = good W (c ∷ l) h; same = same_next (final W C) (agrees l h.0) none h.1 }

  pub fits : (τ : List ℕ) → LegalLog P τ → {c : ℕ} → Allowed P (state P τ) c → Matches P (state P τ) c
  fits τ h A = matches (final W C) (agrees τ h) none A

  pub ended : {τ : List ℕ} → LegalLog P τ → StopsLog P τ → CleanLog P τ × ((x : ℕ) → x < P.size → (state P τ).gen x ≡ (state P σ).gen x)
  ended {τ} h stop = (clean_of W h stop (λ b k x m. closes F E (up F E m) (λ y n. all y (F.good.low y n.run))), λ x l. E.same x (all x l))
    where
      F : Final P (state P σ)
      F = final W C

      E : Agrees P (state P σ) (state P τ)
      E = agrees τ h

      all : (x : ℕ) → x < P.size → (state P τ).ran x ≡ true
      all x l = overtakes W F E stop σ C.legal (λ y e. refl) x (F.all x l)
