-- Schedules as logs of commands, without threads: what the proofs work with. Threads, below, says that it comes to the same.
use mathlib.Core.Path.{◌≡◌}
use mathlib.Core.Bool.{true, false}
use mathlib.Core.List.{List, [], ◌∷◌}
use Prim.Native.Nat.{ℕ, suc, ◌<◌}
use Rattle.schedules.specs.Machine.{Program, State, Ready, Matches, registered, state}

module _ (P : Program) where
  open P use {size, first}

  -- c has not run, and the command before it in its thread, if it has one, does not block
  pub record Allowed (s : State) (c : ℕ) : Type 0 where
    pub low : c < size
    pub fresh : s.ran c ≡ false
    pub ready : (y : ℕ) → c ≡ suc y → first c ≡ false → Ready P s y

  abbrev pub LegalLog : List ℕ → Type 0
  LegalLog [] = Unit {0}
  LegalLog (c ∷ l) = LegalLog l × Allowed (state P l) c × Matches P (state P l) c

  abbrev pub StopsLog : List ℕ → Type 0
  StopsLog l = (c : ℕ) → ¬ Allowed (state P l) c

  pub record CleanLog (l : List ℕ) : Type 0 where
    pub legal : LegalLog l
    pub stops : StopsLog l
    pub free : (y : ℕ) → (state P l).ran y ≡ true → Ready P (state P l) y
    pub unset : (b : ℕ) → registered P (state P l) b (suc ((state P l).done b)) ≡ 0
