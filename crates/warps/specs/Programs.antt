-- Prog of document 001, 3.1: statement lists without `again`, and with `break` only within `while` loops. `looped b` says that list b lies in a loop of its own function (R71).
use Rattle.std.specs.Prelude.{◌≡◌, Bool, true, false, List, [], ◌∷◌, ℕ}
use Rattle.warps.specs.Language.{Stm, skip, assign, branch, while, again, break, invoke, return, Bodies}

-- a statement that may stand in a list; inside: the list lies in a loop. An arm of a branch lies in one only if the branch does, and a function in none.
abbrev pub MayStand : (ℕ → Bool) → (inside : Bool) → Stm → Type 0
MayStand looped inside skip = Unit {0}
MayStand looped inside (assign x e) = Unit {0}
MayStand looped inside (branch e S₁ S₂) = (looped S₁ ≡ true → inside ≡ true) × (looped S₂ ≡ true → inside ≡ true)
MayStand looped inside (while e S) = Unit {0}
MayStand looped inside (again e S) = ⊥
MayStand looped inside break = inside ≡ true
MayStand looped inside (invoke f) = looped f ≡ false
MayStand looped inside return = Unit {0}

abbrev pub AllMayStand : (ℕ → Bool) → (inside : Bool) → List Stm → Type 0
AllMayStand looped inside [] = Unit {0}
AllMayStand looped inside (s ∷ S) = MayStand looped inside s × AllMayStand looped inside S

abbrev pub Confined : Bodies → (ℕ → Bool) → Type 0
Confined body looped = (b : ℕ) → AllMayStand looped (looped b) (body b)

-- every list is a program's, and the kernel lies in no loop (R71)
pub record Prog (body : Bodies) (looped : ℕ → Bool) (kernel : ℕ) : Type 0 where
  pub lists : Confined body looped
  pub outside : looped kernel ≡ false
