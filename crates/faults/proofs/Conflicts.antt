-- Two accesses that conflict: they are accesses, they conflict the other way round, and one of them reaches the other or they race. Assumes nothing.
use mathlib.Core.Path.{◌≡◌, sym, ap, ◌∙◌, subst}
use mathlib.Core.Logic.{◌⊎◌, inl, inr, ⊎_elim, by_cases, ◌≢◌}
use mathlib.Core.Bool.{Bool, true, false, ◌&&◌, ◌||◌}
use mathlib.Core.List.{List, []}
use Prim.Native.Nat.{ℕ, ◌-◌, ◌+◌, ◌<◌}
use native.Mathlib.Omega.{arith}
use native.Mathlib.Decide.{dec_lt, ℕ_discrete}
use lib.Dec.{eqb, ltb}
use borrow.Author.Tests.{eq-eqb, lt-leb, ltb-true, eqb-true}
use Rattle.tables.specs.Rows.{rows, kind, name, write, arrive, thread_of, registers}
use Rattle.rules.specs.Rules.{Keeps}
use Rattle.relation.proofs.Truth.{split, clashing, both, pair, either, left, right}
use Rattle.schedules.specs.HappensBefore.{Reaches, reach}
use Rattle.schedules.proofs.Theorems.{decides}
use Rattle.faults.specs.declared.faults.Fault.TheVariants as fault
use Rattle.programs.specs.Program.{program}
use Rattle.faults.specs.Faults.{conflict, faults}
use Rattle.programs.proofs.Reaching.{reaches_on}
use Rattle.faults.proofs.Pairs.{race_is, no_faults}

-- four tests that all pass
four : (a b c d : Bool) → a && (b && (c && d)) ≡ true → (a ≡ true) × (b ≡ true) × (c ≡ true) × (d ≡ true)
four a b c d e = let (x, f) = both a _ e in let (y, h) = both b _ f in let (z, w) = both c d h in (x, y, z, w)

module _ (commands : List ℕ) (x y : ℕ) (c : conflict commands x y ≡ true) where
  abbrev k : ℕ
  k = kind commands x

  abbrev l : ℕ
  l = kind commands y

  parts : (ltb k arrive ≡ true) × (ltb l arrive ≡ true) × (eqb (name commands x) (name commands y) ≡ true) × (eqb k write || eqb l write ≡ true)
  unfolding conflict
  parts = four (ltb k arrive) (ltb l arrive) (eqb (name commands x) (name commands y)) (eqb k write || eqb l write) c

  pub accesses : (registers commands x ≡ false) × (registers commands y ≡ false)
  accesses = (lt-leb arrive k (ltb-true k arrive parts.0), lt-leb arrive l (ltb-true l arrive parts.1))

  pub turned : conflict commands y x ≡ true
  unfolding conflict
  turned =
      let same = eq-eqb (name commands y) (name commands x) (sym (eqb-true (name commands x) (name commands y) parts.2)) in
      let one = ⊎_elim (right (eqb l write) (eqb k write)) (left (eqb l write) (eqb k write)) (either (eqb k write) (eqb l write) parts.3) in
      pair (ltb l arrive) _ parts.1 (pair (ltb k arrive) _ parts.0 (pair (eqb (name commands y) (name commands x)) _ same one))

module _ {table lengths : List ℕ} (K : Keeps table lengths) (g : ℕ → ℕ)
    (none : faults table lengths g (reach (program table lengths) g) fault.Race ≡ []) where
  -- where there is no race, one of two conflicting accesses reaches the other
  upwards : (x y : ℕ) → x < y → y < rows table → conflict table x y ≡ true → Reaches (program table lengths) g x y ⊎ Reaches (program table lengths) g y x
  upwards x y l ly c =
      let lx : x < rows table = omega arith in
      let (a, _) = decides (program table lengths) g x y lx ly in
      let (b, _) = decides (program table lengths) g y x ly lx in
      by_cases (ℕ_discrete (thread_of lengths x) (thread_of lengths y))
      (λ (e : thread_of lengths x ≡ thread_of lengths y).
      let n : x + (y - x) ≡ y = omega arith in
      inl (subst (Reaches (program table lengths) g x) n (reaches_on K g (y - x) x (omega arith) (e ∙ ap (thread_of lengths) (sym n)))))
      (λ (ne : thread_of lengths x ≢ thread_of lengths y).
      ⊎_elim (λ (e : reach (program table lengths) g x y ≡ true). inl (a e))
      (λ (e : reach (program table lengths) g x y ≡ false).
      ⊎_elim (λ (f : reach (program table lengths) g y x ≡ true). inr (b f))
      (λ (f : reach (program table lengths) g y x ≡ false). clashing
      ((race_is table lengths g x y lx ly).1 (l, c, ne, (λ r. clashing ((decides (program table lengths) g x y lx ly).1 r) e), (λ r. clashing ((decides (program table lengths) g y x ly lx).1 r) f)))
      (no_faults table lengths g _ fault.Race none x y lx ly))
      (split (reach (program table lengths) g y x)))
      (split (reach (program table lengths) g x y)))

  pub reaches_either : (x y : ℕ) → x < rows table → y < rows table → x ≢ y → conflict table x y ≡ true
      → Reaches (program table lengths) g x y ⊎ Reaches (program table lengths) g y x
  reaches_either x y lx ly ne c =
      by_cases (dec_lt x y) (λ (l : x < y). upwards x y l ly c)
      (λ (n : ¬ (x < y)). ⊎_elim inr inl (upwards y x (omega arith) lx (turned table x y c)))
