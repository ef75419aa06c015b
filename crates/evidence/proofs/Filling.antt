-- The room after the schedules of a verdict. Assumes nothing.
use mathlib.Core.Path.{◌≡◌, refl, subst}
use mathlib.Core.Logic.{◌≢◌}
use mathlib.Core.Bool.{Bool}
use mathlib.Core.List.{List}
use Prim.Native.Nat.{ℕ, ◌≤◌, min}
use native.Mathlib.Nat.{mul-le-mul_right}
use native.Mathlib.Omega.{arith}
use lib.ListN.{length, take}
use lib.Seq.{length-take-le}
use borrow.Author.Tests.{eq-eqb, ne_eqb}
use Rattle.tables.specs.Rows.{rows}
use Rattle.sheet.specs.declared.Sheet.{Sheet}
use Rattle.sheet.specs.Sheet.{most_kept, first_kept}
use Rattle.steps.specs.Writing.{FilledBy}
use Rattle.evidence.specs.Evidence.{both_ways, against, evidence_of}
use Rattle.evidence.specs.Needs.{PutsAt, FitsAt, FitsAll, Showable}
use Rattle.steps.proofs.Filled.{filled_by}

-- what is put from the front fills
puts_fills : {σ room room' : List ℕ} {r : ℕ} → PutsAt σ room room' 0 r → FilledBy σ room room' r
puts_fills Q = filled_by (omega (arith, Q.ends)) Q.room

module _ {commands lengths : List ℕ} {s : Sheet} {room : List ℕ} (S : Showable commands lengths s room) where
  pub show_one : FitsAt commands lengths room 0
  show_one = record { keeps = S.keeps; fits = omega (arith, S.fits) }

  pub show_all : {k : ℕ} → k ≡ min s.total most_kept → FitsAll commands lengths (take k s.pairs) room
  unfolding most_kept
  show_all {k} q =
      let l : k ≤ 16 = omega arith in
      let m : k ≤ length s.pairs = omega (arith, S.long) in
      record { keeps = S.keeps; fits = rw (length-take-le k s.pairs m) (omega (arith, S.fits, mul-le-mul_right {m = k} {n = 16} (rows commands) l)) }

module _ (commands lengths : List ℕ) (ρ : ℕ → ℕ → Bool) (n : ℕ) (s : Sheet) {room room' : List ℕ} {r : ℕ} where
  pub show_ten : n ≡ 10 → PutsAt (against commands lengths ρ (first_kept s)) room room' 0 r → FilledBy (evidence_of commands lengths ρ n s) room room' r
  unfolding evidence_of
  show_ten e Q = rw (eq-eqb n 10 e) (puts_fills Q)

  pub show_eleven : n ≡ 11 → {k : ℕ} → k ≡ min s.total most_kept → PutsAt (both_ways commands lengths ρ (take k s.pairs)) room room' 0 r
      → FilledBy (evidence_of commands lengths ρ n s) room room' r
  unfolding evidence_of
  show_eleven e {k} q Q =
      rw (ne_eqb n 10 (λ z. omega arith), eq-eqb n 11 e)
      (puts_fills (subst (λ (k : ℕ). PutsAt (both_ways commands lengths ρ (take k s.pairs)) room room' 0 r) q Q))

pub show_none : (commands lengths : List ℕ) (ρ : ℕ → ℕ → Bool) (n : ℕ) (s : Sheet) (room : List ℕ) → n ≢ 10 → n ≢ 11
    → FilledBy (evidence_of commands lengths ρ n s) room room 0
unfolding evidence_of
show_none commands lengths ρ n s room a b = rw (ne_eqb n 10 a, ne_eqb n 11 b) (filled_by refl refl)
