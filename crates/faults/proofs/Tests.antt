-- What is found, and that by the heads of their rows the tests find exactly the faults. Assumes nothing.
use mathlib.Core.Path.{◌≡◌, sym, ◌∙◌}
use mathlib.Core.Logic.{by_cases, ◌≢◌}
use mathlib.Core.Bool.{true}
use mathlib.Core.List.{List}
use Prim.Native.Nat.{ℕ, ◌+◌, ◌≤◌, ◌<◌}
use native.Mathlib.Decide.{ℕ_discrete}
use native.Mathlib.Omega.{arith}
use lib.Dec.{eqb, leb, ltb}
use borrow.Author.Tests.{ltb-true, eqb-true, le-leb, lt-leb, eq-eqb, ne_eqb}
use Rattle.tables.specs.Rows.{arrive}
use Rattle.tables.proofs.Rows.{head_low}
use Rattle.tables.proofs.Filling.{first_by_head, same_by_head}
use Rattle.relation.proofs.Truth.{both}
use Rattle.rooms.specs.Rooms.{number_at}
use Rattle.faults.specs.declared.faults.Fault.TheVariants.{Reuse, Race}
use Rattle.faults.specs.declared.faults.Seen.{Seen}
use Rattle.faults.specs.Faults.{succeeds, reuse, conflict, race}
use Rattle.faults.specs.Claims.{IsFaulty}
use Rattle.faults.specs.Tests.{succeeds_by, reuse_by, conflict_by, race_by, is_fault}

-- ---- what is found pairs two commands as the definitions say

module _ (relation : List ℕ) (m : ℕ) (a b : Seen) where
  pub found_reuse : is_fault relation m Reuse a b ≡ true
      → (leb arrive a.kind ≡ true) × (leb arrive b.kind ≡ true) × (b.name ≡ a.name) × (b.generation + 1 ≡ a.generation)
  unfolding reuse_by succeeds_by
  found_reuse e =
      let (s, _) = both (succeeds_by b a) _ e in
      let (x, s₁) = both (leb arrive b.kind) _ s in
      let (y, s₂) = both (leb arrive a.kind) _ s₁ in
      let (n, g) = both (eqb b.name a.name) _ s₂ in
      (y, x, eqb-true _ _ n, eqb-true _ _ g)

  pub found_race : is_fault relation m Race a b ≡ true
      → (a.row < b.row) × (ltb a.kind arrive ≡ true) × (ltb b.kind arrive ≡ true) × (a.name ≡ b.name)
  unfolding race_by conflict_by
  found_race e =
      let (l, e₁) = both (ltb a.row b.row) _ e in
      let (k, _) = both (conflict_by a b) _ e₁ in
      let (x, k₁) = both (ltb a.kind arrive) _ k in
      let (y, k₂) = both (ltb b.kind arrive) _ k₁ in
      let (n, _) = both (eqb a.name b.name) _ k₂ in
      (ltb-true _ _ l, x, y, eqb-true _ _ n)

-- ---- by the heads of the rows

-- a number that is no less than a bound is at most the bound exactly when it is the bound
at_most : (a b : ℕ) → b ≤ a → leb a b ≡ eqb a b
at_most a b l =
    by_cases (ℕ_discrete a b) (λ (e : a ≡ b). le-leb a b (omega arith) ∙ sym (eq-eqb a b e))
    (λ (n : a ≢ b). lt-leb a b (omega arith) ∙ sym (ne_eqb a b n))

pub is_faulty : IsFaulty
unfolding succeeds reuse conflict race succeeds_by reuse_by conflict_by race_by
is_faulty commands lengths heads H generations relation Reuse i j li lj =
    let e = H.head i li in
    rw (at_most i (number_at heads i) (omega (arith, head_low lengths i)), first_by_head H i li)
is_faulty commands lengths heads H generations relation Race i j li lj = rw (same_by_head H i j li lj)
