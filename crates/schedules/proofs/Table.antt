-- The table `reach` holds exactly what reaches what.
use mathlib.Core.Path.{◌≡◌, sym, ap, ◌∙◌}
use mathlib.Core.Logic.{⊎_elim}
use mathlib.Core.Bool.{true, ◌&&◌, not}
use Prim.Native.Nat.{ℕ, suc, ◌<◌}
use native.Mathlib.Omega.{arith}
use lib.Dec.{eqb}
use borrow.Author.Tests.{eqb-true, eq-eqb, not-true}
use Rattle.relation.specs.Chains.{On}
use Rattle.relation.proofs.Truth.{both, pair, either, left, right}
use Rattle.relation.proofs.Chains.{reach_map, decides_reach}
use Rattle.schedules.specs.Machine.{Program}
use Rattle.schedules.specs.HappensBefore.{Edge, along, meets, edge, reach}
use Rattle.schedules.specs.Claims.{Decides}

pub edge_low : {P : Program} {g : ℕ → ℕ} {y z : ℕ} → Edge P g y z → (y < P.size) × (z < P.size)
edge_low (along l e f) = (omega arith, l)
edge_low (meets l k r s a e) = (l, k)

-- edges are the same over generations that are the same
pub edge_alike : {P : Program} {g h : ℕ → ℕ} → ((x : ℕ) → x < P.size → g x ≡ h x) → (y z : ℕ) → Edge P g y z → Edge P h y z
edge_alike same y z (along l e f) = along l e f
edge_alike same y z (meets l k r s a e) = meets l k r s a (sym (same y l) ∙ e ∙ same z k)

module _ (P : Program) (g : ℕ → ℕ) where
  open P use {size, first, registers, syncs, barrier}

  pub edge_out : (y z : ℕ) → On size (edge P g) y z → Edge P g y z
  unfolding edge
  edge_out y z o =
      ⊎_elim
      (λ (a : eqb z (suc y) && not (first z) ≡ true).
      let (e, f) = both _ _ a in
      along o.to (eqb-true _ _ e) (not-true (first z) f))
      (λ (a : registers y && (syncs z && (eqb (barrier y) (barrier z) && eqb (g y) (g z))) ≡ true).
      let (r, a₁) = both _ _ a in
      let (s, a₂) = both _ _ a₁ in
      let (e, f) = both _ _ a₂ in
      meets o.from o.to r s (eqb-true _ _ e) (eqb-true _ _ f))
      (either _ _ o.set)

  edge_set : (y z : ℕ) → Edge P g y z → edge P g y z ≡ true
  unfolding edge
  edge_set y z (along l e f) = left _ _ (pair _ _ (eq-eqb _ _ e) (ap not f))
  edge_set y z (meets l k r s a e) = right (eqb z (suc y) && not (first z)) _ (pair _ _ r (pair _ _ s (pair _ _ (eq-eqb _ _ a) (eq-eqb _ _ e))))

  pub edge_in : (y z : ℕ) → Edge P g y z → On size (edge P g) y z
  edge_in y z e = record { from = (edge_low e).0; to = (edge_low e).1; set = edge_set y z e }

pub decides : (P : Program) → Decides P
unfolding reach
decides P g x y lx ly =
    let d = decides_reach (edge P g) P.size x y lx ly in
    (λ t. reach_map (edge_out P g) (d.0 t), λ p. d.1 (reach_map (edge_in P g) p))
