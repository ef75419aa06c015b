-- What a room holds that holds happens-before. Assumes nothing.
use mathlib.Core.Path.{◌≡◌, sym}
use mathlib.Core.List.{List}
use Prim.Native.Nat.{ℕ, ◌≤◌, ◌<◌}
use native.Mathlib.Omega.{arith}
use lib.ListN.{length}
use Rattle.tables.specs.Rows.{rows}
use Rattle.relation.specs.Table.{words, related}
use Rattle.relation.proofs.Truth.{same_test}
use Rattle.relation.proofs.Chains.{reach_map}
use Rattle.relation.proofs.Rooms.{holds_related, holds_map}
use Rattle.schedules.specs.HappensBefore.{Reaches, reach}
use Rattle.schedules.proofs.Table.{decides, edge_alike}
use Rattle.programs.specs.Program.{program}
use Rattle.happens.specs.HappensBefore.{Reached}

module _ (commands lengths : List ℕ) (g : ℕ → ℕ) where
  abbrev m : ℕ
  m = rows commands

  pub related_reaches : (b a : List ℕ) → Reached commands lengths g b a → words m ≤ length b → (i j : ℕ) → i < m → j < m
      → related a m i j ≡ reach (program commands lengths) g i j
  related_reaches b a H fits i j li lj =
      let (f, t) = holds_related b a m (Reaches (program commands lengths) g) H i j (record { fits = omega (arith, H.len); from = li; to = lj }) in
      let (u, v) = decides (program commands lengths) g i j li lj in
      same_test _ _ (λ e. v (f e)) (λ e. t (u e))

-- over generations that are the same
pub same_reached : (commands lengths : List ℕ) (g h : ℕ → ℕ) → ((c : ℕ) → c < rows commands → g c ≡ h c)
    → (b a : List ℕ) → Reached commands lengths g b a → Reached commands lengths h b a
same_reached commands lengths g h same b a H =
    holds_map b a (rows commands) (Reaches (program commands lengths) g) (Reaches (program commands lengths) h)
    (λ i j li lj. (λ p. reach_map (edge_alike same) p, λ p. reach_map (edge_alike (λ c l. sym (same c l))) p))
    H
