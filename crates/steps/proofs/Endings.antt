-- How a replay ended, by the tests in their order. Assumes nothing.
use mathlib.Core.Path.{◌≡◌, ap, ap₂, ◌∙◌}
use mathlib.Core.List.{List}
use Prim.Native.Nat.{ℕ, min, ◌+◌, ◌-◌, ◌≤◌, ◌<◌}
use native.Mathlib.Omega.{arith}
use lib.ListN.{length}
use lib.Dec.{ltb}
use borrow.Author.Tests.{lt-ltb, le-ltb, ltb-true}
use Rattle.relation.proofs.Truth.{both}
use Rattle.tables.specs.Limits.{most_threads, barriers}
use Rattle.tables.specs.Rows.{first_row}
use Rattle.verdicts.specs.Verdicts.{tell}
use Rattle.tables.proofs.Rows.{first_within}
use Rattle.tables.proofs.Scans.{lowest_passes}
use Rattle.turns.specs.Turns.{held}
use Rattle.steps.specs.declared.state.Replay.{Replay}
use Rattle.steps.specs.State.{ran_so_far}
use Rattle.steps.specs.Ending.{is_blocked, lowest_allowed, lowest_blocked, lowest_set, ended}

-- each answer, from the lowest thread that may step, the lowest that is blocked and the lowest barrier that is set
module _ (lengths : List ℕ) (s : Replay) (steps : ℕ) {a : ℕ} (e : a ≡ lowest_allowed lengths s) where
  pub ends_open : a < length lengths → tell 6 steps 0 ≡ ended lengths s steps
  unfolding ended
  ends_open l = rw (← e, lt-ltb a (length lengths) l)

  module _ (stops : length lengths ≤ a) {t : ℕ} (f : t ≡ lowest_blocked lengths s) where
    pub ends_blocked : t < length lengths → {r n p : ℕ} → r ≡ first_row lengths (min t most_threads) → n ≡ ran_so_far s t → p ≡ r + n - 1
        → tell 8 p 0 ≡ ended lengths s steps
    unfolding ended held
    ends_blocked l {r} {n} {p} first ran place =
        let few : t < most_threads = ltb-true t most_threads (both (ltb t most_threads) _ (lowest_passes (is_blocked s) (length lengths) f l)).0 in
        rw (← e, le-ltb a (length lengths) stops, ← f, lt-ltb t (length lengths) l)
        (ap (λ (x : ℕ). tell 8 x 0) (place ∙ ap₂ (λ (x y : ℕ). x + y - 1) (first ∙ first_within lengths t (omega arith)) ran))

    module _ (free : length lengths ≤ t) {b : ℕ} (g : b ≡ lowest_set s) where
      pub ends_set : b < barriers → tell 9 b 0 ≡ ended lengths s steps
      unfolding ended
      ends_set l = rw (← e, le-ltb a (length lengths) stops, ← f, le-ltb t (length lengths) free, ← g, lt-ltb b barriers l)

      pub ends_clean : barriers ≤ b → tell 0 0 0 ≡ ended lengths s steps
      unfolding ended
      ends_clean l = rw (← e, le-ltb a (length lengths) stops, ← f, le-ltb t (length lengths) free, ← g, le-ltb b barriers l)
