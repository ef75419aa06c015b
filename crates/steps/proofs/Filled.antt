-- A room that a schedule fills, by the schedule's length. Assumes nothing.
use mathlib.Core.Path.{◌≡◌, sym, ap, ◌∙◌}
use mathlib.Core.List.{List, ◌++◌}
use Prim.Native.Nat.{ℕ}
use lib.ListN.{length, drop}
use Rattle.steps.specs.Writing.{FilledBy}

module _ {σ before after : List ℕ} {n : ℕ} where
  pub filled_by : n ≡ length σ → after ≡ σ ++ drop n before → FilledBy σ before after n
  filled_by e r = record { long = e; room = r ∙ ap (λ (k : ℕ). σ ++ drop k before) e }

  pub filled_room : FilledBy σ before after n → after ≡ σ ++ drop n before
  filled_room F = F.room ∙ ap (λ (k : ℕ). σ ++ drop k before) (sym F.long)
