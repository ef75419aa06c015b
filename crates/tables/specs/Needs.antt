-- What the parts ask for and pass on; nothing public speaks of it.
use Rattle.std.specs.Prelude.{◌≡◌, List, ℕ, ◌≤◌, ◌<◌, length, get_or}

-- the places below n hold what f says
pub record FilledTo (f : ℕ → ℕ) (n : ℕ) (before after : List ℕ) : Type 0 where
  pub len : length after ≡ length before
  pub done : (c : ℕ) → c < n → get_or after c 0 ≡ f c

-- a room that was filled to `from` is filled to `to`, where f says `head` between them
abbrev pub Fills : (from to head : ℕ) (before after : List ℕ) → Type 0
Fills from to head before after =
    (f : ℕ → ℕ) (old : List ℕ) → ((c : ℕ) → from ≤ c → c < to → f c ≡ head) → FilledTo f from old before → FilledTo f to old after
