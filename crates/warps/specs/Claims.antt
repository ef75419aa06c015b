-- What is proved of warps, each as a named type. Theorems (proofs) has one proof for each.
use Rattle.std.specs.Prelude.{◌≡◌, ◌≢◌, true, false, [], ℕ, ◌<◌, set}
use Rattle.warps.specs.Language.{Expr, Bodies, Mem, eval}
use Rattle.warps.specs.Warp.{Mask, Config, updated, Transition, initial, Reachable}
use Rattle.warps.specs.Threads.{Interleaved}
use Rattle.warps.specs.Projection.{stacks_of}

-- where several lanes write one cell, the highest active lane's value stays (R69)
abbrev pub HighestStays : Type 0
HighestStays = (n : ℕ) (Θ : Mask) (c : ℕ) (e : Expr) (μ : Mem) (h : ℕ) → h < n → Θ h ≡ true → ((t : ℕ) → h < t → t < n → Θ t ≡ false)
    → updated n Θ c e μ ≡ set μ c (eval e h μ)

module _ (body : Bodies) (n : ℕ) where
  -- with that order of writes, Table 2 leaves no choice
  abbrev pub OneWay : Type 0
  OneWay = (c a b : Config) → Transition body n c a → Transition body n c b → a ≡ b

  module _ (kernel : ℕ) where
    -- what is reachable goes on until its stack is empty. That it will be empty is not claimed: document 001, section 5, shows that it may never be (R73).
    abbrev pub GoesOn : Type 0
    GoesOn = (μ : Mem) (c : Config) → Reachable body n kernel μ c → c.stack ≢ [] → (c' : Config) × Transition body n c c'

    -- Proposition 1: a step of a reachable warp is matched by some steps of single threads, that end in the same memory and leave each lane what the warp's stack and disable states still hold for it (R73)
    abbrev pub Proposition1 : Type 0
    Proposition1 = (μ : Mem) (c c' : Config) → Reachable body n kernel μ c → Transition body n c c'
        → Interleaved body n (stacks_of n c) c.mem (stacks_of n c') c'.mem

    -- Theorem 1: and so is a whole run from the start (R73)
    abbrev pub Theorem1 : Type 0
    Theorem1 = (μ : Mem) (c : Config) → Reachable body n kernel μ c → Interleaved body n (stacks_of n (initial body n kernel μ)) μ (stacks_of n c) c.mem
