-- What is proved of runs, each as a named type. Theorems (proofs) has one proof for each.
use Rattle.std.specs.Prelude.{◌≡◌, ◌≢◌, List, [], ℕ, ◌≤◌, length, Ok}
use Rattle.warps.specs.Language.{Mem}
use Rattle.warps.specs.Warp.{Transition, initial}
use Rattle.warps.specs.Threads.{Interleaved}
use Rattle.warps.specs.Projection.{stacks_of}
use Rattle.warps.specs.Programs.{Prog}
use Rattle.kernels.specs.Refusals.{ruling_of}
use Rattle.machine.specs.Entries.{most_entries}
use Rattle.machine.specs.Step.{Warp, next_warp, start_of}
use Rattle.runs.specs.declared.Ending.TheVariants.{Finished}
use Rattle.runs.specs.Run.{RunEnd, kernel_run}
use Rattle.runs.specs.Denotes.{list_in_loop, bodies_of, config_of}

-- a warp that a start reaches by steps (R73)
pub data ReachedWarp (s e : List ℕ) (lanes : ℕ) (μ : Mem) : Warp → Type 0 where
  begun : ReachedWarp s e lanes μ (start_of s lanes μ)
  onward : {w : Warp} → ReachedWarp s e lanes μ w → w.stack ≢ [] → ReachedWarp s e lanes μ (next_warp s e w)

module _ (s e : List ℕ) (lanes : ℕ) where
  -- neither 17 nor 18
  abbrev pub Admitted : Type 0
  Admitted = ruling_of s e lanes ≡ Ok tt

  -- what 17 and 18 let through is what the theory asks for: lists of statements that have a break only within the loops of their own function (R71)
  abbrev pub AreProgs : Type 0
  AreProgs = Admitted → Prog (bodies_of s e) (list_in_loop s) 0

  -- the start is document 001's, and each step from there is a step of Table 2 (R69)
  abbrev pub StartsAlike : Type 0
  StartsAlike = Admitted → (μ : Mem) → config_of s e (start_of s lanes μ) ≡ initial (bodies_of s e) lanes 0 μ

  abbrev pub StepsByTable2 : Type 0
  StepsByTable2 = Admitted → (μ : Mem) (w : Warp) → ReachedWarp s e lanes μ w → w.stack ≢ [] → Transition (bodies_of s e) lanes (config_of s e w) (config_of s e (next_warp s e w))

  -- every step from a state that a start reaches is matched by some steps of single threads of Table 4, that end in the same memory
  -- and leave each lane what the warp's stack and disable states still hold for it (R73)
  abbrev pub StepsMatched : Type 0
  StepsMatched = Admitted → (μ : Mem) (w : Warp) → ReachedWarp s e lanes μ w → w.stack ≢ []
      → Interleaved (bodies_of s e) lanes (stacks_of lanes (config_of s e w)) w.cells (stacks_of lanes (config_of s e (next_warp s e w))) (next_warp s e w).cells

  -- and so is a whole run (R73)
  pub record Matched (steps : ℕ) (μ : Mem) (o : RunEnd) : Type 0 where
    pub reached : ReachedWarp s e lanes μ o.last
    pub taken : o.taken ≤ steps
    pub matched : Interleaved (bodies_of s e) lanes (stacks_of lanes (initial (bodies_of s e) lanes 0 μ)) μ (stacks_of lanes (config_of s e o.last)) o.last.cells

  abbrev pub RunsMatched : Type 0
  RunsMatched = Admitted → (steps : ℕ) (μ : Mem) → Matched steps μ (kernel_run s e lanes steps μ)

  -- a run that finished holds nothing more for any lane; so, of an admitted kernel, the threads of `RunsMatched` have come to their ends
  abbrev pub FinishedAll : Type 0
  FinishedAll = (steps : ℕ) (μ : Mem) → (kernel_run s e lanes steps μ).ending ≡ Finished → (t : ℕ) → stacks_of lanes (config_of s e (kernel_run s e lanes steps μ).last) t ≡ []

  -- the stack keeps its limit: what runs has at most 256 entries after every step (R72)
  abbrev pub StaysSmall : Type 0
  StaysSmall = (steps : ℕ) (μ : Mem) → (kernel_run s e lanes steps μ).taken ≢ 0 → length (kernel_run s e lanes steps μ).last.stack ≤ most_entries
