-- What is proved: the schedules of two tables are those of the theory, `schedules`. Schedules, in proofs/, has it, under the name `all_tied`.
use Rattle.std.specs.Prelude.{◌≡◌, ◌↔◌, List, reverse, ℕ, ◌<◌}
use Rattle.tables.specs.Rows.{rows}
use Rattle.rules.specs.Rules.{Keeps}
use Rattle.schedules.specs.Threads.{Threads}
use Rattle.schedules.specs.Threads as theory
use Rattle.programs.specs.Program.{program}
use Rattle.steps.specs.Going.{played, generation}
use Rattle.replay.specs.Schedules.{Complete, Clean}

-- The threads of the tables as the theory sees them; and by these a schedule is legal and complete, or ends clean, exactly when it is so there, where the last step stands first. The
-- generations of one that ends clean are the same.
pub record Tied (commands lengths : List ℕ) : Type 0 where
  pub threads : Threads (program commands lengths)
  pub complete : (σ : List ℕ) → Complete commands lengths σ ↔ theory.Complete (program commands lengths) threads (reverse σ)
  pub clean : (σ : List ℕ) → Clean commands lengths σ ↔ theory.Clean (program commands lengths) threads (reverse σ)
  pub gens : (σ : List ℕ) → Clean commands lengths σ → (c : ℕ) → c < rows commands
      → generation (played commands lengths σ) c ≡ theory.gens (program commands lengths) threads (reverse σ) c

-- So it is of all tables that keep the rules.
abbrev pub AllTied : Type 0
AllTied = (commands lengths : List ℕ) → Keeps commands lengths → Tied commands lengths
