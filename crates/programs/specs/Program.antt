-- The tables as a program, of which `schedules` says how its barriers behave and what reaches what (R2, R3, R11).
use Rattle.std.specs.Prelude.{Bool, List, ℕ}
use Rattle.tables.specs.Rows.{rows, name, count, registers, syncs, is_first}
use Rattle.schedules.specs.Machine.{Program}
use Rattle.barriers.specs.declared.barrier.Phase.TheVariants.{Expecting}
use Rattle.barriers.specs.Barrier.{refuses}

-- d may not register where c alone has (R11)
abbrev pub clash : List ℕ → ℕ → ℕ → Bool
clash commands c d = refuses (Expecting (count commands c) 1) (count commands d)

-- the commands of the tables (R2), which of them are first in their threads (R3), and which clash (R11)
abbrev pub program : List ℕ → List ℕ → Program
program commands lengths =
    record {
      size = rows commands;
      first = is_first lengths;
      registers = registers commands;
      syncs = syncs commands;
      barrier = name commands;
      count = count commands;
      clash = clash commands;
    }
