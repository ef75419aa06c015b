-- A run of at most so many steps from the start of a kernel, and what the door answers (R70 to R72).
use Rattle.std.specs.Prelude.{◌≡◌, Bool, cond, ◌||◌, List, ℕ, zero, suc, eqb, ltb, length, Result, Ok, Err}
use Rattle.warps.specs.Language.{Mem}
use Rattle.kernels.specs.Limits.{cell_count}
use Rattle.kernels.specs.declared.kernel.KernelRefusal.{KernelRefusal}
use Rattle.kernels.specs.declared.kernel.KernelRefusal.TheVariants.{Malformed}
use Rattle.kernels.specs.Refusals.{ruling_of}
use Rattle.machine.specs.Entries.{most_entries}
use Rattle.machine.specs.Step.{Warp, next_warp, start_of}
use Rattle.runs.specs.declared.Ending.{Ending}
use Rattle.runs.specs.declared.Ending.TheVariants.{Finished, UsedUp, WouldOverfill}
use Rattle.runs.specs.declared.Course.{Course}

-- the number of an ending (R72)
abbrev pub ending_number : Ending → ℕ
ending_number Finished = 1
ending_number UsedUp = 2
ending_number WouldOverfill = 3

-- how it ended, after how many steps, and where
pub record RunEnd : Type 0 where
  pub ending : Ending
  pub taken : ℕ
  pub last : Warp

-- nothing is left on the stack
abbrev pub is_over : Warp → Bool
is_over w = eqb (length w.stack) 0

module _ (s e : List ℕ) where
  -- the stack has more than 256 entries, or would have after the next step (R72)
  unfoldable pub overfills : Warp → Bool
  overfills w = ltb most_entries (length w.stack) || ltb most_entries (length (next_warp s e w).stack)

  -- with `left` steps left and `taken` taken: finished, used up, would overfill, tested in this order; else a step (R72)
  unfoldable pub run_warp : (left taken : ℕ) → Warp → RunEnd
  run_warp zero taken w = record { ending = cond (is_over w) Finished UsedUp; taken = taken; last = w }
  run_warp (suc left) taken w =
      cond (is_over w) (record { ending = Finished; taken = taken; last = w })
      (cond (overfills w) (record { ending = WouldOverfill; taken = taken; last = w })
      (run_warp left (suc taken) (next_warp s e w)))

  -- at most so many steps from the start (R72)
  abbrev pub kernel_run : (lanes steps : ℕ) → Mem → RunEnd
  kernel_run lanes steps μ = run_warp steps 0 (start_of s lanes μ)

-- ---- the door

-- what is told, and the cells
pub record KernelTold : Type 0 where
  pub answer : Result Course KernelRefusal
  pub cells : Mem

-- a refused kernel: no step, and the cells as they were (R71, R72)
abbrev pub tell_refusal : KernelRefusal → Mem → KernelTold
tell_refusal refusal μ = record { answer = Err refusal; cells = μ }

abbrev pub tell_run : RunEnd → KernelTold
tell_run o = record { answer = Ok (record { ending = o.ending; taken = o.taken }); cells = o.last.cells }

-- by what the tables' refusals are
abbrev pub tell_ruled : Result (Unit {0}) KernelRefusal → RunEnd → Mem → KernelTold
tell_ruled (Err refusal) o μ = tell_refusal refusal μ
tell_ruled (Ok passed) o μ = tell_run o

-- fewer than 64 cells are 17 at place 0; then the tables' refusals, with the cells as they were (R70, R71); then the run (R72)
unfoldable pub kernel_told : (s e : List ℕ) (lanes steps : ℕ) → Mem → KernelTold
kernel_told s e lanes steps μ =
    cond (ltb (length μ) cell_count) (tell_refusal (Malformed 0) μ) (tell_ruled (ruling_of s e lanes) (kernel_run s e lanes steps μ) μ)

-- what `run_kernel` promises (R70 to R72)
abbrev pub RunsKernel : (s e : List ℕ) (lanes steps : ℕ) (μ μ' : Mem) → Result Course KernelRefusal → Type 0
RunsKernel s e lanes steps μ μ' answer = ◌≡◌ {A = KernelTold} (record { answer = answer; cells = μ' }) (kernel_told s e lanes steps μ)
