-- Nothing else meets the contract of `run_kernel`.
use mathlib.Core.Path.{◌≡◌, sym, ◌∙◌}
use mathlib.Core.List.{List}
use Prim.Native.Nat.{ℕ}
use Rattle.warps.specs.Language.{Mem}
use Rattle.std.specs.Prelude.{Result}
use Rattle.kernels.specs.declared.kernel.KernelRefusal.{KernelRefusal}
use Rattle.runs.specs.declared.Course.{Course}
use Rattle.runs.specs.Run.{KernelTold, RunsKernel}

-- two answers to one call are one, with the same cells
pub kernel_one : (s e : List ℕ) (lanes steps : ℕ) (μ μ₁ μ₂ : Mem) (a b : Result Course KernelRefusal) → RunsKernel s e lanes steps μ μ₁ a → RunsKernel s e lanes steps μ μ₂ b
    → ◌≡◌ {A = KernelTold} (record { answer = a; cells = μ₁ }) (record { answer = b; cells = μ₂ })
kernel_one s e lanes steps μ μ₁ μ₂ a b p q = p ∙ sym q
