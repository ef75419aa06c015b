-- The place of a refusal is a row of the table, or 0.
use mathlib.Core.Path.{◌≡◌, refl, sym, ap, ◌∙◌}
use mathlib.Core.Bool.{Bool, true, false, cond}
use mathlib.Core.List.{List}
use Prim.Native.Nat.{ℕ, ◌≤◌}
use native.Mathlib.Omega.{arith}
use lib.Dec.{ltb}
use lib.ListN.{length}
use Rattle.std.specs.Prelude.{Result, Ok, Err}
use Rattle.warps.specs.Language.{Mem}
use Rattle.kernels.specs.Limits.{most_statements, cell_count}
use Rattle.kernels.specs.declared.kernel.KernelRefusal.{KernelRefusal}
use Rattle.kernels.specs.declared.kernel.KernelRefusal.TheVariants.{Malformed}
use Rattle.kernels.specs.Refusals.{refusal_place, ruling_of}
use Rattle.kernels.proofs.Passed.{ruling_place}
use Rattle.runs.specs.declared.Course.{Course}
use Rattle.runs.specs.Run.{RunEnd, KernelTold, tell_refusal, tell_ruled, kernel_run, kernel_told, RunsKernel}

at : (b : Bool) (x : Result (Unit {0}) KernelRefusal) (o : RunEnd) (μ : Mem) (f : KernelRefusal) → ((g : KernelRefusal) → x ≡ Err g → refusal_place g ≤ most_statements)
    → ◌≡◌ {A = Result Course KernelRefusal} (cond b (tell_refusal (Malformed 0) μ) (tell_ruled x o μ)).answer (Err f) → refusal_place f ≤ most_statements
at true x o μ f p a = let z : Malformed 0 ≡ f = cc in rw (← z) (omega arith)
at false (Err g) o μ f p a = let z : g ≡ f = cc in rw (← z) (p g refl)
at false (Ok t) o μ f p a = absurd (let z : ◌≡◌ {A = ℕ} 0 1 = cc in omega arith)

pub place_few : (s e : List ℕ) (lanes steps : ℕ) (μ μ' : Mem) (r : Result Course KernelRefusal) → RunsKernel s e lanes steps μ μ' r → (f : KernelRefusal) → r ≡ Err f → refusal_place f ≤ most_statements
unfolding kernel_told
place_few s e lanes steps μ μ' r R f q =
    at (ltb (length μ) cell_count) (ruling_of s e lanes) (kernel_run s e lanes steps μ) μ f (ruling_place s e lanes) (sym (ap (λ (t : KernelTold). t.answer) R) ∙ q)
