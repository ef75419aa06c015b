-- One proof for each name of Claims.
use mathlib.Core.Path.{sym, ◌∙◌}
use mathlib.Core.Bool.{Bool}
use Prim.Native.Nat.{ℕ}
use borrow.Author.Tests.{lt-ltb}
use lib.Dec.{ltb}
use Rattle.warps.specs.Language.{Bodies, Mem}
use Rattle.warps.specs.Warp.{Config, Reachable, begin, further}
use Rattle.warps.specs.Threads.{Interleaved}
use Rattle.warps.specs.Programs.{Prog}
use Rattle.warps.specs.Claims.{HighestStays, OneWay, GoesOn, Proposition1, Theorem1}
use Rattle.warps.proofs.Shape.{Inv, next, start}
use Rattle.warps.proofs.Sweep.{join}
use Rattle.warps.proofs.Simulate.{matched}
use Rattle.warps.proofs.Proceed.{proceed, only, steps, highest}

pub highest_stays : HighestStays
highest_stays = highest

module _ (body : Bodies) (n : ℕ) where
  pub one_way : OneWay body n
  one_way c a b p q = only body n p ∙ sym (only body n q)

  module _ (looped : ℕ → Bool) (kernel : ℕ) (P : Prog body looped kernel) where
    -- what every reachable configuration keeps
    pub holds : {μ : Mem} {c : Config} → Reachable body n kernel μ c → Inv looped n c.stack c.active c.off
    holds begin = start looped body P.lists n kernel (λ t. ltb t n) P.outside (λ t l. lt-ltb t n l)
    holds (further r s) = next looped body P.lists n s (holds r)

    pub goes_on : GoesOn body n kernel
    goes_on μ c r q = (proceed body n c.stack c.active c.off c.mem, steps body n looped c.stack c.active c.off c.mem (holds r).shape q)

    pub proposition_1 : Proposition1 body n kernel
    proposition_1 μ c c' r s = matched body n looped P.lists (holds r) s

    pub theorem_1 : Theorem1 body n kernel
    theorem_1 μ c begin = Interleaved.none
    theorem_1 μ c (further {c = b} r s) = join body n (theorem_1 μ b r) (proposition_1 μ b c r s)
