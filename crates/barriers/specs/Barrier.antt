-- A barrier is either unset or expects a count, with what has registered so far (R10 to R12, R14).
use Rattle.std.specs.Prelude.{Bool, true, false, cond, not, ℕ, eqb}
use Rattle.barriers.specs.Counting.{counted}
use Rattle.barriers.specs.declared.barrier.Phase.{Phase}
use Rattle.barriers.specs.declared.barrier.Phase.TheVariants.{Unset, Expecting}
use Rattle.barriers.specs.declared.barrier.Barrier.{Barrier}
use Rattle.barriers.specs.declared.barrier.Met.TheVariants.{Clash, Stays, Completes}
use Rattle.barriers.specs.declared.barrier.Registration.{Registration}

-- what has registered so far (R10)
abbrev pub so_far : Phase → ℕ
so_far Unset = 0
so_far (Expecting count got) = got

-- whether it is set (R10)
abbrev pub is_set : Phase → Bool
is_set Unset = false
is_set (Expecting count got) = true

-- What a barrier refuses. The first to register sets the expected count; a different count later is a mismatch (R11).
abbrev pub refuses : Phase → ℕ → Bool
refuses Unset n = false
refuses (Expecting count got) n = not (eqb count n)

-- unset, with so many generations completed (R10)
abbrev pub unset : ℕ → Barrier
unset done = record { phase = Unset; done = done }

-- with the count that it expects, what has registered, and so many generations completed (R10)
abbrev pub expecting : ℕ → ℕ → ℕ → Barrier
expecting count got done = record { phase = Expecting count got; done = done }

-- One more registers where `got` have. When registrations reach the count, the barrier is unset and one more generation of it has completed (R12).
abbrev pub one_more_of : ℕ → ℕ → ℕ → Registration
one_more_of count got done =
    cond (eqb (counted got) count) (record { met = Completes; after = unset (counted done) }) (record { met = Stays; after = expecting count (counted got) done })

-- A command of this count registers: what it meets, and the barrier after it (R11, R12). No thread is named, so one that registers twice is counted twice (R14).
unfoldable pub registration : Barrier → ℕ → Registration
registration b count = cond (refuses b.phase count) (record { met = Clash; after = b }) (one_more_of count (so_far b.phase) b.done)
