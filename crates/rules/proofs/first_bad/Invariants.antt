-- `first_bad` meets its contract: every row that the loop has passed keeps the rules. Assumes nothing.
use Rattle.std.proofs.Common.{◌≡◌, ℕ, ◌<◌, false, get_or, []}
use Rattle.rules.specs.Needs.{is_broken}
use Rattle.rules.proofs.first_bad.Given as goal

abbrev pub invariant-loop-c : goal.invariant-loop-c
invariant-loop-c l = (k : ℕ) → k < l.c → is_broken l.threads (get_or l.rows k []) ≡ false
