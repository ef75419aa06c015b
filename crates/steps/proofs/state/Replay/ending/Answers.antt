-- `Replay::ending` meets its contract, by what is found, in order. Assumes nothing.
use mathlib.Core.Path.{refl, sym, ◌∙◌}
use Prim.Native.Nat.{min}
use native.Mathlib.Omega.{arith}
use Rattle.tables.specs.Limits.{most_threads}
use Rattle.tables.proofs.Scans.{if_below_hit, if_below_miss}
use Rattle.steps.specs.Step.{allowed}
use Rattle.steps.proofs.Stepping.{first_small}
use Rattle.steps.proofs.Endings.{ends_open, ends_blocked, ends_set, ends_clean}
use Rattle.steps.proofs.state.Replay.ending.Goals as goal

pub returns-in-Some : goal.returns-in-Some
unfolding allowed
returns-in-Some c =
    let a = c.args in
    let h = if_below_hit (sym c.in-Some.is ∙ c.lowest_allowed.ensures) in
    ends_open a.lengths.now a.self _ h.1 h.0

pub last_run-requires : goal.last_run-requires
unfolding most_threads
last_run-requires c =
    let a = c.args in
    let t = min c.in-Some-lowest_blocked.t most_threads in
    omega (arith, c.first_row.ensures, first_small a.lengths.now (λ i. omega (arith, c.type_inv.lengths i)) t)

pub returns-in-Some-lowest_blocked : goal.returns-in-Some-lowest_blocked
unfolding allowed
returns-in-Some-lowest_blocked c =
    let a = c.args in
    let stops = if_below_miss (sym c.in_default.is ∙ c.lowest_allowed.ensures) in
    let h = if_below_hit (sym c.in-Some-lowest_blocked.is ∙ c.lowest_blocked.ensures) in
    ends_blocked a.lengths.now a.self _ refl stops h.1 h.0 c.first_row.ensures c.at.ensures c.last_run.ensures

pub returns-in-Some-lowest_set : goal.returns-in-Some-lowest_set
unfolding allowed
returns-in-Some-lowest_set c =
    let a = c.args in
    let stops = if_below_miss (sym c.in_default.is ∙ c.lowest_allowed.ensures) in
    let free = if_below_miss (sym c.in_default-lowest_blocked.is ∙ c.lowest_blocked.ensures) in
    let h = if_below_hit (sym c.in-Some-lowest_set.is ∙ c.lowest_set.ensures) in
    ends_set a.lengths.now a.self _ refl stops refl free h.1 h.0

pub returns : goal.returns
unfolding allowed
returns c =
    let a = c.args in
    let stops = if_below_miss (sym c.in_default.is ∙ c.lowest_allowed.ensures) in
    let free = if_below_miss (sym c.in_default-lowest_blocked.is ∙ c.lowest_blocked.ensures) in
    let last = if_below_miss (sym c.in_default-lowest_set.is ∙ c.lowest_set.ensures) in
    ends_clean a.lengths.now a.self _ refl stops refl free refl last
