use native.Mathlib.Omega.{arith}
use mathlib.Core.Path.{◌≡◌, sym, ap, ◌∙◌}
use mathlib.Core.List.{List}
use Prim.Native.Nat.{ℕ, ◌<◌}
use lib.ListN.{length, take, get_or}
use Rattle.std.proofs.lemmas.List.{get_or-take, length-take}
use Rattle.tables.specs.Limits.{most_threads}
use Rattle.tables.specs.Rows.{first_row}
use Rattle.tables.proofs.Rows.{first_none, first_next, first_cut}
use Rattle.tables.proofs.threads.first_row.Goals as goal

-- what stands before an end stands there in the whole list
before_end : (l : List ℕ) (end t : ℕ) → t < length (take end l) → (t < end) × (get_or (take end l) t 0 ≡ get_or l t 0)
before_end l end t h =
    let low : t < end = omega (arith, length-take end l) in
    (low, get_or-take end l t 0 low)

pub loop-length-init : goal.loop-length-init
loop-length-init c = (sym (first_none _), omega arith)

pub loop-length-preserved : goal.loop-length-preserved
loop-length-preserved c =
    let lengths = c.args.lengths.now in
    let t = c.loop-length.length-index in
    let own = before_end lengths _ t c.loop-length-test.true in
    let fits = c.type_inv.lengths t in
    (omega (arith, own.1, first_next lengths t), omega (arith, own.1, fits))

pub returns : goal.returns
unfolding most_threads
returns c =
    let there = length-take c.min-end.result c.args.lengths.now in
    c.loop-length.invariant.0 ∙ ap (first_row _) (omega arith) ∙ first_cut _ _

pub overflow_add-sum : goal.overflow_add-sum
overflow_add-sum c =
    let t = c.loop-length.length-index in
    let own = before_end c.args.lengths.now _ t c.loop-length-test.true in
    let fits = c.type_inv.lengths t in
    omega (arith, own, fits)
