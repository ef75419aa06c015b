-- Heads of all rows, seats that all syncs have taken, pairs of all commands, and what they reach. Assumes nothing.
use Prim.Native.Nat.{ℕ}
use native.Mathlib.Omega.{arith}
use lib.ListN.{length-replicate}
use Rattle.tables.specs.Limits.{most_rows}
use Rattle.tables.proofs.Filling.{headed}
use Rattle.happens.proofs.Drawing.{listed_reached}
use Rattle.happens.proofs.happens.put_reached.Goals as goal

pub overflow_cast-rows : goal.overflow_cast-rows
unfolding most_rows
overflow_cast-rows c = omega (arith, c.requires.few_rows)

pub shared_ref_as_front-put_reach : goal.shared_ref_as_front-put_reach
unfolding most_rows
shared_ref_as_front-put_reach c = omega (arith, c.put_pairs.ensures.few, c.requires.few_rows)

pub returns : goal.returns
unfolding most_rows
returns c =
    let R = c.requires in
    let k = c.put_pairs.ensures in
    listed_reached R.relation_fits
    (headed _ (omega (arith, R.few_rows, length-replicate {A = ℕ} 512 0)) c.put_heads.ensures)
    c.choose.ensures
    (omega (arith, k.few, k.len, R.few_rows))
    k
    (rw c.rows.ensures at c.put_reach.ensures)
