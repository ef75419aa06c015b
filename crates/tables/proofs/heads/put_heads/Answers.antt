use native.Mathlib.Omega.{arith}
use mathlib.Core.Path.{refl}
use lib.ListN.{length}
use Rattle.tables.proofs.Filling.{begun_none, begun_more, begun_all, fills_part}
use Rattle.tables.proofs.heads.put_heads.Goals as goal

pub loop-length-init : goal.loop-length-init
loop-length-init c = begun_none _ _

pub loop-length-preserved : goal.loop-length-preserved
loop-length-preserved c =
    let l = c.loop-length in
    begun_more c.loop-length-test.true (omega arith) refl l.invariant
    (fills_part l.head c.min-end.result l.head l.heads c.fill.new.self (omega arith) (omega arith) (c.fill.ensures.after (λ y h. h)))

pub returns : goal.returns
returns c =
    let l = c.loop-length in
    begun_all {room = length l.heads} c.loop-length-test.false (omega arith) l.invariant
    (fills_part l.head (length l.heads) l.head l.heads c.fill-2.new.self (omega arith) (omega arith) (c.fill-2.ensures.after (λ y h. h)))
