use mathlib.Core.Path.{sym, ◌∙◌}
use native.Mathlib.Omega.{arith}
use Rattle.tables.specs.Limits.{most_rows}
use Rattle.notation.proofs.Passes.{writing_start, writing_end, writing_further, writing_refused, writing_on, writing_room, writing_row, writing_place, writing_thread}
use Rattle.notation.proofs.scan.write.Goals as goal

pub loop-token-init : goal.loop-token-init
loop-token-init c = writing_start c.requires

-- the end of the text
pub returns-in_default : goal.returns-in_default
returns-in_default c =
    writing_end c.loop-token.invariant (sym c.token_from.ensures ∙ c.in_default.is)

-- a token that does not fit: there is none in a text that passed, and the tables would be written all the same
pub returns-in-Refuse : goal.returns-in-Refuse
returns-in-Refuse c =
    writing_refused c.loop-token.invariant (sym c.in-Token.ensures) (sym c.in-Refuse.ensures)

-- a row
pub put_row-requires : goal.put_row-requires
put_row-requires c =
    (writing_room c.loop-token.invariant (sym c.in-Token.ensures) (sym c.in-Row.ensures)).0

pub overflow_add-length : goal.overflow_add-length
unfolding most_rows
overflow_add-length c =
    omega (arith, (writing_room c.loop-token.invariant (sym c.in-Token.ensures) (sym c.in-Row.ensures)).1)

pub loop-token-smaller-in-Row : goal.loop-token-smaller-in-Row
loop-token-smaller-in-Row c =
    omega (arith, writing_further c.loop-token.invariant (sym c.in-Token.ensures))

pub loop-token-preserved-in-Row : goal.loop-token-preserved-in-Row
loop-token-preserved-in-Row c =
    rw c.put_row.ensures
    (writing_row c.loop-token.invariant (sym c.in-Token.ensures) (sym c.in-Row.ensures))

-- a thread
pub bounds-lengths-threads : goal.bounds-lengths-threads
bounds-lengths-threads c =
    writing_place c.loop-token.invariant (sym c.in-Token.ensures) (sym c.in-Thread.ensures)

pub loop-token-smaller : goal.loop-token-smaller
loop-token-smaller c =
    omega (arith, writing_further c.loop-token.invariant (sym c.in-Token.ensures))

pub loop-token-preserved : goal.loop-token-preserved
loop-token-preserved c =
    writing_thread c.loop-token.invariant (sym c.in-Token.ensures) (sym c.in-Thread.ensures)

-- neither
pub loop-token-smaller-in-On : goal.loop-token-smaller-in-On
loop-token-smaller-in-On c =
    omega (arith, writing_further c.loop-token.invariant (sym c.in-Token.ensures))

pub loop-token-preserved-in-On : goal.loop-token-preserved-in-On
loop-token-preserved-in-On c =
    writing_on c.loop-token.invariant (sym c.in-Token.ensures) (sym c.in-On.ensures)
