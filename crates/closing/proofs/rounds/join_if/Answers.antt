-- Row i has bit k, and row k is joined; or it has not, and all is kept. Assumes nothing.
use mathlib.Core.Path.{sym, ◌∙◌}
use Rattle.closing.proofs.Warshall.{joined_if_lem, kept_if}
use Rattle.closing.proofs.rounds.join_if.Goals as goal

pub returns-then-related : goal.returns-then-related
returns-then-related c =
    joined_if_lem c.args.room.now c.args.m c.args.i c.args.k c.requires (sym c.related.ensures ∙ c.if-related.true) c.join.ensures

pub returns-else-related : goal.returns-else-related
returns-else-related c =
    kept_if c.args.room.now c.args.m c.args.i c.args.k c.requires (sym c.related.ensures ∙ c.if-related.false)
