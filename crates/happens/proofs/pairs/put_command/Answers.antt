-- Its leader's pairs, and then the next command. Assumes nothing.
use Rattle.std.proofs.Common.{sym, ◌∙◌}
use Rattle.happens.proofs.Drawing.{adds_join, draws_last, draws_next}
use Rattle.happens.proofs.pairs.put_command.Goals as goal

pub returns-then-follows : goal.returns-then-follows
returns-then-follows c =
    let a = c.args.offered.now in
    draws_next a.commands.now a.generations.now a.heads.now c.args.leaders.now c.args.c (sym c.follows.ensures ∙ c.if-follows.true) (adds_join c.put_leader.ensures c.push.ensures)

pub returns-else-follows : goal.returns-else-follows
returns-else-follows c =
    let a = c.args.offered.now in
    draws_last a.commands.now a.generations.now a.heads.now c.args.leaders.now c.args.c (sym c.follows.ensures ∙ c.if-follows.false) c.put_leader.ensures
