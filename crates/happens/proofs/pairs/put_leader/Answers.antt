-- No leader, one that does not meet c, or one that does. Assumes nothing.
use Rattle.std.proofs.Common.{sym, ◌∙◌, ◌+◌, ◌≤◌, arith}
use Rattle.happens.proofs.Leading.{meets_parts, leader_met}
use Rattle.happens.proofs.Drawing.{adds_join, led_none, led_one, led_both}
use Rattle.happens.proofs.pairs.put_leader.Goals as goal
use Rattle.happens.proofs.pairs.put_leader.Goals.{then-meets_row, else-meets_row}

pub push-requires-in-Some : goal.push-requires-in-Some
push-requires-in-Some c =
    let a = c.args.offered.now in
    let few : c.if-meets_row.listed.count ≤ c.args.listed.now.count + 1 = elim c.if-meets_row.branch [
      | then-meets_row w ↦ rw w.listed-is w.push.ensures.few
      | else-meets_row w ↦ rw w.listed-is (omega arith)
    ] in
    let M = meets_parts a.commands.now a.generations.now c.args.c c.in-Some.l (leader_met a.commands.now a.generations.now c.args.leaders.now c.args.c (sym c.in-Some.ensures)) in
    (omega arith, omega (arith, a.few), omega (arith, a.few, M.to))

pub returns-after-meets_row : goal.returns-after-meets_row
returns-after-meets_row c =
    let a = c.args.offered.now in
    let e = sym c.in-Some.ensures in
    elim c.if-meets_row.branch [
      | then-meets_row w ↦ led_both a.commands.now a.generations.now a.heads.now c.args.leaders.now c.args.c c.in-Some.l e (sym c.meets_row.ensures ∙ w.if-meets_row.true) (adds_join w.push.ensures (rw w.listed-is at c.push-in-Some.ensures))
      | else-meets_row w ↦ led_one a.commands.now a.generations.now a.heads.now c.args.leaders.now c.args.c c.in-Some.l e (sym c.meets_row.ensures ∙ w.if-meets_row.false) (rw w.listed-is at c.push-in-Some.ensures)
    ]

pub returns-in_default : goal.returns-in_default
returns-in_default c =
    let a = c.args.offered.now in
    led_none a.commands.now a.generations.now a.heads.now c.args.leaders.now c.args.c (sym c.leader.ensures ∙ c.in_default.is)
