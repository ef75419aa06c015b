use Rattle.std.proofs.Common.{◌≡◌, ap, ◌∙◌, arith}
use Rattle.happens.proofs.Drawing.{adds_join, adds_map, below_more, more_below}
use Rattle.happens.specs.declared.pairs.PairList.{PairList}
use Rattle.happens.proofs.pairs.put_pairs.Goals as goal
use Rattle.happens.proofs.pairs.put_pairs.Goals.{then-begins, else-begins}

pub loop-c-preserved : goal.loop-c-preserved
loop-c-preserved c =
    let l = c.loop-c in
    let a = c.args.offered.now in
    let now = c.if-begins.listed in
    let same : now.numbers ≡ l.listed.numbers = elim c.if-begins.branch [
      | then-begins w ↦ ap (λ (s : PairList). s.numbers) w.listed-is ∙ w.end_part.ensures.0
      | else-begins w ↦ ap (λ (s : PairList). s.numbers) w.listed-is
    ] in
    let many : now.count ≡ l.listed.count = elim c.if-begins.branch [
      | then-begins w ↦ ap (λ (s : PairList). s.count) w.listed-is ∙ w.end_part.ensures.1
      | else-begins w ↦ ap (λ (s : PairList). s.count) w.listed-is
    ] in
    adds_map (omega arith) (below_more a.commands.now a.generations.now a.heads.now c.args.leaders.now l.c)
    (more_below a.commands.now a.generations.now a.heads.now c.args.leaders.now l.c)
    (adds_join l.invariant (rw (same, many) at c.put_command.ensures))
