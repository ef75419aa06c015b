-- `put_generations` meets its contract: the numbers copied stand in front, and the rest is kept. Assumes nothing.
use mathlib.Core.Path.{sym, ◌∙◌}
use Prim.Native.Nat.{◌≤◌}
use lib.ListN.{length}
use lib.Seq.{length-take-le}
use borrow.Author.Rules.{rules}
use Rattle.tables.specs.Limits.{most_rows}
use Rattle.review.proofs.Rooms.{put_is}
use Rattle.review.proofs.judge.put_generations.Goals as goal

pub returns : goal.returns
unfolding most_rows
returns c =
    let few : c.args.m ≤ length c.args.found = search (rules, c.requires.1) in
    put_is c.args.found _ _ _ c.copy_from_slice.ensures.after few

pub slice_bounds-copy_from_slice-end : goal.slice_bounds-copy_from_slice-end
slice_bounds-copy_from_slice-end c = c.requires.0

pub copy_from_slice-requires : goal.copy_from_slice-requires
unfolding most_rows
copy_from_slice-requires c =
    let few : c.args.m ≤ length c.args.found = search (rules, c.requires.1) in
    length-take-le _ _ c.requires.0 ∙ sym (length-take-le _ _ few)

pub slice_bounds-found-end : goal.slice_bounds-found-end
unfolding most_rows
slice_bounds-found-end c = search (rules, c.requires.1)

pub slice_bounds-copy_from_slice-end-3 : goal.slice_bounds-copy_from_slice-end-3
unfolding most_rows
slice_bounds-copy_from_slice-end-3 c =
    let few : c.args.m ≤ length c.args.found = search (rules, c.requires.1) in
    sym (length-take-le _ _ few)
