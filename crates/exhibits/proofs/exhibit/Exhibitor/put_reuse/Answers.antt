-- `put_reuse` meets its contract: what the schedule shows, and the schedule from the front of its room. Assumes nothing.
use Rattle.exhibits.specs.Exhibits.{reuse_exhibit}
use Rattle.exhibits.proofs.Apart.{full_room, puts_shown}
use Rattle.exhibits.proofs.exhibit.Exhibitor.put_reuse.Goals as goal

pub fill_apart-steps-requires : goal.fill_apart-steps-requires
fill_apart-steps-requires c = full_room c.args.self.now.roomy.keeps

pub returns : goal.returns
unfolding reuse_exhibit
returns c =
    puts_shown c.fill_apart-steps.ensures _ _ _ c.shown_by-shown.ensures c.put_shown.ensures c.put_steps.ensures
