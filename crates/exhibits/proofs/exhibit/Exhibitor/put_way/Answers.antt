-- `put_way` meets its contract: the line, and the schedule from the front of its room. Assumes nothing.
use Rattle.exhibits.specs.Exhibits.{order_exhibit}
use Rattle.exhibits.proofs.Apart.{full_room, puts_below}
use Rattle.exhibits.proofs.exhibit.Exhibitor.put_way.Goals as goal

pub fill_apart-steps-requires : goal.fill_apart-steps-requires
fill_apart-steps-requires c = full_room c.args.self.now.roomy.keeps

pub returns : goal.returns
unfolding order_exhibit
returns c =
    puts_below c.fill_apart-steps.ensures c.put_first.ensures c.put_steps.ensures
