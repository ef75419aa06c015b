-- `Replay::change` meets its contract: the row is found, and what it changes. Assumes nothing.
use Rattle.steps.proofs.Stepping.{found}
use Rattle.steps.proofs.state.Replay.change.Goals as goal

pub returns : goal.returns
returns c =
    found _ _ c.args.self.now c.args.t c.args.first _ _ _ _ c.requires.begins c.at-n.ensures c.at-wait.ensures c.thread_row-row.ensures c.run_row.ensures
