-- The rows before k, row k itself, the rows after it. Assumes nothing.
use Rattle.closing.proofs.Rows.{rows_none}
use Rattle.closing.proofs.Warshall.{round_self}
use Rattle.closing.proofs.rounds.round.Goals as goal

pub returns : goal.returns
returns c =
    let before = c.join_rows.ensures _ (rows_none _ _ _) in
    c.join_rows-2.ensures _ (round_self _ _ _ _ before)
