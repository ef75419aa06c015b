-- `write_first` meets its contract: each refusal as it was found, with the room as it was, or the schedule. Assumes nothing.
use mathlib.Core.Path.{refl, sym, ap, ◌∙◌}
use lib.Seq.{length-take-le}
use Rattle.std.proofs.lemmas.Result.{err_from_is_err_and}
use Rattle.verdicts.specs.declared.Told.{Told}
use Rattle.rules.proofs.Rules.{passes}
use Rattle.replay.proofs.Refusals.{unwritten_tables, unwritten_room, writer_fits}
use Rattle.replay.proofs.Writing.{first_complete}
use Rattle.replay.proofs.Wrote.{wrote_first}
use Rattle.replay.proofs.writer.write_first.Goals as goal

pub returns-in_err-check_tables : goal.returns-in_err-check_tables
returns-in_err-check_tables c =
    let p = err_from_is_err_and c.from_residual.result c.from_residual.ensures.1 in
    rw (p.1, p.2) (record { refusal = unwritten_tables _ _ _ _ c.in_err-check_tables.ensures; refused = refl; wrote = tt; complete = tt })

pub returns-in_err-short_room : goal.returns-in_err-short_room
returns-in_err-short_room c =
    let r = c.from_residual-in_err-short_room in
    let p = err_from_is_err_and r.result r.ensures.1 in
    rw (p.1, p.2) (record { refusal = c.in_err-short_room.ensures ∙ unwritten_room _ _ _ c.in_ok-check_tables.ensures; refused = refl; wrote = tt; complete = tt })

-- the room is long enough
pub slice_bounds-write_on-end : goal.slice_bounds-write_on-end
slice_bounds-write_on-end c = writer_fits _ _ (ap (λ (t : Told). t.number) (sym c.in_ok-short_room.ensures))

pub slice_bounds-write_on-end-2 : goal.slice_bounds-write_on-end-2
slice_bounds-write_on-end-2 c = sym (length-take-le _ _ (writer_fits _ _ (ap (λ (t : Told). t.number) (sym c.in_ok-short_room.ensures))))

pub returns : goal.returns
returns c =
    let a = c.args in
    let room = writer_fits _ _ (ap (λ (t : Told). t.number) (sym c.in_ok-short_room.ensures)) in
    record {
      refusal = c.in_ok-short_room.ensures ∙ unwritten_room _ _ _ c.in_ok-check_tables.ensures;
      refused = tt;
      wrote = wrote_first a.early.now a.tables.commands.now a.tables.lengths.now a.room.now c.start.ensures room c.write_on-length.ensures;
      complete = first_complete (passes _ _ (sym c.in_ok-check_tables.ensures)) _;
    }
