-- `refuse_sizes` meets its contract: the commands are refused by their number, or the rooms by theirs. Assumes nothing.
use mathlib.Core.Path.{sym, ◌∙◌}
use native.Mathlib.Omega.{arith}
use Rattle.tables.specs.Limits.{most_rows}
use Rattle.rules.proofs.Rules.{whole_commands}
use Rattle.rooms.proofs.Refusals.{sizes_commands, sizes_rooms}
use Rattle.rooms.proofs.refusal.refuse_sizes.Goals as goal

pub returns-then-bad_commands : goal.returns-then-bad_commands
returns-then-bad_commands c = sizes_commands _ _ _ (sym c.bad_commands.ensures ∙ c.if-bad_commands.true)

pub overflow_cast-m : goal.overflow_cast-m
unfolding most_rows
overflow_cast-m c =
    let few = (whole_commands c.args.commands.now (sym c.bad_commands.ensures ∙ c.if-bad_commands.false)).1 in
    record { fits = omega (arith, few) }

pub returns : goal.returns
returns c =
    c.short_room.ensures ∙ sizes_rooms _ _ _ (sym c.bad_commands.ensures ∙ c.if-bad_commands.false) c.table_words.ensures
