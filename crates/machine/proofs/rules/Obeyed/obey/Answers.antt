-- `obey` meets its contract, by the row's kind. Assumes nothing.
use mathlib.Core.Path.{ap, ◌∙◌}
use Rattle.kernels.specs.Rows.{statement_kind}
use Rattle.machine.proofs.Towers.{stays_none}
use Rattle.machine.proofs.Obeying.{by_skip, by_assign, by_if, by_while, by_break, by_call, by_return}
use Rattle.machine.proofs.rules.Obeyed.obey.Goals as goal

pub returns-in-Skip : goal.returns-in-Skip
returns-in-Skip c = record { stays = stays_none _; is = by_skip _ _ _ _ _ (c.of.ensures ∙ ap statement_kind c.number.ensures) c.unwrap_or-kind.ensures _ _ _ c.in-Skip.is }

pub returns-in-Assign : goal.returns-in-Assign
returns-in-Assign c = record { stays = stays_none _; is = by_assign _ _ _ _ _ (c.of.ensures ∙ ap statement_kind c.number.ensures) c.unwrap_or-kind.ensures _ _ _ _ c.in-Assign.is c.assign.ensures }

pub returns-in-If : goal.returns-in-If
returns-in-If c = record { stays = c.divide.ensures.stays; is = by_if _ _ _ _ _ (c.of.ensures ∙ ap statement_kind c.number.ensures) c.unwrap_or-kind.ensures _ _ _ _ c.in-If.is c.divide.ensures.is }

pub returns-in-While : goal.returns-in-While
returns-in-While c = record { stays = c.enter_loop.ensures.stays; is = by_while _ _ _ _ _ (c.of.ensures ∙ ap statement_kind c.number.ensures) c.unwrap_or-kind.ensures _ _ _ _ c.in-While.is c.enter_loop.ensures.is }

pub returns-in-Break : goal.returns-in-Break
returns-in-Break c = record { stays = c.drop_rows.ensures.stays; is = by_break _ _ _ _ _ (c.of.ensures ∙ ap statement_kind c.number.ensures) c.unwrap_or-kind.ensures _ _ _ _ _ c.in-Break.is c.drop_rows.ensures.held c.break_off.ensures }

pub returns-in-Call : goal.returns-in-Call
returns-in-Call c = record { stays = c.enter.ensures.stays; is = by_call _ _ _ _ _ (c.of.ensures ∙ ap statement_kind c.number.ensures) c.unwrap_or-kind.ensures _ _ _ _ _ c.in-Call.is c.number-in-Call.ensures c.enter.ensures.held }

pub returns-in-Return : goal.returns-in-Return
returns-in-Return c = record { stays = c.drop_rows-in-Return.ensures.stays; is = by_return _ _ _ _ _ (c.of.ensures ∙ ap statement_kind c.number.ensures) c.unwrap_or-kind.ensures _ _ _ _ _ c.in-Return.is c.drop_rows-in-Return.ensures.held c.give_up.ensures }
