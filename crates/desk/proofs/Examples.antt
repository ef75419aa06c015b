-- The report of each text of the table is the one that document 01 gives: the test of the whole table computes to true. Assumes nothing.
use mathlib.Core.Path.{◌≡◌, refl}
use mathlib.Core.Bool.{true}
use Rattle.tables.specs.Limits.{most_rows, most_threads, addresses, barriers, most_count}
use Rattle.tables.specs.Rows.{total, first_row, thread_of}
use Rattle.tables.specs.Lowest.{lowest}
use Rattle.rules.specs.Rules.{does_row_keep, first_bad_of, checked}
use Rattle.relation.specs.Chains.{rounds}
use Rattle.relation.specs.Table.{width}
use Rattle.schedules.specs.HappensBefore.{edge, reach}
use Rattle.spelling.specs.Bytes.{class_of, run}
use Rattle.spelling.specs.Words.{same_bytes}
use Rattle.spelling.specs.Numbers.{most_number, decimal, numeral_of}
use Rattle.spelling.specs.Tokens.{spots_n}
use Rattle.spelling.specs.Machine.{flat, found}
use Rattle.grammar.specs.Tokens.{word_of, mark_of, piece_of}
use Rattle.grammar.specs.Automaton.{token_moves}
use Rattle.notation.specs.Reading.{most_bytes, scanned_of, is_too_many, reading}
use Rattle.turns.specs.Turns.{held, has_any_left, may_step}
use Rattle.barriers.specs.Counting.{counted}
use Rattle.barriers.specs.Barrier.{registration}
use Rattle.steps.specs.State.{start}
use Rattle.steps.specs.Step.{allowed, registering, running, stepped}
use Rattle.steps.specs.Going.{one_step_on, go_on, begun, played}
use Rattle.steps.specs.Ending.{ended, judged}
use Rattle.steps.specs.Writing.{stepping}
use Rattle.replay.specs.Writer.{schedule_by, schedule}
use Rattle.sheet.specs.Sheet.{most_kept, firsts, sheet_of}
use Rattle.faults.specs.Faults.{succeeds, reuse, conflict, race, along_row, all_rows, faults}
use Rattle.rooms.specs.Short.{first_short}
use Rattle.rooms.specs.Refusals.{review_refusal}
use Rattle.review.specs.Judge.{verdict_of}
use Rattle.printing.specs.Figures.{figures_to, figures}
use Rattle.desk.specs.Conclusion.{of_tables, of_text}
use Rattle.report.specs.Report.{two_numbers, verdict_line, total_line, pair_lines, report}
use Rattle.desk.specs.Examples.{reports, reported}

pub every : reported reports ≡ true
unfolding reports reported
    most_rows most_threads addresses barriers most_count total first_row thread_of lowest does_row_keep first_bad_of checked rounds width edge reach
    class_of run same_bytes most_number decimal numeral_of spots_n flat found word_of mark_of piece_of token_moves most_bytes scanned_of is_too_many reading
    counted registration start held has_any_left may_step allowed registering running stepped one_step_on go_on begun played ended judged stepping schedule_by schedule most_kept firsts sheet_of
    succeeds reuse conflict race along_row all_rows faults first_short review_refusal verdict_of
    figures_to figures of_tables of_text two_numbers verdict_line total_line pair_lines report
every = refl
