use Rattle.std.proofs.Common.{◌<◌, ◌∙◌, arith}
use Rattle.tables.specs.Limits.{most_rows}
use Rattle.tables.specs.Rows.{rows}
use Rattle.faults.specs.Faults.{pair_of}
use Rattle.findings.specs.Needs.{is_fault_at}
use Rattle.findings.proofs.Listing.{unlisted}
use Rattle.findings.proofs.Searching.{all_begun, total_few, row_added}
use Rattle.findings.proofs.search.search.Goals as goal

pub list-requires : goal.list-requires
unfolding most_rows
list-requires c = unlisted c.args.searched.now

pub loop-i-init : goal.loop-i-init
loop-i-init c =
    let s = c.args.searched.now in
    c.empty-found.ensures ∙ all_begun (is_fault_at s c.args.fault) (pair_of c.args.fault) (rows s.commands.now)

pub add_row-requires : goal.add_row-requires
add_row-requires c =
    let s = c.args.searched.now in
    let l = c.loop-i in
    let low : l.i < rows s.commands.now = omega arith in
    (omega (arith, total_few (is_fault_at s c.args.fault) (pair_of c.args.fault) (rows s.commands.now) l.found l.i s.few low l.invariant), low)

pub loop-i-preserved : goal.loop-i-preserved
loop-i-preserved c =
    let s = c.args.searched.now in
    let l = c.loop-i in
    let low : l.i < rows s.commands.now = omega arith in
    row_added (is_fault_at s c.args.fault) (pair_of c.args.fault) (rows s.commands.now) l.found l.i s.few low l.invariant c.add_row.ensures
