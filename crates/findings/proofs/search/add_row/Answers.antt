use Rattle.std.proofs.Common.{◌≡◌, ◌<◌, sym, ap, ◌∙◌, min, arith}
use Rattle.tables.specs.Limits.{most_rows}
use Rattle.tables.specs.Rows.{rows}
use Rattle.sheet.specs.Sheet.{most_kept, most_counted, added}
use Rattle.sheet.specs.Needs.{add_all}
use Rattle.sheet.proofs.Sheets.{added_full}
use Rattle.faults.specs.Faults.{pair_of}
use Rattle.findings.proofs.Searching.{none_added, one_added}
use Rattle.findings.proofs.Listing.{below, walk_begun, walk_on, total_low}
use Rattle.findings.proofs.search.add_row.Goals as goal
use Rattle.findings.proofs.search.add_row.Goals.{then-fault_at+then-sheet-lt-KEPT, then-fault_at+else-sheet-lt-KEPT, else-fault_at}

pub loop-j-init : goal.loop-j-init
loop-j-init c =
    let a = c.args.listing.now in
    let (e, on) = walk_begun a.searched a.fault c.args.i c.first_candidate-j.ensures in
    record { added = none_added c.args.sheet.now _ e; on = on }

pub overflow_add-sheet : goal.overflow_add-sheet
unfolding most_rows
overflow_add-sheet c =
    let a = c.args.listing.now in
    let l = c.loop-j in
    omega (arith, total_low a.searched a.fault c.args.i c.args.sheet.now l.sheet l.j l.invariant.added, c.requires.0, c.loop-j-test.true, a.searched.few)

pub loop-j-smaller : goal.loop-j-smaller
loop-j-smaller c =
    let a = c.args.listing.now in
    let l = c.loop-j in
    let low : l.j < rows a.searched.commands.now = omega arith in
    let W = walk_on a.searched a.fault c.args.i a.lists l.j low l.invariant.on in
    omega (arith, W.higher)

pub loop-j-preserved : goal.loop-j-preserved
unfolding most_rows most_kept most_counted
loop-j-preserved c =
    let a = c.args.listing.now in
    let l = c.loop-j in
    let low : l.j < rows a.searched.commands.now = omega arith in
    let W = walk_on a.searched a.fault c.args.i a.lists l.j low l.invariant.on in
    let p = pair_of a.fault c.args.i l.j in
    let e = sym c.fault_at.ensures in
    let few = total_low a.searched a.fault c.args.i c.args.sheet.now l.sheet l.j l.invariant.added in
    let before = below a.searched a.fault c.args.i l.j in
    record {
      added =
          elim c.if-fault_at.branch [
            | then-fault_at+then-sheet-lt-KEPT w ↦ w.sheet-is ∙ w.add_to.ensures ∙ ap (added l.sheet) w.pair_of.ensures ∙ one_added before _ p c.args.sheet.now l.invariant.added (W.more (e ∙ w.if-fault_at.true))
            | then-fault_at+else-sheet-lt-KEPT w ↦ w.sheet-is ∙ added_full l.sheet p w.if-sheet-lt-KEPT.false (omega (arith, few, c.requires.0, low, a.searched.few)) ∙ one_added before _ p c.args.sheet.now l.invariant.added (W.more (e ∙ w.if-fault_at.true))
            | else-fault_at w ↦ w.sheet-is ∙ l.invariant.added ∙ ap (add_all c.args.sheet.now) (sym (W.same (e ∙ w.if-fault_at.false)))
          ];
      on = W.on;
    }

pub returns : goal.returns
returns c =
    let l = c.loop-j in
    let m = rows c.args.listing.now.searched.commands.now in
    let e : min l.j m ≡ m = omega (arith, c.loop-j-test.false) in
    rw e at l.invariant.added
