-- The faults with the numbers below j are added, and j is in the list. Assumes nothing.
use Rattle.std.proofs.Common.{◌≡◌, ◌-◌}
use Rattle.sheet.specs.Needs.{add_all}
use Rattle.findings.proofs.Listing.{below, OnList}
use Rattle.findings.proofs.search.add_row.Given as goal

abbrev pub invariant-loop-j : goal.invariant-loop-j
invariant-loop-j l = record {
  added : l.sheet ≡ add_all l.initial.sheet (below l.listing.searched l.listing.fault l.i l.j);
  on : OnList l.listing.searched l.listing.fault l.i l.j;
}

abbrev pub decreases-loop-j : goal.decreases-loop-j
decreases-loop-j l = l.m - l.j
