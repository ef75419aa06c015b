use Rattle.std.proofs.Common.{◌≡◌, ◌+◌, ◌-◌, sym, subst, ◌∙◌, arith}
use Rattle.tables.specs.Limits.{most_rows}
use Rattle.findings.specs.Needs.{Lists}
use Rattle.findings.proofs.Listing.{lists_none, lists_more}
use Rattle.findings.proofs.lists.list.Goals as goal

pub loop-c-init : goal.loop-c-init
unfolding most_rows
loop-c-init c = rw c.rows-c.ensures (lists_none _ _ (omega arith) (omega arith) c.requires)

pub loop-c-preserved-then-listed : goal.loop-c-preserved-then-listed
loop-c-preserved-then-listed c =
    let l = c.loop-c in
    let s = c.args.searched.now in
    let q : l.c ≡ (l.c - 1) + 1 = omega arith in
    let L = subst (Lists s c.args.fault l.fronts l.nexts) q l.invariant in
    rw c.key-k.ensures.0 (lists_more s c.args.fault l.fronts l.nexts (l.c - 1) L (omega arith) (sym c.listed.ensures ∙ c.if-listed.true))
