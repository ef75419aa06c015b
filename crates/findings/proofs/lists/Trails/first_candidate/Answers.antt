-- No candidate, the front of a list, or the next after i. Assumes nothing.
use Rattle.std.proofs.Common.{sym, subst, ◌∙◌, ℕ, get_or, arith}
use Rattle.tables.specs.Limits.{most_rows}
use Rattle.faults.specs.declared.faults.Fault.TheVariants.{Reuse}
use Rattle.findings.specs.Needs.{Next}
use Rattle.findings.proofs.Listing.{candidate, candidate_none, candidate_above}
use Rattle.findings.proofs.lists.Trails.first_candidate.Goals as goal

pub returns-then-not-listed : goal.returns-then-not-listed
unfolding most_rows
returns-then-not-listed c = candidate_none (sym c.listed.ensures ∙ c.if-not-listed.true) c.args.self.now.searched.few

pub returns-in-Reuse : goal.returns-in-Reuse
unfolding most_rows
returns-in-Reuse c =
    let a = c.args.self.now in
    let e = c.in-Reuse.is in
    let k = c.barrier_list in
    rw e (candidate (subst (λ (n : ℕ). Next a.searched Reuse n 0 (get_or a.fronts.now k.result 0)) k.ensures.0 (rw e at (a.lists.front k.result k.ensures.1))))

pub returns-in-Race : goal.returns-in-Race
returns-in-Race c =
    let e = c.in-Race.is in
    let is = sym c.listed.ensures ∙ c.if-not-listed.false in
    rw e (candidate_above (rw e at (c.args.self.now.lists.next c.args.i (omega arith) c.requires is)))
