-- `ruling` meets its contract: what its tests find are the facts that each answer asks for, in their order. Assumes nothing.
use mathlib.Core.Path.{sym, ap, ◌∙◌}
use native.Mathlib.Omega.{arith}
use Rattle.std.specs.Prelude.{Err}
use Rattle.kernels.specs.declared.kernel.KernelRefusal.TheVariants.{Malformed, StrayBreak}
use Rattle.kernels.proofs.Finds.{found_at, found_past}
use Rattle.kernels.proofs.Answers.{refuses_tables, refuses_statement, refuses_break, refuses_none}
use Rattle.kernels.proofs.refusals.ruling.Goals as goal

pub returns-then-bad_tables : goal.returns-then-bad_tables
returns-then-bad_tables c = sym (refuses_tables _ _ _ (sym c.bad_tables.ensures ∙ c.if-bad_tables.true))

pub returns-in-Some : goal.returns-in-Some
returns-in-Some c =
    let (e, l) = found_at _ _ c.in-Some.ensures in
    ap (λ i. Err (Malformed i)) e ∙ sym (refuses_statement _ _ _ (sym c.bad_tables.ensures ∙ c.if-bad_tables.false) (omega arith))

pub returns-in-Some-first_stray_break : goal.returns-in-Some-first_stray_break
returns-in-Some-first_stray_break c =
    let (e, l) = found_at _ _ c.in-Some-first_stray_break.ensures in
    ap (λ i. Err (StrayBreak i)) e
    ∙ sym (refuses_break _ _ _ (sym c.bad_tables.ensures ∙ c.if-bad_tables.false) (found_past _ _ c.in_default.ensures) (omega arith))

pub returns : goal.returns
returns c =
    sym
    (refuses_none _ _ _ (sym c.bad_tables.ensures ∙ c.if-bad_tables.false) (found_past _ _ c.in_default.ensures)
    (found_past _ _ c.in_default-first_stray_break.ensures))
