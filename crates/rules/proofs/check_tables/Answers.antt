-- `check_tables` meets its contract: what its tests find are the facts that each refusal asks for, in their order. Assumes nothing.
use mathlib.Core.Path.{◌≡◌, sym, ap, ◌∙◌}
use mathlib.Core.Logic.{inl, inr}
use mathlib.Core.List.{List}
use Prim.Native.Nat.{ℕ, min, ◌≤◌}
use native.Mathlib.Omega.{arith}
use lib.ListN.{length}
use Rattle.tables.specs.Limits.{most_threads}
use Rattle.tables.specs.Rows.{total, first_row}
use Rattle.verdicts.specs.Verdicts.{tell}
use Rattle.tables.proofs.Rows.{first_all}
use Rattle.rules.proofs.Rules.{refuses_commands, refuses_threads, refuses_sum, refuses_row, refuses_none}
use Rattle.rules.proofs.Broken.{first_broken_is}
use Rattle.rules.proofs.check_tables.Goals as goal

-- where there are few threads, where the last ends is the sum of all
added : (lengths : List ℕ) {r : ℕ} → length lengths ≤ most_threads → r ≡ first_row lengths (min (length lengths) most_threads) → r ≡ total lengths
added lengths few q = q ∙ first_all lengths _ (omega arith)

pub returns-then-bad_commands : goal.returns-then-bad_commands
returns-then-bad_commands c = sym (refuses_commands _ _ (sym c.bad_commands.ensures ∙ c.if-bad_commands.true))

pub returns-then-threads-eq0 : goal.returns-then-threads-eq0
returns-then-threads-eq0 c =
    sym (refuses_threads _ _ (sym c.bad_commands.ensures ∙ c.if-bad_commands.false) (inl (omega arith)))

pub returns-then-threads-gt-THREADS : goal.returns-then-threads-gt-THREADS
unfolding most_threads
returns-then-threads-gt-THREADS c =
    sym (refuses_threads _ _ (sym c.bad_commands.ensures ∙ c.if-bad_commands.false) (inr (omega arith)))

pub returns-then-first_row-m : goal.returns-then-first_row-m
unfolding most_threads
returns-then-first_row-m c =
    let a = c.args in
    let sum = added a.tables.lengths.now (omega arith) c.first_row.ensures in
    sym (refuses_sum _ _ (sym c.bad_commands.ensures ∙ c.if-bad_commands.false) (λ e. c.if-first_row-m.true (sum ∙ e)))

pub returns-in-Some : goal.returns-in-Some
unfolding most_threads
returns-in-Some c =
    let a = c.args in
    let sum = sym (added a.tables.lengths.now (omega arith) c.first_row.ensures) ∙ c.if-first_row-m.false in
    let bad = rw (← c.in-Some.ensures) at (first_broken_is a.tables.commands.now (length a.tables.lengths.now)) in
    ap (λ (c : ℕ). tell 3 c 0) bad.1
    ∙ sym (refuses_row a.tables.commands.now a.tables.lengths.now (sym c.bad_commands.ensures ∙ c.if-bad_commands.false) (omega arith) (omega arith) sum (omega (arith, bad)))

pub returns : goal.returns
unfolding most_threads
returns c =
    let a = c.args in
    let sum = sym (added a.tables.lengths.now (omega arith) c.first_row.ensures) ∙ c.if-first_row-m.false in
    let none = rw (← c.in_default.ensures) at (first_broken_is a.tables.commands.now (length a.tables.lengths.now)) in
    sym (refuses_none a.tables.commands.now a.tables.lengths.now (sym c.bad_commands.ensures ∙ c.if-bad_commands.false) (omega arith) (omega arith) sum none)
