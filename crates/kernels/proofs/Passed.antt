-- What tables have that are not refused. Assumes nothing.
use mathlib.Core.Path.{◌≡◌, refl}
use mathlib.Core.Logic.{⊎_elim, by_cases}
use mathlib.Core.Bool.{Bool, true, false, not, cond, ◌||◌}
use mathlib.Core.List.{List}
use Prim.Native.Nat.{ℕ, ◌/◌, ◌%◌, ◌≤◌, ◌<◌}
use native.Mathlib.Decide.{dec_lt}
use native.Mathlib.Omega.{arith}
use lib.Dec.{eqb, ltb}
use lib.ListN.{length}
use borrow.Author.Tests.{ltb-true, ltb-false, eqb-true, eqb-false, not-false, le-ltb, eq-eqb, ne_eqb}
use Rattle.relation.proofs.Truth.{split, isnt, neither}
use Rattle.tables.proofs.Lowest.{lowest_miss}
use Rattle.std.specs.Prelude.{Result, Ok, Err}
use Rattle.kernels.specs.declared.kernel.KernelRefusal.{KernelRefusal}
use Rattle.kernels.specs.declared.kernel.KernelRefusal.TheVariants.{Malformed, StrayBreak}
use Rattle.kernels.specs.Limits.{most_statements, most_expressions, most_lanes}
use Rattle.kernels.specs.Rows.{statements, expressions}
use Rattle.kernels.specs.Refusals.{is_bad_statement, first_bad_statement_of, bad_expression, has_bad_expression, is_stray_break, first_stray_break_of, is_bad_length, are_bad_tables, refusal_place, ruling_of}
use Rattle.kernels.proofs.Finds.{some_none}
use Rattle.kernels.proofs.Answers.{refuses_tables, refuses_statement, refuses_break, refuses_none}

-- the tables and the lanes of a kernel that no test refuses
pub record Passed (s e : List ℕ) (lanes : ℕ) : Type 0 where
  pub some_lane : 1 ≤ lanes
  pub few_lanes : lanes ≤ most_lanes
  pub whole_statements : length s % 5 ≡ 0
  pub few_statements : statements s ≤ most_statements
  pub whole_expressions : length e % 3 ≡ 0
  pub few_expressions : expressions e ≤ most_expressions
  pub each_expression : (i : ℕ) → i < expressions e → bad_expression e i ≡ false
  pub each_statement : (i : ℕ) → i < statements s → is_bad_statement s (expressions e) i ≡ false
  pub each_break : (i : ℕ) → i < statements s → is_stray_break s i ≡ false

-- ---- the answer

-- a refusal is no pass
never : {A : Type 0} {r : Result (Unit {0}) KernelRefusal} {f : KernelRefusal} → r ≡ Err f → r ≡ Ok tt → A
never e z = absurd (let q : ◌≡◌ {A = ℕ} 0 1 = cc in omega arith)

good_length : (row most numbers : ℕ) → is_bad_length row most numbers ≡ false → (numbers % row ≡ 0) × (numbers / row ≤ most)
unfolding is_bad_length
good_length row most numbers g =
    let (whole, few) = neither (not (eqb (numbers % row) 0)) (ltb most (numbers / row)) g in
    (eqb-true _ _ (not-false _ whole), ltb-false _ _ few)

module _ (s e : List ℕ) (lanes : ℕ) where
  tables_pass : ruling_of s e lanes ≡ Ok tt → are_bad_tables s e lanes ≡ false
  tables_pass z = isnt _ (λ t. never (refuses_tables s e lanes t) z)

  statements_pass : ruling_of s e lanes ≡ Ok tt → statements s ≤ first_bad_statement_of s (expressions e)
  statements_pass z =
      by_cases (dec_lt (first_bad_statement_of s (expressions e)) (statements s))
      (λ (l : first_bad_statement_of s (expressions e) < statements s). never (refuses_statement s e lanes (tables_pass z) l) z)
      (λ (l : ¬ (first_bad_statement_of s (expressions e) < statements s)). omega arith)

  breaks_pass : ruling_of s e lanes ≡ Ok tt → statements s ≤ first_stray_break_of s
  breaks_pass z =
      by_cases (dec_lt (first_stray_break_of s) (statements s))
      (λ (l : first_stray_break_of s < statements s). never (refuses_break s e lanes (tables_pass z) (statements_pass z) l) z)
      (λ (l : ¬ (first_stray_break_of s < statements s)). omega arith)

  pub passed : ruling_of s e lanes ≡ Ok tt → Passed s e lanes
  unfolding are_bad_tables
  passed z =
      let (t₄, each) = neither _ (has_bad_expression e) (tables_pass z) in
      let (t₃, te) = neither _ (is_bad_length 3 most_expressions (length e)) t₄ in
      let (t₂, ts) = neither _ (is_bad_length 5 most_statements (length s)) t₃ in
      let (none, few) = neither (eqb lanes 0) (ltb most_lanes lanes) t₂ in
      let (whole_s, few_s) = good_length 5 most_statements (length s) ts in
      let (whole-e, few_e) = good_length 3 most_expressions (length e) te in
      record {
        some_lane = let n : ¬ (lanes ≡ 0) = eqb-false _ _ none in omega arith;
        few_lanes = ltb-false _ _ few;
        whole_statements = whole_s;
        few_statements = few_s;
        whole_expressions = whole-e;
        few_expressions = few_e;
        each_expression = lowest_miss (bad_expression e) (expressions e) each;
        each_statement = lowest_miss (is_bad_statement s (expressions e)) (statements s) (le-ltb _ _ (statements_pass z));
        each_break = lowest_miss (is_stray_break s) (statements s) (le-ltb _ _ (breaks_pass z));
      }

  few_rows : are_bad_tables s e lanes ≡ false → statements s ≤ most_statements
  unfolding are_bad_tables
  few_rows t =
      let (t₄, each) = neither _ (has_bad_expression e) t in
      let (t₃, te) = neither _ (is_bad_length 3 most_expressions (length e)) t₄ in
      let (t₂, ts) = neither (eqb lanes 0 || ltb most_lanes lanes) (is_bad_length 5 most_statements (length s)) t₃ in
      (good_length 5 most_statements (length s) ts).1

  -- a refusal's place is a row of the table, or 0
  InTable : Result (Unit {0}) KernelRefusal → Type 0
  InTable r = (f : KernelRefusal) → r ≡ Err f → refusal_place f ≤ most_statements

  at_row : (b : Bool) (x y : Result (Unit {0}) KernelRefusal) → (b ≡ true → InTable x) → InTable y → InTable (cond b x y)
  at_row true x y p q = p refl
  at_row false x y p q = q

  at_place : (g : KernelRefusal) → refusal_place g ≤ most_statements → InTable (Err g)
  unfolding InTable
  at_place g l f e = let q : g ≡ f = cc in rw (← q) l

  at_none : InTable (Ok tt)
  unfolding InTable
  at_none f e = never {r = Ok tt} e refl

  in_table : InTable (ruling_of s e lanes)
  unfolding ruling_of
  in_table =
      ⊎_elim (λ (t : are_bad_tables s e lanes ≡ true). rw t (at_place _ (omega arith)))
      (λ (t : are_bad_tables s e lanes ≡ false).
      rw t
      (at_row (ltb (first_bad_statement_of s (expressions e)) (statements s)) (Err (Malformed (first_bad_statement_of s (expressions e)))) _ (λ b. at_place _ (omega (arith, few_rows t, ltb-true (first_bad_statement_of s (expressions e)) (statements s) b)))
      (at_row (ltb (first_stray_break_of s) (statements s)) (Err (StrayBreak (first_stray_break_of s))) (Ok tt) (λ b. at_place _ (omega (arith, few_rows t, ltb-true (first_stray_break_of s) (statements s) b))) at_none)))
      (split (are_bad_tables s e lanes))

  pub ruling_place : (f : KernelRefusal) → ruling_of s e lanes ≡ Err f → refusal_place f ≤ most_statements
  unfolding InTable
  ruling_place = in_table

  no_bad_tables : Passed s e lanes → are_bad_tables s e lanes ≡ false
  unfolding are_bad_tables is_bad_length
  no_bad_tables P =
      rw (
        ne_eqb lanes 0 (λ q. omega arith),
        le-ltb most_lanes lanes P.few_lanes,
        eq-eqb (length s % 5) 0 P.whole_statements,
        le-ltb most_statements (statements s) P.few_statements,
        eq-eqb (length e % 3) 0 P.whole_expressions,
        le-ltb most_expressions (expressions e) P.few_expressions,
        some_none (bad_expression e) (expressions e) P.each_expression,
      )

  -- and such tables are not refused
  pub passes : Passed s e lanes → ruling_of s e lanes ≡ Ok tt
  passes P =
      refuses_none s e lanes (no_bad_tables P) (ltb-false _ _ (some_none (is_bad_statement s (expressions e)) (statements s) P.each_statement))
      (ltb-false _ _ (some_none (is_stray_break s) (statements s) P.each_break))
