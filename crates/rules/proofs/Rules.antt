-- The check passes just the tables that keep the rules, and what a row that keeps them is. Assumes nothing.
use mathlib.Core.Path.{◌≡◌, refl, ap}
use mathlib.Core.Logic.{◌⊎◌, inl, inr, by_cases}
use mathlib.Core.Bool.{Bool, true, false, cond, not, ◌||◌, or-true, and-false, and-eq-true_iff}
use mathlib.Core.List.{List}
use mathlib.Mathlib.Data.Bool.Basic.{or-eq-false-eq-eq-false-and-eq-false}
use Prim.Native.Nat.{ℕ, ◌%◌, ◌≤◌, ◌<◌}
use native.Mathlib.Decide.{dec_lt}
use native.Mathlib.Omega.{arith}
use lib.Dec.{eqb, leb, ltb}
use lib.ListN.{length}
use borrow.Author.Tests.{ltb-true, ltb-false, leb-true, eqb-true, eqb-false, not-false, lt-ltb, le-ltb, le-leb, lt-leb, eq-eqb, ne_eqb}
use Rattle.verdicts.specs.declared.Told.{Told}
use Rattle.tables.specs.Limits.{most_rows, most_threads, barriers, most_count}
use Rattle.tables.specs.Rows.{rows, kind, name, count, total, arrive, sync}
use Rattle.rules.specs.Rules.{does_row_keep, keeps, first_bad_of, are_bad_commands, bad_lengths, checked, Keeps}
use Rattle.rules.specs.Claims.{PassesExactly}
use Rattle.verdicts.specs.Verdicts.{tell}
use Rattle.tables.proofs.Lowest.{Lowest, lowest_first, lowest_is}

-- neither of two tests
neither : (a b : Bool) → a || b ≡ false → (a ≡ false) × (b ≡ false)
neither a b = (or-eq-false-eq-eq-false-and-eq-false a b).0

-- ---- the check

abbrev answer : Bool → Bool → Bool → ℕ → Told
answer a b d i = cond a (tell 1 0 0) (cond b (tell 2 0 0) (cond d (tell 3 i 0) (tell 0 0 0)))

small : (a b d : Bool) (i : ℕ) → (answer a b d i).number ≤ 3
small true b d i = omega arith
small false true d i = omega arith
small false false true i = omega arith
small false false false i = omega arith

clear : (a b d : Bool) (i : ℕ) → (answer a b d i).number ≡ 0 → (a ≡ false) × (b ≡ false) × (d ≡ false)
clear true b d i e = absurd (omega arith)
clear false true d i e = absurd (omega arith)
clear false false true i e = absurd (omega arith)
clear false false false i e = (refl, refl, refl)

within : (a b d : Bool) (i n : ℕ) → (a ≡ false → i ≤ n) → ((answer a b d i).place ≤ n) × ((answer a b d i).also ≡ 0)
within true b d i n h = (omega arith, refl)
within false true d i n h = (omega arith, refl)
within false false true i n h = (h refl, refl)
within false false false i n h = (omega arith, refl)

-- 1, by the facts that lead to it
module _ (commands : List ℕ) where
  pub bad_commands : (length commands % 3 ≡ 0 → ⊥) ⊎ (most_rows < rows commands) → are_bad_commands commands ≡ true
  bad_commands (inl n) = rw (ne_eqb (length commands % 3) 0 n)
  bad_commands (inr l) = rw (lt-ltb most_rows (rows commands) l) (or-true (not (eqb (length commands % 3) 0)))

  pub good_commands : length commands % 3 ≡ 0 → rows commands ≤ most_rows → are_bad_commands commands ≡ false
  good_commands whole few = simp (eq-eqb _ _ whole, le-ltb _ _ few)

  pub whole_commands : are_bad_commands commands ≡ false → (length commands % 3 ≡ 0) × (rows commands ≤ most_rows)
  whole_commands e = let (whole, few) = neither _ _ e in (eqb-true _ _ (not-false _ whole), ltb-false _ _ few)

module _ (commands lengths : List ℕ) where
  abbrev bad : ℕ
  bad = first_bad_of commands (length lengths)

  -- the first row that breaks the rules
  first_bad : Lowest (λ c. not (keeps commands (length lengths) c)) (rows commands) bad
  unfolding first_bad_of
  first_bad = lowest_first _ _

  pub checked_small : (checked commands lengths).number ≤ 3
  unfolding checked
  checked_small = small (are_bad_commands commands) (bad_lengths commands lengths) (ltb bad (rows commands)) bad

  -- a bad row is one of not too many
  pub checked_place : ((checked commands lengths).place ≤ most_rows) × ((checked commands lengths).also ≡ 0)
  unfolding checked
  checked_place =
      within (are_bad_commands commands) (bad_lengths commands lengths) (ltb bad (rows commands)) bad most_rows
      (λ e. omega (arith, first_bad.at_most, (whole_commands commands e).1))

  -- each answer, by the facts that lead to it
  pub refuses_commands : are_bad_commands commands ≡ true → checked commands lengths ≡ tell 1 0 0
  unfolding checked
  refuses_commands e = rw e

  module _ (good : are_bad_commands commands ≡ false) where
    pub refuses_threads : (length lengths ≡ 0) ⊎ (most_threads < length lengths) → checked commands lengths ≡ tell 2 0 0
    unfolding checked
    refuses_threads (inl e) = rw (good, eq-eqb (length lengths) 0 e)
    refuses_threads (inr l) = rw (good, lt-ltb most_threads (length lengths) l, or-true (eqb (length lengths) 0))

    pub refuses_sum : (total lengths ≡ rows commands → ⊥) → checked commands lengths ≡ tell 2 0 0
    unfolding checked
    refuses_sum n = rw (good, ne_eqb (total lengths) (rows commands) n, or-true (eqb (length lengths) 0 || ltb most_threads (length lengths)))

    module _ (some : 1 ≤ length lengths) (most : length lengths ≤ most_threads) (sum : total lengths ≡ rows commands) where
      good_lengths : bad_lengths commands lengths ≡ false
      good_lengths = simp (ne_eqb (length lengths) 0 (λ e. omega arith), le-ltb _ _ most, eq-eqb _ _ sum)

      pub refuses_row : bad < rows commands → checked commands lengths ≡ tell 3 bad 0
      unfolding checked
      refuses_row l = rw (good, good_lengths, lt-ltb _ _ l)

      pub refuses_none : rows commands ≤ bad → checked commands lengths ≡ tell 0 0 0
      unfolding checked
      refuses_none l = rw (good, good_lengths, le-ltb _ _ l)

      -- tables that pass 1 and 2 pass 3, or a row is refused
      pub refuses_rows : ((checked commands lengths).number ≡ 0) ⊎ ((checked commands lengths).number ≡ 3)
      refuses_rows =
          by_cases (dec_lt bad (rows commands)) (λ (l : bad < rows commands). inr (ap (λ (t : Told). t.number) (refuses_row l)))
          (λ (l : ¬ (bad < rows commands)). inl (ap (λ (t : Told). t.number) (refuses_none (omega arith))))

  pub passes : checked commands lengths ≡ tell 0 0 0 → Keeps commands lengths
  unfolding checked
  passes e =
      let (a, b, d) = clear _ _ _ _ (ap (λ (t : Told). t.number) e) in
      let (whole, few) = whole_commands commands a in
      let (threads, sum) = neither _ _ b in
      let (some, most) = neither _ _ threads in
      let last : rows commands ≤ bad = ltb-false _ _ d in
      record {
        whole = whole;
        few_rows = few;
        some_thread = let n : ¬ (length lengths ≡ 0) = eqb-false _ _ some in omega arith;
        few_threads = ltb-false _ _ most;
        adds_up = eqb-true _ _ (not-false _ sum);
        each_row = λ c l. not-false _ (first_bad.below c (omega arith));
      }

  pub kept : Keeps commands lengths → checked commands lengths ≡ tell 0 0 0
  unfolding first_bad_of
  kept k =
      let all : bad ≡ rows commands = lowest_is _ (record { at_most = omega arith; passes = λ l. absurd (omega arith); below = λ c l. ap not (k.each_row c l) }) in
      refuses_none (good_commands commands k.whole k.few_rows) k.some_thread k.few_threads k.adds_up (omega arith)

pub passes_exactly : PassesExactly
passes_exactly commands lengths = (passes commands lengths, kept commands lengths)

-- number 0 is told of tables that keep the rules, and of no others
zero_answer : (a b d : Bool) (i : ℕ) → (answer a b d i).number ≡ 0 → answer a b d i ≡ tell 0 0 0
zero_answer true b d i e = absurd (omega arith)
zero_answer false true d i e = absurd (omega arith)
zero_answer false false true i e = absurd (omega arith)
zero_answer false false false i e = refl

pub passes_zero : (commands lengths : List ℕ) → (checked commands lengths).number ≡ 0 → Keeps commands lengths
unfolding checked
passes_zero commands lengths e =
    passes commands lengths (zero_answer (are_bad_commands commands) (bad_lengths commands lengths) (ltb (bad commands lengths) (rows commands)) (bad commands lengths) e)

-- ---- a row that registers

-- what it names and its count, where it keeps the rules
row_keeps : (threads k n c : ℕ) → does_row_keep threads k n c ≡ true → arrive ≤ k → (n < barriers) × (1 ≤ c) × (c ≤ threads)
unfolding does_row_keep
row_keeps threads k n c e l =
    let (_, u) = (and-eq-true_iff (leb k sync) _).0 (rw (le-ltb k arrive l) at e) in
    let (g, v) = (and-eq-true_iff (ltb n barriers) _).0 u in
    let (h, w) = (and-eq-true_iff (leb 1 c) _).0 v in
    let (_, i) = (and-eq-true_iff (leb c most_count) _).0 w in
    (ltb-true _ _ g, leb-true _ _ h, leb-true _ _ i)

module _ {commands lengths : List ℕ} (K : Keeps commands lengths) (c : ℕ) (l : c < rows commands) (r : arrive ≤ kind commands c) where
  pub row_barrier : (name commands c < barriers) × (1 ≤ count commands c) × (count commands c ≤ length lengths)
  row_barrier = row_keeps _ _ _ _ (K.each_row c l) r

-- the limit of counts: one equal to the threads passes, and none above them
module _ (threads k n : ℕ) (r : arrive ≤ k) where
  pub count_met : k ≤ sync → n < barriers → 1 ≤ threads → threads ≤ most_threads → does_row_keep threads k n threads ≡ true
  unfolding does_row_keep most_threads most_count
  count_met s b some most =
      let within_limit : threads ≤ most_count = omega arith in
      let itself : threads ≤ threads = omega arith in
      rw (le-ltb k arrive r, le-leb _ _ s, lt-ltb _ _ b, le-leb _ _ some, le-leb _ _ within_limit, le-leb _ _ itself)

  pub count_unmet : (c : ℕ) → threads < c → does_row_keep threads k n c ≡ false
  unfolding does_row_keep
  count_unmet c l = simp (le-ltb k arrive r, lt-leb c threads l, and-false)
