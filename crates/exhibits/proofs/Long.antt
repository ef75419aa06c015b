-- How long the exhibits are. Assumes nothing.
use mathlib.Core.Path.{◌≡◌}
use mathlib.Core.Logic.{by_cases, ⊎_elim, ◌≢◌}
use mathlib.Core.Bool.{Bool, true, false}
use mathlib.Core.List.{List, [], ◌∷◌, ◌++◌}
use Prim.Native.Nat.{ℕ, suc, ◌+◌, ◌*◌, ◌^◌, ◌≤◌, ◌<◌, min}
use native.Mathlib.Decide.{ℕ_discrete}
use native.Mathlib.Omega.{arith}
use lib.Dec.{ltb}
use lib.ListN.{length, get_or, length-append, length-take}
use borrow.Author.Tests.{ne_eqb, ltb-true}
use Rattle.tables.specs.Limits.{most_rows, most_threads}
use Rattle.tables.specs.Lowest.{lowest}
use Rattle.tables.specs.Rows.{rows}
use Rattle.rules.specs.Rules.{Keeps}
use Rattle.verdicts.specs.declared.Told.{Told}
use Rattle.relation.proofs.Truth.{clashing, split}
use Rattle.sheet.specs.declared.Pair.{Pair}
use Rattle.sheet.specs.declared.Sheet.{Sheet}
use Rattle.sheet.specs.Sheet.{pair, most_kept, kept_pairs, first_kept}
use Rattle.printing.specs.Figures.{figures}
use Rattle.printing.proofs.Numerals.{figures_long}
use Rattle.steps.specs.Ending.{judged}
use Rattle.steps.specs.Going.{played, generation}
use Rattle.replay.specs.Writer.{apart_from, apart_schedule}
use Rattle.steps.specs.Writing.{picked_first}
use Rattle.replay.specs.Schedules.{Complete}
use Rattle.replay.proofs.Told.{clean_verdict}
use Rattle.replay.proofs.Places.{judged_placed, generation_placed, complete_told, schedule_by_few, schedule_by_low}
use Rattle.replay.proofs.Writing.{first_complete}
use Rattle.wording.specs.declared.Shown.{Shown}
use Rattle.wording.specs.declared.Shown.TheVariants.{First, Generation, Mismatch, Deadlock, LeftSet}
use Rattle.exhibits.specs.Shown.{differs, other_generation_of, shown_as, what_is_shown}
use Rattle.wording.specs.Lines.{command_word, first_word, gets_word, not_word, clash_word, deadlock_word, barrier_word, more_word, line_end, shown_line, parting_byte, steps_line}
use Rattle.exhibits.specs.Exhibits.{reuse_exhibit, order_exhibit, race_exhibits, exhibits}
use Rattle.exhibits.proofs.Doors.{exhibits_ten, exhibits_eleven, exhibits_none}
use Rattle.exhibits.proofs.Alike.{BothCommands, Named}
use Rattle.exhibits.proofs.True.{else_clean}

-- ---- a line in words has at most 64 bytes

-- a number with what stands before and after it
within_long : (u : List ℕ) (n : ℕ) (v : List ℕ) → length (u ++ figures n ++ v) ≡ length u + length (figures n) + length v
within_long u n v = omega (arith, length-append (u ++ figures n) v, length-append u (figures n))

figures_three : (n : ℕ) → n ≤ most_rows → length (figures n) ≤ 3
unfolding most_rows
figures_three n l = figures_long n 3 (omega arith) (omega arith)

first_short : (x y : ℕ) → x ≤ most_rows → y ≤ most_rows → length (shown_line (First x y)) ≤ 64
unfolding shown_line
first_short x y lx ly =
    omega (
      arith,
      within_long (command_word ++ figures x ++ first_word) y line_end,
      within_long command_word x first_word,
      figures_three x lx,
      figures_three y ly,
    )

-- ten figures are enough for a number of 32 bits
generation_short : (c g h : ℕ) → c ≤ most_rows → g ≤ most_rows → h < 10 ^ 10 → length (shown_line (Generation c g h)) ≤ 64
unfolding shown_line
generation_short c g h lc lg lh =
    omega (
      arith,
      within_long (command_word ++ figures c ++ gets_word ++ figures g ++ not_word) h line_end,
      within_long (command_word ++ figures c ++ gets_word) g not_word,
      within_long command_word c gets_word,
      figures_three c lc,
      figures_three g lg,
      figures_long h 10 lh (omega arith),
    )

module _ (c : ℕ) (l : c ≤ most_rows) where
  mismatch_short : length (shown_line (Mismatch c)) ≤ 64
  unfolding shown_line
  mismatch_short = omega (arith, within_long command_word c clash_word, figures_three c l)

  deadlock_short : length (shown_line (Deadlock c)) ≤ 64
  unfolding shown_line
  deadlock_short = omega (arith, within_long deadlock_word c line_end, figures_three c l)

  set_short : length (shown_line (LeftSet c)) ≤ 64
  unfolding shown_line
  set_short = omega (arith, within_long barrier_word c more_word, figures_three c l)

-- ---- a schedule has at most three bytes a step

steps_three : (σ : List ℕ) → ((k : ℕ) → k < length σ → get_or σ k 0 < 100) → length (steps_line σ) ≤ length σ * 3
unfolding steps_line
steps_three [] h = omega arith
steps_three (t ∷ σ) h =
    omega (
      arith,
      length-append (figures t) (parting_byte (length σ) ∷ steps_line σ),
      figures_long t 2 (h 0 (omega arith)) (omega arith),
      steps_three σ (λ k l. h (suc k) (omega arith)),
    )

module _ {commands lengths : List ℕ} (K : Keeps commands lengths) where
  apart_short : (ρ : ℕ → ℕ → Bool) (c d : ℕ) → length (steps_line (apart_schedule commands lengths ρ c d)) ≤ 1536
  unfolding most_rows most_threads
  apart_short ρ c d =
      let few = schedule_by_few commands lengths (picked_first (apart_from ρ c d) lengths) in
      omega (
        arith,
        few,
        K.few_rows,
        steps_three (apart_schedule commands lengths ρ c d)
            (λ k l. omega (arith, schedule_by_low commands lengths (picked_first (apart_from ρ c d) lengths) k l, K.few_threads)),
      )

  order_short : (ρ : ℕ → ℕ → Bool) (x y : ℕ) → x < rows commands → y < rows commands → length (order_exhibit commands lengths ρ x y) ≤ 1600
  unfolding order_exhibit
  order_short ρ x y lx ly =
      let few = K.few_rows in
      omega (
        arith,
        length-append (shown_line (First x y)) (steps_line (apart_schedule commands lengths ρ y x)),
        first_short x y (omega arith) (omega arith),
        apart_short ρ y x,
      )

  -- ---- what a legal complete schedule shows has a short line

  module _ (g : ℕ → ℕ) (small : (c : ℕ) → c < rows commands → g c < 10 ^ 10) where
    other_short : (f : ℕ → ℕ) → ((c : ℕ) → c < rows commands → f c ≤ most_rows) → length (shown_line (other_generation_of f g (rows commands))) ≤ 64
    unfolding other_generation_of
    other_short f few =
        let m = rows commands in
        let c = lowest (differs f g) m in
        ⊎_elim
        (λ (e : ltb c m ≡ true).
        let l = ltb-true c m e in
        rw e (generation_short c (f c) (g c) (omega (arith, l, K.few_rows)) (few c l) (small c l)))
        (λ (e : ltb c m ≡ false). rw e (generation_short m 0 0 K.few_rows (omega arith) (omega arith)))
        (split (ltb c m))

    as_short : (t : Told) (other : Shown) → t.place ≤ most_rows → (t.number ≢ 7 → t.number ≢ 8 → t.number ≢ 9 → length (shown_line other) ≤ 64)
        → length (shown_line (shown_as t other)) ≤ 64
    as_short t other l h =
        by_cases (ℕ_discrete t.number 7) (λ (e : t.number ≡ 7). rw e (mismatch_short t.place l))
        (λ (a : t.number ≢ 7).
        by_cases (ℕ_discrete t.number 8) (λ (e : t.number ≡ 8). rw e (deadlock_short t.place l))
        (λ (b : t.number ≢ 8).
        by_cases (ℕ_discrete t.number 9) (λ (e : t.number ≡ 9). rw e (set_short t.place l))
        (λ (d : t.number ≢ 9). rw (ne_eqb t.number 7 a, ne_eqb t.number 8 b, ne_eqb t.number 9 d) (h a b d))))

    shown_short : (τ : List ℕ) → Complete commands lengths τ → length (shown_line (what_is_shown commands lengths g τ)) ≤ 64
    unfolding what_is_shown
    shown_short τ C =
        let r = played commands lengths τ in
        let t = judged lengths r in
        as_short t (other_generation_of (generation r) g (rows commands)) (judged_placed K τ).place
        (λ a b d.
        other_short (generation r)
        (generation_placed K τ (clean_verdict lengths r (⊎_elim (λ z. z) (λ w. clashing w (else_clean t.number a b d)) (complete_told τ C)))))

    reuse_short : (ρ : ℕ → ℕ → Bool) (p : Pair) → length (reuse_exhibit commands lengths ρ g p) ≤ 1600
    unfolding reuse_exhibit
    reuse_short ρ p =
        let τ = apart_schedule commands lengths ρ p.first p.second in
        omega (
          arith,
          length-append (shown_line (what_is_shown commands lengths g τ)) (steps_line τ),
          shown_short τ (first_complete K (apart_from ρ p.first p.second)),
          apart_short ρ p.first p.second,
        )

  -- ---- thirty-two exhibits at most

  races_short : (ρ : ℕ → ℕ → Bool) (ps : List Pair) → ((k : ℕ) → k < length ps → BothCommands commands (get_or ps k (pair 0 0)))
      → length (race_exhibits commands lengths ρ ps) ≤ length ps * 3200
  unfolding race_exhibits
  races_short ρ [] h = omega arith
  races_short ρ (p ∷ ps) h =
      let (a, b) = h 0 (omega arith) in
      let u = order_exhibit commands lengths ρ p.first p.second in
      let v = order_exhibit commands lengths ρ p.second p.first in
      omega (
        arith,
        length-append (u ++ v) (race_exhibits commands lengths ρ ps),
        length-append u v,
        order_short ρ p.first p.second a b,
        order_short ρ p.second p.first b a,
        races_short ρ ps (λ k l. h (suc k) (omega arith)),
      )

  pub exhibits_short : (g : ℕ → ℕ) → ((c : ℕ) → c < rows commands → g c < 10 ^ 10) → (ρ : ℕ → ℕ → Bool) (n : ℕ) (s : Sheet) → Named commands n s
      → length (exhibits commands lengths g ρ n s) ≤ 32 * 1600
  unfolding most_kept
  exhibits_short g small ρ n s N =
      by_cases (ℕ_discrete n 10) (λ (e : n ≡ 10). rw (exhibits_ten commands lengths g ρ n s e) (omega (arith, reuse_short g small ρ (first_kept s))))
      (λ (a : n ≢ 10).
      by_cases (ℕ_discrete n 11)
      (λ (e : n ≡ 11). rw (exhibits_eleven commands lengths g ρ n s e) (omega (arith, races_short ρ (kept_pairs s) (N.races e), length-take (min s.total 16) s.pairs)))
      (λ (b : n ≢ 11). rw (exhibits_none commands lengths g ρ n s a b) (omega arith)))
