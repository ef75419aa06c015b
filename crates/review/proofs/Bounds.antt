-- How large the numbers of a review's answer are, and what is told in rooms for the longest tables. Assumes nothing.
use mathlib.Core.Path.{◌≡◌, sym, subst}
use mathlib.Core.Logic.{by_cases, ⊎_elim, ◌≢◌}
use mathlib.Core.Bool.{Bool, true}
use mathlib.Core.List.{List, [], ◌∷◌}
use Prim.Native.Nat.{ℕ, zero, suc, ◌*◌, ◌≤◌, ◌<◌}
use native.Mathlib.Decide.{ℕ_discrete}
use native.Mathlib.Nat.{mul-le-mul}
use native.Mathlib.Omega.{arith}
use lib.ListN.{length, get_or}
use Rattle.tables.specs.Limits.{most_rows}
use Rattle.tables.specs.Rows.{rows}
use Rattle.rules.specs.Rules.{Keeps, checked}
use Rattle.verdicts.specs.Verdicts.{tell, numbered}
use Rattle.verdicts.specs.Numbers.{fills, is_verdict, is_complete}
use Rattle.verdicts.specs.declared.Told.{Told}
use Rattle.verdicts.specs.declared.Verdict.{Verdict}
use Rattle.verdicts.proofs.Numbers.{refusal_unfilled, refusal_verdict, ending_verdict, fills_verdict, unclean_complete, fills_complete}
use Rattle.rules.proofs.Rules.{passes_zero}
use Rattle.relation.specs.Table.{width, words}
use Rattle.relation.proofs.Truth.{clashing, split}
use Rattle.verdicts.specs.FirstTold.{or_else}
use Rattle.steps.specs.Going.{played}
use Rattle.steps.specs.Ending.{judged}
use Rattle.verdicts.proofs.FirstTold.{or_first, or_either}
use Rattle.replay.proofs.Told.{judged_ending}
use Rattle.replay.proofs.Places.{Placed, placed, checked_placed, judged_placed, complete_told}
use Rattle.replay.specs.Schedules.{Complete}
use Rattle.sheet.specs.declared.Pair.{Pair}
use Rattle.sheet.specs.declared.Sheet.{Sheet}
use Rattle.faults.specs.declared.faults.Fault.{Fault}
use Rattle.faults.specs.declared.faults.Fault.TheVariants.{Reuse, Race}
use Rattle.findings.specs.declared.finding.Finding.{Finding}
use Rattle.faults.specs.Faults.{pair_of, faults}
use Rattle.sheet.specs.Sheet.{most_kept, pair, firsts, sheet_of}
use Rattle.rooms.specs.Refusals.{review_refusal}
use Rattle.findings.specs.Findings.{first_pair, or_pairs, fault_told, fault_pairs}
use Rattle.review.specs.Judge.{generations_by, reaches, verdict_of}
use Rattle.review.specs.Agreement.{number, Reviewed}
use Rattle.rooms.proofs.Refusals.{admitted, refused_tables, refused_none, refused_either}
use Rattle.faults.proofs.Searched.{faults_few}
use Rattle.faults.proofs.Pairs.{in_order}
use Rattle.review.proofs.Reviews.{refused_refusal, fault_fills}
use Rattle.review.proofs.Telling.{verdict_is, sheet_is, empty_is}

-- ---- pairs: no number is above the limit of rows

abbrev pub Low : Pair → Type 0
Low p = (p.first ≤ most_rows) × (p.second ≤ most_rows)

abbrev AllLow : List Pair → Type 0
AllLow ps = (k : ℕ) → k < length ps → Low (get_or ps k (pair 0 0))

none_low : Low (pair 0 0)
none_low = (omega arith, omega arith)

pair_low : (f : Fault) (i j : ℕ) → i ≤ most_rows → j ≤ most_rows → Low (pair_of f i j)
pair_low Reuse i j li lj = (lj, li)
pair_low Race i j li lj = (li, lj)

or_low : (ps qs : List Pair) → AllLow ps → AllLow qs → AllLow (or_pairs ps qs)
or_low [] qs h g = g
or_low (p ∷ ps) qs h g = h

-- unused places of a sheet are 0
firsts_low : (n : ℕ) (ps : List Pair) → AllLow ps → (k : ℕ) → k < n → Low (get_or (firsts n ps) k (pair 0 0))
unfolding firsts
firsts_low zero ps h k l = absurd (omega arith)
firsts_low (suc n) [] h zero l = none_low
firsts_low (suc n) [] h (suc k) l = firsts_low n [] h k (omega arith)
firsts_low (suc n) (p ∷ ps) h zero l = h 0 (omega arith)
firsts_low (suc n) (p ∷ ps) h (suc k) l = firsts_low n ps (λ i m. h (suc i) (omega arith)) k (omega arith)

first_placed : (n : ℕ) (ps : List Pair) (t : Told) → AllLow ps → Placed t → Placed (first_pair n ps t)
first_placed n [] t h d = d
first_placed n (p ∷ ps) t h d = let (a, b) = h 0 (omega arith) in record { place = a; also = b }

or_few : (n : ℕ) (ps qs : List Pair) → length ps ≤ n → length qs ≤ n → length (or_pairs ps qs) ≤ n
or_few n [] qs h g = g
or_few n (p ∷ ps) qs h g = h

-- ---- the faults of tables that pass

module _ {commands lengths : List ℕ} (K : Keeps commands lengths) (g : ℕ → ℕ) (ρ : ℕ → ℕ → Bool) where
  faults_low : (f : Fault) → AllLow (faults commands lengths g ρ f)
  faults_low f k l =
      let F = in_order commands lengths g ρ f in
      let (i, j, li, lj, t, q) = F.only k l in
      let e : get_or (faults commands lengths g ρ f) k (pair 0 0) ≡ pair_of f i j = rw q at (F.there i j li lj t).1 in
      subst Low (sym e) (pair_low f i j (omega (arith, K.few_rows)) (omega (arith, K.few_rows)))

  fault_placed : Placed (fault_told commands lengths g ρ)
  fault_placed =
      first_placed 10 (faults commands lengths g ρ Reuse) _ (faults_low Reuse)
      (first_placed 11 (faults commands lengths g ρ Race) _ (faults_low Race) (placed 0 0 (omega arith)))

-- ---- the verdict

some_rows : 1 ≤ most_rows
unfolding most_rows
some_rows = omega arith

module _ (commands lengths σ : List ℕ) (relation room : ℕ) where
  abbrev told : Told
  told = verdict_of commands lengths σ relation room

  abbrev refusal : Told
  refusal = review_refusal commands lengths relation room

  abbrev ending : Told
  ending = judged lengths (played commands lengths σ)

  abbrev faulty : Told
  faulty = fault_told commands lengths (generations_by commands lengths σ) (reaches commands lengths σ)

  abbrev found : Fault → List Pair
  found = faults commands lengths (generations_by commands lengths σ) (reaches commands lengths σ)

  abbrev pairs : List Pair
  pairs = fault_pairs commands lengths (generations_by commands lengths σ) (reaches commands lengths σ)

  -- it is a refusal, or is told of tables that pass
  told_either : (P : Told → Type 0) → P refusal → (Keeps commands lengths → P ending) → (Keeps commands lengths → P faulty) → P told
  unfolding verdict_of
  told_either P r j f = or_either P refusal _ r (λ z. let K = (admitted commands lengths relation room z).keeps in or_either P ending _ (j K) (λ _. f K))

  pub refused_placed : Placed refusal
  refused_placed =
      refused_either commands lengths relation room Placed (checked_placed commands lengths) (placed 4 0 (omega arith)) (placed 4 1 some_rows) (placed 0 0 (omega arith))

  told_placed : Placed told
  told_placed = told_either Placed refused_placed (λ K. judged_placed K σ) (λ K. fault_placed K _ _)

  pub place_small : told.place ≤ most_rows
  place_small = told_placed.place

  pub also_small : told.also ≤ most_rows
  also_small = told_placed.also

  pub number_verdict : is_verdict told.number ≡ true
  number_verdict =
      told_either (λ t. is_verdict t.number ≡ true)
      (by_cases (ℕ_discrete refusal.number 0) (λ (e : refusal.number ≡ 0). rw e)
      (λ (n : refusal.number ≢ 0). refusal_verdict refusal.number (refused_refusal commands lengths relation room n)))
      (λ K. ending_verdict ending.number (judged_ending K σ))
      (λ K. fills_verdict faulty.number (fault_fills (found Reuse) (found Race)))

  -- what fills the rooms is told of tables that pass
  pub filled_keeps : fills told.number ≡ true → Keeps commands lengths
  filled_keeps = told_either (λ t. fills t.number ≡ true → Keeps commands lengths) by (λ K _. K) (λ K _. K)
    where
      by : fills refusal.number ≡ true → Keeps commands lengths
      by f =
          by_cases (ℕ_discrete refusal.number 0) (λ (z : refusal.number ≡ 0). (admitted commands lengths relation room z).keeps)
          (λ (n : refusal.number ≢ 0). clashing f (refusal_unfilled refusal.number (refused_refusal commands lengths relation room n)))

  module _ (f : fills told.number ≡ true) where
    pairs_low : AllLow pairs
    pairs_low = let K = filled_keeps f in or_low (found Reuse) (found Race) (faults_low K _ _ Reuse) (faults_low K _ _ Race)

    pub pairs_few : length pairs ≤ most_rows * most_rows
    pairs_few = let K = filled_keeps f in or_few _ (found Reuse) (found Race) (faults_few K _ _ Reuse) (faults_few K _ _ Race)

    pub pairs_small : (k : ℕ) → k < most_kept → Low (get_or (sheet_of pairs).pairs k (pair 0 0))
    unfolding sheet_of
    pairs_small = firsts_low most_kept pairs pairs_low

-- ---- the finding

pub record SmallNumbers (r : Finding) : Type 0 where
  pub place : (numbered r.verdict).place ≤ most_rows
  pub also : (numbered r.verdict).also ≤ most_rows
  pub total : r.sheet.total ≤ most_rows * most_rows
  pub pairs : (k : ℕ) → k < most_kept → Low (get_or r.sheet.pairs k (pair 0 0))

abbrev SmallSheet : Sheet → Type 0
SmallSheet s = (s.total ≤ most_rows * most_rows) × ((k : ℕ) → k < most_kept → Low (get_or s.pairs k (pair 0 0)))

empty_fits : SmallSheet (sheet_of [])
unfolding sheet_of
empty_fits = (omega arith, firsts_low most_kept [] (λ k l. none_low))

-- a verdict without pairs
pub bare_small : (v : Verdict) → Placed (numbered v) → SmallNumbers (record { verdict = v; sheet = sheet_of [] })
bare_small v P = record { place = P.place; also = P.also; total = empty_fits.0; pairs = empty_fits.1 }

pub finding_small : {commands lengths σ relation room : List ℕ} {r : Finding} {relation' room' : List ℕ}
    → Reviewed commands lengths σ relation room r relation' room' → SmallNumbers r
unfolding sheet_of
finding_small {commands} {lengths} {σ} {relation} {room} {r} R =
    let e = verdict_is R.demand₂ in
    let P = subst Placed (sym e) (told_placed commands lengths σ (length relation) (length room)) in
    let (t, p) = ⊎_elim by (λ f. subst SmallSheet (sym (empty_is R.demand₁ f)) empty_fits) (split (fills (number r))) in
    record { place = P.place; also = P.also; total = t; pairs = p }
  where
    by : fills (number r) ≡ true → SmallSheet r.sheet
    by f =
        let h : fills (verdict_of commands lengths σ (length relation) (length room)).number ≡ true = subst (λ (t : Told). fills t.number ≡ true) (verdict_is R.demand₂) f in
        subst SmallSheet (sym (sheet_is R.demand₂ f))
        (pairs_few commands lengths σ (length relation) (length room) h, pairs_small commands lengths σ (length relation) (length room) h)

-- ---- rooms for the longest tables

words_most : (m : ℕ) → m ≤ most_rows → words m ≤ words most_rows
unfolding width
words_most m l = mul-le-mul l (omega arith)

module _ (commands lengths : List ℕ) where
  -- have room for all that pass
  pub full_rooms : (checked commands lengths).number ≡ 0 → review_refusal commands lengths (words most_rows) most_rows ≡ tell 0 0 0
  full_rooms e =
      let few = (passes_zero commands lengths e).few_rows in
      sym (refused_none commands lengths (words most_rows) most_rows e (words_most (rows commands) few) few)

  -- where the check refuses tables, nothing else is told
  pub refused_checked : (checked commands lengths).number ≢ 0 → (σ : List ℕ) (relation room : ℕ) → verdict_of commands lengths σ relation room ≡ checked commands lengths
  unfolding verdict_of
  refused_checked n σ relation room =
      let e = refused_tables commands lengths relation room n in
      rw (sym e) (sym (or_first (checked commands lengths) _ n))

  -- and tables that pass are judged by their schedule
  pub passed_told : (checked commands lengths).number ≡ 0 → (σ : List ℕ)
      → verdict_of commands lengths σ (words most_rows) most_rows
      ≡ or_else (judged lengths (played commands lengths σ)) (fault_told commands lengths (generations_by commands lengths σ) (reaches commands lengths σ))
  unfolding verdict_of
  passed_told e σ = rw (full_rooms e)

  -- 7 to 11, or 0, where that is legal and complete
  pub complete_number : (checked commands lengths).number ≡ 0 → (σ : List ℕ) → Complete commands lengths σ
      → is_complete (verdict_of commands lengths σ (words most_rows) most_rows).number ≡ true
  complete_number e σ c =
      subst (λ (t : Told). is_complete t.number ≡ true) (sym (passed_told e σ))
      (or_either (λ t. is_complete t.number ≡ true) j f
      (⊎_elim (λ (z : j.number ≡ 0). rw z) (unclean_complete j.number) (complete_told σ c))
      (λ _. fills_complete f.number (fault_fills (g Reuse) (g Race))))
    where
      j : Told
      j = judged lengths (played commands lengths σ)

      g : Fault → List Pair
      g = faults commands lengths (generations_by commands lengths σ) (reaches commands lengths σ)

      f : Told
      f = fault_told commands lengths (generations_by commands lengths σ) (reaches commands lengths σ)
