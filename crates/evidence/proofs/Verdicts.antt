-- The evidence for verdicts 10 and 11, by the verdict and the sheet alone. Assumes nothing.
use mathlib.Core.Path.{◌≡◌, refl, sym, ap, subst, ◌∙◌}
use mathlib.Core.Logic.{by_cases, ◌≢◌}
use mathlib.Core.Bool.{true}
use mathlib.Core.List.{List, [], ◌∷◌, reverse}
use Prim.Native.Nat.{ℕ, ◌<◌}
use native.Mathlib.Omega.{arith}
use native.Mathlib.Decide.{ℕ_discrete}
use lib.ListN.{length, get_or, take, length-take}
use lib.Seq.{get_or-take}
use Rattle.tables.specs.Rows.{rows}
use Rattle.rules.specs.Rules.{Keeps}
use Rattle.verdicts.specs.Verdicts.{tell}
use Rattle.verdicts.specs.Numbers.{is_ending, has_pairs, fills}
use Rattle.verdicts.specs.declared.Told.{Told}
use Rattle.verdicts.proofs.Numbers.{pairs_fill, ending_unfilled}
use Rattle.relation.proofs.Truth.{clashing}
use Rattle.schedules.specs.Machine.{Program}
use Rattle.schedules.specs.HappensBefore.{reach, Reuse, NoReuse}
use Rattle.schedules.specs.Threads as threads
use Rattle.sheet.specs.declared.Pair.{Pair}
use Rattle.sheet.specs.declared.Sheet.{Sheet}
use Rattle.sheet.specs.Sheet.{pair, most_kept, firsts, sheet_of, kept_pairs, first_kept}
use Rattle.sheet.proofs.Sheets.{kept_are}
use Rattle.faults.specs.declared.faults.Fault.{Fault}
use Rattle.faults.specs.declared.faults.Fault.TheVariants as fault
use Rattle.faults.specs.Faults.{faults, race, pair_of, faulty}
use Rattle.findings.specs.Findings.{first_pair, or_pairs, fault_told, fault_pairs}
use Rattle.faults.proofs.Pairs.{in_order, reuse_is, race_is}
use Rattle.verdicts.specs.FirstTold.{or_else}
use Rattle.steps.specs.Ending.{judged}
use Rattle.steps.specs.Going.{played}
use Rattle.programs.specs.Program.{program}
use Rattle.replay.specs.Schedules.{Clean}
use Rattle.replay.proofs.Told.{judged_ending, clean_told}
use Rattle.programs.proofs.Programs as programs
use Rattle.verdicts.proofs.FirstTold.{or_first, or_second}
use Rattle.review.specs.Judge.{generations_by, reaches}
use Rattle.review.proofs.Judging.{settled}
use Rattle.evidence.specs.Evidence.{Disputes, HasBefore, against, first_first, second_first}
use Rattle.evidence.proofs.Evident.{disputes, first_in, first_long}
use Rattle.evidence.proofs.Slices.{AreCommands}

-- ---- the verdict by its number

-- a verdict of 10 or 11 is that of the search
told_faults : (a b : Told) → is_ending a.number ≡ true → has_pairs (or_else a b).number ≡ true → (a.number ≡ 0) × (or_else a b ≡ b)
told_faults a b l h =
    by_cases (ℕ_discrete a.number 0) (λ (e : a.number ≡ 0). (e, sym (or_second a b e)))
    (λ (n : a.number ≢ 0).
    let f : fills a.number ≡ true = subst (λ (t : Told). fills t.number ≡ true) (sym (or_first a b n)) (pairs_fill (or_else a b).number h) in
    clashing f (ending_unfilled a.number l n))

-- what 10 and 11 say of the two lists of faults
by_ten : (ps qs : List Pair) → (first_pair 10 ps (first_pair 11 qs (tell 0 0 0))).number ≡ 10 → (p : Pair) × (rest : List Pair) × (ps ≡ p ∷ rest) × (or_pairs ps qs ≡ ps)
by_ten (p ∷ ps) qs e = (p, ps, refl, refl)
by_ten [] (q ∷ qs) e = absurd (omega arith)
by_ten [] [] e = absurd (omega arith)

by_eleven : (ps qs : List Pair) → (first_pair 10 ps (first_pair 11 qs (tell 0 0 0))).number ≡ 11 → (ps ≡ []) × (or_pairs ps qs ≡ qs)
by_eleven (p ∷ ps) qs e = absurd (omega arith)
by_eleven [] qs e = (refl, refl)

-- ---- tables that pass, with the number that an offered schedule is told and the sheet

pub record Gives (commands lengths σ : List ℕ) (n : ℕ) (s : Sheet) : Type 0 where
  pub keeps : Keeps commands lengths
  pub told : n ≡ (or_else (judged lengths (played commands lengths σ)) (fault_told commands lengths (generations_by commands lengths σ) (reaches commands lengths σ))).number
  pub sheet : has_pairs n ≡ true → s ≡ sheet_of (fault_pairs commands lengths (generations_by commands lengths σ) (reaches commands lengths σ))

module _ {commands lengths σ : List ℕ} {n : ℕ} {s : Sheet} (G : Gives commands lengths σ n s) where
  abbrev P : Program
  P = program commands lengths

  abbrev g : ℕ → ℕ
  g = generations_by commands lengths σ

  abbrev found : Fault → List Pair
  found = faults commands lengths g (reach P g)

  module _ (fault : has_pairs n ≡ true) where
    both : ((judged lengths (played commands lengths σ)).number ≡ 0)
        × (or_else (judged lengths (played commands lengths σ)) (fault_told commands lengths g (reach P g)) ≡ fault_told commands lengths g (reach P g))
    both = told_faults (judged lengths (played commands lengths σ)) _ (judged_ending G.keeps σ) (ap has_pairs (sym G.told) ∙ fault)

    pub clean : Clean commands lengths σ
    clean = clean_told commands lengths σ both.0

    number_is : n ≡ (fault_told commands lengths g (reach P g)).number
    number_is = G.told ∙ ap (λ (t : Told). t.number) both.1

  -- each place of a list of faults has a fault
  placed : (f : Fault) (k : ℕ) → k < length (found f)
      → (i : ℕ) × (j : ℕ) × (i < rows commands) × (j < rows commands) × (faulty commands lengths g (reach P g) f i j ≡ true) × (get_or (found f) k (pair 0 0) ≡ pair_of f i j)
  placed f k l =
      let L = in_order commands lengths g (reach P g) f in
      let (i, j, li, lj, t, q) = L.only k l in
      (i, j, li, lj, t, rw q at (L.there i j li lj t).1)

  -- the sheet is that of the faults of a kind
  module _ (ten : n ≡ 10) where
    late : has_pairs n ≡ true
    late = rw ten

    lists : (p : Pair) × (rest : List Pair) × (found fault.Reuse ≡ p ∷ rest) × (or_pairs (found fault.Reuse) (found fault.Race) ≡ found fault.Reuse)
    lists = by_ten (found fault.Reuse) (found fault.Race) (sym (number_is late) ∙ ten)

    first_fault : (c₁ : ℕ) × (c₂ : ℕ) × (c₁ < rows commands) × (c₂ < rows commands) × Reuse P g c₁ c₂ × (first_kept s ≡ pair c₁ c₂)
    unfolding sheet_of most_kept firsts
    first_fault =
        let (p, rest, q, or) = lists in
        let (c₂, c₁, l₂, l₁, t, e) = placed fault.Reuse 0 (omega (arith, ap length q)) in
        let is : first_kept s ≡ p = ap first_kept (G.sheet late) ∙ rw (or, q) in
        (c₁, c₂, l₁, l₂, (reuse_is commands lengths g c₁ c₂ l₁ l₂).0 t, is ∙ ap (λ (ps : List Pair). get_or ps 0 (pair 0 0)) (sym q) ∙ e)

    pub ten_commands : AreCommands commands (first_kept s)
    ten_commands = let (c₁, c₂, l₁, l₂, _, e) = first_fault in rw e (l₁, l₂)

    pub ten_disputes : Disputes commands lengths σ (against commands lengths (reaches commands lengths σ) (first_kept s))
    ten_disputes =
        let (c₁, c₂, l₁, l₂, u, e) = first_fault in
        rw e (disputes G.keeps (clean late) c₁ c₂ u)

  module _ (eleven : n ≡ 11) where
    after : has_pairs n ≡ true
    after = rw eleven

    races : (found fault.Reuse ≡ []) × (or_pairs (found fault.Reuse) (found fault.Race) ≡ found fault.Race)
    races = by_eleven (found fault.Reuse) (found fault.Race) (sym (number_is after) ∙ eleven)

    kept_is : kept_pairs s ≡ take most_kept (found fault.Race)
    kept_is = ap kept_pairs (G.sheet after ∙ ap sheet_of races.1) ∙ kept_are (found fault.Race)

    -- each pair that is kept is a race
    module _ (k : ℕ) (l : k < length (kept_pairs s)) where
      abbrev p : Pair
      p = get_or (kept_pairs s) k (pair 0 0)

      raced : (x : ℕ) × (y : ℕ) × (x < rows commands) × (y < rows commands) × (race commands lengths (reach P g) x y ≡ true) × (p ≡ pair x y)
      raced =
          let ps = found fault.Race in
          let long = ap length kept_is ∙ length-take most_kept ps in
          let (x, y, lx, ly, t, e) = placed fault.Race k (omega (arith, l, long)) in
          (x, y, lx, ly, t, ap (λ (qs : List Pair). get_or qs k (pair 0 0)) kept_is ∙ get_or-take most_kept ps k (pair 0 0) (omega (arith, l, long)) ∙ e)

      pub eleven_commands : AreCommands commands p
      eleven_commands = let (x, y, lx, ly, _, e) = raced in rw e (lx, ly)

      none : NoReuse P (threads.gens P (programs.threads G.keeps) (reverse σ))
      none = (settled G.keeps σ (clean after) races.0).none

      -- two schedules of M entries each, in opposite orders
      pub eleven_orders :
          HasBefore commands lengths p.first p.second (first_first commands lengths (reaches commands lengths σ) p)
          × HasBefore commands lengths p.second p.first (second_first commands lengths (reaches commands lengths σ) p)
      eleven_orders =
          let (x, y, lx, ly, t, e) = raced in
          let (less, _, _, a, b) = (race_is commands lengths g x y lx ly).0 t in
          rw e (
            first_in G.keeps (clean after) none x y lx ly (λ z. omega arith) b,
            first_in G.keeps (clean after) none y x ly lx (λ z. omega arith) a,
          )

      pub eleven_long :
          (length (first_first commands lengths (reaches commands lengths σ) p) ≡ rows commands)
          × (length (second_first commands lengths (reaches commands lengths σ) p) ≡ rows commands)
      eleven_long =
          (first_long G.keeps (clean after) none p.second p.first, first_long G.keeps (clean after) none p.first p.second)
