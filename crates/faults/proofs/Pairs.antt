-- Each fault stands once in the list of its kind, in its order; and the tests over the tables say what the definitions of faults say. Assumes nothing.
use mathlib.Core.Path.{◌≡◌, refl, sym, ap, subst, ◌∙◌}
use mathlib.Core.Logic.{◌⊎◌, inl, inr, ⊎_elim, by_cases, ◌≢◌, ◌↔◌}
use mathlib.Core.Bool.{Bool, true, false, cond, not}
use mathlib.Core.List.{List, [], ◌∷◌, ◌++◌, append_assoc, append-nil}
use Prim.Native.Nat.{ℕ, zero, suc, ◌-◌, ◌≤◌, ◌<◌}
use native.Mathlib.Decide.{dec_lt, ℕ_discrete}
use native.Mathlib.Numerals.{add-one}
use native.Mathlib.Omega.{arith}
use lib.ListN.{length, get_or, length-append}
use borrow.Author.Tests.{eqb-true, eqb-false, eq-eqb, ne_eqb, ltb-true, lt-ltb, not-true}
use Rattle.tables.specs.Rows.{rows, is_first}
use Rattle.tables.proofs.Rows.{past_first}
use Rattle.relation.proofs.Truth.{clashing, split, isnt, both, pair, either, left, right}
use Rattle.schedules.specs.Machine.{Program}
use Rattle.schedules.specs.HappensBefore.{Reaches, reach, Succeeds}
use Rattle.schedules.proofs.Table.{decides}
use Rattle.sheet.specs.declared.Pair.{Pair}
use Rattle.faults.specs.declared.faults.Fault.{Fault}
use Rattle.faults.specs.declared.faults.Fault.TheVariants as fault
use Rattle.programs.specs.Program.{program}
use Rattle.sheet.specs.Sheet as sheet
use Rattle.faults.specs.Faults.{succeeds, reuse, race, along_row, all_rows, pair_of, faulty, faults}
use Rattle.faults.specs.Claims.{ReuseIs, RaceIs, Listed, InOrder, Once}

-- ---- the pairs of one row

module _ (found : ℕ → Bool) (to : ℕ → Pair) where
  -- a pair that is found follows those before it
  row_split : (j y : ℕ) → j < y → found j ≡ true → (rest : List Pair) × (along_row found to y ≡ along_row found to j ++ to j ∷ rest)
  unfolding along_row
  row_split j zero l e = absurd (omega arith)
  row_split j (suc y) l e =
      by_cases (ℕ_discrete j y) (λ (q : j ≡ y). ([], rw (sym q, e)))
      (λ (n : j ≢ y).
      let (rest, s) = row_split j y (omega arith) e in
      (rest ++ cond (found y) (to y ∷ []) [], rw s (append_assoc (along_row found to j) (to j ∷ rest) (cond (found y) (to y ∷ []) []))))

  -- nothing else is there
  row_only : (y k : ℕ) → k < length (along_row found to y) → (j : ℕ) × (j < y) × (found j ≡ true) × (length (along_row found to j) ≡ k)
  unfolding along_row
  row_only zero k l = absurd (omega arith)
  row_only (suc y) k l =
      by_cases (dec_lt k (length (along_row found to y)))
      (λ (h : k < length (along_row found to y)). let (j, b, e, q) = row_only y k h in (j, omega arith, e, q))
      (λ (h : ¬ (k < length (along_row found to y))).
      ⊎_elim
      (λ (e : found y ≡ true).
      (y, omega arith, e, omega (arith, length-append (along_row found to y) (to y ∷ []), simp e at l)))
      (λ (e : found y ≡ false). absurd (omega (arith, length-append (along_row found to y) [], simp e at l)))
      (split (found y)))

-- ---- the pairs of all rows

module _ (found : ℕ → ℕ → Bool) (to : ℕ → ℕ → Pair) (m : ℕ) where
  -- the pairs that are found before i and j
  abbrev up_to : ℕ → ℕ → List Pair
  up_to i j = all_rows found to m i ++ along_row (found i) (to i) j

  all_split : (i x : ℕ) → i ≤ x → (rest : List Pair) × (all_rows found to m x ≡ all_rows found to m i ++ rest)
  unfolding all_rows
  all_split i zero l = let q : i ≡ 0 = omega arith in ([], rw q)
  all_split i (suc x) l =
      by_cases (ℕ_discrete i (suc x)) (λ (q : i ≡ suc x). ([], rw q (sym (append-nil (all_rows found to m (suc x))))))
      (λ (n : i ≢ suc x).
      let (rest, s) = all_split i x (omega arith) in
      (rest ++ along_row (found x) (to x) m, rw s (append_assoc (all_rows found to m i) rest (along_row (found x) (to x) m))))

  -- i and j come before x and y
  abbrev Sooner : ℕ → ℕ → ℕ → ℕ → Type 0
  Sooner i j x y = ((i < x) × (j < m)) ⊎ ((i ≡ x) × (j < y))

  up_split : (i j x y : ℕ) → Sooner i j x y → found i j ≡ true → (rest : List Pair) × (up_to x y ≡ up_to i j ++ to i j ∷ rest)
  unfolding all_rows
  up_split i j x y (inl w) e =
      let (r, s) = row_split (found i) (to i) j m w.1 e in
      let (q, t) = all_split (suc i) x w.0 in
      (r ++ (q ++ along_row (found x) (to x) y), rw (t, s) (simp append_assoc))
  up_split i j x y (inr w) e =
      let (r, s) = row_split (found i) (to i) j y w.1 e in
      (r, rw (sym w.0, s) (sym (append_assoc (all_rows found to m i) (along_row (found i) (to i) j) (to i j ∷ r))))

  all_only : (n k : ℕ) → k < length (all_rows found to m n) → (i : ℕ) × (j : ℕ) × (i < n) × (j < m) × (found i j ≡ true) × (length (up_to i j) ≡ k)
  unfolding all_rows
  all_only zero k l = absurd (omega arith)
  all_only (suc n) k l =
      by_cases (dec_lt k (length (all_rows found to m n)))
      (λ (h : k < length (all_rows found to m n)). let (i, j, a, b, e, q) = all_only n k h in (i, j, omega arith, b, e, q))
      (λ (h : ¬ (k < length (all_rows found to m n))).
      let (j, b, e, q) =
      row_only (found n) (to n) m (k - length (all_rows found to m n)) (omega (arith, length-append (all_rows found to m n) (along_row (found n) (to n) m))) in
      (n, j, omega arith, b, e, omega (arith, length-append (all_rows found to m n) (along_row (found n) (to n) j))))

-- what follows the elements of a list stands at their number
seam : (qs rest : List Pair) (p : Pair) → (length qs < length (qs ++ p ∷ rest)) × (get_or (qs ++ p ∷ rest) (length qs) (sheet.pair 0 0) ≡ p)
seam [] rest p = (omega arith, refl)
seam (q ∷ qs) rest p = let (l, e) = seam qs rest p in (omega arith, e)

all_listed : (found : ℕ → ℕ → Bool) (to : ℕ → ℕ → Pair) (m : ℕ) → Listed found to m (all_rows found to m m)
unfolding along_row
all_listed found to m =
    record {
      place = λ i j. length (up_to found to m i j);
      there = λ i j li lj e.
          let (rest, s) = up_split found to m i j m 0 (inl (li, lj)) e in
          rw (sym (append-nil (all_rows found to m m)) ∙ s) (seam (up_to found to m i j) rest (to i j));
      only = all_only found to m m;
      ordered = λ i j x y lj e l.
          let (rest, s) = up_split found to m i j x y (⊎_elim (λ (h : i < x). inl (h, lj)) inr l) e in
          rw s (seam (up_to found to m i j) rest (to i j)).0;
    }

pair_one : (f : Fault) {i j x y : ℕ} → pair_of f i j ≡ pair_of f x y → (i ≡ x) × (j ≡ y)
pair_one fault.Reuse e = (ap (λ (p : Pair). p.second) e, ap (λ (p : Pair). p.first) e)
pair_one fault.Race e = (ap (λ (p : Pair). p.first) e, ap (λ (p : Pair). p.second) e)

module _ (commands lengths : List ℕ) (g : ℕ → ℕ) (ρ : ℕ → ℕ → Bool) (f : Fault) where
  abbrev m : ℕ
  m = rows commands

  pub in_order : InOrder commands lengths g ρ f
  unfolding faults
  in_order = all_listed (faulty commands lengths g ρ f) (pair_of f) m

  -- a pair has one place
  one_place : (i j k : ℕ) → k < length (faults commands lengths g ρ f) → get_or (faults commands lengths g ρ f) k (sheet.pair 0 0) ≡ pair_of f i j
      → in_order.place i j ≡ k
  one_place i j k l e =
      let (x, y, lx, ly, t, q) = in_order.only k l in
      let (a, b) = pair_one f (sym (rw q at (in_order.there x y lx ly t).1) ∙ e) in
      rw (sym a, sym b) q

  pub once : Once commands lengths g ρ f
  once k l lk ll e =
      let (i, j, li, lj, t, q) = in_order.only k lk in
      sym q ∙ one_place i j l ll (sym e ∙ rw q at (in_order.there i j li lj t).1)

  pub no_faults : faults commands lengths g ρ f ≡ [] → (i j : ℕ) → i < m → j < m → faulty commands lengths g ρ f i j ≡ false
  no_faults e i j li lj = isnt _ (λ t. absurd (omega (arith, (in_order.there i j li lj t).0, ap length e)))

  pub some_fault : {p : Pair} {ps : List Pair} → faults commands lengths g ρ f ≡ p ∷ ps
      → (i : ℕ) × (j : ℕ) × (i < m) × (j < m) × (faulty commands lengths g ρ f i j ≡ true) × (p ≡ pair_of f i j)
  some_fault {p} {ps} e =
      let (i, j, li, lj, t, q) = in_order.only 0 (omega (arith, ap length e)) in
      (i, j, li, lj, t, sym (ap (λ (l : List Pair). get_or l 0 (sheet.pair 0 0)) e) ∙ rw q at (in_order.there i j li lj t).1)

-- ---- the same tests over the same numbers

row_same : (p q : ℕ → Bool) (to : ℕ → Pair) (n : ℕ) → ((j : ℕ) → j < n → p j ≡ q j) → along_row p to n ≡ along_row q to n
unfolding along_row
row_same p q to zero h = refl
row_same p q to (suc n) h = rw (row_same p q to n (λ j l. h j (omega arith)), h n (omega arith))

all_same : (p q : ℕ → ℕ → Bool) (to : ℕ → ℕ → Pair) (m n : ℕ) → ((i j : ℕ) → i < n → j < m → p i j ≡ q i j) → all_rows p to m n ≡ all_rows q to m n
unfolding all_rows
all_same p q to m zero h = refl
all_same p q to m (suc n) h =
    rw (all_same p q to m n (λ i j l. h i j (omega arith)), row_same (p n) (q n) (to n) m (λ j. h n j (omega arith)))

-- a test that agrees with the definition finds the faults
pub all_faults : (commands lengths : List ℕ) (g : ℕ → ℕ) (ρ : ℕ → ℕ → Bool) (f : Fault) (p : ℕ → ℕ → Bool)
    → ((i j : ℕ) → i < rows commands → j < rows commands → p i j ≡ faulty commands lengths g ρ f i j)
    → all_rows p (pair_of f) (rows commands) (rows commands) ≡ faults commands lengths g ρ f
unfolding faults
all_faults commands lengths g ρ f p = all_same p (faulty commands lengths g ρ f) (pair_of f) (rows commands) (rows commands)

module _ (commands lengths : List ℕ) (g h : ℕ → ℕ) (ρ σ : ℕ → ℕ → Bool) (same : (c : ℕ) → c < rows commands → g c ≡ h c)
    (agree : (i j : ℕ) → i < rows commands → j < rows commands → ρ i j ≡ σ i j) where
  faulty_same : (f : Fault) (i j : ℕ) → i < rows commands → j < rows commands → faulty commands lengths g ρ f i j ≡ faulty commands lengths h σ f i j
  unfolding succeeds reuse race
  faulty_same fault.Reuse i j li lj = rw (same i li, same j lj, agree j (i - 1) lj (omega arith))
  faulty_same fault.Race i j li lj = rw (agree i j li lj, agree j i lj li)

  pub same_faults : (f : Fault) → faults commands lengths g ρ f ≡ faults commands lengths h σ f
  unfolding faults
  same_faults f = all_faults commands lengths h σ f (faulty commands lengths g ρ f) (faulty_same f)

-- ---- what the tests say, over the table of what reaches what

module _ (commands lengths : List ℕ) (g : ℕ → ℕ) where
  abbrev P : Program
  P = program commands lengths

  succeeds_is : (c₁ c₂ : ℕ) → c₁ < rows commands → c₂ < rows commands → (succeeds commands g c₁ c₂ ≡ true) ↔ Succeeds P g c₁ c₂
  unfolding succeeds
  succeeds_is c₁ c₂ l₁ l₂ = (
    λ e.
        let (r, e₁) = both _ _ e in
        let (s, e₂) = both _ _ e₁ in
        let (a, b) = both _ _ e₂ in
        record { low₁ = l₁; low₂ = l₂; reg₁ = r; reg₂ = s; at = eqb-true _ _ a; gen = sym (eqb-true _ _ b) ∙ add-one (g c₁) },
    λ s. pair _ _ s.reg₁ (pair _ _ s.reg₂ (pair _ _ (eq-eqb _ _ s.at) (eq-eqb _ _ (add-one (g c₁) ∙ sym s.gen)))),
  )

  pub reuse_is : ReuseIs commands lengths g
  unfolding reuse
  reuse_is c₁ c₂ l₁ l₂ =
      let d = decides P g c₁ (c₂ - 1) l₁ (omega arith) in (
        λ e.
            let (s, t) = both _ _ e in
            record {
              succeeds = (succeeds_is c₁ c₂ l₁ l₂).0 s;
              loose = λ w.
                  let q : w.before ≡ c₂ - 1 = omega (arith, w.is_before) in
                  ⊎_elim (λ f. clashing f w.not_first) (λ n. clashing (d.1 (subst (Reaches P g c₁) q w.reached)) (not-true _ n))
                  (either (is_first lengths c₂) _ t);
            },
        λ r.
            pair _ _ ((succeeds_is c₁ c₂ l₁ l₂).1 r.succeeds)
            (⊎_elim (λ (f : is_first lengths c₂ ≡ true). left _ _ f)
            (λ (f : is_first lengths c₂ ≡ false).
            right (is_first lengths c₂) _
            (ap not
            (isnt (reach P g c₁ (c₂ - 1))
            (λ t. r.loose
            (record {
              before = c₂ - 1;
              is_before = omega (arith, past_first lengths c₂ f);
              not_first = f;
              reached = d.0 t;
            })))))
            (split (is_first lengths c₂))),
      )

  pub race_is : RaceIs commands lengths g
  unfolding race
  race_is x y lx ly =
      let (u, v) = decides P g x y lx ly in
      let (w, z) = decides P g y x ly lx in (
        λ e.
            let (a, e₁) = both _ _ e in
            let (b, e₂) = both _ _ e₁ in
            let (c, e₃) = both _ _ e₂ in
            let (d, d') = both _ _ e₃ in (
              ltb-true _ _ a,
              b,
              eqb-false _ _ (not-true _ c),
              λ p. clashing (v p) (not-true _ d),
              λ p. clashing (z p) (not-true _ d'),
            ),
        λ r.
            pair _ _ (lt-ltb _ _ r.0)
            (pair _ _ r.1
            (pair _ _ (ap not (ne_eqb _ _ r.2))
            (pair _ _ (ap not (isnt (reach P g x y) (λ t. r.3 (u t)))) (ap not (isnt (reach P g y x) (λ t. r.4 (w t))))))),
      )
