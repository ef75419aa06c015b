-- The lists hold every command that a fault can pair, in order. Assumes nothing.
use mathlib.Core.Path.{◌≡◌, sym, ap, ◌∙◌}
use mathlib.Core.Logic.{by_cases, ◌≢◌}
use mathlib.Core.Bool.{Bool, true, false}
use mathlib.Core.List.{List, [], ◌∷◌, ◌++◌}
use Prim.Native.Nat.{ℕ, zero, suc, ◌+◌, ◌%◌, ◌≤◌, ◌<◌, min}
use native.Mathlib.Decide.{ℕ_discrete, dec_lt}
use native.Mathlib.Numerals.{add-one}
use native.Mathlib.Omega.{arith}
use lib.ListN.{length, get_or, set, replicate, length-set, get_or-replicate}
use lib.Seq.{get_or-set_same, get_or-set_other}
use Rattle.tables.specs.Limits.{most_rows, barriers}
use Rattle.tables.specs.Rows.{rows}
use Rattle.relation.proofs.Truth.{isnt, clashing}
use Rattle.sheet.specs.declared.Pair.{Pair}
use Rattle.sheet.specs.declared.Sheet.{Sheet}
use Rattle.sheet.specs.Needs.{add_all}
use Rattle.sheet.proofs.Sheets.{add_all_total}
use Rattle.faults.specs.declared.faults.Fault.{Fault}
use Rattle.faults.specs.declared.faults.Fault.TheVariants.{Reuse, Race}
use Rattle.faults.specs.Faults.{pair_of, along_row}
use Rattle.faults.specs.Tests.{seen_at}
use Rattle.findings.specs.declared.searched.Searched.{Searched}
use Rattle.findings.specs.Needs.{is_fault_at, listed, key, wanted, Next, Lists, Candidate}
use Rattle.faults.proofs.Searched.{along_none, along_found, along_passed, row_length}
use Rattle.faults.proofs.Tests.{found_reuse, found_race}

pub key_small : (s : Searched) (f : Fault) (c : ℕ) → key s f c < most_rows
unfolding most_rows
key_small s Reuse c = omega arith
key_small s Race c = omega arith

-- ---- the making

-- rooms of the limit at each place are empty lists
pub unlisted : (s : Searched) (k : ℕ) → k < most_rows → rows s.commands.now ≤ get_or (replicate most_rows most_rows) k 0
unlisted s k l = rw (get_or-replicate {A = ℕ} most_rows k most_rows 0 l) s.few

module _ (s : Searched) (f : Fault) where
  -- empty lists, before any command
  pub lists_none : {fronts nexts : List ℕ} → length fronts ≡ most_rows → length nexts ≡ most_rows → ((k : ℕ) → k < most_rows → rows s.commands.now ≤ get_or fronts k 0)
      → Lists s f fronts nexts (rows s.commands.now)
  lists_none p q e =
      record {
        fronts_fit = p;
        nexts_fit = q;
        front = λ k l. record { from = e k l; here = λ h. absurd (omega (arith, e k l)); none = λ j h lj _ _. absurd (omega arith) };
        next = λ d h l. absurd (omega arith);
      }

  -- from d on the list begins where it does from after d, if d is not in it
  next_down : {k d n : ℕ} → Next s f k (d + 1) n → (listed s f d ≡ true → key s f d ≢ k) → Next s f k d n
  next_down {k} {d} {n} X out =
      record {
        from = omega (arith, X.from);
        here = X.here;
        none = λ j h lj l m.
            by_cases (ℕ_discrete j d) (λ (e : j ≡ d). rw (sym e) at out m) (λ (q : j ≢ d). X.none j (omega arith) lj l m);
      }

  module _ (fronts nexts : List ℕ) (d : ℕ) (L : Lists s f fronts nexts (d + 1)) where
    module _ (low : d < rows s.commands.now) (is : listed s f d ≡ true) where
      abbrev k₀ : ℕ
      k₀ = key s f d

      small : k₀ < most_rows
      small = key_small s f d

      -- d is put in front of its list
      pub lists_more : Lists s f (set fronts k₀ d) (set nexts d (get_or fronts k₀ 0)) d
      lists_more =
          record {
            fronts_fit = length-set fronts _ _ ∙ L.fronts_fit;
            nexts_fit = length-set nexts _ _ ∙ L.nexts_fit;
            front = λ k l.
                by_cases (ℕ_discrete k k₀)
                (λ (e : k ≡ k₀).
                let here : get_or (set fronts k₀ d) k 0 ≡ d = rw e (get_or-set_same fronts k₀ d 0 (rw L.fronts_fit small)) in
                rw here (record { from = omega arith; here = λ _. (is, sym e); none = λ j h lj m. absurd (omega arith) }))
                (λ (n : k ≢ k₀). rw (get_or-set_other fronts k₀ k d 0 n) (next_down (L.front k l) (λ _ q. n (sym q))));
            next = λ x h l m.
                by_cases (ℕ_discrete x d)
                (λ (e : x ≡ d).
                rw (e, get_or-set_same nexts d (get_or fronts k₀ 0) 0 (omega (arith, L.nexts_fit, s.few))) (L.front k₀ small))
                (λ (n : x ≢ d). rw (get_or-set_other nexts d x (get_or fronts k₀ 0) 0 n) (L.next x (omega arith) l m));
          }

-- ---- candidates

-- a fault pairs commands that are listed, and the inner one is in the list that the outer one wants
found_listed : (s : Searched) (f : Fault) (i j : ℕ) → is_fault_at s f i j ≡ true → (listed s f i ≡ true) × (listed s f j ≡ true) × (key s f j ≡ wanted s f i)
unfolding is_fault_at most_rows barriers
found_listed s Reuse i j e =
    let (ri, rj, p, q) = found_reuse s.relation.now (rows s.commands.now) (seen_at s.heads.now s.commands.now s.generations.now i) (seen_at s.heads.now s.commands.now s.generations.now j) e in
    (ri, rj, omega arith)
found_listed s Race i j e =
    let (_, x, y, p) = found_race s.relation.now (rows s.commands.now) (seen_at s.heads.now s.commands.now s.generations.now i) (seen_at s.heads.now s.commands.now s.generations.now j) e in
    (x, y, ap (λ (n : ℕ). n % most_rows) (sym p))

module _ {s : Searched} {i a n : ℕ} where
  pub candidate : {f : Fault} → Next s f (wanted s f i) a n → Candidate s f i a n
  candidate {f} X =
      record {
        here = X.here;
        none = λ j h lj l. isnt _ (λ e. let (_, m, k) = found_listed s f i j e in X.none j h lj l m k);
      }

  pub candidate_none : {f : Fault} → listed s f i ≡ false → rows s.commands.now ≤ n → Candidate s f i a n
  candidate_none {f} out h =
      record {
        here = λ l. absurd (omega arith);
        none = λ j _ _ _. isnt _ (λ e. clashing (found_listed s f i j e).0 out);
      }

  -- races go upward: no number up to i is paired with it
  pub candidate_above : Next s Race (wanted s Race i) (i + 1) n → Candidate s Race i a n
  unfolding is_fault_at
  candidate_above X =
      record {
        here = X.here;
        none = λ j h lj l.
            by_cases (dec_lt i j)
            (λ (m : i < j).
            isnt _ (λ e. let (_, t, k) = found_listed s Race i j e in X.none j (omega arith) lj l t k))
            (λ (m : ¬ (i < j)).
            isnt _ (λ e. m (found_race s.relation.now (rows s.commands.now) (seen_at s.heads.now s.commands.now s.generations.now i) (seen_at s.heads.now s.commands.now s.generations.now j) e).0));
      }

-- ---- the walk

-- numbers that are not found bring no pair
skip : (found : ℕ → Bool) (to : ℕ → Pair) (a b : ℕ) → a ≤ b → ((y : ℕ) → a ≤ y → y < b → found y ≡ false) → along_row found to b ≡ along_row found to a
skip found to a zero l n = let q : a ≡ 0 = omega arith in rw q
skip found to a (suc b) l n =
    by_cases (ℕ_discrete a (suc b)) (λ (q : a ≡ suc b). rw q)
    (λ (m : a ≢ suc b). along_passed found to b (n b (omega arith) (omega arith)) ∙ skip found to a b (omega arith) (λ y h k. n y h (omega arith)))

module _ (s : Searched) (f : Fault) (i : ℕ) where
  abbrev found : ℕ → Bool
  found = is_fault_at s f i

  -- the pairs of i with the numbers below j
  abbrev pub below : ℕ → List Pair
  below j = along_row (is_fault_at s f i) (pair_of f i) (min j (rows s.commands.now))

  pub below_few : (j : ℕ) → length (below j) ≤ j
  below_few j = omega (arith, row_length found (pair_of f i) (min j (rows s.commands.now)))

  pub total_low : (t u : Sheet) (j : ℕ) → u ≡ add_all t (below j) → u.total ≤ t.total + j
  total_low t u j e = omega (arith, ap (λ (v : Sheet). v.total) e, add_all_total t (below j), below_few j)

  -- j is in the list that i wants
  abbrev pub OnList : ℕ → Type 0
  OnList j = j < rows s.commands.now → (listed s f j ≡ true) × (key s f j ≡ wanted s f i)

  -- up to the next candidate
  walked : (a n : ℕ) → a ≤ n → a ≤ rows s.commands.now → Candidate s f i a n → below n ≡ along_row found (pair_of f i) a
  walked a n low high C = skip found (pair_of f i) a (min n (rows s.commands.now)) (omega arith) (λ y h l. C.none y h (omega arith) (omega arith))

  pub walk_begun : {n : ℕ} → Candidate s f i 0 n → (below n ≡ []) × OnList n
  walk_begun {n} C = (walked 0 n (omega arith) (omega arith) C ∙ along_none found (pair_of f i), C.here)

  -- from j in its list to the next in it
  pub record Walked (j n : ℕ) : Type 0 where
    pub higher : j < n
    pub on : OnList n
    pub more : found j ≡ true → below n ≡ below j ++ pair_of f i j ∷ []
    pub same : found j ≡ false → below n ≡ below j

  pub walk_on : {fronts nexts : List ℕ} → Lists s f fronts nexts 0 → (j : ℕ) → j < rows s.commands.now → OnList j → Walked j (get_or nexts j 0)
  walk_on {nexts = nexts} L j l on =
      let (t, k) = on l in
      let n = get_or nexts j 0 in
      let X : Next s f (wanted s f i) (j + 1) n = rw k at (L.next j (omega arith) l t) in
      let C = candidate X in
      let w = walked (j + 1) n X.from (omega arith) C in
      let e : min j (rows s.commands.now) ≡ j = omega arith in
      record {
        higher = omega (arith, X.from);
        on = C.here;
        more = λ t. w ∙ along_found found (pair_of f i) j t ∙ ap (λ (m : ℕ). along_row found (pair_of f i) m ++ pair_of f i j ∷ []) (sym e);
        same = λ t. w ∙ ap (along_row found (pair_of f i)) (add-one j) ∙ along_passed found (pair_of f i) j t ∙ ap (along_row found (pair_of f i)) (sym e);
      }
