-- A search from the front finds the lowest number that passes a test. Assumes nothing.
use mathlib.Core.Path.{◌≡◌, sym, ap, ◌∙◌}
use mathlib.Core.Bool.{Bool, true, false}
use mathlib.Mathlib.Data.Bool.Basic.{dichotomy}
use Prim.Native.Nat.{ℕ, ◌+◌, ◌≤◌, ◌<◌}
use native.Mathlib.Omega.{arith}
use borrow.Author.Count.{below_none, below_more}
use borrow.Author.Tests.{lt-ltb, le-ltb, ltb-true, ltb-false}
use Rattle.std.proofs.Common.{Some, None, ltb, ⊎_elim}
use Rattle.tables.specs.Lowest.{lowest, if_below, found}
use Rattle.tables.proofs.Lowest.{lowest_first, lowest_is}

-- the search has come to i, and no number below i passes
pub record Scanned (p : ℕ → Bool) (n i : ℕ) : Type 0 where
  pub within : i ≤ n
  pub none : (k : ℕ) → k < i → p k ≡ false

module _ (p : ℕ → Bool) (n : ℕ) where
  pub scan_none : Scanned p n 0
  scan_none = record { within = omega arith; none = below_none _ }

module _ (p : ℕ → Bool) {n i : ℕ} (s : Scanned p n i) where
  pub scan_more : i < n → p i ≡ false → Scanned p n (i + 1)
  scan_more l e = record { within = omega arith; none = below_more _ i s.none e }

  pub scan_found : p i ≡ true → i ≡ lowest p n
  scan_found e = sym (lowest_is p (record { at_most = s.within; passes = λ _. e; below = s.none }))

  pub scan_end : n ≤ i → i ≡ lowest p n
  scan_end l = sym (lowest_is p (record { at_most = s.within; passes = λ m. absurd (omega arith); below = s.none }))

pub lowest_passes : (p : ℕ → Bool) (n : ℕ) {i : ℕ} → i ≡ lowest p n → i < n → p i ≡ true
lowest_passes p n e l = rw e ((lowest_first p n).passes (omega arith))

-- ---- a search that answers nothing where no number passes

module _ {n i : ℕ} where
  pub if_below_some : i < n → Some i ≡ if_below n i
  unfolding if_below
  if_below_some l = rw (lt-ltb i n l)

  pub if_below_none : n ≤ i → None ≡ if_below n i
  unfolding if_below
  if_below_none l = rw (le-ltb i n l)

  pub if_below_hit : {t : ℕ} → Some t ≡ if_below n i → (t < n) × (t ≡ i)
  unfolding if_below
  if_below_hit {t} e =
      ⊎_elim
      (λ (f : ltb i n ≡ false). absurd (let q : Some t ≡ None = rw f at e in cc))
      (λ (h : ltb i n ≡ true).
      let q : Some t ≡ Some i = rw h at e in
      let s : t ≡ i = cc in
      (omega (arith, ltb-true _ _ h), s))
      (dichotomy (ltb i n))

  pub if_below_miss : None ≡ if_below n i → n ≤ i
  unfolding if_below
  if_below_miss e =
      ⊎_elim (λ (f : ltb i n ≡ false). ltb-false _ _ f)
      (λ (h : ltb i n ≡ true). absurd (let q : None ≡ Some i = rw h at e in cc))
      (dichotomy (ltb i n))

module _ (p : ℕ → Bool) {n i : ℕ} (s : Scanned p n i) where
  pub found_some : i < n → p i ≡ true → Some i ≡ found p n
  found_some l e = if_below_some l ∙ ap (if_below n) (scan_found p s e)

  pub found_none : n ≤ i → None ≡ found p n
  found_none l = if_below_none l ∙ ap (if_below n) (scan_end p s l)
