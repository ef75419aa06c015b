-- Each answer, from the tests that led to it; and what is said of the threads of a set. Assumes nothing.
use mathlib.Core.Path.{◌≡◌, refl, sym, ap, ◌∙◌}
use mathlib.Core.Bool.{Bool, true, false, not, ◌&&◌}
use mathlib.Core.List.{List, [], ◌∷◌}
use mathlib.Core.Logic.{by_cases, ⊎_elim, ◌≢◌}
use Prim.Native.Nat.{ℕ, ◌≤◌, ◌<◌}
use native.Mathlib.Decide.{dec_lt, ℕ_discrete}
use native.Mathlib.Omega.{arith}
use lib.Dec.{eqb, ltb}
use lib.ListN.{length, get_or, set, get_or-eq_default}
use borrow.Author.Tests.{lt-ltb, le-ltb, ltb-true, eq-eqb, ne_eqb}
use Rattle.std.specs.Option.{option_or}
use Rattle.relation.proofs.Truth.{both, split}
use Rattle.tables.specs.Limits.{most_threads}
use Rattle.tables.specs.Lowest.{lowest, if_below, found}
use Rattle.tables.proofs.Lowest.{lowest_is}
use Rattle.turns.specs.Turns.{held, let_go_of, released, settled, has_any_left, may_go, may_step, lowest_or}

-- ---- the lowest that passes one test, or else another

module _ (p q : ℕ → Bool) (n : ℕ) where
  pub found_or : option_or (found p n) (found q n) ≡ if_below n (lowest_or p q n)
  unfolding if_below
  found_or = ⊎_elim (λ (e : ltb (lowest p n) n ≡ true). rw e (rw e)) (λ (e : ltb (lowest p n) n ≡ false). rw e) (split (ltb (lowest p n) n))

  pub or_none : ((k : ℕ) → k < n → p k ≡ false) → lowest q n ≡ lowest_or p q n
  or_none none =
      let is : lowest p n ≡ n = lowest_is p (record { at_most = omega arith; passes = λ l. absurd (omega arith); below = none }) in
      rw (le-ltb (lowest p n) n (omega arith))

-- ---- a thread that has a command left

module _ (lengths : List ℕ) (t n : ℕ) where
  pub left_past : most_threads ≤ t → false ≡ has_any_left lengths t n
  unfolding has_any_left
  left_past l = rw (le-ltb t most_threads l)

  module _ (h : t < most_threads) where
    pub left_none : length lengths ≤ t → false ≡ has_any_left lengths t n
    unfolding has_any_left
    left_none l = rw (lt-ltb t most_threads h, le-ltb t (length lengths) l)

    pub left_is : t < length lengths → ltb n (get_or lengths t 0) ≡ has_any_left lengths t n
    unfolding has_any_left
    left_is l = rw (lt-ltb t most_threads h, lt-ltb t (length lengths) l)

  pub left_within : t < most_threads → ltb n (get_or lengths t 0) ≡ has_any_left lengths t n
  left_within h =
      by_cases (dec_lt t (length lengths)) (λ (l : t < length lengths). left_is h l)
      (λ (l : ¬ (t < length lengths)).
      ap (ltb n) (get_or-eq_default lengths 0 {n = t} (omega arith)) ∙ le-ltb n 0 (omega arith) ∙ left_none h (omega arith))

  pub record Left : Type 0 where
    pub thread : t < most_threads
    pub there : t < length lengths
    pub left : n < get_or lengths t 0

  pub left_so : has_any_left lengths t n ≡ true → Left
  unfolding has_any_left
  left_so e =
      let (f, u) = both (ltb t most_threads) _ e in
      let (g, h) = both (ltb t (length lengths)) _ u in
      record { thread = ltb-true _ _ f; there = ltb-true _ _ g; left = ltb-true _ _ h }

pub may_is : (lengths next waits : List ℕ) (t : ℕ) {n w : ℕ} {l b : Bool} → n ≡ get_or next t 0 → w ≡ get_or waits t 0 → l ≡ may_go lengths t n w → l ≡ b
    → may_step lengths next waits t ≡ b
unfolding may_step
may_is lengths next waits t e f g h = rw (e, f) at (sym g ∙ h)

-- ---- a thread that waits

pub held_is : (waits : List ℕ) (t : ℕ) {w : ℕ} → w ≡ get_or waits t 0 → (ltb t most_threads && not (eqb w 0)) ≡ held waits t
unfolding held
held_is waits t e = rw e

-- where nobody is to be released, all wait as before
let_go_nobody : (x : ℕ) → let_go_of 0 x ≡ x
let_go_nobody x = by_cases (ℕ_discrete x 0) (λ (e : x ≡ 0). rw (eq-eqb x 0 e) (sym e)) (λ (n : x ≢ 0). rw (ne_eqb x 0 n))

pub released_nobody : (waits : List ℕ) → released 0 waits ≡ waits
released_nobody [] = refl
released_nobody (x ∷ waits) = rw (let_go_nobody x, released_nobody waits)

module _ (t wait frees : ℕ) (waits : List ℕ) {now : List ℕ} (e : now ≡ set waits t wait) where
  pub settles_some : {then : List ℕ} → then ≡ released frees now → then ≡ settled t wait frees waits
  settles_some f = f ∙ ap (released frees) e

  pub settles_none : frees ≡ 0 → now ≡ settled t wait frees waits
  settles_none f = rw f (e ∙ sym (released_nobody (set waits t wait)))
