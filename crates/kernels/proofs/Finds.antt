-- Whether some number passes a test, as a search from the front finds it. Assumes nothing.
use mathlib.Core.Path.{◌≡◌, refl, ap, ◌∙◌, sym}
use mathlib.Core.Bool.{Bool, true, false}
use Prim.Native.Nat.{ℕ, ◌≤◌, ◌<◌}
use mathlib.Core.Logic.{by_cases}
use native.Mathlib.Decide.{dec_lt}
use native.Mathlib.Omega.{arith}
use lib.Dec.{ltb}
use borrow.Author.Tests.{lt-ltb, le-ltb}
use mathlib.Core.Bool.{cond, not}
use Rattle.std.specs.Prelude.{Option, Some, None}
use Rattle.std.specs.Option.{is_some}
use Rattle.tables.specs.Lowest.{lowest, if_below, found}
use Rattle.tables.proofs.Scans.{Scanned, scan_found, scan_end}

module _ (p : ℕ → Bool) {n i : ℕ} (s : Scanned p n i) where
  pub some_end : n ≤ i → ltb (lowest p n) n ≡ false
  some_end l = let q : i ≡ lowest p n = scan_end p s l in le-ltb (lowest p n) n (omega arith)

pub some_none : (p : ℕ → Bool) (n : ℕ) → ((k : ℕ) → k < n → p k ≡ false) → ltb (lowest p n) n ≡ false
some_none p n f = some_end p (record { within = omega arith; none = f }) (omega arith)

pub found_first : (p : ℕ → Bool) (n : ℕ) {i : ℕ} → i < n → ((k : ℕ) → k < i → p k ≡ false) → p i ≡ true → Some i ≡ found p n
unfolding if_below
found_first p n {i} l f e =
    let q : i ≡ lowest p n = scan_found p (record { within = omega arith; none = f }) e in
    ap Some q ∙ sym (rw (lt-ltb (lowest p n) n (omega arith)))

pub found_none : (p : ℕ → Bool) (n : ℕ) → ((k : ℕ) → k < n → p k ≡ false) → None ≡ found p n
unfolding if_below
found_none p n f = sym (rw (some_none p n f))

pub not_twice : {a b : Bool} → a ≡ not b → b ≡ not a
not_twice {b = true} e = sym (ap not e)
not_twice {b = false} e = sym (ap not e)

-- what a search that found says, and one that did not
some_cond : (b : Bool) (i : ℕ) → is_some (cond b (Some i) None) ≡ b
some_cond true i = refl
some_cond false i = refl

pub is_found : (p : ℕ → Bool) (n : ℕ) {r : Option ℕ} → r ≡ found p n → is_some r ≡ ltb (lowest p n) n
unfolding if_below
is_found p n e = ap is_some e ∙ some_cond (ltb (lowest p n) n) (lowest p n)

pub found_at : (p : ℕ → Bool) (n : ℕ) {i : ℕ} → Some i ≡ found p n → (i ≡ lowest p n) × (i < n)
unfolding if_below
found_at p n {i} e =
    by_cases (dec_lt (lowest p n) n)
    (λ (l : lowest p n < n). let q : Some i ≡ Some (lowest p n) = e ∙ rw (lt-ltb _ _ l) in let s : i ≡ lowest p n = cc in (s, omega arith))
    (λ (m : ¬ (lowest p n < n)). let q : Some i ≡ None = e ∙ rw (le-ltb (lowest p n) n (omega arith)) in absurd (let z : ◌≡◌ {A = ℕ} 0 1 = cc in omega arith))

pub found_past : (p : ℕ → Bool) (n : ℕ) → None ≡ found p n → n ≤ lowest p n
unfolding if_below
found_past p n e =
    by_cases (dec_lt (lowest p n) n)
    (λ (l : lowest p n < n). let q : Some (lowest p n) ≡ None = sym (e ∙ rw (lt-ltb _ _ l)) in absurd (let z : ◌≡◌ {A = ℕ} 0 1 = cc in omega arith))
    (λ (m : ¬ (lowest p n < n)). omega arith)
