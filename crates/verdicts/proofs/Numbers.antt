-- Which meanings of a verdict's number follow from which, and which exclude each other: each law is tried on every number there is. Assumes nothing.
use mathlib.Core.Path.{◌≡◌, refl, sym, ap, ◌∙◌}
use mathlib.Core.Logic.{by_cases, ◌≢◌}
use mathlib.Core.Bool.{Bool, true, false, not, ◌&&◌, ◌||◌, and-eq-true_iff, true≢false}
use Prim.Native.Nat.{ℕ, zero, suc, ◌≤◌, ◌<◌}
use native.Mathlib.Decide.{ℕ_discrete, dec_lt}
use native.Mathlib.Omega.{arith}
use lib.Dec.{eqb, ltb}
use borrow.Author.Tests.{ne_eqb, ltb-true, not-true}
use Rattle.verdicts.specs.Numbers.{is_refusal, ends_unclean, is_ending, has_pairs, fills, is_verdict, is_complete, settles, disagrees, is_unread}

-- no verdict is so high
abbrev above : ℕ
above = 32

-- ---- laws by trying

tried : (ℕ → Bool) → ℕ → Bool
tried f zero = true
tried f (suc k) = f k && tried f k

tried_all : (f : ℕ → Bool) (k n : ℕ) → tried f k ≡ true → n < k → f n ≡ true
unfolding tried
tried_all f zero n e l = absurd (omega arith)
tried_all f (suc k) n e l =
    let (h, t) = (and-eq-true_iff (f k) (tried f k)).0 e in
    by_cases (ℕ_discrete n k) (λ (q : n ≡ k). rw q h) (λ (d : n ≢ k). tried_all f k n t (omega arith))

-- a number above all is none of them
high : (n : ℕ) → above ≤ n → (k : ℕ) → ltb k above ≡ true → eqb n k ≡ false
high n h k l = ne_eqb n k (λ e. omega (arith, ltb-true k above l))

or_right : (a b : Bool) → a ≡ false → a || b ≡ true → b ≡ true
or_right true b e h = absurd (true≢false e)
or_right false b e h = h

module _ (p q : ℕ → Bool) (low : (n : ℕ) → above ≤ n → p n ≡ false) where
  implies : tried (λ n. not (p n) || q n) above ≡ true → (n : ℕ) → p n ≡ true → q n ≡ true
  implies e n h =
      by_cases (dec_lt n above) (λ (l : n < above). or_right (not (p n)) (q n) (rw h) (tried_all (λ n. not (p n) || q n) above n e l))
      (λ (l : ¬ (n < above)). absurd (true≢false (sym h ∙ low n (omega arith))))

excludes : (p q : ℕ → Bool) → ((n : ℕ) → above ≤ n → p n ≡ false) → tried (λ n. not (p n) || not (q n)) above ≡ true → (n : ℕ) → p n ≡ true → q n ≡ false
excludes p q low e n h = not-true (q n) (implies p (λ n. not (q n)) low e n h)

-- ---- which fill the rooms

pub pairs_fill : (n : ℕ) → has_pairs n ≡ true → fills n ≡ true
unfolding tried
pairs_fill = implies has_pairs fills (λ n h. simp (high n h)) refl

pub settled_fills : (n : ℕ) → settles n ≡ true → fills n ≡ true
unfolding tried
settled_fills = implies settles fills (λ n h. simp (high n h)) refl

pub refusal_unfilled : (n : ℕ) → is_refusal n ≡ true → fills n ≡ false
unfolding tried
refusal_unfilled = excludes is_refusal fills (λ n h. simp (high n h)) refl

pub ending_unfilled : (n : ℕ) → is_ending n ≡ true → n ≢ 0 → fills n ≡ false
unfolding tried
ending_unfilled n h d =
    not-true (fills n) (or_right (eqb n 0) (not (fills n)) (ne_eqb n 0 d) (implies is_ending (λ n. eqb n 0 || not (fills n)) (λ n h. simp (high n h)) refl n h))

pub unread_unfilled : (n : ℕ) → is_unread n ≡ true → fills n ≡ false
unfolding tried
unread_unfilled = excludes is_unread fills (λ n h. simp (high n h)) refl

pub no_pairs : (n : ℕ) → has_pairs n ≡ false → (n ≢ 10) × (n ≢ 11)
no_pairs n f = ((λ e. true≢false (sym (ap has_pairs e) ∙ f)), λ e. true≢false (sym (ap has_pairs e) ∙ f))

-- ---- which are verdicts of a review

pub refusal_verdict : (n : ℕ) → is_refusal n ≡ true → is_verdict n ≡ true
unfolding tried
refusal_verdict = implies is_refusal is_verdict (λ n h. simp (high n h)) refl

pub ending_verdict : (n : ℕ) → is_ending n ≡ true → is_verdict n ≡ true
unfolding tried
ending_verdict = implies is_ending is_verdict (λ n h. simp (high n h)) refl

pub fills_verdict : (n : ℕ) → fills n ≡ true → is_verdict n ≡ true
unfolding tried
fills_verdict = implies fills is_verdict (λ n h. simp (high n h)) refl

-- a verdict has two digits at most
pub verdict_small : (n : ℕ) → is_verdict n ≡ true → n < 100
verdict_small n h =
    by_cases (dec_lt n above) (λ (l : n < above). omega arith)
    (λ (l : ¬ (n < above)). let m : above ≤ n = omega arith in absurd (true≢false (sym h ∙ simp (high n m))))

-- what is told of tables and rooms, and is not 0, is a refusal
pub few_refusal : (n : ℕ) → n ≤ 4 → n ≢ 0 → is_refusal n ≡ true
unfolding tried
few_refusal n l d = or_right (eqb n 0) (is_refusal n) (ne_eqb n 0 d) (tried_all (λ n. eqb n 0 || is_refusal n) 5 n refl (omega arith))

-- ---- which are of legal complete schedules

pub unclean_complete : (n : ℕ) → ends_unclean n ≡ true → is_complete n ≡ true
unfolding tried
unclean_complete = implies ends_unclean is_complete (λ n h. simp (high n h)) refl

pub fills_complete : (n : ℕ) → fills n ≡ true → is_complete n ≡ true
unfolding tried
fills_complete = implies fills is_complete (λ n h. simp (high n h)) refl

pub settles_complete : (n : ℕ) → settles n ≡ true → is_complete n ≡ true
unfolding tried
settles_complete = implies settles is_complete (λ n h. simp (high n h)) refl

pub disagrees_complete : (n : ℕ) → disagrees n ≡ true → is_complete n ≡ true
unfolding tried
disagrees_complete = implies disagrees is_complete (λ n h. simp (high n h)) refl

pub unread_incomplete : (n : ℕ) → is_unread n ≡ true → is_complete n ≡ false
unfolding tried
unread_incomplete = excludes is_unread is_complete (λ n h. simp (high n h)) refl

-- ---- agreement

pub disagrees_unsettled : (n : ℕ) → disagrees n ≡ true → settles n ≡ false
unfolding tried
disagrees_unsettled = excludes disagrees settles (λ n h. simp (high n h)) refl
