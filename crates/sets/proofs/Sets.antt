-- Laws of sets of threads: who is in none, who is there when one is put in or taken out, and which is the lowest. Assumes nothing.
use mathlib.Core.Path.{◌≡◌, refl, sym, ap, ◌∙◌}
use mathlib.Core.Logic.{by_cases, ⊎_elim, ◌≢◌}
use mathlib.Core.Bool.{Bool, true, false, cond, ◌&&◌}
use Prim.Native.Nat.{ℕ, ◌+◌, ◌*◌, ◌%◌, ◌^◌, ◌≤◌, ◌<◌}
use native.Mathlib.Omega.{arith}
use native.Mathlib.Decide.{dec_lt}
use lib.Bits.{bit_and, bit_xor}
use lib.Count.{count_trailing_zeros}
use lib.Dec.{eqb, ltb}
use lib.ListN.{length, get_or, length-set, length-replicate}
use borrow.Author.Tests.{lt-ltb, le-ltb, ne_eqb}
use Rattle.relation.specs.Bits.{bit_of}
use Rattle.relation.proofs.Words.{except_bit, zero_bit}
use Rattle.relation.proofs.Truth.{split}
use Rattle.tables.specs.Limits.{most_threads}
use Rattle.tables.specs.Lowest.{lowest}
use Rattle.tables.proofs.Lowest.{lowest_first}
use Rattle.tables.proofs.Scans.{found_some, found_none}
use Rattle.std.proofs.Common.{Some, None}
use Rattle.sets.specs.declared.Set.{Set}
use Rattle.sets.specs.Words.{put_at}
use Rattle.sets.specs.Set.{set_words, has, none, put, has_but, lowest_but}
use Rattle.sets.proofs.Words.{member_none, member_put, member_at, trailing_lowest, trailing_some}

-- it has its number of words, as every set in code has
abbrev pub Sized : Set → Type 0
Sized s = length s.words ≡ set_words

no : (b : Bool) → b && false ≡ false
no true = refl
no false = refl

pub has_none : (t : ℕ) → has none t ≡ false
unfolding has none
has_none t = rw (member_none set_words t) (no (ltb t most_threads))

pub sized_none : Sized none
unfolding none
sized_none = length-replicate {A = ℕ} set_words 0

pub sized_put : (s : Set) → Sized s → (t : ℕ) (on : Bool) → Sized (put s t on)
unfolding put put_at
sized_put s z t on =
    ⊎_elim (λ (e : ltb t most_threads ≡ true). rw e (length-set s.words _ _ ∙ z)) (λ (e : ltb t most_threads ≡ false). rw e z) (split (ltb t most_threads))

-- t is in it, or not, and the others as before
pub has_put : (s : Set) → Sized s → (t u : ℕ) (on : Bool) → t < most_threads → has (put s t on) u ≡ cond (eqb u t) on (has s u)
unfolding has put most_threads set_words
has_put s z t u on h =
    rw (lt-ltb t most_threads h)
    (by_cases (dec_lt u most_threads)
    (λ (l : u < most_threads). rw (lt-ltb u most_threads l) (member_put s.words t u on (omega arith)))
    (λ (l : ¬ (u < most_threads)). rw (le-ltb u most_threads (omega arith), ne_eqb u t (omega arith))))

pub put_past : (s : Set) (t : ℕ) (on : Bool) → most_threads ≤ t → put s t on ≡ s
unfolding put
put_past s t on l = rw (le-ltb t most_threads l)

-- ---- the lowest that is in one and not in another, word by word

module _ (a b : Set) where
  -- what is left of word i
  abbrev pub left_of : ℕ → ℕ
  left_of i = bit_xor (get_or a.words i 0) (bit_and (get_or a.words i 0) (get_or b.words i 0))

  but_bit : (i k : ℕ) → k < 64 → i < set_words → has_but a b (i * 64 + k) ≡ bit_of (left_of i) k
  unfolding has most_threads set_words
  but_bit i k h l =
      rw (lt-ltb (i * 64 + k) most_threads (omega arith), member_at a.words i k h, member_at b.words i k h)
      (sym (except_bit (get_or a.words i 0) (get_or b.words i 0) k))

  -- no thread of the words below i
  pub record Passed (i : ℕ) : Type 0 where
    pub within : i ≤ set_words
    pub none_so_far : (t : ℕ) → t < i * 64 → has_but a b t ≡ false

  pub passed_none : Passed 0
  passed_none = record { within = omega arith; none_so_far = λ t l. absurd (omega arith) }

  pub passed_more : {i : ℕ} → Passed i → i < set_words → left_of i ≡ 0 → Passed (i + 1)
  passed_more {i} P l e =
      record {
        within = omega arith;
        none_so_far =
            λ t h.
            by_cases (dec_lt t (i * 64)) (λ (m : t < i * 64). P.none_so_far t m)
            (λ (m : ¬ (t < i * 64)).
            let is : i * 64 + t % 64 ≡ t = omega arith in
            let small : t % 64 < 64 = omega arith in
            ap (has_but a b) (sym is) ∙ but_bit i (t % 64) small l ∙ ap (λ (w : ℕ). bit_of w (t % 64)) e ∙ zero_bit (t % 64));
      }

  pub passed_all : {i : ℕ} → Passed i → set_words ≤ i → None ≡ lowest_but a b
  unfolding most_threads set_words
  passed_all P l =
      found_none (has_but a b) {i = most_threads} (record { within = omega arith; none = λ k m. P.none_so_far k (omega arith) }) (omega arith)

  pub passed_found : {i w : ℕ} → Passed i → i < set_words → w ≡ left_of i → w < 2 ^ 64 → w ≢ 0 → Some (i * 64 + count_trailing_zeros 64 w) ≡ lowest_but a b
  unfolding most_threads set_words
  passed_found {i} {w} P l e small n =
      let k = count_trailing_zeros 64 w in
      let h : k < 64 = trailing_some 64 w small n in
      let L = lowest_first (bit_of (left_of i)) 64 in
      let is : k ≡ lowest (bit_of (left_of i)) 64 = ap (count_trailing_zeros 64) e ∙ trailing_lowest 64 (left_of i) in
      found_some (has_but a b)
      (record {
        within = omega arith;
        none =
            λ t m.
            by_cases (dec_lt t (i * 64)) (λ (n : t < i * 64). P.none_so_far t n)
            (λ (n : ¬ (t < i * 64)).
            let at : i * 64 + t % 64 ≡ t = omega arith in
            let small : t % 64 < k = omega arith in
            ap (has_but a b) (sym at) ∙ but_bit i (t % 64) (omega arith) l ∙ L.below (t % 64) (omega arith));
      })
      (omega arith)
      (but_bit i k h l ∙ ap (bit_of (left_of i)) is ∙ L.passes (omega arith))
