-- Laws of sets as lists of words, over any number of words. Assumes nothing.
use mathlib.Core.Path.{◌≡◌, refl, sym, ap, ◌∙◌}
use mathlib.Core.Logic.{by_cases, ◌≢◌}
use mathlib.Core.Bool.{Bool, true, false, cond, ◌&&◌, ◌||◌}
use mathlib.Core.List.{List}
use Prim.Native.Nat.{ℕ, zero, suc, ◌+◌, ◌-◌, ◌*◌, ◌/◌, ◌%◌, ◌^◌, ◌≤◌, ◌<◌}
use native.Mathlib.Nat.{mod-lt}
use native.Mathlib.Omega.{arith}
use native.Mathlib.Decide.{dec_lt, ℕ_discrete}
use lib.Bits.{bit_and, bit_xor, and_comm, and_self, xor_add_and}
use lib.Count.{count_trailing_zeros}
use Rattle.std.proofs.lemmas.Nat.{and-not, and_assoc}
use lib.Dec.{lit<, eqb}
use lib.Pow.{pow_pos}
use lib.ListN.{get_or-eq_default, length, get_or, replicate, length-replicate, get_or-replicate}
use lib.Seq.{get_or-set_same, get_or-set_other}
use borrow.Author.Tests.{eq-eqb, ne_eqb}
use Rattle.relation.specs.Bits.{bit_of}
use Rattle.relation.proofs.Words.{or_bit, except_bit, zero_bit, bit_half, bit_zero, own_bit, other_bit, same_word}
use Rattle.tables.specs.Lowest.{lowest}
use Rattle.tables.proofs.Lowest.{Lowest, lowest_is}
use Rattle.sets.specs.Words.{in_words, put_bit, put_at}

-- ---- one word

or_clear : (b : Bool) → b || false ≡ b
or_clear true = refl
or_clear false = refl

or_sure : (b : Bool) → b || true ≡ true
or_sure true = refl
or_sure false = refl

and_clear : (b : Bool) → b && false ≡ false
and_clear true = refl
and_clear false = refl

and_sure : (b : Bool) → b && true ≡ b
and_sure true = refl
and_sure false = refl

put_own : (word k : ℕ) (on : Bool) → bit_of (put_bit word k on) k ≡ on
unfolding put_bit
put_own word k true = or_bit word (1 * 2 ^ k) k ∙ rw (own_bit k) (or_sure (bit_of word k))
put_own word k false = except_bit word (1 * 2 ^ k) k ∙ rw (own_bit k) (and_clear (bit_of word k))

put_beside : (word k j : ℕ) (on : Bool) → j ≢ k → bit_of (put_bit word k on) j ≡ bit_of word j
unfolding put_bit
put_beside word k j true n = or_bit word (1 * 2 ^ k) j ∙ rw (other_bit k j n) (or_clear (bit_of word j))
put_beside word k j false n = except_bit word (1 * 2 ^ k) j ∙ rw (other_bit k j n) (and_sure (bit_of word j))

-- a word without another's bits, as `&` and `!` have it: with and without them it is the word
pub except_is : (a b : ℕ) → a < 2 ^ 64 → b < 2 ^ 64 → bit_and a (2 ^ 64 - 1 - b) ≡ bit_xor a (bit_and a b)
except_is a b ha hb =
    let twice : bit_and a (bit_and a b) ≡ bit_and a b = sym (and_assoc b a a) ∙ ap (λ (x : ℕ). bit_and x b) (and_self a) in
    omega (arith, and-not 64 b a hb ha, and_comm a b, and_comm a (2 ^ 64 - 1 - b), xor_add_and a (bit_and a b), twice)

-- the zeros below the lowest bit of a word are its place
digit_two : (d : ℕ) → d < 2 → (d ≡ 0 → ⊥) → d ≡ 1
digit_two d h n = omega arith

trailing_first : (k w : ℕ) → Lowest (bit_of w) k (count_trailing_zeros k w)
unfolding count_trailing_zeros
trailing_first zero w = record { at_most = omega arith; passes = λ l. absurd (omega arith); below = λ j l. absurd (omega arith) }
trailing_first (suc k) w =
    by_cases (ℕ_discrete (w % 2) 0)
    (λ (e : w % 2 ≡ 0).
    let h = trailing_first k (w / 2) in
    rw e (record {
      at_most = omega (arith, h.at_most);
      passes = λ l. up (count_trailing_zeros k (w / 2)) ∙ h.passes (omega arith);
      below = λ j l. low e h.below j l;
    }))
    (λ (n : w % 2 ≢ 0).
    let e : w % 2 ≡ 1 = digit_two (w % 2) (mod-lt w (lit< tt)) n in
    rw e (record { at_most = omega arith; passes = λ _. bit_zero w ∙ rw e; below = λ j l. absurd (omega arith) }))
  where
    up : (j : ℕ) → bit_of w (suc j) ≡ bit_of (w / 2) j
    up j = let e : suc j ≡ 1 + j = omega arith in rw e (bit_half w j)

    low : w % 2 ≡ 0 → {t : ℕ} → ((j : ℕ) → j < t → bit_of (w / 2) j ≡ false) → (j : ℕ) → j < suc t → bit_of w j ≡ false
    low e h zero l = bit_zero w ∙ rw e
    low e h (suc j) l = up j ∙ h j (omega arith)

pub trailing_lowest : (k w : ℕ) → count_trailing_zeros k w ≡ lowest (bit_of w) k
trailing_lowest k w = sym (lowest_is (bit_of w) (trailing_first k w))

-- a word that is not 0 has a bit
pub trailing_some : (k w : ℕ) → w < 2 ^ k → w ≢ 0 → count_trailing_zeros k w < k
trailing_some k w h n =
    let L = trailing_first k w in
    by_cases (dec_lt (count_trailing_zeros k w) k) (λ (l : count_trailing_zeros k w < k). l)
    (λ (l : ¬ (count_trailing_zeros k w < k)). absurd (n (same_word k w 0 h (pow_pos k) (λ j m. L.below j (omega (arith, L.at_most)) ∙ sym (zero_bit j)))))

-- ---- a list of words

pub member_none : (n t : ℕ) → in_words (replicate n 0) t ≡ false
unfolding in_words
member_none n t =
    by_cases (dec_lt (t / 64) n) (λ (h : t / 64 < n). rw (get_or-replicate {A = ℕ} n (t / 64) 0 0 h) (zero_bit (t % 64)))
    (λ (h : ¬ (t / 64 < n)).
    let l : length (replicate {A = ℕ} n 0) ≤ t / 64 = omega (arith, length-replicate {A = ℕ} n 0) in
    rw (get_or-eq_default (replicate {A = ℕ} n 0) 0 l) (zero_bit (t % 64)))

-- t is in it, or not, and the others as before
pub member_put : (ws : List ℕ) (t u : ℕ) (on : Bool) → t < 64 * length ws → in_words (put_at ws t on) u ≡ cond (eqb u t) on (in_words ws u)
unfolding in_words put_at
member_put ws t u on h =
    let l : t / 64 < length ws = omega arith in
    let word = get_or ws (t / 64) 0 in
    by_cases (ℕ_discrete (u / 64) (t / 64))
    (λ (e : u / 64 ≡ t / 64).
    rw (e, get_or-set_same ws (t / 64) (put_bit word (t % 64) on) 0 l)
    (by_cases (ℕ_discrete (u % 64) (t % 64))
    (λ (q : u % 64 ≡ t % 64). let s : u ≡ t = omega arith in rw (q, eq-eqb u t s) (put_own word (t % 64) on))
    (λ (q : u % 64 ≢ t % 64). rw (ne_eqb u t (λ s. q (ap (λ (x : ℕ). x % 64) s))) (put_beside word (t % 64) (u % 64) on q))))
    (λ (d : u / 64 ≢ t / 64).
    rw (get_or-set_other ws (t / 64) (u / 64) (put_bit word (t % 64) on) 0 d, ne_eqb u t (λ s. d (ap (λ (x : ℕ). x / 64) s))))

-- bit k of word i
pub member_at : (ws : List ℕ) (i k : ℕ) → k < 64 → in_words ws (i * 64 + k) ≡ bit_of (get_or ws i 0) k
unfolding in_words
member_at ws i k h =
    let d : (i * 64 + k) / 64 ≡ i = omega arith in
    let m : (i * 64 + k) % 64 ≡ k = omega arith in
    rw (d, m)
