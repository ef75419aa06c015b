-- Laws of the stack in its room. Assumes nothing.
use mathlib.Core.Path.{◌≡◌, refl, sym, ap, ap₂, ◌∙◌, subst}
use mathlib.Core.Logic.{by_cases, ◌≢◌}
use mathlib.Core.Bool.{cond}
use mathlib.Core.List.{List, [], ◌∷◌}
use Prim.Native.Nat.{ℕ, zero, suc, ◌+◌, ◌*◌, ◌-◌, ◌/◌, ◌%◌, ◌^◌, ◌≤◌, ◌<◌}
use native.Mathlib.Decide.{dec_lt}
use native.Mathlib.Numerals.{add-one}
use native.Mathlib.Omega.{arith}
use borrow.Author.Tests.{eq-eqb, ne_eqb, lt-ltb, le-ltb}
use lib.Dec.{eqb}
use lib.ListN.{get_or, length, set, length-set}
use lib.Seq.{get_or-set_same, get_or-set_other}
use Rattle.kernels.specs.Rows.{list_of}
use Rattle.machine.specs.declared.stack.Tower.{Tower}
use Rattle.machine.specs.Entries.{Entry, row, again, token, again_from, tokens_from, entry_of, stack_in, from_token, pile}
use Rattle.machine.specs.Needs.{entries, Stays, Holds}

pub held_long : (a : List ℕ) (n : ℕ) → length (stack_in a n) ≡ n
unfolding stack_in
held_long a zero = refl
held_long a (suc n) = ap suc (held_long a n)

pub held_none : (a : List ℕ) (n : ℕ) → n ≡ 0 → stack_in a n ≡ []
unfolding stack_in
held_none a n e = rw e

-- what stands above a height does not count
held_below : (a : List ℕ) (n k e : ℕ) → n ≤ k → stack_in (set a k e) n ≡ stack_in a n
unfolding stack_in
held_below a zero k e h = refl
held_below a (suc n) k e h = ap₂ ◌∷◌ (ap entry_of (get_or-set_other a k n e 0 (λ q. omega arith))) (held_below a n k e (omega arith))

pub held_push : (a : List ℕ) (n e : ℕ) → n < length a → stack_in (set a n e) (n + 1) ≡ entry_of e ∷ stack_in a n
unfolding stack_in
held_push a n e h = rw (add-one n) (ap₂ ◌∷◌ (ap entry_of (get_or-set_same a n e 0 h)) (held_below a n n e (omega arith)))

pub held_top : (a : List ℕ) (n : ℕ) → 0 < n → stack_in a n ≡ entry_of (get_or a (n - 1) 0) ∷ stack_in a (n - 1)
unfolding stack_in
held_top a zero h = absurd (omega arith)
held_top a (suc n) h = let e : suc n - 1 ≡ n = omega arith in rw e

-- ---- entries by their numbers
pub entry_row : (e : ℕ) → e < again_from → entry_of e ≡ row e
unfolding entry_of
entry_row e h = rw (lt-ltb e again_from h)

pub entry_again : (e : ℕ) → again_from ≤ e → e < tokens_from → entry_of e ≡ again (e - again_from)
unfolding entry_of
entry_again e l h = rw (le-ltb e again_from l, lt-ltb e tokens_from h)

pub entry_token : (e : ℕ) → tokens_from ≤ e → entry_of e ≡ token ((e - tokens_from) % 4) ((e - tokens_from) / 4 % 2 ^ 32)
unfolding entry_of
entry_token e h = rw (le-ltb e again_from (omega arith), le-ltb e tokens_from h)

pub token_number : (k m : ℕ) → k < 4 → m < 2 ^ 32 → entry_of (tokens_from + 4 * m + k) ≡ token k m
token_number k m h l = entry_token (tokens_from + 4 * m + k) (omega arith) ∙ ap₂ token (omega arith) (omega arith)

pub again_number : (i : ℕ) → i < 256 → entry_of (again_from + i) ≡ again i
again_number i h = entry_again (again_from + i) (omega arith) (omega arith) ∙ ap again (omega arith)

-- ---- dropping statements, from the top
module _ (a : List ℕ) (X : List Entry) (n : ℕ) (E : X ≡ from_token (stack_in a n)) where
  pub drop_row : 0 < n → get_or a (n - 1) 0 < tokens_from → X ≡ from_token (stack_in a (n - 1))
  unfolding from_token
  drop_row h l =
      by_cases (dec_lt (get_or a (n - 1) 0) again_from) (λ (q : get_or a (n - 1) 0 < again_from). E ∙ rw (held_top a n h, entry_row _ q))
      (λ (q : ¬ (get_or a (n - 1) 0 < again_from)). E ∙ rw (held_top a n h, entry_again _ (omega arith) l))

  pub drop_token : 0 < n → tokens_from ≤ get_or a (n - 1) 0 → stack_in a n ≡ X
  unfolding from_token
  drop_token h l = sym (E ∙ rw (held_top a n h, entry_token _ l))

  pub drop_none : n ≤ 0 → stack_in a n ≡ X
  unfolding from_token stack_in
  drop_none h = let z : n ≡ 0 = omega arith in sym (E ∙ rw z)

-- ---- piling the rows of a list, from the last on: row i is the next
module _ (s : List ℕ) (b n i : ℕ) (W : List Entry) (h : 0 < n) where
  pile_one : pile s n i b W ≡ cond (eqb (list_of s i) b) (row i ∷ pile s (n - 1) (suc i) b W) (pile s (n - 1) (suc i) b W)
  unfolding pile
  pile_one = let e : n ≡ suc (n - 1) = omega arith in subst (λ (k : ℕ). pile s k i b W ≡ cond (eqb (list_of s i) b) (row i ∷ pile s (n - 1) (suc i) b W) (pile s (n - 1) (suc i) b W)) (sym e) refl

-- n rows, of which those from i on are piled over what a stack was
pub record Piled (s : List ℕ) (b n : ℕ) (t u : Tower) (i : ℕ) : Type 0 where
  pub stays : Stays t u
  pub low : i ≤ n
  pub up : u.height + i ≤ t.height + n
  pub is : entries u ≡ pile s (n - i) i b (entries t)

module _ (s : List ℕ) (b n : ℕ) (t : Tower) where
  pub piled_start : Piled s b n t t n
  unfolding pile
  piled_start = record { stays = record { same = refl; long = refl }; low = omega arith; up = omega arith; is = let z : n - n ≡ 0 = omega arith in rw z refl }

  module _ (u : Tower) (i : ℕ) (P : Piled s b n t u i) (h : 0 < i) where
    here : entries u ≡ pile s (n - (i - 1) - 1) (suc (i - 1)) b (entries t)
    here =
        let shift : n - i ≡ n - (i - 1) - 1 = omega (arith, P.low) in
        let back : suc (i - 1) ≡ i = omega arith in
        P.is ∙ ap₂ (λ (k j : ℕ). pile s k j b (entries t)) shift (sym back)

    -- row i - 1 is stored on top
    pub piled_hit : n ≤ 256 → t.height + 256 ≤ length t.room.now → list_of s (i - 1) ≡ b → (v : Tower) → v.room.ghost_name ≡ u.room.ghost_name
        → v.room.now ≡ set u.room.now u.height (i - 1) → v.height ≡ u.height + 1 → Piled s b n t v (i - 1)
    piled_hit l m e v g q r =
        let w : i ≤ n = P.low in
        let o : u.height + i ≤ t.height + n = P.up in
        let k : length u.room.now ≡ length t.room.now = P.stays.long in
        record {
          stays = record { same = g ∙ P.stays.same; long = ap length q ∙ length-set u.room.now u.height (i - 1) ∙ k };
          low = omega arith;
          up = omega arith;
          is =
              ap₂ stack_in q r
              ∙ held_push u.room.now u.height (i - 1) (omega arith)
              ∙ ap₂ ◌∷◌ (entry_row (i - 1) (omega arith)) here
              ∙ sym (pile_one s b (n - (i - 1)) (i - 1) (entries t) (omega arith) ∙ rw (eq-eqb (list_of s (i - 1)) b e));
        }

    pub piled_miss : list_of s (i - 1) ≢ b → Piled s b n t u (i - 1)
    piled_miss e =
        let w : i ≤ n = P.low in
        let o : u.height + i ≤ t.height + n = P.up in
        record {
          stays = P.stays;
          low = omega arith;
          up = omega arith;
          is = here ∙ sym (pile_one s b (n - (i - 1)) (i - 1) (entries t) (omega arith) ∙ rw (ne_eqb (list_of s (i - 1)) b e));
        }

  pub piled_end : (u : Tower) (i : ℕ) → Piled s b n t u i → i ≤ 0 → n ≤ 256 → Holds t u 256 (pile s n 0 b (entries t))
  piled_end u i P h l =
      let z : i ≡ 0 = omega arith in
      let y : n - 0 ≡ n = omega arith in
      record { stays = P.stays; up = omega (arith, P.up); held = P.is ∙ rw (z, y) }
