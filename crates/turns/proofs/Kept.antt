-- The sets that a schedule writer keeps: they are gathered thread by thread, and say of each thread what the lists say. Assumes nothing.
use mathlib.Core.Path.{◌≡◌, refl, sym, ap, ap₂, subst, ◌∙◌}
use mathlib.Core.Bool.{Bool, true, false, not, ◌&&◌}
use mathlib.Core.List.{List}
use mathlib.Core.Logic.{by_cases, ⊎_elim, ◌≢◌}
use Prim.Native.Nat.{ℕ, zero, suc, ◌+◌, ◌≤◌, ◌<◌}
use native.Mathlib.Decide.{dec_lt, ℕ_discrete}
use native.Mathlib.Numerals.{add-one}
use native.Mathlib.Omega.{arith}
use lib.Dec.{eqb, ltb}
use lib.ListN.{length, get_or, set}
use lib.Seq.{get_or-set_same, get_or-set_other}
use borrow.Author.Tests.{lt-ltb, le-ltb, eq-eqb, ne_eqb}
use Rattle.relation.proofs.Truth.{split, clashing}
use Rattle.tables.specs.Limits.{most_threads}
use Rattle.tables.specs.Lowest.{lowest}
use Rattle.tables.specs.Rows.{first_row}
use Rattle.tables.proofs.Lowest.{lowest_first, lowest_is}
use Rattle.sets.specs.declared.Set.{Set}
use Rattle.sets.specs.Set.{has, none, put, has_but}
use Rattle.sets.proofs.Sets.{Sized, has_none, has_put, put_past, sized_none, sized_put}
use Rattle.turns.specs.declared.ready.Ready.{Ready}
use Rattle.turns.specs.Turns.{held, settled, has_any_left, may_step, does_go_first, lowest_or}
use Rattle.turns.specs.Ready.{none_ready, looked, held_below, held_after}
use Rattle.turns.proofs.Turns.{left_past, left_so, released_nobody}

below_other : (t n : ℕ) → t ≢ n → ltb t (suc n) ≡ ltb t n
below_other t n q =
    by_cases (dec_lt t n) (λ (l : t < n). rw (lt-ltb t n l) (lt-ltb t (suc n) (omega arith)))
    (λ (l : ¬ (t < n)). rw (le-ltb t n (omega arith)) (le-ltb t (suc n) (omega arith)))

-- ---- who is blocked

module _ (waits : List ℕ) where
  pub held_none : {s : Set} → s ≡ none → s ≡ held_below waits 0
  unfolding held_below
  held_none e = e

  pub held_more : (t : ℕ) {s r : Set} {b : Bool} → s ≡ held_below waits t → b ≡ held waits t → r ≡ put s t b → r ≡ held_below waits (t + 1)
  unfolding held_below
  held_more t e f g = rw add-one (g ∙ ap₂ (λ (s : Set) (b : Bool). put s t b) e f)

  pub held_all : {t n : ℕ} {s : Set} → s ≡ held_below waits t → t ≤ n → n ≤ t → s ≡ held_below waits n
  held_all {t} {n} e l m = let q : t ≡ n = omega arith in e ∙ ap (held_below waits) q

  sized_held : (n : ℕ) → Sized (held_below waits n)
  unfolding held_below
  sized_held zero = sized_none
  sized_held (suc n) = sized_put (held_below waits n) (sized_held n) n (held waits n)

  held_past : (t : ℕ) → most_threads ≤ t → held waits t ≡ false
  unfolding held
  held_past t l = rw (le-ltb t most_threads l)

  has_held : (n t : ℕ) → has (held_below waits n) t ≡ ltb t n && held waits t
  unfolding held_below
  has_held zero t = has_none t ∙ rw (le-ltb t 0 (omega arith))
  has_held (suc n) t =
      by_cases (dec_lt n most_threads)
      (λ (l : n < most_threads).
      has_put (held_below waits n) (sized_held n) n t (held waits n) l
      ∙ by_cases (ℕ_discrete t n) (λ (e : t ≡ n). rw (eq-eqb t n e, lt-ltb t (suc n) (omega arith)) (ap (held waits) (sym e)))
      (λ (d : t ≢ n). rw (ne_eqb t n d, has_held n t, below_other t n d)))
      (λ (l : ¬ (n < most_threads)).
      ap (λ (s : Set). has s t) (put_past (held_below waits n) n (held waits n) (omega arith)) ∙ has_held n t
      ∙ by_cases (ℕ_discrete t n) (λ (e : t ≡ n). rw (le-ltb t n (omega arith), lt-ltb t (suc n) (omega arith)) (sym (held_past t (omega arith))))
      (λ (d : t ≢ n). rw (below_other t n d)))

  has_held_so : (n t : ℕ) → t < n → has (held_below waits n) t ≡ held waits t
  has_held_so n t l = has_held n t ∙ rw (lt-ltb t n l)

-- ---- all three sets

-- They say of each thread what the lists say.
pub record Kept (lengths : List ℕ) (early : List Bool) (next waits : List ℕ) (r : Ready) (blocked : Set) : Type 0 where
  pub sized_left : Sized r.left
  pub sized_first : Sized r.first
  pub sized_blocked : Sized blocked
  pub left : (t : ℕ) → has r.left t ≡ has_any_left lengths t (get_or next t 0)
  pub first : (t : ℕ) → has r.first t ≡ has_any_left lengths t (get_or next t 0) && does_go_first early (first_row lengths t + get_or next t 0)
  pub blocked_so : (t : ℕ) → t < length lengths → has blocked t ≡ held waits t

module _ (lengths : List ℕ) (early : List Bool) where
  left_past' : (t n : ℕ) → most_threads ≤ t → has_any_left lengths t n ≡ false
  left_past' t n l = sym (left_past lengths t n l)

  -- the threads below k have been looked at
  pub record LookedBelow (next : List ℕ) (r : Ready) (k : ℕ) : Type 0 where
    pub few : k ≤ most_threads
    pub sized_left : Sized r.left
    pub sized_first : Sized r.first
    pub left : (t : ℕ) → has r.left t ≡ ltb t k && has_any_left lengths t (get_or next t 0)
    pub first : (t : ℕ) → has r.first t ≡ ltb t k && (has_any_left lengths t (get_or next t 0) && does_go_first early (first_row lengths t + get_or next t 0))

  pub looked_none : (next : List ℕ) {r : Ready} → r ≡ none_ready → LookedBelow next r 0
  looked_none next e =
      rw e (record {
        few = omega arith;
        sized_left = sized_none;
        sized_first = sized_none;
        left = λ t. has_none t ∙ rw (le-ltb t 0 (omega arith));
        first = λ t. has_none t ∙ rw (le-ltb t 0 (omega arith));
      })

  -- a set that said p of the threads below k says it of k, too
  more_said : (s : Set) (p : ℕ → Bool) (k : ℕ) {b : Bool} → Sized s → k < most_threads → ((t : ℕ) → has s t ≡ ltb t k && p t) → b ≡ p k
      → (t : ℕ) → has (put s k b) t ≡ ltb t (k + 1) && p t
  more_said s p k {b} z l h e t =
      has_put s z k t b l
      ∙ by_cases (ℕ_discrete t k) (λ (q : t ≡ k). rw (eq-eqb t k q, add-one, lt-ltb t (suc k) (omega arith)) (e ∙ ap p (sym q)))
      (λ (d : t ≢ k). rw (ne_eqb t k d, add-one, h t, below_other t k d))

  pub looked_more : (next : List ℕ) (r : Ready) (k n x : ℕ) → LookedBelow next r k → k < most_threads → n ≡ get_or next k 0 → x ≡ first_row lengths k + n
      → LookedBelow next (looked lengths early r k n x) (k + 1)
  unfolding looked
  looked_more next r k n x L l e f =
      record {
        few = omega arith;
        sized_left = sized_put r.left L.sized_left k _;
        sized_first = sized_put r.first L.sized_first k _;
        left = more_said r.left (λ t. has_any_left lengths t (get_or next t 0)) k L.sized_left l L.left (rw e);
        first =
            more_said r.first (λ t. has_any_left lengths t (get_or next t 0) && does_go_first early (first_row lengths t + get_or next t 0)) k L.sized_first l L.first
            (rw (f, e));
      }

  pub looked_all : {next : List ℕ} {r : Ready} {k : ℕ} → LookedBelow next r k → most_threads ≤ k → LookedBelow next r most_threads
  looked_all {next} {r} L l = subst (LookedBelow next r) (omega (arith, L.few)) L

  all_said : (p : ℕ → Bool) (t : ℕ) → (most_threads ≤ t → p t ≡ false) → ltb t most_threads && p t ≡ p t
  all_said p t past =
      by_cases (dec_lt t most_threads) (λ (l : t < most_threads). rw (lt-ltb t most_threads l))
      (λ (l : ¬ (t < most_threads)). rw (le-ltb t most_threads (omega arith), past (omega arith)))

  pub kept_start : (next waits : List ℕ) (r : Ready) {blocked : Set} → LookedBelow next r most_threads → blocked ≡ held_below waits (length lengths) → Kept lengths early next waits r blocked
  kept_start next waits r L e =
      record {
        sized_left = L.sized_left;
        sized_first = L.sized_first;
        sized_blocked = rw e (sized_held waits (length lengths));
        left = λ t. L.left t ∙ all_said (λ u. has_any_left lengths u (get_or next u 0)) t (left_past' t (get_or next t 0));
        first =
            λ t. L.first t
            ∙ all_said (λ u. has_any_left lengths u (get_or next u 0) && does_go_first early (first_row lengths u + get_or next u 0)) t (λ l. rw (left_past' t (get_or next t 0) l));
        blocked_so = λ t l. ap (λ (s : Set). has s t) e ∙ has_held_so waits (length lengths) t l;
      }

  -- ---- a thread steps

  module _ {next waits : List ℕ} {r : Ready} {blocked : Set} (K : Kept lengths early next waits r blocked) (t : ℕ) (thread : t < most_threads) where
    -- a set that said p of u says p', which differs from p at t alone, where it is told anew of t
    said_anew : (s : Set) (p p' : ℕ → Bool) {b : Bool} → Sized s → b ≡ p' t → ((u : ℕ) → u ≢ t → p u ≡ p' u) → (u : ℕ) → has s u ≡ p u → has (put s t b) u ≡ p' u
    said_anew s p p' {b} z e f u h =
        has_put s z t u b thread
        ∙ by_cases (ℕ_discrete u t) (λ (q : u ≡ t). rw (eq-eqb u t q) (e ∙ ap p' (sym q))) (λ (d : u ≢ t). rw (ne_eqb u t d) (h ∙ f u d))

    module _ (wait frees : ℕ) (there : t < length waits) where
      -- where nobody is released, t alone waits anew
      waits_anew : {now : List ℕ} → now ≡ settled t wait frees waits → frees ≡ 0 → (u : ℕ) → u < length lengths → has (put blocked t (not (eqb wait 0))) u ≡ held now u
      unfolding held
      waits_anew {now} e z u l =
          let is : now ≡ set waits t wait = rw z at e ∙ released_nobody (set waits t wait) in
          said_anew blocked (held waits) (held now) K.sized_blocked (sym (rw (is, get_or-set_same waits t wait 0 there, lt-ltb t most_threads thread)))
          (λ v d. rw (is, get_or-set_other waits t v wait 0 d)) u (K.blocked_so u l)

      blocked_anew : {now : List ℕ} → now ≡ settled t wait frees waits → (u : ℕ) → u < length lengths → has (held_after now (length lengths) t wait frees blocked) u ≡ held now u
      blocked_anew {now} e u l =
          by_cases (ℕ_discrete frees 0) (λ (z : frees ≡ 0). rw (eq-eqb frees 0 z) (waits_anew e z u l))
          (λ (n : frees ≢ 0). rw (ne_eqb frees 0 n) (has_held_so now (length lengths) u l))

      sized_anew : (now : List ℕ) → Sized (held_after now (length lengths) t wait frees blocked)
      sized_anew now =
          by_cases (ℕ_discrete frees 0) (λ (z : frees ≡ 0). rw (eq-eqb frees 0 z) (sized_put blocked K.sized_blocked t _))
          (λ (n : frees ≢ 0). rw (ne_eqb frees 0 n) (sized_held now (length lengths)))

      pub kept_more : {now : List ℕ} (n x : ℕ) → t < length next → now ≡ settled t wait frees waits → x ≡ first_row lengths t + n
          → Kept lengths early (set next t n) now (looked lengths early r t n x) (held_after now (length lengths) t wait frees blocked)
      unfolding looked
      kept_more {now} n x l e f =
          let own : get_or (set next t n) t 0 ≡ n = get_or-set_same next t n 0 l in
          let other : (u : ℕ) → u ≢ t → get_or (set next t n) u 0 ≡ get_or next u 0 = λ u d. get_or-set_other next t u n 0 d in
          record {
            sized_left = sized_put r.left K.sized_left t _;
            sized_first = sized_put r.first K.sized_first t _;
            sized_blocked = sized_anew now;
            left =
                λ u. said_anew r.left (λ v. has_any_left lengths v (get_or next v 0)) (λ v. has_any_left lengths v (get_or (set next t n) v 0)) K.sized_left (rw own)
                (λ v d. rw (other v d)) u (K.left u);
            first =
                λ u. said_anew r.first (λ v. has_any_left lengths v (get_or next v 0) && does_go_first early (first_row lengths v + get_or next v 0))
                (λ v. has_any_left lengths v (get_or (set next t n) v 0) && does_go_first early (first_row lengths v + get_or (set next t n) v 0)) K.sized_first (rw (own, f))
                (λ v d. rw (other v d)) u (K.first u);
            blocked_so = blocked_anew e;
          }

  -- ---- who steps

  module _ {next waits : List ℕ} {r : Ready} {blocked : Set} (K : Kept lengths early next waits r blocked) where
    -- the next command of thread t goes first
    abbrev first_of : ℕ → Bool
    first_of t = does_go_first early (first_row lengths t + get_or next t 0)

    free_so : (t : ℕ) → t < most_threads → not (held waits t) ≡ eqb (get_or waits t 0) 0
    unfolding held
    free_so t l = rw (lt-ltb t most_threads l) (twice (eqb (get_or waits t 0) 0))
      where
        twice : (b : Bool) → not (not b) ≡ b
        twice true = refl
        twice false = refl

    pub but_left : (t : ℕ) → has_but r.left blocked t ≡ may_step lengths next waits t
    unfolding may_step
    but_left t =
        rw (K.left t)
        (⊎_elim
        (λ (e : has_any_left lengths t (get_or next t 0) ≡ true).
        let L = left_so lengths t (get_or next t 0) e in
        rw (e, K.blocked_so t L.there) (free_so t L.thread))
        (λ (e : has_any_left lengths t (get_or next t 0) ≡ false). rw e)
        (split (has_any_left lengths t (get_or next t 0))))

    exchanged : (a b c : Bool) → (a && b) && c ≡ (a && c) && b
    exchanged true true true = refl
    exchanged true true false = refl
    exchanged true false true = refl
    exchanged true false false = refl
    exchanged false b c = refl

    pub but_first : (t : ℕ) → has_but r.first blocked t ≡ may_step lengths next waits t && does_go_first early (first_row lengths t + get_or next t 0)
    but_first t =
        ap (λ (b : Bool). b && not (has blocked t)) (K.first t)
        ∙ exchanged (has_any_left lengths t (get_or next t 0)) (first_of t) (not (has blocked t))
        ∙ ap (λ (b : Bool). b && first_of t) (ap (λ (b : Bool). b && not (has blocked t)) (sym (K.left t)) ∙ but_left t)

-- ---- the lowest that passes, with another bound

module _ {p q : ℕ → Bool} (same : (t : ℕ) → p t ≡ q t) {m n : ℕ} (in_both : (t : ℕ) → q t ≡ true → (t < m) × (t < n)) where
  pub lowest_bound : lowest p m < m → lowest p m ≡ lowest q n
  lowest_bound l =
      let L = lowest_first p m in
      let passes : q (lowest p m) ≡ true = sym (same (lowest p m)) ∙ L.passes l in
      let h = in_both (lowest p m) passes in
      sym (lowest_is q (record { at_most = omega (arith, h.1); passes = λ _. passes; below = λ k b. sym (same k) ∙ L.below k b }))

  pub lowest_none : m ≤ lowest p m → n ≤ lowest q n
  lowest_none l =
      let L = lowest_first p m in
      let M = lowest_first q n in
      by_cases (dec_lt (lowest q n) n)
      (λ (b : lowest q n < n).
      let passes : q (lowest q n) ≡ true = M.passes b in
      let h = in_both (lowest q n) passes in
      clashing passes (sym (same (lowest q n)) ∙ L.below (lowest q n) (omega (arith, h.0, L.at_most))))
      (λ (b : ¬ (lowest q n < n)). omega arith)

module _ {p p' q q' : ℕ → Bool} (ps : (t : ℕ) → p t ≡ p' t) (qs : (t : ℕ) → q t ≡ q' t) {m n : ℕ} (in_p : (t : ℕ) → p' t ≡ true → (t < m) × (t < n))
    (in_q : (t : ℕ) → q' t ≡ true → (t < m) × (t < n)) where
  pub or_bound : lowest_or p q m < m → lowest_or p q m ≡ lowest_or p' q' n
  or_bound l =
      by_cases (dec_lt (lowest p m) m)
      (λ (a : lowest p m < m).
      let e = lowest_bound ps in_p a in
      let h = in_p (lowest p' n) (ap p' (sym e) ∙ sym (ps (lowest p m)) ∙ (lowest_first p m).passes a) in
      rw (lt-ltb (lowest p m) m a, lt-ltb (lowest p' n) n h.1) e)
      (λ (a : ¬ (lowest p m < m)).
      rw (le-ltb (lowest p m) m (omega arith), le-ltb (lowest p' n) n (lowest_none ps in_p (omega arith)))
      (lowest_bound qs in_q (rw (le-ltb (lowest p m) m (omega arith)) at l)))

  pub or_there : lowest_or p q m < m → ltb (lowest_or p' q' n) n ≡ true
  or_there l =
      let e = or_bound l in
      by_cases (dec_lt (lowest p m) m)
      (λ (a : lowest p m < m).
      let f : lowest_or p q m ≡ lowest p m = rw (lt-ltb (lowest p m) m a) in
      let h = in_p (lowest p m) (sym (ps (lowest p m)) ∙ (lowest_first p m).passes a) in
      lt-ltb (lowest_or p' q' n) n (omega (arith, e, f, h.1)))
      (λ (a : ¬ (lowest p m < m)).
      let f : lowest_or p q m ≡ lowest q m = rw (le-ltb (lowest p m) m (omega arith)) in
      let h = in_q (lowest q m) (sym (qs (lowest q m)) ∙ (lowest_first q m).passes (omega arith)) in
      lt-ltb (lowest_or p' q' n) n (omega (arith, e, f, h.1)))

  pub or_bound_none : m ≤ lowest_or p q m → n ≤ lowest_or p' q' n
  or_bound_none l =
      by_cases (dec_lt (lowest p m) m) (λ (a : lowest p m < m). absurd (let z : m ≤ lowest p m = rw (lt-ltb (lowest p m) m a) at l in omega arith))
      (λ (a : ¬ (lowest p m < m)).
      rw (le-ltb (lowest p' n) n (lowest_none ps in_p (omega arith))) (lowest_none qs in_q (rw (le-ltb (lowest p m) m (omega arith)) at l)))
