-- The rows for several lanes at once: a row from its operands, and all rows one after the other.
use Rattle.std.proofs.Common.{◌≡◌, ℕ, suc, ◌+◌, ◌*◌, ◌<◌, ◌≤◌, true, false, cond, ltb, ◌≢◌, List, length, get_or, set, replicate, sym, refl, ap, ◌∙◌, subst, ap₂, ⊎_elim, mul-le-mul_right, suc-mul, mul-le-mul, add-one, arith, length-set, get_or-set_other, get_or-set_same, ltb-true}
use mathlib.Core.Logic.{by_cases}
use native.Mathlib.Decide.{ℕ_discrete, dec_lt}
use lib.ListN.{get_or-replicate, get_or-eq_default, length-replicate}
use Rattle.relation.proofs.Rooms.{row_in}
use Rattle.relation.proofs.Truth.{split}
use Rattle.warps.specs.Language.{Mem, eval}
use Rattle.kernels.specs.Limits.{most_expressions}
use Rattle.kernels.specs.Rows.{expr_kind, expr_x, expr_y}
use Rattle.values.specs.Expressions.{expr_at}
use Rattle.values.specs.Needs.{value_by, SameValue, strip_of, Ahead, Strips, StripDone, CanFill, RowDone, Zeroed, Valued}
use Rattle.values.proofs.Filling.{value_step, in_limit}

-- ---- a row

module _ {kind x held a b to : ℕ} {u : List ℕ} where
  pub strip_none : StripDone kind x held a b to 0 u u
  strip_none = record { long = refl; own = λ k h. absurd (omega arith); below = λ q h. refl; above = λ q h. refl }

  -- one lane more, by what its operands were
  pub strip_more : {k : ℕ} {v : List ℕ} → StripDone kind x held a b to k u v → to + k < length u → {r : ℕ} → r ≡ value_by kind x (get_or u (a + k) 0) (get_or u (b + k) 0) held k
      → StripDone kind x held a b to (k + 1) u (set v (to + k) r)
  strip_more {k} {v} D l {r} q =
      record {
        long = length-set v (to + k) r ∙ D.long;
        own =
            λ j m. by_cases (ℕ_discrete j k)
            (λ (o : j ≡ k). subst (λ (j : ℕ). get_or (set v (to + k) r) (to + j) 0 ≡ value_by kind x (get_or u (a + j) 0) (get_or u (b + j) 0) held j) (sym o) (get_or-set_same v (to + k) r 0 (omega (arith, D.long)) ∙ q))
            (λ (o : j ≢ k). get_or-set_other v (to + k) (to + j) r 0 (λ w. o (omega arith)) ∙ D.own j (omega arith));
        below = λ p m. get_or-set_other v (to + k) p r 0 (λ w. omega arith) ∙ D.below p m;
        above = λ p m. get_or-set_other v (to + k) p r 0 (λ w. omega arith) ∙ D.above p (omega arith);
      }

  -- by what they are now: what the row has not yet written is as it was
  pub pair_more : {k n : ℕ} {v : List ℕ} → StripDone kind x held a b to k u v → Strips u a b to n → k < n → {r : ℕ} → r ≡ value_by kind x (get_or v (a + k) 0) (get_or v (b + k) 0) held k
      → StripDone kind x held a b to (k + 1) u (set v (to + k) r)
  pair_more {k} {n} {v} D S l q = strip_more D (omega (arith, S.inside)) (q ∙ ap₂ (λ (y z : ℕ). value_by kind x y z held k) (unread a S.left) (unread b S.right))
    where
      unread : (o : ℕ) → Ahead o to n → get_or v (o + k) 0 ≡ get_or u (o + k) 0
      unread o A = by_cases (dec_lt o to) (λ (h : o < to). D.below (o + k) (omega (arith, A.1 h))) (λ (h : ¬ (o < to)). D.above (o + k) (omega (arith, A.0)))

  pub strip_all : {k n : ℕ} {v : List ℕ} → k ≡ n → StripDone kind x held a b to k u v → StripDone kind x held a b to n u v
  strip_all {v = v} e D = subst (λ (j : ℕ). StripDone kind x held a b to j u v) e D

-- ---- where rows stand

-- a row's values lie before those of later rows
pub strip_before : (n j i : ℕ) → j < i → j * n + n ≤ i * n
strip_before n j i h = row_in (i * n) n i j (omega arith) h

next_strip : (n i : ℕ) → (i + 1) * n ≡ i * n + n
next_strip n i = ap (λ (j : ℕ). j * n) (add-one i) ∙ suc-mul i n

room_for : {v : List ℕ} {i n : ℕ} → CanFill v i n → i * n + n ≤ length v
room_for {v} {i} {n} C = subst (λ (m : ℕ). m ≤ length v) (next_strip n i) C.room

-- room for a row is room for those before it
pub can_fill : {u v : List ℕ} {root i n : ℕ} → CanFill u root n → length v ≡ length u → i ≤ root → CanFill v i n
can_fill {root = root} {i = i} {n = n} C e l =
    record { room = omega (arith, C.room, mul-le-mul_right {m = i + 1} {n = root + 1} n (omega arith)); few = omega (arith, C.few); narrow = C.narrow }

-- an operand lies ahead of its row
ahead : (n x i : ℕ) → Ahead (strip_of n x i) (i * n) n
ahead n x i =
    ⊎_elim (λ (b : ltb x i ≡ true). let l = strip_before n x i (ltb-true x i b) in rw b (omega arith, λ h. l))
    (λ (b : ltb x i ≡ false). rw b (omega arith, λ h. absurd (omega arith))) (split (ltb x i))

pub strips : {v : List ℕ} {i n : ℕ} → CanFill v i n → (x y : ℕ) {a b : ℕ} → a ≡ strip_of n x i → b ≡ strip_of n y i → Strips v a b (i * n) n
strips {i = i} {n = n} C x y ea eb = record { left = rw ea (ahead n x i); right = rw eb (ahead n y i); inside = room_for C }

-- a row of the table, as the code comes to it
kind_done : {k l x held a b to n : ℕ} {u v : List ℕ} → SameValue k l → StripDone k x held a b to n u v → StripDone l x held a b to n u v
kind_done q D = record { long = D.long; own = λ j l. D.own j l ∙ q.same _ _ _ _ _; below = D.below; above = D.above }

module _ (e : List ℕ) (i n : ℕ) (μ : Mem) {u v : List ℕ} {kind x : ℕ} (ek : SameValue kind (expr_kind e i)) (ex : x ≡ expr_x e i) where
  pub leaf_row : {held : ℕ} → held ≡ get_or μ x 0 → ((a b : ℕ) → StripDone kind x held a b (i * n) n u v) → RowDone e i n μ u v
  leaf_row eh D = rw (← ex, ← eh) (kind_done ek (D _ _))

  pub pair_row : {y a b : ℕ} → y ≡ expr_y e i → a ≡ strip_of n x i → b ≡ strip_of n y i → ((x held : ℕ) → StripDone kind x held a b (i * n) n u v) → RowDone e i n μ u v
  pair_row ey ea eb D = rw (← ex, ← ey, ← ea, ← eb) (kind_done ek (D _ _))

-- ---- all rows

-- a new room is empty; the largest has place for every row and lane
zeros : (n : ℕ) → Zeroed (replicate n 0)
zeros n q =
    by_cases (dec_lt q n) (λ (h : q < n). get_or-replicate {A = ℕ} n q 0 0 h) (λ (h : ¬ (q < n)). get_or-eq_default (replicate n 0) 0 (omega (arith, length-replicate {A = ℕ} n 0)))

pub new_room : (size root n : ℕ) → (root + 1) * n ≤ size → root < most_expressions → n ≤ 32 → Zeroed (replicate size 0) × CanFill (replicate size 0) root n
new_room size root n h l m = (zeros size, record { room = omega (arith, length-replicate {A = ℕ} size 0); few = l; narrow = m })

pub most_needed : (root n : ℕ) → root < most_expressions → n ≤ 32 → (root + 1) * n ≤ 8192
unfolding most_expressions
most_needed root n l m = mul-le-mul {n₁ = root + 1} {m₁ = n} {n₂ = 256} {m₂ = 32} (omega arith) m

module _ (e : List ℕ) (n : ℕ) (μ : Mem) where
  -- the rows below i have their values, and after them nothing stands
  pub record Laid (v : List ℕ) (i : ℕ) : Type 0 where
    pub past : (j k : ℕ) → j < i → k < n → get_or v (j * n + k) 0 ≡ eval (expr_at e (suc j) j) k μ
    pub rest : (q : ℕ) → i * n ≤ q → get_or v q 0 ≡ 0

  pub laid_none : (v : List ℕ) → Zeroed v → Laid v 0
  laid_none v z = record { past = λ j k h l. absurd (omega arith); rest = λ q l. z q }

  module _ (v : List ℕ) (i : ℕ) (L : Laid v i) where
    -- an operand that is no earlier row is 0, since nothing stands yet where it is looked for
    operand_at : (x k : ℕ) → get_or v (strip_of n x i + k) 0 ≡ cond (ltb x i) (get_or v (x * n + k) 0) 0
    operand_at x k = ⊎_elim (λ (b : ltb x i ≡ true). rw b) (λ (b : ltb x i ≡ false). rw b (L.rest (i * n + k) (omega arith))) (split (ltb x i))

    here : (k : ℕ) → k < n → value_by (expr_kind e i) (expr_x e i) (get_or v (strip_of n (expr_x e i) i + k) 0) (get_or v (strip_of n (expr_y e i) i + k) 0) (get_or μ (expr_x e i) 0) k ≡ eval (expr_at e (suc i) i) k μ
    here k m =
        ap₂ (λ (a b : ℕ). value_by (expr_kind e i) (expr_x e i) a b (get_or μ (expr_x e i) 0) k) (operand_at (expr_x e i) k) (operand_at (expr_y e i) k)
        ∙ value_step e i k μ (λ j. get_or v (j * n + k) 0) (λ j h. L.past j k h m)

    pub laid_more : (v' : List ℕ) → RowDone e i n μ v v' → Laid v' (i + 1)
    laid_more v' D =
        record {
          past =
              λ j k h m. by_cases (ℕ_discrete j i) (λ (q : j ≡ i). subst (λ (j : ℕ). get_or v' (j * n + k) 0 ≡ eval (expr_at e (suc j) j) k μ) (sym q) (D.own k m ∙ here k m))
              (λ (o : j ≢ i). D.below (j * n + k) (omega (arith, strip_before n j i (omega arith))) ∙ L.past j k (omega arith) m);
          rest = λ q h. let m : i * n + n ≤ q = rw (next_strip n i) at h in D.above q m ∙ L.rest q (omega arith);
        }

  pub laid_all : {v u : List ℕ} {root i : ℕ} → Laid v i → root < i → CanFill u root n → Valued e root n μ v
  laid_all {root = root} L l C k m = in_limit e root k μ _ C.few (L.past root k l m)
