-- What the statements of passed tables are: one row for each body, called lists apart from bodies, and breaks in loops. Assumes nothing.
use mathlib.Core.Path.{◌≡◌, refl, sym, ap, ◌∙◌}
use mathlib.Core.Logic.{⊎_elim, by_cases}
use mathlib.Core.Bool.{true, false, ◌&&◌, ◌||◌}
use mathlib.Core.List.{List}
use Prim.Native.Nat.{ℕ, ◌+◌, ◌*◌, ◌%◌, ◌≤◌, ◌<◌}
use native.Mathlib.Decide.{dec_lt, ℕ_discrete}
use native.Mathlib.Omega.{arith}
use lib.Dec.{eqb, leb}
use lib.ListN.{length, get_or-eq_default}
use borrow.Author.Tests.{leb-false, eqb-true, eqb-false, not-false, ne_eqb}
use Rattle.relation.proofs.Truth.{clashing, both, either, neither}
use Rattle.tables.proofs.Lowest.{lowest_miss}
use Rattle.kernels.specs.Rows.{statements, list_of, kind_of, x_of, y_of, z_of, if_kind, while_kind, break_kind, call_kind, expressions}
use Rattle.kernels.specs.Refusals.{has_body, uses, uses_besides, has_owner, missing, is_used_elsewhere, list_inside, in_while, is_bad_body, is_bad_if, is_bad_while, is_bad_call, is_bad_statement, is_stray_break}
use Rattle.kernels.proofs.Passed.{Passed}

-- ---- a good statement, by its kind

module _ (s : List ℕ) (count i : ℕ) (g : is_bad_statement s count i ≡ false) where
  good_if_tests : kind_of s i ≡ if_kind → is_bad_if s count i (list_of s i) (x_of s i) (y_of s i) (z_of s i) ≡ false
  unfolding is_bad_statement
  good_if_tests k = rw k at g

  good_while_tests : kind_of s i ≡ while_kind → is_bad_while s count i (list_of s i) (x_of s i) (y_of s i) ≡ false
  unfolding is_bad_statement
  good_while_tests k = rw k at g

  good_call_tests : kind_of s i ≡ call_kind → is_bad_call s (x_of s i) ≡ false
  unfolding is_bad_statement
  good_call_tests k = rw k at g

  while_facts : is_bad_while s count i (list_of s i) (x_of s i) (y_of s i) ≡ false → (x_of s i < count) × (is_bad_body s i (y_of s i) ≡ false) × (list_inside s i (list_of s i) ≡ false)
  unfolding is_bad_while
  while_facts f =
      let (t₂, inside) = neither _ (list_inside s i (list_of s i)) f in
      let (x, y) = neither (leb count (x_of s i)) (is_bad_body s i (y_of s i)) t₂ in
      (leb-false _ _ x, y, inside)

  pub good_while : kind_of s i ≡ while_kind → (x_of s i < count) × (is_bad_body s i (y_of s i) ≡ false) × (list_inside s i (list_of s i) ≡ false)
  good_while k = while_facts (good_while_tests k)

  pub good_if : kind_of s i ≡ if_kind
      → (x_of s i < count) × ¬ (y_of s i ≡ z_of s i) × (is_bad_body s i (y_of s i) ≡ false) × (is_bad_body s i (z_of s i) ≡ false) × (list_inside s i (list_of s i) ≡ false)
  unfolding is_bad_if
  good_if k =
      let (t₂, z) = neither _ (is_bad_body s i (z_of s i)) (good_if_tests k) in
      let (t, apart) = neither (is_bad_while s count i (list_of s i) (x_of s i) (y_of s i)) (eqb (y_of s i) (z_of s i)) t₂ in
      let (x, y, inside) = while_facts t in
      (x, eqb-false _ _ apart, y, z, inside)

  pub good_call : kind_of s i ≡ call_kind → (missing s (x_of s i) ≡ false) × (has_owner s (x_of s i) ≡ false)
  unfolding is_bad_call
  good_call k = neither (missing s (x_of s i)) (has_owner s (x_of s i)) (good_call_tests k)

  -- what it has for an arm or a body can be one
  pub good_body : (b : ℕ) → has_body s b i ≡ true → is_bad_body s i b ≡ false
  unfolding has_body
  good_body b h =
      ⊎_elim
      (λ (e : eqb (kind_of s i) if_kind && (eqb (y_of s i) b || eqb (z_of s i) b) ≡ true).
      let (k, t) = both (eqb (kind_of s i) if_kind) _ e in
      let (_, _, y, z, _) = good_if (eqb-true _ _ k) in
      ⊎_elim (λ (q : eqb (y_of s i) b ≡ true). ap (is_bad_body s i) (sym (eqb-true _ _ q)) ∙ y)
      (λ (q : eqb (z_of s i) b ≡ true). ap (is_bad_body s i) (sym (eqb-true _ _ q)) ∙ z) (either (eqb (y_of s i) b) (eqb (z_of s i) b) t))
      (λ (e : eqb (kind_of s i) while_kind && eqb (y_of s i) b ≡ true).
      let (k, q) = both (eqb (kind_of s i) while_kind) _ e in
      ap (is_bad_body s i) (sym (eqb-true _ _ q)) ∙ (good_while (eqb-true _ _ k)).1)
      (either (eqb (kind_of s i) if_kind && (eqb (y_of s i) b || eqb (z_of s i) b)) (eqb (kind_of s i) while_kind && eqb (y_of s i) b) h)

-- a list that can be row i's body is not the kernel, is there, and no other row uses it
pub body_facts : (s : List ℕ) (i b : ℕ) → is_bad_body s i b ≡ false
    → ¬ (b ≡ 0) × (missing s b ≡ false) × ((j : ℕ) → j < statements s → uses_besides s i b j ≡ false)
unfolding is_bad_body is_used_elsewhere
body_facts s i b g =
    let (t, used) = neither _ (is_used_elsewhere s i b) g in
    let (zero, there) = neither (eqb b 0) (missing s b) t in
    (eqb-false _ _ zero, there, lowest_miss (uses_besides s i b) (statements s) used)

-- ---- what passed tables are

-- a row past the table is a skip
no_body : (s : List ℕ) (b i : ℕ) → kind_of s i ≡ 0 → has_body s b i ≡ false
unfolding has_body
no_body s b i k = rw k

besides : (s : List ℕ) (i b j : ℕ) → ¬ (j ≡ i) → has_body s b j ≡ true → uses_besides s i b j ≡ true
unfolding uses_besides uses
besides s i b j n h = rw (ne_eqb j i n, h)

in_while_lem : (s : List ℕ) (i : ℕ) → kind_of s i ≡ break_kind → is_stray_break s i ≡ false → in_while s i ≡ true
unfolding is_stray_break in_while
in_while_lem s i k g = not-false _ (rw k at g)

module _ {s e : List ℕ} {lanes : ℕ} (P : Passed s e lanes) where
  -- only rows of the table have a body
  pub body_within : (b i : ℕ) → has_body s b i ≡ true → i < statements s
  body_within b i h =
      by_cases (dec_lt i (statements s)) (λ (l : i < statements s). l)
      (λ (l : ¬ (i < statements s)).
      let w : length s % 5 ≡ 0 = P.whole_statements in
      let past : length s ≤ 5 * i + 1 = omega arith in
      clashing h (no_body s b i (get_or-eq_default s 0 past)))

  facts : (b i : ℕ) → has_body s b i ≡ true → ¬ (b ≡ 0) × (missing s b ≡ false) × ((j : ℕ) → j < statements s → uses_besides s i b j ≡ false)
  facts b i h = body_facts s i b (good_body s (expressions e) i (P.each_statement i (body_within b i h)) b h)

  -- no two rows have one list for an arm or a body
  pub one_owner : (b i j : ℕ) → has_body s b i ≡ true → has_body s b j ≡ true → i ≡ j
  one_owner b i j h k =
      by_cases (ℕ_discrete j i) (λ (q : j ≡ i). sym q)
      (λ (n : ¬ (j ≡ i)). clashing (besides s i b j n k) ((facts b i h).2 j (body_within b j k)))

  -- the kernel is no row's arm or body
  pub kernel_free : (i : ℕ) → has_body s 0 i ≡ true → ⊥
  kernel_free i h = (facts 0 i h).0 refl

  -- a break lies in a loop of its own function
  pub break_in_while : (i : ℕ) → i < statements s → kind_of s i ≡ break_kind → in_while s i ≡ true
  break_in_while i l k = in_while_lem s i k (P.each_break i l)
