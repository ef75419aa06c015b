-- What 17 and 18 let through is what the theory asks for.
use mathlib.Core.Path.{◌≡◌, refl, subst}
use mathlib.Core.Logic.{⊎_elim, by_cases, ◌≢◌}
use mathlib.Core.Bool.{Bool, true, false, cond, ◌&&◌, ◌||◌}
use mathlib.Core.List.{List}
use Prim.Native.Nat.{ℕ, zero, suc, ◌+◌, ◌≤◌, ◌<◌}
use native.Mathlib.Decide.{ℕ_discrete}
use native.Mathlib.Omega.{arith}
use borrow.Author.Tests.{eq-eqb, ne_eqb, eqb-true}
use lib.Dec.{eqb}
use Rattle.relation.proofs.Truth.{clashing, split, both, pair, either, left, right}
use Rattle.tables.proofs.Lowest.{lowest_hit}
use Rattle.warps.specs.Language.{skip, assign, branch, while, break, invoke, return}
use Rattle.warps.specs.Programs.{MayStand, AllMayStand, Prog}
use Rattle.warps.specs.Lists.{rows_from}
use Rattle.kernels.specs.Rows.{statements, list_of, kind_of, x_of, y_of, z_of, skip_kind, assign_kind, if_kind, while_kind, break_kind, call_kind, expressions}
use Rattle.kernels.specs.Refusals.{has_body, owner, has_owner, meets_upwards, is_while, in_while}
use Rattle.kernels.proofs.Passed.{Passed}
use Rattle.kernels.proofs.Lawful.{one_owner, kernel_free, good_call, break_in_while}
use Rattle.values.specs.Expressions.{expression}
use Rattle.runs.specs.Denotes.{list_in_loop, stm_of, bodies_of}

module _ (s : List ℕ) where
  abbrev up : (n b : ℕ) → Bool
  up n b = meets_upwards s (is_while s) n b

  -- what nobody has for a body lies in no loop
  root : (n b : ℕ) → has_owner s b ≡ false → up n b ≡ false
  unfolding meets_upwards
  root zero b h = refl
  root (suc n) b h = rw h

  wide : (o w u v : Bool) → (u ≡ true → v ≡ true) → o && (w || u) ≡ true → o && (w || v) ≡ true
  wide o w u v f e =
      let (p, q) = both o (w || u) e in
      pair o (w || v) p (⊎_elim (λ (x : w ≡ true). left w v x) (λ (x : u ≡ true). right w v (f x)) (either w u q))

  -- a longer way meets what a shorter one does
  longer : (n b : ℕ) → up n b ≡ true → up (suc n) b ≡ true
  unfolding meets_upwards
  longer zero b h = clashing h refl
  longer (suc n) b h = wide (has_owner s b) (is_while s (owner s b)) (up n (list_of s (owner s b))) (up (suc n) (list_of s (owner s b))) (longer n (list_of s (owner s b))) h

  module _ (e : List ℕ) (lanes : ℕ) (P : Passed s e lanes) where
    -- an arm of an if lies in a loop only if the if does
    lifted : (n i b : ℕ) → has_body s b i ≡ true → is_while s i ≡ false → up n b ≡ true → up n (list_of s i) ≡ true
    unfolding meets_upwards
    lifted zero i b h k u = clashing u refl
    lifted (suc n) i b h k u =
        let (o, t) = both (has_owner s b) (is_while s (owner s b) || up n (list_of s (owner s b))) u in
        let q : owner s b ≡ i = one_owner P b (owner s b) i (lowest_hit (has_body s b) (statements s) o).1 h in
        let v : is_while s i || up n (list_of s i) ≡ true = subst (λ (j : ℕ). is_while s j || up n (list_of s j) ≡ true) q t in
        longer n (list_of s i) (⊎_elim (λ (x : is_while s i ≡ true). clashing x k) (λ (x : up n (list_of s i) ≡ true). x) (either (is_while s i) (up n (list_of s i)) v))

    first_arm : (i : ℕ) → kind_of s i ≡ if_kind → has_body s (y_of s i) i ≡ true
    unfolding has_body
    first_arm i k = rw (k, eq-eqb (y_of s i) (y_of s i) refl)

    second_arm : (i : ℕ) → kind_of s i ≡ if_kind → has_body s (z_of s i) i ≡ true
    unfolding has_body
    second_arm i k = rw k (left (eqb (y_of s i) (z_of s i) || eqb (z_of s i) (z_of s i)) _ (right (eqb (y_of s i) (z_of s i)) (eqb (z_of s i) (z_of s i)) (eq-eqb (z_of s i) (z_of s i) refl)))

    no_while : (i : ℕ) → kind_of s i ≡ if_kind → is_while s i ≡ false
    unfolding is_while
    no_while i k = rw k

    in_loop : (i : ℕ) → in_while s i ≡ true → list_in_loop s (list_of s i) ≡ true
    unfolding in_while
    in_loop i h = h

    by_kind : (i : ℕ) (b₀ b₁ b₂ b₃ b₄ b₅ : Bool)
        → (b₂ ≡ true → (list_in_loop s (y_of s i) ≡ true → list_in_loop s (list_of s i) ≡ true) × (list_in_loop s (z_of s i) ≡ true → list_in_loop s (list_of s i) ≡ true))
        → (b₄ ≡ true → list_in_loop s (list_of s i) ≡ true) → (b₅ ≡ true → list_in_loop s (x_of s i) ≡ false)
        → MayStand (list_in_loop s) (list_in_loop s (list_of s i))
        (cond b₀ skip (cond b₁ (assign (x_of s i) (expression e (y_of s i))) (cond b₂ (branch (expression e (x_of s i)) (y_of s i) (z_of s i)) (cond b₃ (while (expression e (x_of s i)) (y_of s i)) (cond b₄ break (cond b₅ (invoke (x_of s i)) return))))))
    by_kind i true b₁ b₂ b₃ b₄ b₅ f g h = tt
    by_kind i false true b₂ b₃ b₄ b₅ f g h = tt
    by_kind i false false true b₃ b₄ b₅ f g h = f refl
    by_kind i false false false true b₄ b₅ f g h = tt
    by_kind i false false false false true b₅ f g h = g refl
    by_kind i false false false false false true f g h = h refl
    by_kind i false false false false false false f g h = tt

    stands : (i : ℕ) → i < statements s → MayStand (list_in_loop s) (list_in_loop s (list_of s i)) (stm_of s e i)
    unfolding stm_of
    stands i l =
        by_kind i (eqb (kind_of s i) skip_kind) (eqb (kind_of s i) assign_kind) (eqb (kind_of s i) if_kind) (eqb (kind_of s i) while_kind) (eqb (kind_of s i) break_kind) (eqb (kind_of s i) call_kind)
        (λ k. let q = eqb-true (kind_of s i) if_kind k in
        (lifted (statements s) i (y_of s i) (first_arm i q) (no_while i q), lifted (statements s) i (z_of s i) (second_arm i q) (no_while i q)))
        (λ k. in_loop i (break_in_while P i l (eqb-true (kind_of s i) break_kind k)))
        (λ k. root (statements s) (x_of s i) (good_call s (expressions e) i (P.each_statement i l) (eqb-true (kind_of s i) call_kind k)).1)

    all_stand : (m i b : ℕ) → i + m ≤ statements s → AllMayStand (list_in_loop s) (list_in_loop s b) (rows_from (stm_of s e) (list_of s) m i b)
    unfolding rows_from
    all_stand zero i b l = tt
    all_stand (suc m) i b l =
        by_cases (ℕ_discrete (list_of s i) b)
        (λ (q : list_of s i ≡ b).
        rw (eq-eqb (list_of s i) b q)
        (subst (λ (b : ℕ). MayStand (list_in_loop s) (list_in_loop s b) (stm_of s e i)) q (stands i (omega arith)), all_stand m (suc i) b (omega arith)))
        (λ (q : list_of s i ≢ b). rw (ne_eqb (list_of s i) b q) (all_stand m (suc i) b (omega arith)))

    kernel_out : has_owner s 0 ≡ false
    kernel_out =
        ⊎_elim (λ (o : has_owner s 0 ≡ true). absurd (kernel_free P (owner s 0) (lowest_hit (has_body s 0) (statements s) o).1)) (λ (o : has_owner s 0 ≡ false). o) (split (has_owner s 0))

    pub progs : Prog (bodies_of s e) (list_in_loop s) 0
    progs = record { lists = λ b. all_stand (statements s) 0 b (omega arith); outside = root (statements s) 0 kernel_out }
