-- The table that relates each number to itself, pair after pair. Assumes nothing.
use Prim.Native.Nat.{ℕ, ◌+◌, ◌≤◌, ◌<◌}
use native.Mathlib.Omega.{arith}
use native.Mathlib.Decide.{ℕ_discrete}
use mathlib.Core.Path.{◌≡◌, sym, ◌∙◌}
use mathlib.Core.Logic.{◌⊎◌, inl, inr, ⊎_elim, by_cases, ◌≢◌}
use mathlib.Core.Bool.{Bool, true}
use mathlib.Core.List.{List}
use lib.ListN.{length}
use borrow.Author.Tests.{leb-true}
use Rattle.relation.specs.Table.{words, Holds, Writes, Puts}
use Rattle.relation.proofs.Rooms.{place_in, holds_map, holds_more}

-- the numbers below i are related to themselves
abbrev pub Diagonal : List ℕ → List ℕ → ℕ → ℕ → Type 0
Diagonal b r m i = Holds b r m (λ x y. (x ≡ y) × (x < i))

pub diagonal_more : {b r s : List ℕ} {m i : ℕ} → words m ≤ length b → i < m → Diagonal b r m i → Puts r s m i i → Diagonal b s m (i + 1)
diagonal_more {b} {r} {s} {m} {i} fits li H P =
    holds_map b s m (λ x y. ((x ≡ y) × (x < i)) ⊎ ((x ≡ i) × (y ≡ i))) (λ x y. (x ≡ y) × (x < i + 1))
    (λ x y lx ly. (
      λ h. ⊎_elim (λ (w : (x ≡ y) × (x < i)). (w.0, omega arith)) (λ (w : (x ≡ i) × (y ≡ i)). (omega arith, omega arith)) h,
      λ w. by_cases (ℕ_discrete x i) (λ (e : x ≡ i). inr (e, omega (arith, w.0))) (λ (n : x ≢ i). inl (w.0, omega (arith, w.1))),
    ))
    (holds_more b r s m i i (λ x y. (x ≡ y) × (x < i)) li li H
    (P.within (place_in (length r) m i i (record { fits = omega (arith, H.len); from = li; to = li }))))

-- a room that is not cleared is short
pub cleared_fits : {b r : List ℕ} {m : ℕ} {R : ℕ → ℕ → Type 0} {said : Bool} → Writes R b r m said → said ≡ true → words m ≤ length b
cleared_fits {b} {m = m} W e = leb-true _ _ (sym W.answer ∙ e)

pub still_fits : {b r : List ℕ} {m : ℕ} {R : ℕ → ℕ → Type 0} {said : Bool} → Writes R b r m said → said ≡ true → words m ≤ length r
still_fits W e = let l = (W.holds e).len in omega (arith, cleared_fits W e)
