-- One round of Warshall's, row after row, and round after round. Assumes nothing.
use Prim.Native.Nat.{ℕ, ◌+◌, ◌*◌, ◌≤◌, ◌<◌}
use native.Mathlib.Numerals.{add-one}
use native.Mathlib.Omega.{arith}
use native.Mathlib.Decide.{dec_lt}
use mathlib.Core.Path.{◌≡◌, refl, sym, ap₂, ◌∙◌}
use mathlib.Core.Logic.{by_cases}
use mathlib.Core.Bool.{Bool, true, false, ◌&&◌, ◌||◌, or-false, and-false}
use mathlib.Core.List.{List}
use lib.ListN.{length}
use Rattle.relation.specs.Chains.{rounds}
use Rattle.relation.specs.Bits.{bit_at, RowIs}
use Rattle.relation.specs.Table.{width, inside, related, Joins}
use Rattle.relation.proofs.Chains.{rounds_zero, rounds_suc}
use Rattle.relation.proofs.Rooms.{place, related_at}
use Rattle.closing.specs.Needs.{RowsAre, joined_if}
use Rattle.closing.proofs.Rows.{rows_more, not_done}

-- ---- one round: the rows below i are joined

-- row i has bit k, and row k is joined; or it has not, and nothing is
module _ (r : List ℕ) (m i k : ℕ) (there : inside (length r) m i k ≡ true) where
  bit_k : related r m i k ≡ bit_at r (width m) i k
  bit_k = related_at r m i k (place (length r) m i k there)

  pub joined_if_lem : {s : List ℕ} {said : Bool} → related r m i k ≡ true → Joins r s m i k said → RowIs r s (width m) i (joined_if r (width m) k i)
  joined_if_lem e J =
      let N = (J.within there).row in
      record { len = N.len; bits = λ j h. N.bits j h ∙ rw (sym bit_k ∙ e); outside = N.outside }

  pub kept_if : related r m i k ≡ false → RowIs r r (width m) i (joined_if r (width m) k i)
  kept_if e = record { len = refl; bits = λ j h. rw (sym bit_k ∙ e, or-false); outside = λ p h. refl }

absorb : (x y : Bool) → x || (y && x) ≡ x
absorb true y = refl
absorb false y = and-false y

pub round_more : (b r s : List ℕ) (w k i : ℕ) → RowsAre b r w i (joined_if b w k) → RowIs r s w i (joined_if r w k i) → RowsAre b s w (i + 1) (joined_if b w k)
round_more b r s w k i R N =
    rows_more b r s w i (joined_if b w k) (joined_if r w k i) R N
    (λ j hj. rw (not_done b r w i i j _ R (omega arith), not_done b r w i i k _ R (omega arith), row_k j hj))
  where
    row_k : (j : ℕ) → j < 32 * w → bit_at r w k j ≡ bit_at b w k j
    row_k j hj =
        by_cases (dec_lt k i) (λ (l : k < i). R.bits k j l hj ∙ absorb (bit_at b w k j) (bit_at b w k k))
        (λ (n : ¬ (k < i)). not_done b r w i k j _ R (omega arith))

-- row k brings nothing to itself
pub round_self : (b r : List ℕ) (w k : ℕ) → RowsAre b r w k (joined_if b w k) → RowsAre b r w (k + 1) (joined_if b w k)
round_self b r w k R =
    rows_more b r r w k (joined_if b w k) (bit_at r w k) R (record { len = refl; bits = λ j h. refl; outside = λ p h. refl })
    (λ j hj. not_done b r w k k j _ R (omega arith) ∙ sym (absorb (bit_at b w k j) (bit_at b w k k)))

-- ---- all rounds

pub round_first : (b : List ℕ) (w m : ℕ) → RowsAre b b w m (rounds (bit_at b w) 0)
round_first b w m = record { len = refl; bits = λ i j hi hj. sym (rounds_zero (bit_at b w) i j); kept = λ p h. refl }

pub round_next : (b r s : List ℕ) (w m k : ℕ) → k < m → m ≤ 32 * w → RowsAre b r w m (rounds (bit_at b w) k) → RowsAre r s w m (joined_if r w k) → RowsAre b s w m (rounds (bit_at b w) (k + 1))
round_next b r s w m k hk hm R S =
    record {
      len = S.len ∙ R.len;
      bits = λ i j hi hj.
          rw (add-one, rounds_suc)
          (S.bits i j hi hj ∙ ap₂ ◌||◌ (R.bits i j hi hj) (ap₂ ◌&&◌ (R.bits i k hi (omega arith)) (R.bits k j hk hj)));
      kept = λ p h. S.kept p h ∙ R.kept p h;
    }
