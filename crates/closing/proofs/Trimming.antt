-- The padding of a row is cut off, by a remainder of its last word. Assumes nothing.
use Prim.Native.Nat.{ℕ, ◌+◌, ◌*◌, ◌/◌, ◌%◌, ◌^◌, ◌<◌}
use native.Mathlib.Nat.{one-mul}
use native.Mathlib.Omega.{arith}
use native.Mathlib.Decide.{dec_lt, ℕ_discrete}
use mathlib.Core.Path.{◌≡◌, refl, sym, ap, ◌∙◌}
use mathlib.Core.Logic.{by_cases, ◌≢◌}
use mathlib.Core.Bool.{Bool, ◌&&◌}
use mathlib.Core.List.{List}
use lib.Dec.{ltb}
use lib.ListN.{length, get_or, set, length-set}
use lib.Seq.{get_or-set_same, get_or-set_other}
use borrow.Author.Tests.{lt-ltb, le-ltb}
use Rattle.relation.specs.Bits.{bit_at, RowIs}
use Rattle.relation.specs.Needs.{RowIn}
use Rattle.relation.specs.Table.{width}
use Rattle.relation.proofs.Words.{one_shl}
use Rattle.relation.proofs.Rows.{by_word, by_cut, off_row}
use Rattle.relation.proofs.Rooms.{last_word, full_rows}
use Rattle.closing.specs.Needs.{RowsAre, trimmed}
use Rattle.closing.proofs.Rows.{rows_more, not_done}

-- within one word of a row the order of the bits is the order in the word
ltb_word : (j m : ℕ) → j / 32 ≡ m / 32 → ltb j m ≡ ltb (j % 32) (m % 32)
ltb_word j m e =
    by_cases (dec_lt j m) (λ (h : j < m). lt-ltb j m h ∙ sym (lt-ltb (j % 32) (m % 32) (omega arith)))
    (λ (h : ¬ (j < m)). le-ltb j m (omega arith) ∙ sym (le-ltb (j % 32) (m % 32) (omega arith)))

-- in rows of one word more than m fills, the last word is cut
module _ (r : List ℕ) (m i : ℕ) (there : RowIn (length r) (m / 32 + 1) i) where
  abbrev w : ℕ
  w = m / 32 + 1

  abbrev end : ℕ
  end = i * (m / 32 + 1) + m / 32

  abbrev cut : List ℕ
  cut = set r (i * (m / 32 + 1) + m / 32) (get_or r (i * (m / 32 + 1) + m / 32) 0 % ((1 * 2 ^ (m % 32)) % 2 ^ 32))

  cut_word : get_or cut end 0 ≡ get_or r end 0 % 2 ^ (m % 32)
  cut_word =
      get_or-set_same r end _ 0 (omega arith)
      ∙ ap (λ (n : ℕ). get_or r end 0 % n) (one_shl (m % 32) 32 (omega arith) ∙ one-mul (2 ^ (m % 32)))

  cut_bit : (j : ℕ) → j < 32 * w → bit_at cut w i j ≡ trimmed r w m i j
  cut_bit j h =
      by_cases (ℕ_discrete (j / 32) (m / 32))
      (λ (e : j / 32 ≡ m / 32). by_cut r cut w i j (m % 32) (rw e cut_word) ∙ rw (ltb_word j m e))
      (λ (n : j / 32 ≢ m / 32).
      let l : j < m = omega arith in
      rw (lt-ltb j m l) (by_word cut r w i j (get_or-set_other r end (i * w + j / 32) _ 0 (λ q. n (omega arith)))))

  pub cut_row : RowIs r cut w i (trimmed r w m i)
  cut_row =
      record {
        len = length-set r _ _;
        bits = cut_bit;
        outside = λ p h. get_or-set_other r end p _ 0 (off_row w i (m / 32) p (omega arith) h);
      }

-- the rows below i are trimmed
pub trim_more : (b r s : List ℕ) (m i : ℕ) → m % 32 ≢ 0 → RowsAre b r (width m) i (trimmed b (width m) m)
    → RowIs r s (m / 32 + 1) i (trimmed r (m / 32 + 1) m i) → RowsAre b s (width m) (i + 1) (trimmed b (width m) m)
trim_more b r s m i n R N =
    rows_more b r s (width m) i (trimmed b (width m) m) (trimmed r (width m) m i) R (rw (last_word m n) N)
    (λ j hj. ap (λ (x : Bool). ltb j m && x) (not_done b r (width m) i i j (trimmed b (width m) m) R (omega arith)))

-- rows without padding need no cut
pub no_padding : (b : List ℕ) (m : ℕ) → m % 32 ≡ 0 → RowsAre b b (width m) m (trimmed b (width m) m)
no_padding b m full =
    record { len = refl; bits = λ i j hi hj. rw (lt-ltb j m (omega (arith, full_rows m full))); kept = λ p h. refl }
