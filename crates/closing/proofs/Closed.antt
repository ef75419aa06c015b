-- What all rounds leave of the trimmed rows holds the chains of the table. Assumes nothing.
use Prim.Native.Nat.{ℕ, zero, suc, ◌*◌, ◌≤◌, ◌<◌}
use native.Mathlib.Omega.{arith}
use mathlib.Core.Path.{◌≡◌, sym, ◌∙◌}
use mathlib.Core.Bool.{Bool, false, and-false}
use mathlib.Core.List.{List}
use lib.Dec.{ltb}
use lib.ListN.{length}
use borrow.Author.Tests.{lt-ltb, le-ltb}
use Rattle.relation.specs.Chains.{Chain, On, rounds}
use Rattle.relation.specs.Bits.{bit_at}
use Rattle.relation.specs.Table.{width, words, Related, Holds}
use Rattle.relation.proofs.Truth.{both, pair}
use Rattle.relation.proofs.Chains.{chain_map, rounds_zero, rounds_suc, decides}
use Rattle.relation.proofs.Rooms.{wide, related_at, related_inside}
use Rattle.closing.specs.Needs.{RowsAre, trimmed}

-- a column that is empty stays so
rounds_none : (f : ℕ → ℕ → Bool) (m k i j : ℕ) → ((i : ℕ) → i < m → f i j ≡ false) → k ≤ m → i < m → rounds f k i j ≡ false
rounds_none f m zero i j none l li = rounds_zero f i j ∙ none i li
rounds_none f m (suc k) i j none l li =
    rw (rounds_suc f k i j, rounds_none f m k i j none (omega arith) li, rounds_none f m k k j none (omega arith) (omega arith)) (and-false (rounds f k i k))

module _ (b r s : List ℕ) (m : ℕ) (fits : words m ≤ length b) (T : RowsAre b r (width m) m (trimmed b (width m) m))
    (A : RowsAre r s (width m) m (rounds (bit_at r (width m)) m)) where
  -- a bit of the trimmed rows is an edge of the table
  edge : (i j : ℕ) → On m (bit_at r (width m)) i j → Related b m i j
  edge i j e =
      related_at b m i j (record { fits = fits; from = e.from; to = e.to })
      ∙ (both (ltb j m) _ (sym (T.bits i j e.from (omega (arith, wide m, e.to))) ∙ e.set)).1

  edge_back : (i j : ℕ) → Related b m i j → On m (bit_at r (width m)) i j
  edge_back i j e =
      let (I, t) = related_inside b m i j e in
      record {
        from = I.from;
        to = I.to;
        set = T.bits i j I.from (omega (arith, wide m, I.to)) ∙ pair _ _ (lt-ltb j m I.to) t;
      }

  padded : (i j : ℕ) → i < m → m ≤ j → j < 32 * width m → bit_at r (width m) i j ≡ false
  padded i j li lj lw = rw (T.bits i j li lw, le-ltb j m lj)

  pub closed : Holds b s m (Chain (Related b m))
  closed =
      record {
        len = A.len ∙ T.len;
        bits = λ i j li lj.
            let e = A.bits i j li (omega (arith, wide m)) in
            let (f, g) = decides (bit_at r (width m)) m i j li lj in
            (λ t. chain_map edge (f (sym e ∙ t)), λ c. e ∙ g (chain_map edge_back c));
        padding = λ i j li lj lw. A.bits i j li lw ∙ rounds_none (bit_at r (width m)) m m i j (λ i li. padded i j li lj lw) (omega arith) li;
        kept = λ p h. A.kept p h ∙ T.kept p h;
      }
