-- What the parts of a sweep try, and what is left when a sweep of all pairs changes nothing. Assumes nothing.
use mathlib.Core.Path.{◌≡◌, refl, sym, ◌∙◌}
use mathlib.Core.Logic.{◌⊎◌, inl, inr, by_cases, ◌≢◌}
use mathlib.Core.Bool.{Bool, true, false}
use mathlib.Core.List.{List}
use Prim.Native.Nat.{ℕ, ◌+◌, ◌*◌, ◌-◌, ◌≤◌, ◌<◌}
use native.Mathlib.Decide.{ℕ_discrete, dec_lt}
use native.Mathlib.Omega.{arith}
use lib.ListN.{length, get_or}
use borrow.Author.Tests.{leb-true}
use Rattle.relation.specs.Chains.{Reach}
use Rattle.relation.specs.Table.{words, Joins, Writes}
use Rattle.relation.proofs.Rooms.{written}
use Rattle.sweeps.specs.Pairs.{pair_count, PairBetween, PairIn}
use Rattle.sweeps.specs.Needs.{Joined, Pass, At, AllTaken}
use Rattle.sweeps.proofs.Passes.{joined_join, joined_within, diagonal_within, closed_holds, pass_try}

module _ (list : List ℕ) where
  -- one pair more, in front of those that were tried
  pub between_more : (e end i k : ℕ) → PairBetween list (e - 1) end i k
      → PairBetween list e end i k ⊎ At (get_or list ((e - 1) * 2) 0) (get_or list ((e - 1) * 2 + 1) 0) i k
  between_more e end i k B =
      by_cases (ℕ_discrete B.at (e - 1)) (λ (q : B.at ≡ e - 1). inr (rw (sym q) (sym B.from, sym B.to)))
      (λ (n : B.at ≢ e - 1). inl (record { at = B.at; low = omega (arith, B.low); high = B.high; from = B.from; to = B.to }))

  -- those before n, or those from n on
  pub between_on : (n end i k : ℕ) → PairBetween list 0 end i k → PairBetween list 0 n i k ⊎ PairBetween list n end i k
  between_on n end i k B =
      by_cases (dec_lt B.at n) (λ (l : B.at < n). inl (record { at = B.at; low = B.low; high = l; from = B.from; to = B.to }))
      (λ (l : ¬ (B.at < n)). inr (record { at = B.at; low = omega arith; high = B.high; from = B.from; to = B.to }))

  -- one pair is tried
  pub pass_pair : {b a : List ℕ} {m : ℕ} {said : Bool} (e : ℕ) → words m ≤ length b → e < pair_count list
      → Joins b a m (get_or list (e * 2) 0) (get_or list (e * 2 + 1) 0) said
      → Pass (PairIn list m) m (At (get_or list (e * 2) 0) (get_or list (e * 2 + 1) 0)) b a said
  pass_pair e fits l J =
      pass_try fits (λ i k p. (p.from, p.to))
      (λ li lk. record { pair = record { at = e; low = omega arith; high = l; from = refl; to = refl }; from = li; to = lk }) J

-- a sweep of all pairs that changed nothing has taken every edge
pub settled : {list b r s : List ℕ} {m : ℕ} {said : Bool} → Joined (PairIn list m) m b r
    → Pass (PairIn list m) m (PairBetween list 0 (pair_count list)) r s said → said ≡ false → AllTaken (PairIn list m) m b s
settled J P f = record { joins = joined_join J P.joins; closed = λ i k e. rw (P.still f) (P.takes f i k e.pair e) }

-- ---- each number at itself comes first

module _ {b d : List ℕ} {m : ℕ} {said : Bool} (D : Writes (λ i j. i ≡ j) b d m said) where
  module _ (t : said ≡ true) where
    had_room : words m ≤ length b
    had_room = leb-true _ _ (sym D.answer ∙ t)

    -- and then every edge was taken
    pub reached : {list s : List ℕ} → AllTaken (PairIn list m) m d s → Writes (Reach (PairIn list m)) b s m true
    reached S = written _ b _ m had_room (closed_holds S.closed (joined_within (diagonal_within (D.holds t)) S.joins))
