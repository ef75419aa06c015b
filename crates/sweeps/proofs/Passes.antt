-- Joins in any order keep a table sound, and a table that is sound and closed under the edges holds exactly what can be reached. Assumes nothing.
use mathlib.Core.Path.{◌≡◌, refl, sym, ap, subst, ◌∙◌}
use mathlib.Core.Logic.{◌⊎◌, inr, ⊎_elim, by_cases, ◌≢◌}
use mathlib.Core.Bool.{Bool, true, false, ◌||◌}
use mathlib.Core.List.{List, [], ◌∷◌}
use Prim.Native.Nat.{ℕ, suc, ◌*◌, ◌-◌, ◌^◌, ◌≤◌, ◌<◌}
use native.Mathlib.Decide.{ℕ_discrete, dec_lt}
use native.Mathlib.Omega.{arith}
use lib.ListN.{length}
use Rattle.relation.specs.Chains.{Reach, here, goes}
use Rattle.relation.specs.Bits.{Words, bit_at, sum, RowIs, RowJoined, joined}
use Rattle.relation.specs.Table.{width, words, inside, Holds, Joins}
use Rattle.sweeps.specs.Needs.{Joined, none, more, Takes, Pass, At, SoundTable}
use Rattle.relation.proofs.Truth.{split, isnt, clashing, either, neither, left, right}
use Rattle.relation.proofs.Chains.{reach_join}
use Rattle.relation.proofs.Rows.{other_row}
use Rattle.relation.proofs.Rooms.{wide, row_in, place, place_in}

-- ---- passes

module _ {E : ℕ → ℕ → Type 0} {m : ℕ} where
  pub joined_join : {a b c : List ℕ} → Joined E m a b → Joined E m b c → Joined E m a c
  joined_join p none = p
  joined_join p (more q li lk e N) = more (joined_join p q) li lk e N

  pub joined_length : {a b : List ℕ} → Joined E m a b → length b ≡ length a
  joined_length none = refl
  joined_length (more q li lk e N) = N.len ∙ joined_length q

  -- there is as much room as before
  pub still_fits : {a b : List ℕ} → words m ≤ length a → Joined E m a b → words m ≤ length b
  still_fits fits p = rw (joined_length p) fits

  -- nothing is joined where no pair that is tried has an edge
  pub pass_none : {T : ℕ → ℕ → Type 0} {a : List ℕ} → ((i k : ℕ) → T i k → E i k → ⊥) → Pass E m T a a false
  pass_none n = record { joins = none; still = λ f. refl; takes = λ f i k t e. absurd (n i k t e); grown = λ t. clashing t refl }

  -- two passes have tried what one or the other tried
  pub pass_join : {S T : ℕ → ℕ → Type 0} {a b c : List ℕ} {x y : Bool} → Pass E m S a b x → Pass E m T b c y → Pass E m (λ i k. S i k ⊎ T i k) a c (x || y)
  pass_join {S} {T} {a} {b} {c} {x} {y} P Q =
      record {
        joins = joined_join P.joins Q.joins;
        still = λ e. let (f, g) = neither x y e in Q.still g ∙ P.still f;
        takes = λ e i k u d.
            let (f, g) = neither x y e in
            ⊎_elim (λ (s : S i k). P.takes f i k s d) (λ (t : T i k). subst (λ (r : List ℕ). Takes r m i k) (P.still f) (Q.takes g i k t d)) u;
        grown = λ e.
            ⊎_elim
            (λ (f : x ≡ true). let l = P.grown f in ⊎_elim (λ (g : y ≡ true). omega (arith, Q.grown g)) (λ (g : y ≡ false). omega (arith, ap sum (Q.still g))) (split y))
            (λ (f : x ≡ false). let l = Q.grown (rw f at e) in omega (arith, ap sum (P.still f)))
            (split x);
      }

  -- and each part of what they tried
  pub pass_part : {S T : ℕ → ℕ → Type 0} {a b : List ℕ} {x : Bool} → ((i k : ℕ) → S i k → T i k) → Pass E m T a b x → Pass E m S a b x
  pass_part h P = record { joins = P.joins; still = P.still; takes = λ f i k s. P.takes f i k (h i k s); grown = P.grown }

  -- one join, where there is room
  pub pass_one : {b a : List ℕ} {i k : ℕ} {said : Bool} → words m ≤ length b → i < m → k < m → E i k → Joins b a m i k said → Pass E m (At i k) b a said
  pass_one {b} {a} {i} {k} {said} fits li lk e J =
      let N : RowJoined b a (width m) i k said = J.within (place_in (length b) m i k (record { fits = fits; from = li; to = lk })) in
      record {
        joins = more none li lk e N.row;
        still = N.still;
        takes = λ f x y t d.
            rw (t.0, t.1)
            (record { bits = λ j lj s. ap (λ (r : List ℕ). bit_at r (width m) i j) (sym (N.still f)) ∙ N.row.bits j lj ∙ right (bit_at b (width m) i j) _ s });
        grown = N.grown;
      }

  -- one pair is tried: where a number is too large nothing is joined, and the pair is no edge
  pub pass_try : {b a : List ℕ} {i k : ℕ} {said : Bool} → words m ≤ length b → ((x y : ℕ) → E x y → (x < m) × (y < m)) → (i < m → k < m → E i k)
      → Joins b a m i k said → Pass E m (At i k) b a said
  pass_try {b} {a} {i} {k} {said} fits low edge J =
      by_cases (dec_lt i m)
      (λ (li : i < m).
      by_cases (dec_lt k m) (λ (lk : k < m). pass_one fits li lk (edge li lk) J)
      (λ (n : ¬ (k < m)). nothing (λ t. n (place _ _ _ _ t).to) (λ x y t e. absurd (omega (arith, t.1, (low x y e).1)))))
      (λ (n : ¬ (i < m)). nothing (λ t. n (place _ _ _ _ t).from) (λ x y t e. absurd (omega (arith, t.0, (low x y e).0))))
    where
      nothing : ¬ (inside (length b) m i k ≡ true) → ((x y : ℕ) → At i k x y → E x y → ⊥) → Pass E m (At i k) b a said
      nothing out n = let (q, r) = J.outside (isnt _ out) in rw (q, r) (pass_none n)

pub takes_join : {r : List ℕ} {m i k j : ℕ} → Takes r m i k → Takes r m k j → Takes r m i j
takes_join A B = record { bits = λ y ly t. A.bits y ly (B.bits y ly t) }

-- ---- passes come to an end: words grow, and no further than they can

sum_small : (l : List ℕ) → Words l → sum l ≤ 2 ^ 32 * length l
unfolding sum
sum_small [] h = omega arith
sum_small (x ∷ l) h = let e = sum_small l (λ p. h (suc p)) in omega (arith, h 0)

-- what is left to grow
abbrev pub left_to_grow : List ℕ → ℕ
left_to_grow l = 2 ^ 32 * length l - sum l

pub grows : {E T : ℕ → ℕ → Type 0} {m : ℕ} {b a : List ℕ} {said : Bool} → Words a → said ≡ true → Pass E m T b a said → left_to_grow a < left_to_grow b
grows {a = a} h t P = let l = P.grown t in let k = sum_small a h in rw (sym (joined_length P.joins)) (omega arith)

-- ---- sound

module _ {m : ℕ} {E : ℕ → ℕ → Type 0} where
  one_within : {b r s : List ℕ} {i k : ℕ} → SoundTable b r m (Reach E) → i < m → k < m → E i k → RowIs r s (width m) i (joined r (width m) i k)
      → SoundTable b s m (Reach E)
  one_within {b} {r} {s} {i} {k} W li lk e N =
      record {
        len = N.len ∙ W.len;
        diagonal = λ x lx.
            by_cases (ℕ_discrete i x)
            (λ (q : i ≡ x). let t = W.diagonal x lx in rw (sym q) (N.bits i (omega (arith, wide m)) ∙ left _ _ (rw (sym q) at t)))
            (λ (n : i ≢ x). other_row r s (width m) i x x N.outside n (omega (arith, wide m)) ∙ W.diagonal x lx);
        sound = λ x y lx ly t.
            by_cases (ℕ_discrete i x)
            (λ (q : i ≡ x).
            let u : bit_at s (width m) i y ≡ true = rw q t in
            ⊎_elim (λ (f : bit_at r (width m) i y ≡ true). rw (sym q) (W.sound i y li ly f))
            (λ (f : bit_at r (width m) k y ≡ true).
            let (l, p) = W.sound k y lk ly f in
            (l, rw (sym q) (reach_join (goes here e) p)))
            (either _ _ (sym (N.bits y ly) ∙ u)))
            (λ (n : i ≢ x). W.sound x y lx ly (sym (other_row r s (width m) i x y N.outside n ly) ∙ t));
        kept = λ p h. N.outside p (inr (omega (arith, row_in (words m) (width m) m i (omega arith) li))) ∙ W.kept p h;
      }

  pub joined_within : {b r s : List ℕ} → SoundTable b r m (Reach E) → Joined E m r s → SoundTable b s m (Reach E)
  joined_within W none = W
  joined_within W (more q li lk e N) = one_within (joined_within W q) li lk e N

  -- the table that relates each number to itself
  pub diagonal_within : {b r : List ℕ} → Holds b r m (λ i j. i ≡ j) → SoundTable b r m (Reach E)
  diagonal_within {b} {r} H =
      record {
        len = H.len;
        diagonal = λ i li. (H.bits i i li li).1 refl;
        sound = λ i j li lj t.
            by_cases (dec_lt j m) (λ (l : j < m). (l, subst (Reach E i) ((H.bits i j li l).0 t) here))
            (λ (n : ¬ (j < m)). clashing t (H.padding i j li (omega arith) lj));
        kept = H.kept;
      }

  -- ---- closed

  module _ {r : List ℕ} (closed : (i k : ℕ) → E i k → Takes r m i k) where
    reach_takes : {i j : ℕ} → Reach E i j → Takes r m i j
    reach_takes here = record { bits = λ j lj t. t }
    reach_takes (goes {k} {j} p e) = takes_join (reach_takes p) (closed k j e)

    -- sound and closed: exactly what can be reached
    pub closed_holds : {b : List ℕ} → SoundTable b r m (Reach E) → Holds b r m (Reach E)
    closed_holds {b} W =
        record {
          len = W.len;
          bits = λ i j li lj. (
            λ t. (W.sound i j li (omega (arith, wide m)) t).1,
            λ p. (reach_takes p).bits j (omega (arith, wide m)) (W.diagonal j lj),
          );
          padding = λ i j li lj lw. isnt _ (λ t. let l = (W.sound i j li lw t).0 in omega arith);
          kept = W.kept;
        }
