-- The pairs that are listed are edges of happens-before, and reach as far as all of them. Assumes nothing.
use mathlib.Core.Path.{◌≡◌, refl, sym, ap, ◌∙◌}
use mathlib.Core.Logic.{◌⊎◌, inl, inr, ⊎_elim, by_cases, ◌≢◌}
use mathlib.Core.Bool.{Bool, true, false, not}
use mathlib.Core.List.{List}
use Prim.Native.Nat.{ℕ, ◌+◌, ◌*◌, ◌≤◌, ◌<◌}
use native.Mathlib.Decide.{ℕ_discrete}
use native.Mathlib.Numerals.{add-one}
use native.Mathlib.Omega.{arith}
use lib.Dec.{ltb}
use lib.ListN.{length, take}
use lib.Seq.{get_or-take, length-take-le}
use borrow.Author.Tests.{not-true, ltb-true, lt-ltb}
use Rattle.std.specs.Prelude.{Some, None}
use Rattle.tables.specs.Rows.{rows, is_first}
use Rattle.tables.specs.Heads.{own_head, Headed}
use Rattle.tables.proofs.Filling.{first_by_head}
use Rattle.relation.specs.Chains.{Reach, here, goes}
use Rattle.relation.specs.Table.{words, Writes}
use Rattle.relation.proofs.Truth.{both, pair, clashing}
use Rattle.relation.proofs.Chains.{reach_join, reach_map, reach_flat}
use Rattle.relation.proofs.Rooms.{wrote, holds_map}
use Rattle.schedules.specs.HappensBefore.{Edge, along, meets}
use Rattle.schedules.proofs.Table.{edge_low}
use Rattle.programs.specs.Program.{program}
use Rattle.rooms.specs.Rooms.{number_at}
use Rattle.sweeps.specs.Pairs.{pair_count, PairBetween, PairIn}
use Rattle.happens.specs.HappensBefore.{Reached}
use Rattle.happens.specs.Needs.{does_meet_row, leader, Seated}
use Rattle.happens.specs.Needs.{follows, Led, to, from, Draws, led, next, DrawsBelow, Adds, OnePair}
use Rattle.happens.proofs.Leading.{Meeting, meets_parts, parts_meet, meets_itself, meets_beside, sync_led, same_leader, leader_met}

-- ---- pairs are added

pub adds_none : {D : ℕ → ℕ → Type 0} {a : List ℕ} {n : ℕ} → ((i k : ℕ) → D i k → ⊥) → Adds 0 D a a n n
adds_none none = record { len = refl; few = omega arith; kept = λ i k p. p; new = λ i k d. absurd (none i k d); only = λ i k p. inl p }

pub adds_join : {p q n r s : ℕ} {D F : ℕ → ℕ → Type 0} {a b c : List ℕ} → Adds p D a b n r → Adds q F b c r s → Adds (p + q) (λ i k. D i k ⊎ F i k) a c n s
adds_join {D = D} {F = F} A B =
    record {
      len = B.len ∙ A.len;
      few = omega (arith, A.few, B.few);
      kept = λ i k x. B.kept i k (A.kept i k x);
      new = λ i k. ⊎_elim (λ (d : D i k). B.kept i k (A.new i k d)) (λ (f : F i k). B.new i k f);
      only = λ i k x. ⊎_elim (λ y. ⊎_elim inl (λ (d : D i k). inr (inl d)) (A.only i k y)) (λ (f : F i k). inr (inr f)) (B.only i k x);
    }

-- the same in other words
pub adds_map : {p q n r : ℕ} {D F : ℕ → ℕ → Type 0} {a b : List ℕ} → p ≤ q → ((i k : ℕ) → D i k → F i k) → ((i k : ℕ) → F i k → D i k)
    → Adds p D a b n r → Adds q F a b n r
adds_map {D = D} l f g A =
    record {
      len = A.len;
      few = omega (arith, A.few);
      kept = A.kept;
      new = λ i k x. A.new i k (g i k x);
      only = λ i k x. ⊎_elim inl (λ (d : D i k). inr (f i k d)) (A.only i k x);
    }

-- ---- the pairs of one command, and of one more

pub follows_low : (heads : List ℕ) (m c : ℕ) → follows heads m c ≡ true → c + 1 < m
follows_low heads m c e = ltb-true (c + 1) m (both _ _ e).0

module _ (commands generations heads leaders : List ℕ) where
  -- no leader
  pub led_none : (c : ℕ) → leader commands generations leaders c ≡ None → {a : List ℕ} {n : ℕ} → Adds 2 (Led commands generations leaders c) a a n n
  led_none c e = adds_map (omega arith) (λ i k d. absurd d) back (adds_none {D = λ i k. ⊥} (λ i k d. d))
    where
      back : (i k : ℕ) → Led commands generations leaders c i k → ⊥
      back i k (to q) = cc
      back i k (from q g) = cc

  -- one that does not meet c
  pub led_one : (c x : ℕ) → leader commands generations leaders c ≡ Some x → does_meet_row commands generations x c ≡ false → {a b : List ℕ} {n r : ℕ}
      → Adds 1 (OnePair c x) a b n r → Adds 2 (Led commands generations leaders c) a b n r
  led_one c x e f A = adds_map (omega arith) (λ i k P. rw (P.from, P.to) (to e)) back A
    where
      back : (i k : ℕ) → Led commands generations leaders c i k → OnePair c x i k
      back i k (to {l} q) = record { from = refl; to = cc }
      back i k (from {l} q g) = let h : l ≡ x = cc in clashing (rw h at g) f

  -- one that does
  pub led_both : (c x : ℕ) → leader commands generations leaders c ≡ Some x → does_meet_row commands generations x c ≡ true → {a b : List ℕ} {n r : ℕ}
      → Adds 2 (λ i k. OnePair x c i k ⊎ OnePair c x i k) a b n r → Adds 2 (Led commands generations leaders c) a b n r
  led_both c x e t A = adds_map (omega arith) on back A
    where
      on : (i k : ℕ) → OnePair x c i k ⊎ OnePair c x i k → Led commands generations leaders c i k
      on i k (inl P) = rw (P.from, P.to) (from e t)
      on i k (inr P) = rw (P.from, P.to) (to e)

      back : (i k : ℕ) → Led commands generations leaders c i k → OnePair x c i k ⊎ OnePair c x i k
      back i k (to {l} q) = inr (record { from = refl; to = cc })
      back i k (from {l} q g) = inl (record { from = cc; to = refl })

  -- c is the last of its thread
  pub draws_last : (c : ℕ) → follows heads (rows commands) c ≡ false → {a b : List ℕ} {n r : ℕ} → Adds 2 (Led commands generations leaders c) a b n r
      → Adds 3 (Draws commands generations heads leaders c) a b n r
  draws_last c f A = adds_map (omega arith) (λ i k d. led d) back A
    where
      back : (i k : ℕ) → Draws commands generations heads leaders c i k → Led commands generations leaders c i k
      back i k (led d) = d
      back i k (next g) = clashing g f

  -- the next command follows
  pub draws_next : (c : ℕ) → follows heads (rows commands) c ≡ true → {a b : List ℕ} {n r : ℕ}
      → Adds 3 (λ i k. Led commands generations leaders c i k ⊎ OnePair c (c + 1) i k) a b n r → Adds 3 (Draws commands generations heads leaders c) a b n r
  draws_next c t A = adds_map (omega arith) on back A
    where
      on : (i k : ℕ) → Led commands generations leaders c i k ⊎ OnePair c (c + 1) i k → Draws commands generations heads leaders c i k
      on i k (inl d) = led d
      on i k (inr P) = rw (P.from, P.to) (next t)

      back : (i k : ℕ) → Draws commands generations heads leaders c i k → Led commands generations leaders c i k ⊎ OnePair c (c + 1) i k
      back i k (led d) = inl d
      back i k (next g) = inr (record { from = refl; to = refl })

  pub below_more : (c i k : ℕ) → DrawsBelow commands generations heads leaders c i k ⊎ Draws commands generations heads leaders c i k
      → DrawsBelow commands generations heads leaders (c + 1) i k
  below_more c i k (inl B) = record { one = B.one; low = omega (arith, B.low); draws = B.draws }
  below_more c i k (inr d) = record { one = c; low = omega arith; draws = d }

  pub more_below : (c i k : ℕ) → DrawsBelow commands generations heads leaders (c + 1) i k
      → DrawsBelow commands generations heads leaders c i k ⊎ Draws commands generations heads leaders c i k
  more_below c i k B =
      by_cases (ℕ_discrete B.one c) (λ (e : B.one ≡ c). inr (rw e at B.draws))
      (λ (d : B.one ≢ c). inl (record { one = B.one; low = omega (arith, B.low); draws = B.draws }))

-- ---- what is listed, and happens-before

module _ (commands lengths generations heads leaders : List ℕ) (H : Headed lengths heads (rows commands))
    (S : Seated commands generations leaders (rows commands)) where
  abbrev m : ℕ
  m = rows commands

  abbrev Edges : ℕ → ℕ → Type 0
  Edges = Edge (program commands lengths) (number_at generations)

  abbrev Drawn : ℕ → ℕ → Type 0
  Drawn = DrawsBelow commands generations heads leaders m

  begins : (j : ℕ) → j < m → own_head heads j ≡ is_first lengths j
  begins j l = first_by_head H j l

  meets_edge : (i k : ℕ) → does_meet_row commands generations i k ≡ true → Edges i k
  meets_edge i k e = let M = meets_parts commands generations i k e in meets M.from M.to M.register M.sync M.barrier M.generation

  -- sound
  one_edge : (c i k : ℕ) → Draws commands generations heads leaders c i k → Edges i k
  one_edge c i k (next f) =
      let l = follows_low heads m c f in
      along l (add-one c) (sym (begins (c + 1) l) ∙ not-true _ (both (ltb (c + 1) m) _ f).1)
  one_edge c i k (led (to e)) = meets_edge _ _ (leader_met commands generations leaders c e)
  one_edge c i k (led (from e f)) = meets_edge _ _ f

  pub drawn_edge : (i k : ℕ) → Drawn i k → Edges i k
  drawn_edge i k B = one_edge B.one i k B.draws

  drawn : (c i k : ℕ) → c < m → Draws commands generations heads leaders c i k → Reach Drawn i k
  drawn c i k l d = goes here (record { one = c; low = l; draws = d })

  -- complete
  pub edge_drawn : (i k : ℕ) → Edges i k → Reach Drawn i k
  edge_drawn i k (along lk e f) =
      let q : k ≡ i + 1 = e ∙ sym (add-one i) in
      rw q (drawn i i (i + 1) (omega arith) (next (pair _ _ (lt-ltb _ _ (rw q at lk)) (ap not (rw q at (begins k lk ∙ f))))))
  edge_drawn i k (meets li lk ri sk a e) =
      let M : Meeting commands generations i k = record { from = li; to = lk; register = ri; sync = sk; barrier = a; generation = e } in
      let (l, q, N) = sync_led commands generations leaders S k lk sk in
      let same = same_leader commands generations leaders i k M in
      reach_join (drawn i i l li (led (to (same ∙ q))))
      (drawn k l k lk (led (from q (parts_meet commands generations (meets_beside commands generations N (meets_itself commands generations k lk sk))))))

-- ---- the list that is handed on

-- the first n pairs of a room
module _ (room : List ℕ) (n : ℕ) (fits : n * 2 ≤ length room) where
  abbrev handed : List ℕ
  handed = take (n * 2) room

  handed_all : pair_count handed ≡ n
  handed_all = let e = length-take-le (n * 2) room fits in omega arith

  pub handed_pair : (m i k : ℕ) → PairIn handed m i k → PairBetween room 0 n i k
  handed_pair m i k P =
      let B = P.pair in
      let l : B.at < n = omega (arith, B.high, handed_all) in
      record {
        at = B.at;
        low = B.low;
        high = l;
        from = sym (get_or-take (n * 2) room (B.at * 2) 0 (omega arith)) ∙ B.from;
        to = sym (get_or-take (n * 2) room (B.at * 2 + 1) 0 (omega arith)) ∙ B.to;
      }

  pub pair_handed : (m i k : ℕ) → i < m → k < m → PairBetween room 0 n i k → PairIn handed m i k
  pair_handed m i k li lk B =
      record {
        pair = record {
          at = B.at;
          low = B.low;
          high = omega (arith, B.high, handed_all);
          from = get_or-take (n * 2) room (B.at * 2) 0 (omega (arith, B.high)) ∙ B.from;
          to = get_or-take (n * 2) room (B.at * 2 + 1) 0 (omega (arith, B.high)) ∙ B.to;
        };
        from = li;
        to = lk;
      }

-- ---- all together

pub listed_reached : {commands lengths generations heads leaders empty pairs b s : List ℕ} {n : ℕ} {said : Bool} → words (rows commands) ≤ length b
    → Headed lengths heads (rows commands) → Seated commands generations leaders (rows commands) → n * 2 ≤ length pairs
    → Adds (3 * rows commands) (DrawsBelow commands generations heads leaders (rows commands)) empty pairs 0 n
    → Writes (Reach (PairIn (take (n * 2) pairs) (rows commands))) b s (rows commands) said → Reached commands lengths (number_at generations) b s
listed_reached {commands} {lengths} {generations} {heads} {leaders} {empty} {pairs} {b} {s} {n} room H S fits A W =
    holds_map b s (rows commands) (Reach (PairIn (take (n * 2) pairs) (rows commands))) (Reach (Edge (program commands lengths) (number_at generations)))
    (λ i j li lj. (
      λ p. reach_map (λ x y P. drawn_edge commands lengths generations heads leaders H S x y (is_drawn x y (handed_pair pairs n fits (rows commands) x y P))) p,
      λ p. reach_flat (λ x y e. reach_map is_handed (edge_drawn commands lengths generations heads leaders H S x y e)) p,
    ))
    (wrote room W)
  where
    is_drawn : (x y : ℕ) → PairBetween pairs 0 n x y → DrawsBelow commands generations heads leaders (rows commands) x y
    is_drawn x y P = ⊎_elim (λ Q. absurd (omega (arith, Q.high))) (λ D. D) (A.only x y P)

    is_handed : (x y : ℕ) → DrawsBelow commands generations heads leaders (rows commands) x y → PairIn (take (n * 2) pairs) (rows commands) x y
    is_handed x y D =
        let (lx, ly) = edge_low (drawn_edge commands lengths generations heads leaders H S x y D) in
        pair_handed pairs n fits (rows commands) x y lx ly (A.new x y D)
