-- Where a machine stops: it walks to an end, or to a state where it is stuck. Assumes nothing.
use mathlib.Core.Path.{◌≡◌, refl, sym, ap, subst, ◌∙◌}
use mathlib.Core.Bool.{Bool, true, false, cond, true≢false}
use mathlib.Core.Option.{Option, none, some}
use mathlib.Core.List.{List, [], ◌∷◌, ◌++◌, append-nil}
use Prim.Native.Nat.{ℕ, suc, ◌≤◌}
use native.Mathlib.Omega.{arith}
use lib.ListN.{length, take, drop, take-append-drop}
use Rattle.spelling.specs.Machine.{Move, refuse, on, row_done, thread_done, further, found_after, found}
use Rattle.spelling.specs.Refusal.{Follows}
use Rattle.spelling.proofs.Laws.{Goes, Walk, walk_split, walk_one}

-- tokens go on after the first of them as the others do
pub follows_self : {T : Type 0} (ts : List T) (i : ℕ) → Follows ts (take i ts) (drop i ts)
follows_self {T} ts i = subst (λ (l : List T). Follows l (take i ts) (drop i ts)) (take-append-drop i ts) (after (take i ts) (drop i ts))
  where
    after : (before rest : List T) → Follows (before ++ rest) before rest
    after before [] = append-nil before
    after before (t ∷ rest) = (rest, refl)

module _ {S T : Type 0} (next : S → T → Move S) (ends : S → Bool) where
  -- a state takes the first token of the rest no more, or its end
  abbrev pub Stuck : S → List T → Type 0
  Stuck u [] = ends u ≡ false
  Stuck u (t ∷ ts) = next u t ≡ refuse

  -- so there is no way on
  pub no_way : (before rest ts : List T) (s u v : S) → Walk next before s u → Stuck u rest → Follows ts before rest → Walk next ts s v → ends v ≡ true → ⊥
  no_way before [] ts s u v w x f y e =
      let q : v ≡ u = walk_one next before s (subst (λ (l : List T). Walk next l s v) f y) w in
      true≢false (sym e ∙ ap ends q ∙ x)
  no_way before (t ∷ rest) ts s u v w x (more, f) y e =
      let z = walk_split next before (t ∷ more) s v (rw f at y) in
      let q : z.0 ≡ u = walk_one next before s z.1 w in
      rw (q, x) at z.2.1

  -- what a stop means
  abbrev Stops : Option ℕ → List T → S → Type 0
  Stops none ts s = (u : S) × Walk next ts s u × (ends u ≡ true)
  Stops (some i) ts s = (i ≤ length ts) × (u : S) × Walk next (take i ts) s u × Stuck u (drop i ts)

  stops_end : (s : S) (b : Bool) → ends s ≡ b → Stops (cond b none (some 0)) [] s
  stops_end s true e = (s, refl, e)
  stops_end s false e = (omega arith, s, refl, e)

  stops_on : (t : T) (ts : List T) (s v : S) → Goes next s t v → (o : Option ℕ) → Stops o ts v → Stops (further o) (t ∷ ts) s
  stops_on t ts s v g none (u, w, e) = (u, (v, g, w), e)
  stops_on t ts s v g (some i) (l, u, w, x) = (omega arith, u, (v, g, w), x)

  module _ (t : T) (ts : List T) (s : S) (f : (v : S) (n : ℕ) → Stops (found next ends ts v n).stop ts v) where
    stops_next : (v : S) (n : ℕ) → Goes next s t v → Stops (further (found next ends ts v n).stop) (t ∷ ts) s
    stops_next v n g = stops_on t ts s v g (found next ends ts v n).stop (f v n)

    stops_by : (m : Move S) (n : ℕ) → next s t ≡ m → Stops (found_after m n (found next ends ts)).stop (t ∷ ts) s
    stops_by refuse n e = (omega arith, s, refl, e)
    stops_by (on v) n e = stops_next v n (rw e)
    stops_by (row_done r v) n e = stops_next v (suc n) (rw e)
    stops_by (thread_done v) n e = stops_next v 0 (rw e)

  stops : (ts : List T) (s : S) (n : ℕ) → Stops (found next ends ts s n).stop ts s
  unfolding found
  stops [] s n = stops_end s (ends s) refl
  stops (t ∷ ts) s n = stops_by t ts s (stops ts) (next s t) n refl

  module _ (ts : List T) (s : S) (n : ℕ) where
    pub found_none : (found next ends ts s n).stop ≡ none → (u : S) × Walk next ts s u × (ends u ≡ true)
    found_none e = rw e at (stops ts s n)

    pub found_some : (i : ℕ) → (found next ends ts s n).stop ≡ some i → (i ≤ length ts) × (u : S) × Walk next (take i ts) s u × Stuck u (drop i ts)
    found_some i e = rw e at (stops ts s n)
