-- The loop of the schedule writer: after i steps the room has what they are, and the rest of the schedule is what is written from the state. Assumes nothing.
use mathlib.Core.Path.{◌≡◌, refl, sym, ap, ◌∙◌}
use mathlib.Core.Bool.{Bool, true, false}
use mathlib.Core.List.{List, [], ◌∷◌, ◌++◌, append-nil, append_assoc}
use Prim.Native.Nat.{ℕ, suc, ◌+◌, ◌-◌, ◌≤◌, ◌<◌}
use native.Mathlib.Numerals.{add-one}
use native.Mathlib.Omega.{arith}
use lib.Dec.{ltb}
use lib.ListN.{length, set, drop, length-append, length-set, length-map}
use lib.Seq.{set_at, drop-cons}
use borrow.Author.Tests.{le-ltb}
use Rattle.relation.proofs.Truth.{both}
use Rattle.tables.specs.Limits.{most_threads}
use Rattle.tables.specs.Rows.{first_row}
use Rattle.sets.specs.declared.Set.{Set}
use Rattle.sets.specs.Set.{has_but}
use Rattle.turns.specs.declared.ready.Ready.{Ready}
use Rattle.turns.specs.Turns.{has_any_left, may_step, does_go_first, lowest_or}
use Rattle.turns.specs.Ready.{looked, held_after}
use Rattle.turns.proofs.Turns.{left_so}
use Rattle.turns.proofs.Kept.{Kept, kept_more, but_left, but_first, or_bound, or_there, or_bound_none}
use Rattle.steps.specs.declared.change.Change.{Change}
use Rattle.steps.specs.declared.state.Replay.{Replay}
use Rattle.steps.specs.State.{ran_so_far}
use Rattle.steps.specs.Step.{allowed, stepped}
use Rattle.steps.specs.Writing.{does_go_on, stepping, picked, picked_first, writes, FilledBy}
use Rattle.steps.specs.Needs.{Found, applied}
use Rattle.steps.proofs.Stepping.{found_did, found_after}
use Rattle.steps.proofs.Filled.{filled_by}

module _ (early : List Bool) (commands lengths before : List ℕ) (from : Replay) where
  abbrev choose : Replay → ℕ
  choose = picked_first (does_go_first early) lengths

  pub record Writing (room : List ℕ) (s : Replay) (r : Ready) (blocked : Set) (i : ℕ) : Type 0 where
    pub next_long : length s.next ≡ most_threads
    pub waits_long : length s.waits ≡ most_threads
    pub kept : Kept lengths early s.next s.waits r blocked
    pub front : List ℕ
    pub long : length front ≡ i
    pub within : i ≤ length before
    pub room_is : room ≡ front ++ drop i before
    pub rest_is : writes early commands lengths (length before) from ≡ front ++ stepping choose commands lengths (length before - i) s

  pub writing_start : {r : Ready} {blocked : Set} → length from.next ≡ most_threads → length from.waits ≡ most_threads → Kept lengths early from.next from.waits r blocked → Writing before from r blocked 0
  writing_start ln lw K =
      let z : length before - 0 ≡ length before = omega arith in
      record { next_long = ln; waits_long = lw; kept = K; front = []; long = refl; within = omega arith; room_is = refl; rest_is = rw z }

  module _ {room : List ℕ} {s : Replay} {r : Ready} {blocked : Set} {i : ℕ} (W : Writing room s r blocked i) where
    filled : stepping choose commands lengths (length before - i) s ≡ [] → FilledBy (writes early commands lengths (length before) from) before room i
    filled e =
        let f : writes early commands lengths (length before) from ≡ W.front = W.rest_is ∙ ap (λ (l : List ℕ). W.front ++ l) e ∙ append-nil W.front in
        filled_by (sym W.long ∙ ap length (sym f)) (W.room_is ∙ ap (λ (l : List ℕ). l ++ drop i before) (sym f))

    pub writing_end : length before ≤ i → FilledBy (writes early commands lengths (length before) from) before room i
    unfolding stepping
    writing_end l = let z : length before - i ≡ 0 = omega arith in filled (rw z)

    -- ---- who steps

    -- a thread that may step is one
    in_both : (t : ℕ) → allowed lengths s t ≡ true → (t < most_threads) × (t < length lengths)
    unfolding allowed may_step
    in_both t e = let L = left_so lengths t (ran_so_far s t) (both (has_any_left lengths t (ran_so_far s t)) _ e).0 in (L.thread, L.there)

    first_both : (t : ℕ) → picked (does_go_first early) lengths s t ≡ true → (t < most_threads) × (t < length lengths)
    unfolding picked
    first_both t e = in_both t (both (allowed lengths s t) _ e).0

    module _ (l : i < length before) {t : ℕ} (is : t ≡ lowest_or (has_but r.first blocked) (has_but r.left blocked) most_threads) where
      left : length before - i ≡ suc (length before - (i + 1))
      left = omega arith

      firsts : (u : ℕ) → has_but r.first blocked u ≡ picked (does_go_first early) lengths s u
      unfolding picked allowed
      firsts u = but_first lengths early W.kept u

      lefts : (u : ℕ) → has_but r.left blocked u ≡ allowed lengths s u
      unfolding allowed
      lefts u = but_left lengths early W.kept u

      -- nobody is left
      pub writing_none : most_threads ≤ t → FilledBy (writes early commands lengths (length before) from) before room i
      unfolding stepping picked_first
      writing_none n = filled (rw (left, le-ltb (choose s) (length lengths) (or_bound_none firsts lefts first_both in_both (omega (arith, is)))))

      stored_so : set room i t ≡ (W.front ++ t ∷ []) ++ drop (i + 1) before
      stored_so =
          ap (λ (r : List ℕ). set r i t) (W.room_is ∙ ap (λ (r : List ℕ). W.front ++ r) (drop-cons before i 0 l))
          ∙ set_at W.front _ (drop (suc i) before) t i W.long ∙ rw add-one (sym (append_assoc W.front (t ∷ []) (drop (suc i) before)))

      module _ (thread : t < most_threads) {made : Change} (F : Found commands lengths s t made) where
        turn_is : t ≡ choose s
        unfolding picked_first
        turn_is = is ∙ or_bound firsts lefts first_both in_both (omega (arith, is))

        there : ltb (choose s) (length lengths) ≡ true
        unfolding picked_first
        there = or_there firsts lefts first_both in_both (omega (arith, is))

        did_so : {b : Bool} → does_go_on made.did ≡ b → does_go_on (stepped commands lengths s t).did ≡ b
        did_so e = ap does_go_on (found_did F) ∙ e

        -- it ends there
        pub writing_last : does_go_on made.did ≡ false → FilledBy (writes early commands lengths (length before) from) before (set room i t) (i + 1)
        unfolding stepping
        writing_last e =
            let f : writes early commands lengths (length before) from ≡ W.front ++ t ∷ [] = W.rest_is ∙ rw (left, there, sym turn_is, did_so e) in
            filled_by (omega (arith, length-append W.front (t ∷ []), W.long, ap length f)) (stored_so ∙ ap (λ (r : List ℕ). r ++ drop (i + 1) before) (sym f))

        -- or the step is written, and the schedule goes on
        pub writing_more : does_go_on made.did ≡ true → {x : ℕ} {s' : Replay} {r' : Ready} {b' : Set}
            → x ≡ first_row lengths t + ran_so_far s t + 1 → s' ≡ applied s t made
            → r' ≡ looked lengths early r t (ran_so_far s t + 1) x → b' ≡ held_after s'.waits (length lengths) t made.wait made.frees blocked
            → Writing (set room i t) s' r' b' (i + 1)
        unfolding stepping
        writing_more e {x} ex es er eb =
            let n = ran_so_far s t in
            let after : (stepped commands lengths s t).after ≡ applied s t made = found_after F e in
            rw (er, eb, es)
            (record {
              next_long = length-set s.next t (n + 1) ∙ W.next_long;
              waits_long = length-map (set s.waits t made.wait) _ ∙ length-set s.waits t made.wait ∙ W.waits_long;
              kept =
                  kept_more lengths early W.kept t thread made.wait made.frees (omega (arith, W.waits_long)) (n + 1) x (omega (arith, W.next_long)) refl
                  (omega (arith, ex));
              front = W.front ++ t ∷ [];
              long = omega (arith, length-append W.front (t ∷ []), W.long);
              within = omega arith;
              room_is = stored_so;
              rest_is = W.rest_is ∙ rw (left, there, sym turn_is, did_so e, after) (sym (append_assoc W.front (t ∷ []) _));
            })
