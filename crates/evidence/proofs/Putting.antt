-- Schedules put into a room one after the other. Assumes nothing.
use mathlib.Core.Path.{◌≡◌, refl, sym, ap, ap₂, ◌∙◌}
use mathlib.Core.Bool.{Bool}
use mathlib.Core.List.{List, [], ◌∷◌, ◌++◌, append-nil, append_assoc}
use Prim.Native.Nat.{ℕ, suc, ◌+◌, ◌*◌, ◌-◌, ◌≤◌, ◌<◌}
use native.Mathlib.Nat.{mul-le-mul_right, suc-mul}
use native.Mathlib.Numerals.{add-one}
use native.Mathlib.Omega.{arith}
use lib.ListN.{length, get_or, take, drop, length-append, length-drop, take-append-drop}
use lib.Seq.{drop-length, drop-drop, drop-cons, drop-append-add, take_at}
use borrow.Rule.Slice.PartMut.{mid_of, post_of, put_mid, Post-is}
use Rattle.tables.specs.Rows.{rows}
use Rattle.std.specs.Prelude.{Result, IsOk}
use Rattle.verdicts.specs.declared.Refusal.{Refusal}
use Rattle.sheet.specs.declared.Pair.{Pair}
use Rattle.sheet.specs.Sheet.{pair}
use Rattle.replay.specs.Writer.{apart_from, apart_schedule}
use Rattle.steps.specs.Writing.{picked_first, FilledBy}
use Rattle.replay.specs.Doors.{WritesBy}
use Rattle.replay.proofs.Wrote.{written_ok}
use Rattle.replay.proofs.Places.{schedule_by_few}
use Rattle.evidence.specs.Evidence.{both_ways, first_first, second_first}
use Rattle.evidence.specs.Needs.{PutsAt, FitsAt, FitsAll}
use Rattle.steps.proofs.Filled.{filled_room}

-- ---- one schedule, from a place on

-- what lies from `at` on is the part that is lent
module _ (room : List ℕ) (at : ℕ) (l : at ≤ length room) where
  nothing_after : post_of at (length room - at) room ≡ []
  nothing_after = Post-is at (length room) room l ∙ drop-length room

  pub part_is : mid_of at (length room - at) room ≡ drop at room
  part_is =
      sym (append-nil (mid_of at (length room - at) room)) ∙ ap (λ (r : List ℕ). mid_of at (length room - at) room ++ r) (sym nothing_after)
      ∙ take-append-drop (length room - at) (drop at room)

-- no schedule has more steps than there are rows
pub apart_few : (commands lengths : List ℕ) (ρ : ℕ → ℕ → Bool) (c d : ℕ) → length (apart_schedule commands lengths ρ c d) ≤ rows commands
apart_few commands lengths ρ c d = schedule_by_few commands lengths (picked_first (apart_from ρ c d) lengths)

module _ {σ commands lengths room : List ℕ} {at : ℕ} (F : FitsAt commands lengths room at) where
  -- the part that is lent is long enough
  pub wrote_ok : {after : List ℕ} {w : Result ℕ Refusal} → WritesBy σ commands lengths (mid_of at (length room - at) room) after w → IsOk w
  wrote_ok {w = w} W =
      written_ok w W F.keeps (omega (arith, F.fits, ap length (part_is room at (omega (arith, F.fits))), length-drop at room))

  module _ {after : List ℕ} {n : ℕ} (E : FilledBy σ (mid_of at (length room - at) room) after n) where
    pub wrote_few : length σ ≤ rows commands → n ≤ rows commands
    wrote_few short = omega (arith, E.long)

    pub wrote_at : PutsAt σ room (put_mid at (length room - at) room after) at (at + n)
    wrote_at =
        record {
          ends = ap (λ (n : ℕ). at + n) E.long;
          room =
              ap₂ (λ (a b : List ℕ). take at room ++ (a ++ b)) (filled_room E) (nothing_after room at (omega (arith, F.fits)))
              ∙ ap (λ (r : List ℕ). take at room ++ r) (append-nil (σ ++ drop n (mid_of at (length room - at) room)))
              ∙ ap (λ (r : List ℕ). take at room ++ (σ ++ r)) (ap (drop n) (part_is room at (omega (arith, F.fits))) ∙ drop-drop n at room);
        }

-- ---- one after the other

-- the room has a front, and beyond it is as it was
pub record Fronted (before room front : List ℕ) (at : ℕ) : Type 0 where
  pub long : length front ≡ at
  pub room_is : room ≡ front ++ drop at before

pub front_none : (room : List ℕ) → Fronted room room [] 0
front_none room = record { long = refl; room_is = refl }

pub front_long : {before room front : List ℕ} {at : ℕ} → Fronted before room front at → at ≤ length before → length room ≡ length before
front_long {before} {room} {front} {at} R l = omega (arith, ap length R.room_is, length-append front (drop at before), length-drop at before, R.long)

pub front_more : {before room front σ room' : List ℕ} {at r : ℕ} → Fronted before room front at → PutsAt σ room room' at r → Fronted before room' (front ++ σ) r
front_more {before} {room} {front} {σ} {room'} {at} {r} R Q =
    let e : drop r room ≡ drop r before =
    ap₂ drop (Q.ends ∙ ap (λ (n : ℕ). n + length σ) (sym R.long)) R.room_is ∙ drop-append-add front (drop at before) (length σ) ∙ drop-drop (length σ) at before
    ∙ ap (λ (n : ℕ). drop n before) (sym Q.ends) in
    let f : take at room ≡ front = ap (take at) R.room_is ∙ take_at front (drop at before) at R.long in
    record {
      long = omega (arith, length-append front σ, R.long, Q.ends);
      room_is = Q.room ∙ ap₂ (λ (a b : List ℕ). a ++ (σ ++ b)) f e ∙ sym (append_assoc front σ (drop r before));
    }

-- ---- both ways of each pair: after k pairs

pub record Racing (commands lengths : List ℕ) (ρ : ℕ → ℕ → Bool) (pairs : List Pair) (before room : List ℕ) (at k : ℕ) : Type 0 where
  pub all : FitsAll commands lengths pairs before
  pub front : List ℕ
  pub fronted : Fronted before room front at
  pub few : at ≤ k * rows commands * 2
  pub rest_is : both_ways commands lengths ρ pairs ≡ front ++ both_ways commands lengths ρ (drop k pairs)

module _ (commands lengths : List ℕ) (ρ : ℕ → ℕ → Bool) (pairs : List Pair) (before : List ℕ) where
  pub racing_start : FitsAll commands lengths pairs before → Racing commands lengths ρ pairs before before 0 0
  racing_start F = record { all = F; front = []; fronted = front_none before; few = omega arith; rest_is = refl }

  module _ {room : List ℕ} {at k : ℕ} (R : Racing commands lengths ρ pairs before room at k) where
    budget : k ≤ length pairs → k * rows commands ≤ length pairs * rows commands
    budget l = mul-le-mul_right {m = k} {n = length pairs} (rows commands) l

    pub racing_long : k ≤ length pairs → length room ≡ length before
    racing_long l = front_long R.fronted (omega (arith, R.few, R.all.fits, budget l))

    pub racing_end : k ≡ length pairs → PutsAt (both_ways commands lengths ρ pairs) before room 0 at
    unfolding both_ways
    racing_end l =
        let z : drop k pairs ≡ [] = ap (λ (i : ℕ). drop i pairs) l ∙ drop-length pairs in
        let f : both_ways commands lengths ρ pairs ≡ R.front =
        R.rest_is ∙ ap (λ (ps : List Pair). R.front ++ both_ways commands lengths ρ ps) z ∙ append-nil R.front in
        record { ends = omega (arith, ap length f, R.fronted.long); room = R.fronted.room_is ∙ ap (λ (r : List ℕ). r ++ drop at before) (sym f) }

    module _ (l : k < length pairs) where
      abbrev p : Pair
      p = get_or pairs k (pair 0 0)

      more : suc k * rows commands ≤ length pairs * rows commands
      more = mul-le-mul_right {m = suc k} {n = length pairs} (rows commands) l

      long : length room ≡ length before
      long = racing_long (omega arith)

      pub racing_fits : FitsAt commands lengths room at
      racing_fits = record { keeps = R.all.keeps; fits = omega (arith, long, R.few, R.all.fits, more, suc-mul k (rows commands)) }

      module _ {room₁ : List ℕ} {at₁ : ℕ} (A : PutsAt (first_first commands lengths ρ p) room room₁ at at₁) where
        half_few : at₁ ≤ at + rows commands
        half_few = omega (arith, A.ends, apart_few commands lengths ρ p.second p.first)

        half : Fronted before room₁ (R.front ++ first_first commands lengths ρ p) at₁
        half = front_more R.fronted A

        pub half_long : length room₁ ≡ length before
        half_long = front_long half (omega (arith, half_few, R.few, R.all.fits, more, suc-mul k (rows commands)))

        pub half_fits : FitsAt commands lengths room₁ at₁
        half_fits = record { keeps = R.all.keeps; fits = omega (arith, half_long, half_few, R.few, R.all.fits, more, suc-mul k (rows commands)) }

        module _ {room₂ : List ℕ} {at₂ : ℕ} (B : PutsAt (second_first commands lengths ρ p) room₁ room₂ at₁ at₂) where
          pub racing_more : Racing commands lengths ρ pairs before room₂ at₂ (k + 1)
          unfolding both_ways
          racing_more =
              let a = first_first commands lengths ρ p in
              let b = second_first commands lengths ρ p in
              let s : drop k pairs ≡ p ∷ drop (k + 1) pairs = rw add-one (drop-cons pairs k (pair 0 0) l) in
              let rest = both_ways commands lengths ρ (drop (k + 1) pairs) in
              record {
                all = R.all;
                front = (R.front ++ a) ++ b;
                fronted = front_more half B;
                few = omega (arith, half_few, R.few, B.ends, apart_few commands lengths ρ p.first p.second, suc-mul k (rows commands), ap (λ (i : ℕ). i * rows commands) (add-one k));
                rest_is =
                    R.rest_is ∙ ap (λ (ps : List Pair). R.front ++ both_ways commands lengths ρ ps) s
                    ∙ sym (append_assoc R.front a (b ++ rest)) ∙ sym (append_assoc (R.front ++ a) b rest);
              }
