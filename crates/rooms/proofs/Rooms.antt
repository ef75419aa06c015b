-- The first room of a list that is short, room by room, and of lists put together. Assumes nothing.
use mathlib.Core.Path.{◌≡◌, refl, sym, ap, ◌∙◌, subst}
use mathlib.Core.Bool.{Bool, true, false, cond}
use mathlib.Core.List.{List, [], ◌∷◌, ◌++◌}
use Prim.Native.Nat.{ℕ, ◌+◌, ◌≤◌, ◌<◌}
use native.Mathlib.Numerals.{add-one}
use native.Mathlib.Omega.{arith}
use lib.ListN.{length, get_or, drop}
use lib.Seq.{drop-cons, drop-length}
use borrow.Author.Tests.{lt-ltb, le-ltb, ltb-false}
use Rattle.rooms.specs.declared.short.Room.{Room}
use Rattle.verdicts.specs.Verdicts.{tell}
use Rattle.verdicts.specs.FirstTold.{or_else}
use Rattle.verdicts.specs.declared.Told.{Told}
use Rattle.verdicts.proofs.FirstTold.{or_zero, or_assoc}
use Rattle.rooms.specs.Short.{room_of, is_short, short, first_short}

-- ---- one room

module _ (r : Room) where
  long_told : r.needed ≤ r.given → tell 0 0 0 ≡ short r
  long_told l = sym (rw (le-ltb _ _ l))

  -- what is not told short is long enough
  long_enough : (short r).number ≡ 0 → r.needed ≤ r.given
  long_enough e = ltb-false _ _ (by (is_short r) e)
    where
      by : (b : Bool) → (cond b (tell 4 r.digit 0) (tell 0 0 0)).number ≡ 0 → b ≡ false
      by true e = absurd (omega arith)
      by false e = refl

-- ---- a list of rooms

none_short : tell 0 0 0 ≡ first_short []
unfolding first_short
none_short = refl

module _ (r : Room) (rooms : List Room) where
  more_short : first_short (r ∷ rooms) ≡ or_else (short r) (first_short rooms)
  unfolding first_short
  more_short = refl

  -- a room that is long enough, and then the others
  pub more_long : r.needed ≤ r.given → first_short (r ∷ rooms) ≡ first_short rooms
  more_long l = more_short ∙ ap (λ (t : Told). or_else t (first_short rooms)) (sym (long_told r l))

  -- where none is told short, the first is long enough, and of the others none is told
  pub all_long : (first_short (r ∷ rooms)).number ≡ 0 → (r.needed ≤ r.given) × ((first_short rooms).number ≡ 0)
  all_long e =
      let (a, b) = or_zero (short r) (first_short rooms) (ap (λ (t : Told). t.number) (sym more_short) ∙ e) in
      (long_enough r a, b)

  -- what holds of 4 with the first digit, and of what the others tell, holds of what is told
  pub first_either : (P : Told → Type 0) → P (tell 4 r.digit 0) → P (first_short rooms) → P (first_short (r ∷ rooms))
  first_either P p q = subst P (sym more_short) (by (is_short r))
    where
      by : (b : Bool) → P (or_else (cond b (tell 4 r.digit 0) (tell 0 0 0)) (first_short rooms))
      by true = p
      by false = q

pub none_either : (P : Told → Type 0) → P (tell 0 0 0) → P (first_short [])
none_either P p = subst P none_short p

-- the rooms of one list, and then those of another
pub then_short : (rooms others : List Room) → first_short (rooms ++ others) ≡ or_else (first_short rooms) (first_short others)
unfolding first_short
then_short [] others = refl
then_short (r ∷ rooms) others = ap (or_else (short r)) (then_short rooms others) ∙ sym (or_assoc (short r) (first_short rooms) (first_short others))

-- ---- a list gone through from the front: none of the first i rooms is short

module _ (rooms : List Room) (i : ℕ) (none : first_short (drop i rooms) ≡ first_short rooms) where
  pub gone_all : i ≡ length rooms → tell 0 0 0 ≡ first_short rooms
  gone_all e = none_short ∙ sym (rw (e, drop-length)) ∙ none

  module _ (there : i < length rooms) where
    abbrev next : Room
    next = get_or rooms i (room_of 0 0 0)

    -- room i, and then the rest
    next_told : first_short (next ∷ drop (i + 1) rooms) ≡ first_short rooms
    next_told = ap first_short (rw add-one (sym (drop-cons rooms i (room_of 0 0 0) there))) ∙ none

    pub gone_short : next.given < next.needed → tell 4 next.digit 0 ≡ first_short rooms
    gone_short l = sym (rw (lt-ltb _ _ l)) ∙ sym (more_short next (drop (i + 1) rooms)) ∙ next_told

    pub gone_more : next.needed ≤ next.given → first_short (drop (i + 1) rooms) ≡ first_short rooms
    gone_more l = sym (more_long next (drop (i + 1) rooms) l) ∙ next_told
