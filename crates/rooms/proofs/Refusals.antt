-- Refusals 1 to 4, each from the test that found it, and what is known of tables and rooms that are not refused. Assumes nothing.
use mathlib.Core.Path.{◌≡◌, refl, sym, ◌∙◌}
use mathlib.Core.Logic.{◌≢◌}
use mathlib.Core.Bool.{Bool, true, false, cond}
use mathlib.Core.List.{List, [], ◌∷◌}
use Prim.Native.Nat.{ℕ, ◌≤◌}
use native.Mathlib.Omega.{arith}
use Rattle.tables.specs.Rows.{rows}
use Rattle.rules.specs.Rules.{Keeps, are_bad_commands, checked}
use Rattle.verdicts.specs.Verdicts.{tell, refused}
use Rattle.verdicts.specs.declared.Told.{Told}
use Rattle.verdicts.specs.declared.Refusal.{Refusal}
use Rattle.rules.proofs.Rules.{passes, passes_zero, checked_small, good_commands, whole_commands}
use Rattle.verdicts.proofs.FirstTold.{or_first, or_second, or_either, or_zero, or_refused, or_passed}
use Rattle.relation.specs.Table.{words}
use Rattle.rooms.specs.Short.{room_of, first_short}
use Rattle.rooms.specs.Refusals.{review_rooms, review_refusal, size_refusal}
use Rattle.rooms.specs.Needs.{Ample}
use Rattle.rooms.proofs.Rooms.{more_long, all_long, first_either, none_either}

-- ---- 1 and 4, of the lengths alone

module _ (commands : List ℕ) (relation_length generation_length : ℕ) where
  abbrev shorts : Told
  shorts = first_short (review_rooms (rows commands) relation_length generation_length)

  pub sizes_commands : are_bad_commands commands ≡ true → tell 1 0 0 ≡ size_refusal commands relation_length generation_length
  unfolding size_refusal
  sizes_commands e = sym (rw e)

  sizes_shorts : are_bad_commands commands ≡ false → shorts ≡ size_refusal commands relation_length generation_length
  unfolding size_refusal
  sizes_shorts e = sym (rw e)

  pub sizes_rooms : are_bad_commands commands ≡ false → {w : ℕ} → w ≡ words (rows commands)
      → first_short (room_of 0 w relation_length ∷ room_of 1 (rows commands) generation_length ∷ []) ≡ size_refusal commands relation_length generation_length
  sizes_rooms e w = rw w (sizes_shorts e)

  -- what holds of 4 with each digit, and of 0, holds of what is told of the rooms
  shorts_either : (P : Told → Type 0) → P (tell 4 0 0) → P (tell 4 1 0) → P (tell 0 0 0) → P shorts
  shorts_either P p q z = first_either (room_of 0 (words (rows commands)) relation_length) _ P p (first_either (room_of 1 (rows commands) generation_length) [] P q (none_either P z))

  -- rooms that are long enough, and rooms that are not told short
  none_shorts : words (rows commands) ≤ relation_length → rows commands ≤ generation_length → tell 0 0 0 ≡ shorts
  none_shorts r g = sym (more_long (room_of 0 (words (rows commands)) relation_length) _ r ∙ more_long (room_of 1 (rows commands) generation_length) [] g ∙ none_either (λ (t : Told). t ≡ tell 0 0 0) refl)

  long_rooms : shorts.number ≡ 0 → (words (rows commands) ≤ relation_length) × (rows commands ≤ generation_length)
  long_rooms e =
      let r = room_of 0 (words (rows commands)) relation_length in
      let g = room_of 1 (rows commands) generation_length in
      let (a, b) = all_long r (g ∷ []) e in
      (a, (all_long g [] b).0)

  good_sizes : (b : Bool) → (cond b (tell 1 0 0) (tell 0 0 0)).number ≡ 0 → b ≡ false
  good_sizes true e = absurd (omega arith)
  good_sizes false e = refl

  -- lengths that are not refused
  pub ample : (size_refusal commands relation_length generation_length).number ≡ 0 → Ample commands relation_length generation_length
  unfolding size_refusal
  ample e =
      let (a, b) = or_zero (cond (are_bad_commands commands) (tell 1 0 0) (tell 0 0 0)) shorts e in
      let (r, g) = long_rooms b in
      record { few_rows = (whole_commands commands (good_sizes (are_bad_commands commands) a)).1; relation_fits = r; generations_fit = g }

-- ---- 1 to 4

module _ (commands lengths : List ℕ) (relation_length generation_length : ℕ) where
  -- the check of tables refused them
  pub refuses_tables : (r : Refusal) → refused r ≡ checked commands lengths → refused r ≡ review_refusal commands lengths relation_length generation_length
  unfolding review_refusal
  refuses_tables r e = or_refused r e (shorts commands relation_length generation_length)

  -- of tables that pass only the rooms can be refused
  pub refuses_rooms : tell 0 0 0 ≡ checked commands lengths → size_refusal commands relation_length generation_length ≡ review_refusal commands lengths relation_length generation_length
  unfolding review_refusal
  refuses_rooms e =
      let K = passes commands lengths (sym e) in
      sym (sizes_shorts commands relation_length generation_length (good_commands commands K.whole K.few_rows))
      ∙ or_passed e (shorts commands relation_length generation_length)

-- ---- tables and rooms that pass
pub record Admitted (commands lengths : List ℕ) (relation_length generation_length : ℕ) : Type 0 where
  pub checks : (checked commands lengths).number ≡ 0
  pub keeps : Keeps commands lengths
  pub relation_fits : words (rows commands) ≤ relation_length
  pub generations_fit : rows commands ≤ generation_length

module _ (commands lengths : List ℕ) (relation_length generation_length : ℕ) where
  -- 1 to 3, as they are without rooms
  pub refused_tables : (checked commands lengths).number ≢ 0 → checked commands lengths ≡ review_refusal commands lengths relation_length generation_length
  unfolding review_refusal
  refused_tables n = or_first (checked commands lengths) (shorts commands relation_length generation_length) n

  -- tables and rooms that pass
  pub refused_none : (checked commands lengths).number ≡ 0 → words (rows commands) ≤ relation_length → rows commands ≤ generation_length
      → tell 0 0 0 ≡ review_refusal commands lengths relation_length generation_length
  unfolding review_refusal
  refused_none e r g = none_shorts commands relation_length generation_length r g ∙ or_second (checked commands lengths) (shorts commands relation_length generation_length) e

  -- what holds of 1 to 3, of 4 with each digit, and of 0, holds of what is told
  pub refused_either : (P : Told → Type 0) → P (checked commands lengths) → P (tell 4 0 0) → P (tell 4 1 0) → P (tell 0 0 0)
      → P (review_refusal commands lengths relation_length generation_length)
  unfolding review_refusal
  refused_either P c p q z =
      or_either P (checked commands lengths) (shorts commands relation_length generation_length) c (λ _. shorts_either commands relation_length generation_length P p q z)

  pub refused_small : (review_refusal commands lengths relation_length generation_length).number ≤ 4
  refused_small = refused_either (λ (t : Told). t.number ≤ 4) (omega (arith, checked_small commands lengths)) (omega arith) (omega arith) (omega arith)

  module _ (e : (review_refusal commands lengths relation_length generation_length).number ≡ 0) where
    pub admitted : Admitted commands lengths relation_length generation_length
    unfolding review_refusal
    admitted =
        let (a, b) = or_zero (checked commands lengths) (shorts commands relation_length generation_length) e in
        let (r, g) = long_rooms commands relation_length generation_length b in
        record { checks = a; keeps = passes_zero commands lengths a; relation_fits = r; generations_fit = g }

    -- nor are their lengths refused
    pub admitted_sizes : (size_refusal commands relation_length generation_length).number ≡ 0
    unfolding review_refusal
    admitted_sizes =
        let K = admitted.keeps in
        let (_, b) = or_zero (checked commands lengths) (shorts commands relation_length generation_length) e in
        rw (← sizes_shorts commands relation_length generation_length (good_commands commands K.whole K.few_rows)) b
