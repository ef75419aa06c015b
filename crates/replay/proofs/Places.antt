-- Where a verdict stands: no number of its place is above the limit of rows, and no generation. What is told of a legal complete schedule; how
-- long a written one is, and what its entries are. Assumes nothing.
use mathlib.Core.Path.{◌≡◌, refl}
use mathlib.Core.Logic.{◌⊎◌, inl, inr, ⊎_elim}
use mathlib.Core.Bool.{Bool, true, false, cond}
use mathlib.Core.List.{List, [], ◌∷◌, reverse}
use Prim.Native.Nat.{ℕ, zero, suc, ◌≤◌, ◌<◌}
use native.Mathlib.Omega.{arith}
use lib.Dec.{ltb}
use lib.ListN.{length, get_or, length-reverse}
use borrow.Author.Tests.{ltb-true}
use Rattle.tables.specs.Limits.{most_rows, barriers}
use Rattle.tables.specs.Rows.{rows}
use Rattle.rules.specs.Rules.{Keeps, checked}
use Rattle.verdicts.specs.Verdicts.{tell}
use Rattle.verdicts.specs.Numbers.{ends_unclean}
use Rattle.verdicts.specs.declared.Told.{Told}
use Rattle.verdicts.specs.declared.Verdict.TheVariants as verdict
use Rattle.tables.proofs.Lowest.{lowest_first, lowest_hit}
use Rattle.tables.proofs.Rows.{end_most}
use Rattle.rules.proofs.Rules.{checked_place}
use Rattle.relation.proofs.Truth.{clashing, isnt}
use Rattle.schedules.proofs.Threads.{stand}
use Rattle.steps.specs.declared.state.Replay.{Replay}
use Rattle.steps.specs.State.{start}
use Rattle.steps.specs.Step.{allowed, stepped}
use Rattle.steps.specs.Writing.{does_go_on, stepping}
use Rattle.replay.specs.Writer.{schedule_by, schedule}
use Rattle.steps.specs.Ending.{is_blocked, barrier_set, lowest_allowed, lowest_blocked, lowest_set, last_run, ended, judged}
use Rattle.steps.specs.Going.{played, generation}
use Rattle.replay.specs.Schedules.{state_after, Complete, stopped, mismatched, Clean}
use Rattle.programs.proofs.Programs.{threads}
use Rattle.replay.proofs.Few.{legal_few, gens_few}
use Rattle.replay.proofs.Ties.{Stands, command_is, command_row}
use Rattle.replay.proofs.Told.{clean_told}
use Rattle.replay.proofs.Plays.{PlaysTo, through, refused_at, mismatched_at, plays_all, clean_through}

pub record Placed (t : Told) : Type 0 where
  pub place : t.place ≤ most_rows
  pub also : t.also ≤ most_rows

pub placed : (n p : ℕ) → p ≤ most_rows → Placed (tell n p 0)
placed n p l = record { place = l; also = omega arith }

-- ---- 1 to 3: a bad row is one of not too many

pub checked_placed : (commands lengths : List ℕ) → Placed (checked commands lengths)
checked_placed commands lengths = let (place, also) = checked_place commands lengths in record { place = place; also = omega arith }

-- ---- 6, 8 and 9: the steps that ran, a command that ran, a barrier

end_placed : (a b d : Bool) (p q r : ℕ) → p ≤ most_rows → (b ≡ true → q ≤ most_rows) → r ≤ most_rows
    → Placed (cond a (tell 6 p 0) (cond b (tell 8 q 0) (cond d (tell 9 r 0) (tell 0 0 0))))
end_placed true b d p q r hp hq hr = placed 6 p hp
end_placed false true d p q r hp hq hr = placed 8 q (hq refl)
end_placed false false true p q r hp hq hr = placed 9 r hr
end_placed false false false p q r hp hq hr = placed 0 0 (omega arith)

few_barriers : barriers ≤ most_rows
unfolding barriers most_rows
few_barriers = omega arith

module _ {commands lengths : List ℕ} (K : Keeps commands lengths) where
  -- a thread's next command is at most the end of its rows
  last_placed : {υ : List ℕ} {s : Replay} → Stands K υ s → (t : ℕ) → t < length lengths → last_run lengths s t ≤ most_rows
  last_placed {υ} S t l =
      omega (arith, command_is K S t l, ((stand (threads K) υ S.legal).range t l).1, end_most lengths t, K.adds_up, K.few_rows)

  ended_placed : {υ : List ℕ} {s : Replay} → Stands K υ s → (n : ℕ) → n ≤ most_rows → Placed (ended lengths s n)
  unfolding ended
  ended_placed {s = s} S n few =
      end_placed (ltb (lowest_allowed lengths s) (length lengths)) (ltb (lowest_blocked lengths s) (length lengths)) (ltb (lowest_set s) barriers)
      n (last_run lengths s (lowest_blocked lengths s)) (lowest_set s) few
      (λ e. last_placed S (lowest_blocked lengths s) (lowest_hit (is_blocked s) (length lengths) e).0)
      (omega (arith, (lowest_first (barrier_set s) barriers).at_most, few_barriers))

  -- ---- 5 to 9: each step that ran is another command

  steps_placed : (ρ : List ℕ) {s : Replay} → Stands K (reverse ρ) s → length ρ ≤ most_rows
  steps_placed ρ S = omega (arith, legal_few K (reverse ρ) S.legal, length-reverse ρ, K.few_rows)

  pub judged_placed : (σ : List ℕ) → Placed (judged lengths (played commands lengths σ))
  unfolding judged
  judged_placed σ = by (plays_all K σ)
    where
      by : PlaysTo K σ [] (played commands lengths σ) 0 → Placed (judged lengths (played commands lengths σ))
      by (through S G v e) = rw v (ended_placed S (played commands lengths σ).steps (omega (arith, e, steps_placed σ S)))
      by (refused_at e nay v) = rw v (placed 5 (played commands lengths σ).steps (omega (arith, e.steps, steps_placed e.ρ e.stands)))
      by (mismatched_at e st m v) = rw v (placed 7 _ (omega (arith, command_row K e.stands e.t st, K.few_rows)))

  -- ---- a generation in a schedule that goes through

  pub generation_placed : (σ : List ℕ) → (played commands lengths σ).verdict ≡ verdict.Clean → (c : ℕ) → c < rows commands → generation (played commands lengths σ) c ≤ most_rows
  generation_placed σ e c l =
      let T = clean_through K σ e in
      omega (arith, T.gens.same c l, gens_few K (reverse σ) c, legal_few K (reverse σ) T.stands.legal, K.few_rows)

-- ---- a legal complete schedule is told 7 to 9, or 0

ended_told : (a b d : Bool) (p q r : ℕ) → a ≡ false
    → let n = (cond a (tell 6 p 0) (cond b (tell 8 q 0) (cond d (tell 9 r 0) (tell 0 0 0)))).number in (n ≡ 0) ⊎ (ends_unclean n ≡ true)
ended_told true b d p q r e = clashing refl e
ended_told false true d p q r e = inr refl
ended_told false false true p q r e = inr refl
ended_told false false false p q r e = inl refl

pub complete_told : {commands lengths : List ℕ} (σ : List ℕ) → Complete commands lengths σ
    → ((judged lengths (played commands lengths σ)).number ≡ 0) ⊎ (ends_unclean (judged lengths (played commands lengths σ)).number ≡ true)
unfolding judged ended
complete_told {commands} {lengths} σ (stopped c stop) =
    let s = state_after commands lengths σ in
    rw c (ended_told (ltb (lowest_allowed lengths s) (length lengths)) (ltb (lowest_blocked lengths s) (length lengths)) (ltb (lowest_set s) barriers) _ _ _
    (isnt _ (λ e. clashing (lowest_hit (allowed lengths s) (length lengths) e).1 (stop (lowest_allowed lengths s)))))
complete_told σ (mismatched v _) = rw v (inr refl)

-- what is complete and not clean ends in 7, 8 or 9
pub dirty_told : {commands lengths : List ℕ} (σ : List ℕ) → Complete commands lengths σ → ¬ Clean commands lengths σ
    → ends_unclean (judged lengths (played commands lengths σ)).number ≡ true
dirty_told {commands} {lengths} σ c n = ⊎_elim (λ z. absurd (n (clean_told commands lengths σ z))) (λ w. w) (complete_told σ c)

-- ---- a written schedule has no more steps than there are rows

module _ (commands lengths : List ℕ) where
  one_more : (a b : Bool) (t n : ℕ) (σ : List ℕ) → length σ ≤ n → length (cond a (t ∷ cond b σ []) []) ≤ suc n
  one_more true true t n σ l = omega arith
  one_more true false t n σ l = omega arith
  one_more false b t n σ l = omega arith

  pub stepping_few : (choose : Replay → ℕ) (n : ℕ) (s : Replay) → length (stepping choose commands lengths n s) ≤ n
  unfolding stepping
  stepping_few choose zero s = omega arith
  stepping_few choose (suc n) s =
      let t = choose s in
      let d = stepped commands lengths s t in
      one_more (ltb t (length lengths)) (does_go_on d.did) t n (stepping choose commands lengths n d.after) (stepping_few choose n d.after)

  pub schedule_by_few : (choose : Replay → ℕ) → length (schedule_by choose commands lengths) ≤ rows commands
  unfolding schedule_by
  schedule_by_few choose = stepping_few choose (rows commands) start

  pub schedule_few : length (schedule commands lengths) ≤ rows commands
  unfolding schedule
  schedule_few = schedule_by_few (lowest_allowed lengths)

  -- ---- and its entries are threads

  abbrev Low : List ℕ → Type 0
  Low σ = (k : ℕ) → k < length σ → get_or σ k 0 < length lengths

  more_low : (a b : Bool) (t : ℕ) (σ : List ℕ) → (a ≡ true → t < length lengths) → Low σ → Low (cond a (t ∷ cond b σ []) [])
  more_low true b t σ h f zero l = h refl
  more_low true true t σ h f (suc k) l = f k (omega arith)
  more_low true false t σ h f (suc k) l = absurd (omega arith)
  more_low false b t σ h f k l = absurd (omega arith)

  steps_low : (choose : Replay → ℕ) (n : ℕ) (s : Replay) → Low (stepping choose commands lengths n s)
  unfolding stepping
  steps_low choose zero s = λ k l. absurd (omega arith)
  steps_low choose (suc n) s =
      let t = choose s in
      let d = stepped commands lengths s t in
      more_low (ltb t (length lengths)) (does_go_on d.did) t (stepping choose commands lengths n d.after) (ltb-true t (length lengths)) (steps_low choose n d.after)

  pub schedule_by_low : (choose : Replay → ℕ) (k : ℕ) → k < length (schedule_by choose commands lengths) → get_or (schedule_by choose commands lengths) k 0 < length lengths
  unfolding schedule_by
  schedule_by_low choose = steps_low choose (rows commands) start
