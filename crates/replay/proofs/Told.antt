-- What is told of a replay: 5 to 9, or 0, and 0 only where it ended clean. Assumes nothing.
use mathlib.Core.Path.{◌≡◌, refl, ap, ◌∙◌}
use mathlib.Core.Logic.{by_cases, ◌≢◌}
use mathlib.Core.Bool.{Bool, true, false, cond}
use mathlib.Core.List.{List, []}
use Prim.Native.Nat.{ℕ, ◌<◌}
use native.Mathlib.Omega.{arith}
use native.Mathlib.Decide.{ℕ_discrete, dec_lt}
use lib.Dec.{ltb}
use lib.ListN.{length}
use borrow.Author.Tests.{ne_eqb}
use Rattle.tables.specs.Limits.{barriers}
use Rattle.rules.specs.Rules.{Keeps}
use Rattle.verdicts.specs.Verdicts.{tell, numbered}
use Rattle.verdicts.specs.Numbers.{is_ending}
use Rattle.verdicts.specs.declared.Verdict.{Verdict}
use Rattle.verdicts.specs.declared.Verdict.TheVariants as verdict
use Rattle.tables.proofs.Lowest.{lowest_miss}
use Rattle.verdicts.proofs.Verdicts.{zero_clean}
use Rattle.relation.proofs.Truth.{isnt}
use Rattle.steps.proofs.Changing.{may}
use Rattle.steps.specs.declared.state.Replay.{Replay}
use Rattle.steps.specs.declared.going.Replayed.{Replayed}
use Rattle.steps.specs.Going.{played}
use Rattle.steps.specs.Step.{allowed}
use Rattle.replay.specs.Schedules.{state_after, Through, Stops, Clean}
use Rattle.steps.specs.Ending.{is_blocked, barrier_set, lowest_allowed, lowest_blocked, lowest_set, ended, judged}
use Rattle.replay.specs.Doors.{Replays}
use Rattle.replay.proofs.Plays.{PlaysTo, through, refused_at, mismatched_at, plays_all}

ended_ending : (a b d : Bool) (p q r : ℕ) → is_ending (cond a (tell 6 p 0) (cond b (tell 8 q 0) (cond d (tell 9 r 0) (tell 0 0 0)))).number ≡ true
ended_ending true b d p q r = refl
ended_ending false true d p q r = refl
ended_ending false false true p q r = refl
ended_ending false false false p q r = refl

pub judged_ending : {commands lengths : List ℕ} → Keeps commands lengths → (σ : List ℕ) → is_ending (judged lengths (played commands lengths σ)).number ≡ true
unfolding judged ended
judged_ending {commands} {lengths} K σ = by (plays_all K σ)
  where
    by : PlaysTo K σ [] (played commands lengths σ) 0 → is_ending (judged lengths (played commands lengths σ)).number ≡ true
    by (through S G v e) = rw v (ended_ending (ltb (lowest_allowed lengths s) (length lengths)) (ltb (lowest_blocked lengths s) (length lengths)) (ltb (lowest_set s) barriers) _ _ _)
      where
        s : Replay
        s = (played commands lengths σ).state
    by (refused_at e nay v) = rw v
    by (mismatched_at e st m v) = rw v

-- a replay that is told 0 went through
pub clean_verdict : (lengths : List ℕ) (r : Replayed) → (judged lengths r).number ≡ 0 → r.verdict ≡ verdict.Clean
unfolding judged
clean_verdict lengths r e =
    by_cases (ℕ_discrete (numbered r.verdict).number 0) (λ (z : (numbered r.verdict).number ≡ 0). zero_clean r.verdict z)
    (λ (n : (numbered r.verdict).number ≢ 0). absurd (n (rw (ne_eqb _ _ n) at e)))

-- ---- a replay that went through, by whether a step is allowed, a thread blocked, a barrier set

none_of : (a b d : Bool) (p q r : ℕ) → (cond a (tell 6 p 0) (cond b (tell 8 q 0) (cond d (tell 9 r 0) (tell 0 0 0)))).number ≡ 0
    → (a ≡ false) × (b ≡ false) × (d ≡ false)
none_of true b d p q r e = absurd (omega arith)
none_of false true d p q r e = absurd (omega arith)
none_of false false true p q r e = absurd (omega arith)
none_of false false false p q r e = (refl, refl, refl)

module _ (commands lengths σ : List ℕ) where
  abbrev s : Replay
  s = state_after commands lengths σ

  pub stops_by : ltb (lowest_allowed lengths s) (length lengths) ≡ false → Stops commands lengths σ
  stops_by e t =
      by_cases (dec_lt t (length lengths)) (λ (l : t < length lengths). lowest_miss (allowed lengths s) (length lengths) e t l)
      (λ (n : ¬ (t < length lengths)). isnt _ (λ a. n (may commands lengths s t a).left.there))

  pub clean_by : Through commands lengths σ → ltb (lowest_allowed lengths s) (length lengths) ≡ false → ltb (lowest_blocked lengths s) (length lengths) ≡ false
      → ltb (lowest_set s) barriers ≡ false → Clean commands lengths σ
  clean_by c a b d =
      record {
        through = c;
        stops = stops_by a;
        unblocked = lowest_miss (is_blocked s) (length lengths) b;
        unset = lowest_miss (barrier_set s) barriers d;
      }

  -- what is told 0 ends clean
  pub clean_told : (judged lengths (played commands lengths σ)).number ≡ 0 → Clean commands lengths σ
  unfolding judged ended
  clean_told e =
      let c = clean_verdict lengths (played commands lengths σ) e in
      let (a, b, d) =
      none_of (ltb (lowest_allowed lengths s) (length lengths)) (ltb (lowest_blocked lengths s) (length lengths)) (ltb (lowest_set s) barriers) _ _ _ (rw c at e) in
      clean_by c a b d

-- ---- the judge's answer

pub judges_replayed : (commands lengths σ : List ℕ) (q : Replayed) → q ≡ played commands lengths σ → (w : Verdict) → numbered w ≡ judged lengths q
    → Replays commands lengths σ (record { verdict = w; generations = q.generations })
judges_replayed commands lengths σ q is w tells = record { verdict = tells ∙ ap (judged lengths) is; generations = ap (λ (q : Replayed). q.generations) is }
