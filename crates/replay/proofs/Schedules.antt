-- The schedules that the replay lets through are those of `schedules`: legal and complete is the same, and clean, and the generations. Assumes nothing.
use mathlib.Core.Path.{◌≡◌, refl, sym, ap, ◌∙◌, subst}
use mathlib.Core.Logic.{by_cases, ◌≢◌}
use mathlib.Core.List.{List, [], ◌∷◌, ◌++◌, reverse, reverse-cons, reverse-append, reverse-reverse}
use Prim.Native.Nat.{ℕ, ◌<◌}
use native.Mathlib.Omega.{arith}
use native.Mathlib.Decide.{dec_lt}
use lib.ListN.{length, length-append, length-reverse}
use Rattle.tables.specs.Limits.{barriers}
use Rattle.tables.specs.Rows.{rows}
use Rattle.rules.specs.Rules.{Keeps}
use Rattle.verdicts.specs.Verdicts.{numbered}
use Rattle.verdicts.specs.declared.Verdict.{Verdict}
use Rattle.relation.proofs.Truth.{clashing, isnt}
use Rattle.schedules.specs.Machine as machine
use Rattle.schedules.specs.Threads as threads
use Rattle.schedules.proofs.Tests.{not_matching}
use Rattle.schedules.proofs.Theorems.{all_ran}
use Rattle.steps.specs.declared.step.Did.{Did}
use Rattle.steps.specs.declared.going.Replayed.{Replayed}
use Rattle.steps.specs.Step.{stepped}
use Rattle.steps.specs.Going.{went_on, go_on, begun, played, generation}
use Rattle.steps.proofs.Entries.{go_on_joined, one_on}
use Rattle.programs.specs.Program.{program}
use Rattle.replay.specs.Schedules.{Stops, Complete, stopped, mismatched, Clean}
use Rattle.replay.specs.Claims.{AllTied}
use Rattle.programs.proofs.Programs as programs
use Rattle.replay.proofs.Tied as tied
use Rattle.replay.proofs.Ties.{allowed_steps, steps_allowed, blocked_is, unset_is, no_barrier}
use Rattle.replay.proofs.Few.{legal_all}
use Rattle.replay.proofs.Plays.{PlaysTo, through, refused_at, mismatched_at, PlaysThrough, plays_all, legal_through, clean_through}

-- verdicts of different numbers are not the same
pub unlike {ℓ} : {A : Type ℓ} {v w : Verdict} → v ≡ w → (numbered v).number ≢ (numbered w).number → A
unlike e n = absurd (n (ap (λ (v : Verdict). (numbered v).number) e))

module _ {table lengths : List ℕ} (K : Keeps table lengths) where
  abbrev P : machine.Program
  P = program table lengths

  abbrev H : threads.Threads (program table lengths)
  H = programs.threads K

  -- ---- complete

  stops_to : {σ : List ℕ} → PlaysThrough K σ → Stops table lengths σ → threads.Stops P H (reverse σ)
  stops_to T stop t st = clashing (steps_allowed K T.stands t st) (stop t)

  stops_from : {σ : List ℕ} → PlaysThrough K σ → threads.Stops P H (reverse σ) → Stops table lengths σ
  stops_from T stop t = isnt _ (λ e. stop t (allowed_steps K T.stands t e))

  pub complete_to : {σ : List ℕ} → Complete table lengths σ → threads.Complete P H (reverse σ)
  complete_to {σ} (stopped c stop) = let T = clean_through K σ c in threads.stopped T.stands.legal (stops_to T stop)
  complete_to {σ} (mismatched {c} v len) = by (plays_all K σ)
    where
      by : PlaysTo K σ [] (played table lengths σ) 0 → threads.Complete P H (reverse σ)
      by (through S G w e) = unlike (sym v ∙ w) (λ z. omega arith)
      by (refused_at e nay w) = unlike (sym v ∙ w) (λ z. omega arith)
      by (mismatched_at e st m w) =
          let none : e.rest ≡ [] = no_rest e.rest (omega (arith, length-append e.ρ (e.t ∷ e.rest), ap length e.splits, len, e.steps)) in
          let last : σ ≡ e.ρ ++ e.t ∷ [] = e.splits ∙ ap (λ (l : List ℕ). e.ρ ++ e.t ∷ l) none in
          subst (threads.Complete P H) (sym (ap reverse last ∙ reverse-append e.ρ (e.t ∷ []))) (threads.mismatched e.stands.legal st m)
        where
          no_rest : (l : List ℕ) → length l ≡ 0 → l ≡ []
          no_rest [] h = refl
          no_rest (x ∷ l) h = absurd (omega arith)

  -- one more entry, after entries that go through
  last_entry : (ρ : List ℕ) (t : ℕ) (d : Did) → PlaysThrough K ρ → (stepped table lengths (played table lengths ρ).state t).did ≡ d
      → played table lengths (ρ ++ t ∷ []) ≡ went_on d (stepped table lengths (played table lengths ρ).state t).after (played table lengths ρ)
  unfolding played go_on
  last_entry ρ t d T e =
      go_on_joined table lengths ρ (t ∷ []) begun ∙ one_on table lengths (played table lengths ρ) t (ap (λ (v : Verdict). (numbered v).number) T.verdict) e refl

  mismatch_last : (ρ : List ℕ) (t : ℕ) → PlaysThrough K ρ → threads.Steps P H (reverse ρ) t
      → machine.Mismatch P (threads.after P H (reverse ρ)) (threads.at P H (reverse ρ) t) → Complete table lengths (ρ ++ t ∷ [])
  mismatch_last ρ t T st m = by (tied.outcome K T.stands t st)
    where
      by : tied.Outcome K (reverse ρ) (played table lengths ρ).state t → Complete table lengths (ρ ++ t ∷ [])
      by (tied.ran q match S) = absurd (not_matching m match)
      by (tied.mismatched q k w) =
          let e = last_entry ρ t _ T q in
          mismatched (ap (λ (r : Replayed). r.verdict) e) (omega (arith, ap (λ (r : Replayed). r.steps) e, T.steps, length-append ρ (t ∷ [])))

  pub complete_from : {υ : List ℕ} → threads.Complete P H υ → Complete table lengths (reverse υ)
  complete_from (threads.stopped {υ} L stop) =
      let T = legal_through K (reverse υ) (subst (threads.Legal P H) (sym (reverse-reverse υ)) L) in
      stopped T.verdict (stops_from T (subst (threads.Stops P H) (sym (reverse-reverse υ)) stop))
  complete_from (threads.mismatched {υ} {t} L st m) =
      let back = sym (reverse-reverse υ) in
      let T = legal_through K (reverse υ) (subst (threads.Legal P H) back L) in
      subst (Complete table lengths) (sym (reverse-cons t υ))
      (mismatch_last (reverse υ) t T (subst (λ (l : List ℕ). threads.Steps P H l t) back st)
      (subst (λ (l : List ℕ). machine.Mismatch P (threads.after P H l) (threads.at P H l t)) back m))

  -- ---- clean

  pub clean_to : {σ : List ℕ} → Clean table lengths σ → threads.Clean P H (reverse σ)
  clean_to {σ} C =
      let T = clean_through K σ C.through in
      record {
        legal = T.stands.legal;
        stops = stops_to T C.stops;
        unblocked = λ t l. (blocked_is K T.stands t l).1 (C.unblocked t l);
        unset =
            λ b. by_cases (dec_lt b barriers) (λ (l : b < barriers). (unset_is K T.stands b l).0 (C.unset b l))
            (λ n. no_barrier K (reverse σ) T.stands.legal b (omega arith));
      }

  pub clean_from : {σ : List ℕ} → threads.Clean P H (reverse σ) → Clean table lengths σ
  clean_from {σ} C =
      let T = legal_through K σ C.legal in
      record {
        through = T.verdict;
        stops = stops_from T C.stops;
        unblocked = λ t l. isnt _ (λ e. C.unblocked t l ((blocked_is K T.stands t l).0 e));
        unset = λ b l. (unset_is K T.stands b l).1 (C.unset b);
      }

  pub generation_is : {σ : List ℕ} → PlaysThrough K σ → (c : ℕ) → c < rows table → generation (played table lengths σ) c ≡ threads.gens P H (reverse σ) c
  generation_is T c l = T.gens.same c l

  -- a clean schedule runs every command
  pub clean_long : {σ : List ℕ} → Clean table lengths σ → length σ ≡ rows table
  clean_long {σ} C =
      let D = clean_to C in
      sym (length-reverse σ) ∙ legal_all K (reverse σ) D.legal (all_ran (programs.lawful K) H (reverse σ) D)

-- ---- the claim

pub all_tied : AllTied
all_tied commands lengths K =
    record {
      threads = programs.threads K;
      complete = λ σ. (complete_to K, λ c. subst (Complete commands lengths) (reverse-reverse σ) (complete_from K c));
      clean = λ σ. (clean_to K, clean_from K);
      gens = λ σ C. generation_is K (clean_through K σ C.through);
    }
