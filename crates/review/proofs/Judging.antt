-- Demand 3: what the verdict from one schedule says of all legal complete schedules. Assumes nothing.
use mathlib.Core.Path.{◌≡◌, refl, sym, ap, ◌∙◌, subst}
use mathlib.Core.Logic.{◌⊎◌, inl, inr, ⊎_elim, ◌↔◌, ◌≢◌}
use mathlib.Core.Bool.{Bool, true, false, cond}
use mathlib.Core.List.{List, [], ◌∷◌, reverse, reverse-reverse}
use Prim.Native.Nat.{ℕ, ◌<◌}
use native.Mathlib.Omega.{arith}
use lib.Dec.{ltb}
use lib.ListN.{length}
use Rattle.tables.specs.Limits.{barriers}
use Rattle.tables.specs.Rows.{rows}
use Rattle.rules.specs.Rules.{Keeps}
use Rattle.verdicts.specs.Verdicts.{tell, numbered}
use Rattle.verdicts.specs.Numbers.{settles, disagrees}
use Rattle.verdicts.specs.declared.Told.{Told}
use Rattle.verdicts.specs.declared.Verdict.{Verdict}
use Rattle.verdicts.specs.declared.Verdict.TheVariants as verdict
use Rattle.verdicts.proofs.Numbers.{disagrees_unsettled}
use Rattle.tables.proofs.Lowest.{lowest_hit}
use Rattle.relation.proofs.Truth.{clashing}
use Rattle.schedules.specs.Machine as machine
use Rattle.schedules.specs.Machine.{Program}
use Rattle.schedules.specs.Threads as threads
use Rattle.schedules.specs.HappensBefore.{Reaches, Reuse, reach}
use Rattle.schedules.specs.Claims as claims
use Rattle.schedules.proofs.Tests.{not_matching}
use Rattle.schedules.proofs.Theorems.{agreement, one_order, real, decided}
use Rattle.sheet.specs.declared.Pair.{Pair}
use Rattle.faults.specs.declared.faults.Fault.TheVariants as fault
use Rattle.steps.specs.Step.{allowed}
use Rattle.steps.specs.Ending.{is_blocked, barrier_set, lowest_allowed, lowest_blocked, lowest_set, last_run, ended, judged}
use Rattle.verdicts.specs.FirstTold.{or_else}
use Rattle.steps.specs.Going.{played}
use Rattle.programs.specs.Program.{program}
use Rattle.faults.specs.Faults.{conflict, race, faults}
use Rattle.findings.specs.Findings.{first_pair, fault_told}
use Rattle.review.specs.Judge.{generations_by, reaches}
use Rattle.replay.specs.Schedules.{state_after, Complete, stopped, mismatched, Clean, Agree, Disagree, unclean}
use Rattle.replay.specs.Schedules as schedules
use Rattle.review.specs.Agreement.{Judges}
use Rattle.replay.proofs.Told.{stops_by, clean_by}
use Rattle.programs.proofs.Programs as programs
use Rattle.replay.proofs.Plays.{PlaysTo, through, refused_at, mismatched_at, PlaysThrough, plays_all, clean_through, legal_through}
use Rattle.replay.proofs.Schedules.{unlike, complete_from, clean_to, generation_is}
use Rattle.programs.proofs.Reaching.{reuse_same, reaches_same}
use Rattle.replay.proofs.Agreements.{agree_from, disagreed, order_to, order_from}
use Rattle.faults.proofs.Pairs.{reuse_is, race_is, no_faults, some_fault}
use Rattle.faults.proofs.Conflicts.{accesses, reaches_either}

module _ {table lengths : List ℕ} (K : Keeps table lengths) (σ : List ℕ) where
  abbrev P : Program
  P = program table lengths

  abbrev H : threads.Threads (program table lengths)
  H = programs.threads K

  -- ---- where the offered schedule is not legal and complete, or the schedules do not agree

  judges_none : (n : ℕ) → ¬ (Complete table lengths σ × Agree table lengths) → settles n ≡ false → (disagrees n ≡ true → Disagree table lengths) → Judges table lengths σ n
  judges_none n nay f d =
      record {
        agreement = ((λ s. clashing s f), λ p. absurd (nay p));
        order = ((λ e. clashing (ap settles e) f), λ p. absurd (nay (p.0, p.1)));
        disagreement = d;
      }

  judges_incomplete : (n : ℕ) → ¬ Complete table lengths σ → settles n ≡ false → disagrees n ≡ false → Judges table lengths σ n
  judges_incomplete n nay f g = judges_none n (λ p. nay p.0) f (λ d. clashing d g)

  judges_disagree : (n : ℕ) → Disagree table lengths → disagrees n ≡ true → Judges table lengths σ n
  judges_disagree n d t = judges_none n (λ p. disagreed K d p.1) (disagrees_unsettled n t) (λ _. d)

  -- a schedule that ends at a mismatch is complete and not clean
  shows_mismatch : {υ : List ℕ} {t : ℕ} → threads.Legal P H υ → threads.Steps P H υ t → machine.Mismatch P (threads.after P H υ) (threads.at P H υ t) → Disagree table lengths
  shows_mismatch {υ} {t} L st m =
      unclean (reverse (t ∷ υ)) (complete_from K (threads.mismatched L st m))
      (λ D. not_matching m (subst (threads.Clean P H) (reverse-reverse (t ∷ υ)) (clean_to K D)).legal.2)

  -- ---- a clean schedule

  module _ (C : Clean table lengths σ) where
    abbrev g : ℕ → ℕ
    g = generations_by table lengths σ

    T : PlaysThrough K σ
    T = clean_through K σ C.through

    same : (c : ℕ) → c < rows table → g c ≡ threads.gens P H (reverse σ) c
    same c l = generation_is K T c l

    -- a schedule that shows a reuse fault to be real
    shows : {τ : List ℕ} → threads.Complete P H τ → (¬ threads.Clean P H τ) ⊎ ((x : ℕ) × (x < rows table) × (threads.gens P H τ x ≢ threads.gens P H (reverse σ) x))
        → Disagree table lengths
    shows {τ} c (inl n) = unclean (reverse τ) (complete_from K c) (λ D. n (subst (threads.Clean P H) (reverse-reverse τ) (clean_to K D)))
    shows {τ} (threads.stopped L stop) (inr (x, l, n)) =
        let c = complete_from K (threads.stopped L stop) in
        let R = legal_through K (reverse τ) (subst (threads.Legal P H) (sym (reverse-reverse τ)) L) in
        schedules.unlike (reverse τ) σ c (stopped C.through C.stops) x l
        (λ e. n (ap (λ (l : List ℕ). threads.gens P H l x) (sym (reverse-reverse τ)) ∙ sym (generation_is K R x l) ∙ e ∙ same x l))
    shows (threads.mismatched L st m) (inr _) = shows_mismatch L st m

    judges_reuse : (c₁ c₂ : ℕ) → Reuse P g c₁ c₂ → Judges table lengths σ 10
    judges_reuse c₁ c₂ R =
        let (τ, c, off) = real (programs.lawful K) H (reverse σ) (clean_to K C) c₁ c₂ (reuse_same P same R) in
        judges_disagree 10 (shows c off) refl

    -- no reuse fault
    module _ (none : faults table lengths g (reach P g) fault.Reuse ≡ []) where
      pub settled : claims.Settled P H (reverse σ)
      settled =
          record {
            clean = clean_to K C;
            none =
                ⊎_elim
                (λ w.
                let R = reuse_same P (λ c l. sym (same c l)) w.2 in
                clashing ((reuse_is table lengths g w.0 w.1 R.succeeds.low₁ R.succeeds.low₂).1 R)
                (no_faults table lengths g (reach P g) fault.Reuse none w.1 w.0 R.succeeds.low₂ R.succeeds.low₁))
                (λ N. N)
                (decided P (threads.gens P H (reverse σ)));
          }

      agree : Agree table lengths
      agree = agree_from K ((agreement (programs.lawful K) H (reverse σ) (clean_to K C)).1 settled.none)

      -- two accesses stand in the same order in all schedules exactly when one reaches the other
      ordered : (x y : ℕ) → x < rows table → y < rows table → x ≢ y → conflict table x y ≡ true
          → claims.InOneOrder P H x y ↔ (Reaches P g x y ⊎ Reaches P g y x)
      ordered x y lx ly ne c =
          let (ax, ay) = accesses table x y c in
          let (to, from) = one_order (programs.lawful K) H (reverse σ) settled x y lx ly ax ay ne in
          let back : (c : ℕ) → c < rows table → threads.gens P H (reverse σ) c ≡ g c = λ c l. sym (same c l) in (
            (λ s. ⊎_elim (λ r. inl (reaches_same P back r)) (λ r. inr (reaches_same P back r)) (to s)),
            (λ e. from (⊎_elim (λ r. inl (reaches_same P same r)) (λ r. inr (reaches_same P same r)) e)),
          )

      judges_race : (x y : ℕ) → x < rows table → y < rows table → race table lengths (reach P g) x y ≡ true → Judges table lengths σ 11
      judges_race x y lx ly e =
          let (l, c, _, a, b) = (race_is table lengths g x y lx ly).0 e in
          let ne : x ≢ y = λ q. omega arith in
          record {
            agreement = ((λ _. (stopped C.through C.stops, agree)), λ _. refl);
            order = (
              (λ z. absurd (omega arith)),
              λ p. ⊎_elim (λ r. absurd (a r)) (λ r. absurd (b r)) ((ordered x y lx ly ne c).0 (order_to K agree x y lx ly (p.2 x y lx ly ne c))),
            );
            disagreement = λ d. clashing d refl;
          }

      judges_clear : faults table lengths g (reach P g) fault.Race ≡ [] → Judges table lengths σ 0
      judges_clear no_Race =
          record {
            agreement = ((λ _. (stopped C.through C.stops, agree)), λ _. refl);
            order = (
              (λ _. (
                stopped C.through C.stops,
                agree,
                λ x y lx ly ne c. order_from K agree x y lx ly ((ordered x y lx ly ne c).1 (reaches_either K g no_Race x y lx ly ne c)),
              )),
              λ _. refl,
            );
            disagreement = λ d. clashing d refl;
          }

    -- by the faults that are found
    judges_clean : Judges table lengths σ (fault_told table lengths g (reach P g)).number
    judges_clean = by (faults table lengths g (reach P g) fault.Reuse) (faults table lengths g (reach P g) fault.Race) refl refl
      where
        by : (ps qs : List Pair) → faults table lengths g (reach P g) fault.Reuse ≡ ps → faults table lengths g (reach P g) fault.Race ≡ qs
            → Judges table lengths σ (first_pair 10 ps (first_pair 11 qs (tell 0 0 0))).number
        by (p ∷ ps) qs e f =
            let (c₂, c₁, l₂, l₁, h, _) = some_fault table lengths g (reach P g) fault.Reuse e in
            judges_reuse c₁ c₂ ((reuse_is table lengths g c₁ c₂ l₁ l₂).0 h)
        by [] (q ∷ qs) e f =
            let (x, y, lx, ly, h, _) = some_fault table lengths g (reach P g) fault.Race f in
            judges_race e x y lx ly h
        by [] [] e f = judges_clear e f

  -- ---- the offered schedule

  -- the verdict, of tables and rooms that pass refusals 1 to 4
  abbrev pub told : Told
  told = or_else (judged lengths (played table lengths σ)) (fault_told table lengths (generations_by table lengths σ) (reaches table lengths σ))

  not_complete : (v : Verdict) → (played table lengths σ).verdict ≡ v → (numbered v).number ≢ 0 → (numbered v).number ≢ 7 → ¬ Complete table lengths σ
  not_complete v e a b (stopped c _) = unlike (sym e ∙ c) a
  not_complete v e a b (mismatched c _) = unlike (sym e ∙ c) b

  -- all steps ran: it ended by 6, 8, 9, or clean
  module _ (c : (played table lengths σ).verdict ≡ verdict.Clean) where
    judges_through : (a b d : Bool) → ltb (lowest_allowed lengths (state_after table lengths σ)) (length lengths) ≡ a → ltb (lowest_blocked lengths (state_after table lengths σ)) (length lengths) ≡ b
        → ltb (lowest_set (state_after table lengths σ)) barriers ≡ d
        → Judges table lengths σ
        (or_else (cond a (tell 6 (played table lengths σ).steps 0) (cond b (tell 8 (last_run lengths (state_after table lengths σ) (lowest_blocked lengths (state_after table lengths σ))) 0) (cond d (tell 9 (lowest_set (state_after table lengths σ)) 0) (tell 0 0 0))))
        (fault_told table lengths (generations_by table lengths σ) (reaches table lengths σ))).number
    judges_through true b d ea eb ed =
        judges_incomplete 6 (λ C. incomplete C (lowest_hit (allowed lengths (state_after table lengths σ)) (length lengths) ea).1) refl refl
      where
        incomplete : Complete table lengths σ → allowed lengths (state_after table lengths σ) (lowest_allowed lengths (state_after table lengths σ)) ≡ true → ⊥
        incomplete (stopped _ stop) h = clashing h (stop (lowest_allowed lengths (state_after table lengths σ)))
        incomplete (mismatched v _) h = unlike (sym c ∙ v) (λ z. omega arith)
    judges_through false true d ea eb ed =
        let (l, h) = lowest_hit (is_blocked (state_after table lengths σ)) (length lengths) eb in
        judges_disagree 8 (unclean σ (stopped c (stops_by table lengths σ ea)) (λ C. clashing h (C.unblocked _ l))) refl
    judges_through false false true ea eb ed =
        let (l, h) = lowest_hit (barrier_set (state_after table lengths σ)) barriers ed in
        judges_disagree 9 (unclean σ (stopped c (stops_by table lengths σ ea)) (λ C. clashing h (C.unset _ l))) refl
    judges_through false false false ea eb ed =
        judges_clean (clean_by table lengths σ c ea eb ed)

  pub judges : Judges table lengths σ told.number
  unfolding judged ended
  judges = by (plays_all K σ)
    where
      by : PlaysTo K σ [] (played table lengths σ) 0 → Judges table lengths σ told.number
      by (through S G v e) = rw v (judges_through v _ _ _ refl refl refl)
      by (refused_at e nay v) = rw v (judges_incomplete 5 (not_complete _ v (λ z. omega arith) (λ z. omega arith)) refl refl)
      by (mismatched_at e st m v) = rw v (judges_disagree 7 (shows_mismatch e.stands.legal st m) refl)
