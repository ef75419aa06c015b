-- The contract of `review` from what its parts found: refused, judged, or filled. Assumes nothing.
use mathlib.Core.Path.{◌≡◌, refl, sym, ap, ◌∙◌, subst}
use mathlib.Core.Logic.{◌≢◌}
use mathlib.Core.Bool.{true, false}
use mathlib.Core.List.{List, [], ◌∷◌}
use Prim.Native.Nat.{ℕ, ◌≤◌, ◌<◌}
use native.Mathlib.Omega.{arith}
use lib.ListN.{length, get_or}
use borrow.Author.Tests.{eq-eqb}
use Rattle.tables.specs.Rows.{rows}
use Rattle.std.specs.Prelude.{Result, Ok, Err, IsOk}
use Rattle.verdicts.specs.Verdicts.{tell, refused, numbered}
use Rattle.verdicts.specs.Numbers.{is_refusal, is_ending, has_pairs, fills, is_verdict}
use Rattle.verdicts.specs.declared.Told.{Told}
use Rattle.verdicts.specs.declared.Refusal.{Refusal}
use Rattle.verdicts.specs.declared.Verdict.{Verdict}
use Rattle.verdicts.specs.declared.Verdict.TheVariants.{Clean, Refused}
use Rattle.verdicts.proofs.Verdicts.{refused_some, zero_clean}
use Rattle.verdicts.proofs.Numbers.{few_refusal, refusal_verdict, refusal_unfilled, ending_verdict, ending_unfilled, fills_verdict}
use Rattle.relation.specs.Table.{related}
use Rattle.relation.proofs.Truth.{clashing}
use Rattle.sheet.specs.declared.Pair.{Pair}
use Rattle.replay.specs.declared.offered.Judged.{Judged}
use Rattle.faults.specs.declared.faults.Fault.{Fault}
use Rattle.faults.specs.declared.faults.Fault.TheVariants.{Reuse, Race}
use Rattle.findings.specs.declared.finding.Finding.{Finding}
use Rattle.steps.specs.Going.{played}
use Rattle.replay.specs.Doors.{Replays}
use Rattle.steps.specs.Ending.{judged}
use Rattle.rooms.specs.Refusals.{review_refusal, size_refusal}
use Rattle.rooms.specs.Rooms.{number_at}
use Rattle.happens.specs.HappensBefore.{Reached}
use Rattle.happens.specs.Promise.{PutsHappensBefore}
use Rattle.faults.specs.Faults.{faults}
use Rattle.sheet.specs.Sheet.{sheet_of}
use Rattle.findings.specs.Findings.{first_pair, or_pairs, fault_told, fault_pairs, Finds}
use Rattle.review.specs.Judge.{generations_by, reaches, verdict_of}
use Rattle.review.specs.Agreement.{number, Judges, Reviewed}
use Rattle.verdicts.proofs.FirstTold.{or_first, or_second}
use Rattle.replay.proofs.Plays.{PlaysThrough, clean_through}
use Rattle.replay.proofs.Told.{judged_ending, clean_verdict}
use Rattle.review.proofs.Rooms.{put, put_front, put_beyond}
use Rattle.rooms.proofs.Refusals.{Admitted, refused_small, admitted, admitted_sizes}
use Rattle.happens.proofs.Reaching.{same_reached, related_reaches}
use Rattle.faults.proofs.Pairs.{same_faults}
use Rattle.review.proofs.Judging.{told, judges}
use Rattle.review.proofs.Telling.{verdict_same, pairs_same}

-- ---- the numbers of a refusal and of faults

pub refused_refusal : (commands lengths : List ℕ) (relation room : ℕ) → let n = (review_refusal commands lengths relation room).number in n ≢ 0 → is_refusal n ≡ true
refused_refusal commands lengths relation room = few_refusal (review_refusal commands lengths relation room).number (refused_small commands lengths relation room)

pub fault_fills : (ps qs : List Pair) → fills (first_pair 10 ps (first_pair 11 qs (tell 0 0 0))).number ≡ true
fault_fills (p ∷ ps) qs = refl
fault_fills [] (q ∷ qs) = refl
fault_fills [] [] = refl

-- a number without pairs is told where there are none
no_faults : (ps qs : List Pair) → has_pairs (first_pair 10 ps (first_pair 11 qs (tell 0 0 0))).number ≡ false → or_pairs ps qs ≡ []
no_faults (p ∷ ps) qs f = clashing refl f
no_faults [] (q ∷ qs) f = clashing refl f
no_faults [] [] f = refl

-- ---- happens-before, of lengths that are not refused

pub happened : {commands lengths generations relation relation' : List ℕ} (h : Result (Unit {0}) Refusal) → PutsHappensBefore commands lengths generations relation h relation'
    → (size_refusal commands (length relation) (length generations)).number ≡ 0 → IsOk h × Reached commands lengths (number_at generations) relation relation'
happened (Ok x) O z = (refl, O.holds)
happened (Err r) O z = absurd (refused_some r (ap (λ (t : Told). t.number) O.refusal ∙ z))

-- ---- the contract

module _ (commands lengths σ relation room : List ℕ) where
  abbrev verdicts : Told
  verdicts = verdict_of commands lengths σ (length relation) (length room)

  abbrev refusal : Told
  refusal = review_refusal commands lengths (length relation) (length room)

  -- demand 3 follows from the verdict
  third : (v : Verdict) → numbered v ≡ verdicts → refusal ≡ tell 0 0 0 → Judges commands lengths σ (numbered v).number
  unfolding verdict_of
  third v e z =
      let pass : refusal.number ≡ 0 = ap (λ (t : Told). t.number) z in
      let K = (admitted commands lengths (length relation) (length room) pass).keeps in
      subst (Judges commands lengths σ) (ap (λ (t : Told). t.number) (or_second refusal (told K σ) pass ∙ sym e)) (judges K σ)

  unfilled : (v : Verdict) → numbered v ≡ verdicts → is_verdict (numbered v).number ≡ true → fills (numbered v).number ≡ false
      → Reviewed commands lengths σ relation room (record { verdict = v; sheet = sheet_of [] }) relation room
  unfilled v e t f =
      record {
        demand₁ =
            record {
              verdict = t;
              empty = λ _. refl;
              relation_kept = λ _. refl;
              generations_kept = λ _. refl;
              relation_beyond = λ p h. refl;
              generations_beyond = λ p h. refl;
            };
        demand₂ =
            record { verdict = λ ρ T. e ∙ verdict_same commands lengths σ ρ T _ _; sheet = λ ρ T t. clashing t f; relation_holds = λ t. clashing t f; generations_hold = λ t. clashing t f };
        demand₃ = third v e;
      }

  -- 1 to 4
  pub reviewed_refused : (r : Refusal) → refused r ≡ refusal → {v : Verdict} → v ≡ Refused r
      → Reviewed commands lengths σ relation room (record { verdict = v; sheet = sheet_of [] }) relation room
  unfolding verdict_of
  reviewed_refused r e {v} is =
      let q : numbered v ≡ refusal = ap numbered is ∙ e in
      let n : refusal.number ≢ 0 = λ z. refused_some r (ap (λ (t : Told). t.number) e ∙ z) in
      let t : is_refusal (numbered v).number ≡ true = rw q (refused_refusal commands lengths (length relation) (length room) n) in
      unfilled v (q ∙ or_first refusal _ n) (refusal_verdict (numbered v).number t) (refusal_unfilled (numbered v).number t)

  module _ (pass : refusal.number ≡ 0) where
    A : Admitted commands lengths (length relation) (length room)
    A = admitted commands lengths (length relation) (length room) pass

    -- the room of the generations is as long as it was, so its length is not refused
    pub happens : {room' relation' : List ℕ} {h : Result (Unit {0}) Refusal} → length room' ≡ length room → PutsHappensBefore commands lengths room' relation h relation' → IsOk h
    happens {h = h} long O = (happened h O (rw long (admitted_sizes commands lengths (length relation) (length room) pass))).0

    -- what the judge says of tables that pass
    module _ {j : Judged} (J : Replays commands lengths σ j) where
      -- 5 to 9
      pub reviewed_judged : (j.verdict ≡ Clean → ⊥)
          → Reviewed commands lengths σ relation room (record { verdict = j.verdict; sheet = sheet_of [] }) relation room
      unfolding verdict_of
      reviewed_judged c =
          let e = J.verdict in
          let n : (numbered j.verdict).number ≢ 0 = λ z. c (zero_clean j.verdict z) in
          let d : is_ending (numbered j.verdict).number ≡ true = rw e (judged_ending A.keeps σ) in
          unfilled j.verdict (e ∙ or_first (judged lengths (played commands lengths σ)) _ (λ z. n (ap (λ (t : Told). t.number) e ∙ z)) ∙ or_second refusal _ pass)
          (ending_verdict (numbered j.verdict).number d) (ending_unfilled (numbered j.verdict).number d n)

      -- 0, 10 and 11
      module _ (zero : j.verdict ≡ Clean) {h : Result (Unit {0}) Refusal} {r : Finding} {relation' room' : List ℕ} (put_in : room' ≡ put j.generations (rows commands) room)
          (long : length room' ≡ length room) (O : PutsHappensBefore commands lengths room' relation h relation') (F : Finds commands lengths room' relation' r) where
        clean : (judged lengths (played commands lengths σ)).number ≡ 0
        clean = ap (λ (t : Told). t.number) (sym J.verdict ∙ ap numbered zero)

        is_put : room' ≡ put (played commands lengths σ).generations (rows commands) room
        is_put = put_in ∙ ap (λ (g : List ℕ). put g (rows commands) room) J.generations

        T : PlaysThrough A.keeps σ
        T = clean_through A.keeps σ (clean_verdict lengths (played commands lengths σ) clean)

        abbrev g : ℕ → ℕ
        g = generations_by commands lengths σ

        fits : rows commands ≤ length (played commands lengths σ).generations
        fits = omega (arith, A.keeps.few_rows, T.gens.long)

        same : (c : ℕ) → c < rows commands → number_at room' c ≡ g c
        same c l = ap (λ (r : List ℕ). get_or r c 0) is_put ∙ put_front (played commands lengths σ).generations room (rows commands) fits c l

        again : (size_refusal commands (length relation) (length room')).number ≡ 0
        again = rw long (admitted_sizes commands lengths (length relation) (length room) pass)

        reached : Reached commands lengths g relation relation'
        reached = same_reached commands lengths (number_at room') g same relation relation' (happened h O again).1

        once_more : (size_refusal commands (length relation') (length room')).number ≡ 0
        once_more = rw reached.len again

        -- over a room that holds what reaches what, the faults are those over what reaches what
        found : (f : Fault) → faults commands lengths (number_at room') (related relation' (rows commands)) f ≡ faults commands lengths g (reaches commands lengths σ) f
        found = same_faults commands lengths (number_at room') g _ _ same (related_reaches commands lengths g relation relation' reached A.relation_fits)

        pub reviewed_filled : Reviewed commands lengths σ relation room r relation' room'
        unfolding verdict_of
        reviewed_filled =
            let d : numbered r.verdict ≡ fault_told commands lengths (number_at room') (related relation' (rows commands)) = F.verdict ∙ sym (or_second _ _ once_more) in
            let e : numbered r.verdict ≡ fault_told commands lengths g (reaches commands lengths σ) = d ∙ rw (found Reuse, found Race) in
            let q : numbered r.verdict ≡ verdicts = e ∙ or_second (judged lengths (played commands lengths σ)) _ clean ∙ or_second refusal _ pass in
            let n : number r ≡ (fault_told commands lengths g (reaches commands lengths σ)).number = ap (λ (t : Told). t.number) e in
            let s : r.sheet ≡ sheet_of (fault_pairs commands lengths g (reaches commands lengths σ)) = F.sheet ∙ rw (eq-eqb _ 0 once_more, found Reuse, found Race) in
            let f : fills (number r) ≡ true = ap fills n ∙ fault_fills (faults commands lengths g (reaches commands lengths σ) Reuse) (faults commands lengths g (reaches commands lengths σ) Race) in
            record {
              demand₁ =
                  record {
                    verdict = fills_verdict (number r) f;
                    empty =
                        λ z. s ∙ ap sheet_of (no_faults (faults commands lengths g (reaches commands lengths σ) Reuse) (faults commands lengths g (reaches commands lengths σ) Race) (ap has_pairs (sym n) ∙ z));
                    relation_kept = λ z. clashing f z;
                    generations_kept = λ z. clashing f z;
                    relation_beyond = reached.kept;
                    generations_beyond = λ p h. ap (λ (r : List ℕ). get_or r p 0) is_put ∙ put_beyond (played commands lengths σ).generations room (rows commands) fits p h;
                  };
              demand₂ =
                  record { verdict = λ ρ T. q ∙ verdict_same commands lengths σ ρ T _ _; sheet = λ ρ T _. s ∙ ap sheet_of (pairs_same commands lengths σ ρ T); relation_holds = λ _. reached; generations_hold = λ _. is_put };
              demand₃ = third r.verdict q;
            }
