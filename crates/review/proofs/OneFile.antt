-- One program, one file: what two reviews of one program leave that end in 0 or 11. Assumes nothing.
use mathlib.Core.Path.{◌≡◌, sym, ap, ◌∙◌, subst}
use mathlib.Core.Logic.{by_cases, ◌≢◌}
use mathlib.Core.Bool.{true, false}
use mathlib.Core.List.{List}
use Prim.Native.Nat.{ℕ, ◌≤◌, ◌<◌}
use native.Mathlib.Decide.{ℕ_discrete}
use native.Mathlib.Omega.{arith}
use lib.ListN.{length, get_or}
use Rattle.tables.specs.Rows.{rows}
use Rattle.verdicts.specs.declared.Told.{Told}
use Rattle.verdicts.specs.Numbers.{fills, settles}
use Rattle.verdicts.proofs.Numbers.{settled_fills, refusal_unfilled, ending_unfilled}
use Rattle.relation.specs.Table.{words}
use Rattle.relation.proofs.Truth.{clashing, same_test}
use Rattle.relation.proofs.Rooms.{holds_same}
use Rattle.schedules.proofs.Theorems.{decides}
use Rattle.sheet.specs.Sheet.{sheet_of}
use Rattle.faults.specs.declared.faults.Fault.{Fault}
use Rattle.faults.specs.declared.faults.Fault.TheVariants.{Reuse, Race}
use Rattle.verdicts.specs.FirstTold.{or_else}
use Rattle.steps.specs.Going.{played}
use Rattle.steps.specs.Ending.{judged}
use Rattle.programs.specs.Program.{program}
use Rattle.replay.specs.Schedules.{Complete, Agree, Alike}
use Rattle.verdicts.proofs.FirstTold.{or_first, or_second}
use Rattle.replay.proofs.Plays.{clean_through}
use Rattle.replay.proofs.Told.{judged_ending}
use Rattle.programs.proofs.Reaching.{reaches_same}
use Rattle.rooms.specs.Refusals.{review_refusal}
use Rattle.rooms.proofs.Refusals.{Admitted, admitted}
use Rattle.happens.specs.HappensBefore.{Reached}
use Rattle.happens.proofs.Reaching.{same_reached}
use Rattle.faults.specs.Faults.{faults}
use Rattle.faults.proofs.Pairs.{same_faults}
use Rattle.findings.specs.Findings.{fault_told, fault_pairs}
use Rattle.review.specs.Judge.{generations_by, reaches, verdict_of}
use Rattle.review.specs.Agreement.{number, Review, OneFile, OneForAll}
use Rattle.review.proofs.Rooms.{put_front}
use Rattle.review.proofs.Judging.{told, judges}
use Rattle.review.proofs.Reviews.{refused_refusal}
use Rattle.review.proofs.Telling.{verdict_is, sheet_is}

-- what is told first and does not fill the rooms is 0
first_zero : (a b : Told) → (a.number ≢ 0 → fills a.number ≡ false) → settles (or_else a b).number ≡ true → a.number ≡ 0
first_zero a b f s =
    by_cases (ℕ_discrete a.number 0) (λ (e : a.number ≡ 0). e)
    (λ (n : a.number ≢ 0). clashing (settled_fills a.number (subst (λ (t : Told). settles t.number ≡ true) (sym (or_first a b n)) s)) (f n))

-- ---- the verdict of one schedule

-- what is told past refusals 1 to 4
past_refusal : (commands lengths σ : List ℕ) (relation room : ℕ) → (review_refusal commands lengths relation room).number ≡ 0
    → verdict_of commands lengths σ relation room
    ≡ or_else (judged lengths (played commands lengths σ)) (fault_told commands lengths (generations_by commands lengths σ) (reaches commands lengths σ))
unfolding verdict_of
past_refusal commands lengths σ relation room pass = sym (or_second (review_refusal commands lengths relation room) _ pass)

-- a schedule gets 0 or 11, in rooms so long
pub record Settling (commands lengths σ : List ℕ) (relation room : ℕ) : Type 0 where
  pub settled : settles (verdict_of commands lengths σ relation room).number ≡ true

module _ {commands lengths σ : List ℕ} {relation room : ℕ} (S : Settling commands lengths σ relation room) where
  abbrev refusal : Told
  refusal = review_refusal commands lengths relation room

  abbrev faulty : Told
  faulty = fault_told commands lengths (generations_by commands lengths σ) (reaches commands lengths σ)

  passed : refusal.number ≡ 0
  unfolding verdict_of
  passed = first_zero refusal _ (λ n. refusal_unfilled refusal.number (refused_refusal commands lengths relation room n)) S.settled

  pub admits : Admitted commands lengths relation room
  admits = admitted commands lengths relation room passed

  judged_told : verdict_of commands lengths σ relation room ≡ told admits.keeps σ
  judged_told = past_refusal commands lengths σ relation room passed

  settled_told : settles (told admits.keeps σ).number ≡ true
  settled_told = subst (λ (t : Told). settles t.number ≡ true) judged_told S.settled

  -- the offered schedule is legal and complete, and all of them agree
  agrees : Complete commands lengths σ × Agree commands lengths
  agrees = (judges admits.keeps σ).agreement.0 settled_told

  -- what is told is what the faults say
  faults_told : verdict_of commands lengths σ relation room ≡ faulty
  faults_told =
      let j = judged lengths (played commands lengths σ) in
      judged_told ∙ sym (or_second j faulty (first_zero j faulty (ending_unfilled j.number (judged_ending admits.keeps σ)) settled_told))

  -- any other that is legal and complete gets 0 or 11, too, in rooms that pass
  pub complete_settles : {τ : List ℕ} {relation₂ room₂ : ℕ} → Complete commands lengths τ → (review_refusal commands lengths relation₂ room₂).number ≡ 0
      → Settling commands lengths τ relation₂ room₂
  complete_settles {τ} {relation₂} {room₂} c pass =
      let K = admits.keeps in
      record {
        settled =
            subst (λ (t : Told). settles t.number ≡ true) (sym (past_refusal commands lengths τ relation₂ room₂ pass)) ((judges K τ).agreement.1 (c, agrees.1));
      }

-- ---- the verdicts of two schedules

module _ {commands lengths σ τ : List ℕ} {relation room relation₂ room₂ : ℕ} (S : Settling commands lengths σ relation room)
    (T : Settling commands lengths τ relation₂ room₂) where
  abbrev g : ℕ → ℕ
  g = generations_by commands lengths σ

  abbrev h : ℕ → ℕ
  h = generations_by commands lengths τ

  pub one_generations : Alike commands lengths σ τ
  one_generations = (agrees S).1.alike σ τ (agrees S).0 (agrees T).0

  -- all else hangs on the generations alone
  one_reach : (x y : ℕ) → x < rows commands → y < rows commands → reaches commands lengths σ x y ≡ reaches commands lengths τ x y
  one_reach x y lx ly =
      let P = program commands lengths in
      let (f, t) = decides P g x y lx ly in
      let (u, v) = decides P h x y lx ly in
      same_test _ _ (λ e. v (reaches_same P one_generations (f e))) (λ e. t (reaches_same P (λ c l. sym (one_generations c l)) (u e)))

  one_found : (f : Fault) → faults commands lengths g (reaches commands lengths σ) f ≡ faults commands lengths h (reaches commands lengths τ) f
  one_found = same_faults commands lengths g h _ _ one_generations one_reach

  pub one_told : verdict_of commands lengths σ relation room ≡ verdict_of commands lengths τ relation₂ room₂
  one_told =
      let e : fault_told commands lengths g (reaches commands lengths σ) ≡ fault_told commands lengths h (reaches commands lengths τ) = rw (one_found Reuse, one_found Race) in
      faults_told S ∙ e ∙ sym (faults_told T)

  pub one_pairs : fault_pairs commands lengths g (reaches commands lengths σ) ≡ fault_pairs commands lengths h (reaches commands lengths τ)
  one_pairs = rw (one_found Reuse, one_found Race)

-- ---- two reviews of one program

module _ {commands lengths : List ℕ} (r : Review commands lengths) (s : settles (number r.found) ≡ true) where
  pub settling : Settling commands lengths r.schedule (length r.relation) (length r.generations)
  settling = record { settled = subst (λ (t : Told). settles t.number ≡ true) (verdict_is r.meets.demand₂) s }

  filled : fills (number r.found) ≡ true
  filled = settled_fills (number r.found) s

  reached : Reached commands lengths (generations_by commands lengths r.schedule) r.relation r.relation'
  reached = r.meets.demand₂.relation_holds filled

  gens_are : (c : ℕ) → c < rows commands → get_or r.generations' c 0 ≡ generations_by commands lengths r.schedule c
  gens_are c l =
      let g = (played commands lengths r.schedule).generations in
      let A = agrees settling in
      let K = (admits settling).keeps in
      let fits : rows commands ≤ length g =
      omega (arith, K.few_rows, (clean_through K r.schedule (A.1.clean r.schedule A.0).through).gens.long) in
      ap (λ (l : List ℕ). get_or l c 0) (r.meets.demand₂.generations_hold filled) ∙ put_front g r.generations (rows commands) fits c l

module _ {commands lengths : List ℕ} where
  -- how far the rooms are the same is the claim's to say; here it is shown that this is not too far
  pub one_file : OneFile commands lengths
  one_file a b s t =
      let sa = settling a s in
      let sb = settling b t in
      let alike = one_generations sa sb in
      record {
        verdict = verdict_is a.meets.demand₂ ∙ one_told sa sb ∙ sym (verdict_is b.meets.demand₂);
        sheet = sheet_is a.meets.demand₂ (filled a s) ∙ ap sheet_of (one_pairs sa sb) ∙ sym (sheet_is b.meets.demand₂ (filled b t));
        relation = λ p l.
            let h : p < words (rows commands) = omega arith in
            holds_same a.relation b.relation a.relation' b.relation' (rows commands) _ a.room_of_words b.room_of_words (reached a s)
            (same_reached commands lengths _ _ (λ c l. sym (alike c l)) b.relation b.relation' (reached b t)) p h;
        generations = λ c l.
            let h : c < rows commands = omega arith in
            gens_are a s c h ∙ alike c h ∙ sym (gens_are b t c h);
      }

  pub one_for_all : OneForAll commands lengths
  one_for_all a b s c pass =
      let T = complete_settles (settling a s) c (ap (λ (t : Told). t.number) pass) in
      one_file a b s (subst (λ (t : Told). settles t.number ≡ true) (sym (verdict_is b.meets.demand₂)) T.settled)
