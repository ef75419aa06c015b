-- A replay follows a legal schedule as far as it goes: its state stands for the machine's, and its generations are the machine's. Assumes nothing.
use mathlib.Core.Path.{◌≡◌, refl, sym, ap, ◌∙◌, subst}
use mathlib.Core.Logic.{by_cases, ⊎_elim, ◌≢◌}
use mathlib.Core.List.{List, [], ◌∷◌, ◌++◌, reverse, reverse_aux, reverse_aux-append}
use Prim.Native.Nat.{ℕ, ◌+◌, ◌<◌}
use native.Mathlib.Omega.{arith}
use native.Mathlib.Decide.{ℕ_discrete}
use lib.ListN.{length, get_or, set, replicate, length-set, length-replicate, get_or-replicate}
use lib.Seq.{get_or-set_same, get_or-set_other}
use Rattle.tables.specs.Limits.{most_rows}
use Rattle.tables.specs.Rows.{rows}
use Rattle.rules.specs.Rules.{Keeps}
use Rattle.verdicts.specs.Verdicts.{numbered}
use Rattle.verdicts.specs.declared.Verdict.{Verdict}
use Rattle.verdicts.specs.declared.Verdict.TheVariants as verdict
use Rattle.relation.proofs.Truth.{split, clashing}
use Rattle.schedules.specs.Machine as machine
use Rattle.schedules.specs.Machine.{Program, Matches}
use Rattle.schedules.specs.Threads.{Threads, at, after, gens, log_of, Legal, Steps}
use Rattle.schedules.proofs.Step.{gen_other}
use Rattle.schedules.proofs.Tests.{not_matching}
use Rattle.steps.specs.declared.state.Replay.{Replay}
use Rattle.steps.specs.declared.step.Did.{Did}
use Rattle.steps.specs.declared.step.Stepped.{Stepped}
use Rattle.steps.specs.declared.going.Replayed.{Replayed}
use Rattle.steps.specs.State.{start}
use Rattle.steps.specs.Step.{allowed, stepped}
use Rattle.barriers.specs.Counting.{counted}
use Rattle.steps.specs.Going.{standing, went_on, go_on, begun, played}
use Rattle.barriers.proofs.Registering.{counted_more}
use Rattle.steps.proofs.Entries.{one_on, stays_ended}
use Rattle.programs.specs.Program.{program}
use Rattle.programs.proofs.Programs.{threads}
use Rattle.replay.proofs.Few.{legal_few}
use Rattle.replay.proofs.Ties.{Stands, stands_start, allowed_steps, steps_allowed, command_row}
use Rattle.replay.proofs.Tied.{Outcome, ran, mismatched, outcome, not_allowed}

module _ {table lengths : List ℕ} (K : Keeps table lengths) where
  abbrev P : Program
  P = program table lengths

  abbrev H : Threads (program table lengths)
  H = threads K

  -- the numbers of g are the generations of the commands
  pub record Gens (υ g : List ℕ) : Type 0 where
    pub long : length g ≡ most_rows
    pub same : (c : ℕ) → c < rows table → get_or g c 0 ≡ gens P H υ c

  -- An entry t of σ, after the entries ρ, at which a replay that has come to υ ends: its state stands for the machine's there.
  pub record Entry (σ υ : List ℕ) (r : Replayed) (n : ℕ) : Type 0 where
    pub ρ : List ℕ
    pub t : ℕ
    pub rest : List ℕ
    pub splits : σ ≡ ρ ++ t ∷ rest
    pub stands : Stands K (reverse_aux ρ υ) r.state
    pub steps : r.steps ≡ n + length ρ

  -- How a replay that has come to υ ends, with the entries σ left and n steps taken.
  pub data PlaysTo (σ υ : List ℕ) (r : Replayed) (n : ℕ) : Type 0 where
    through : Stands K (reverse_aux σ υ) r.state → Gens (reverse_aux σ υ) r.generations → r.verdict ≡ verdict.Clean → r.steps ≡ n + length σ → PlaysTo σ υ r n
    refused_at : (e : Entry σ υ r n) → ¬ Steps P H (reverse_aux e.ρ υ) e.t → r.verdict ≡ verdict.NotAllowed r.steps → PlaysTo σ υ r n
    mismatched_at : (e : Entry σ υ r n) → Steps P H (reverse_aux e.ρ υ) e.t
        → machine.Mismatch P (after P H (reverse_aux e.ρ υ)) (at P H (reverse_aux e.ρ υ) e.t)
        → r.verdict ≡ verdict.Mismatch (at P H (reverse_aux e.ρ υ) e.t) → PlaysTo σ υ r n

  gens_start : Gens [] (replicate most_rows 0)
  unfolding log_of machine.state
  gens_start = record { long = length-replicate most_rows 0; same = λ c l. get_or-replicate most_rows c 0 0 (omega (arith, K.few_rows)) }

  gens_more : (υ : List ℕ) (t : ℕ) (g : List ℕ) → Gens υ g → at P H υ t < rows table → Gens (t ∷ υ) (set g (at P H υ t) (gens P H (t ∷ υ) (at P H υ t)))
  unfolding log_of machine.state
  gens_more υ t g G l =
      let c = at P H υ t in
      record {
        long = length-set g c _ ∙ G.long;
        same =
            λ x lx. by_cases (ℕ_discrete c x)
            (λ (e : c ≡ x). subst (λ (x : ℕ). get_or (set g c (gens P H (t ∷ υ) c)) x 0 ≡ gens P H (t ∷ υ) x) e (get_or-set_same g c _ 0 (omega (arith, G.long, K.few_rows))))
            (λ (n : c ≢ x). get_or-set_other g c x _ 0 (λ e. n (sym e)) ∙ G.same x lx ∙ sym (gen_other P (after P H υ) c x n));
      }

  -- an entry, and an end, of entries with one more in front
  entry_later : {t : ℕ} {σ υ : List ℕ} {r : Replayed} {n : ℕ} → Entry σ (t ∷ υ) r (n + 1) → Entry (t ∷ σ) υ r n
  entry_later {t} e =
      record { ρ = t ∷ e.ρ; t = e.t; rest = e.rest; splits = ap (λ (l : List ℕ). t ∷ l) e.splits; stands = e.stands; steps = omega (arith, e.steps) }

  later : {t : ℕ} {σ υ : List ℕ} {r : Replayed} {n : ℕ} → PlaysTo σ (t ∷ υ) r (n + 1) → PlaysTo (t ∷ σ) υ r n
  unfolding entry_later
  later (through S G v e) = through S G v (omega arith)
  later (refused_at e nay v) = refused_at (entry_later e) nay v
  later (mismatched_at e st m v) = mismatched_at (entry_later e) st m v

  -- the first entry
  here : (t : ℕ) (σ υ : List ℕ) (r : Replayed) (n : ℕ) → Stands K υ r.state → r.steps ≡ n → Entry (t ∷ σ) υ r n
  here t σ υ r n S e = record { ρ = []; t = t; rest = σ; splits = refl; stands = S; steps = omega arith }

  -- one entry more goes on as its step says
  goes : (t : ℕ) (σ : List ℕ) (s : Replay) (g : List ℕ) (n : ℕ) {d : Did} {a : Replay} → (stepped table lengths s t).did ≡ d → (stepped table lengths s t).after ≡ a
      → go_on table lengths (t ∷ σ) (standing s g n verdict.Clean) ≡ go_on table lengths σ (went_on d a (standing s g n verdict.Clean))
  unfolding go_on
  goes t σ s g n e f = ap (go_on table lengths σ) (one_on table lengths (standing s g n verdict.Clean) t refl e f)

  -- the steps of a legal schedule are few, and the counter goes up
  counts_on : {υ : List ℕ} {s : Replay} {n : ℕ} → Stands K υ s → n ≡ length υ → counted n ≡ n + 1
  unfolding most_rows
  counts_on {υ} {s} {n} S e = counted_more n (omega (arith, e, legal_few K υ S.legal, K.few_rows))

  -- an entry, where the entries after it are known to end
  plays_entry : (t : ℕ) (σ υ : List ℕ) (s : Replay) (g : List ℕ) (n : ℕ) → n ≡ length υ → Stands K υ s → Gens υ g
      → ((s' : Replay) (g' : List ℕ) → Stands K (t ∷ υ) s' → Gens (t ∷ υ) g' → PlaysTo σ (t ∷ υ) (go_on table lengths σ (standing s' g' (n + 1) verdict.Clean)) (n + 1))
      → PlaysTo (t ∷ σ) υ (go_on table lengths (t ∷ σ) (standing s g n verdict.Clean)) n
  unfolding here
  plays_entry t σ υ s g n c S G rest =
      ⊎_elim (λ e. let st = allowed_steps K S t e in by st (outcome K S t st))
      (λ f.
      let k = not_allowed K s t f in
      let r = standing s g n (verdict.NotAllowed n) in
      subst (λ (r : Replayed). PlaysTo (t ∷ σ) υ r n)
      (sym (goes t σ s g n (ap (λ (d : Stepped). d.did) k) (ap (λ (d : Stepped). d.after) k) ∙ stays_ended table lengths r (λ z. omega arith) σ))
      (refused_at (here t σ υ r n S refl) (λ st. clashing (steps_allowed K S t st) f) refl))
      (split (allowed lengths s t))
    where
      by : Steps P H υ t → Outcome K υ s t → PlaysTo (t ∷ σ) υ (go_on table lengths (t ∷ σ) (standing s g n verdict.Clean)) n
      by st (ran q m S') =
          subst (λ (r : Replayed). PlaysTo (t ∷ σ) υ r n) (sym (goes t σ s g n q refl))
          (later (rw (counts_on S c) (rest (stepped table lengths s t).after _ S' (gens_more υ t g G (command_row K S t st)))))
      by st (mismatched q k m) =
          let r = standing s g n (verdict.Mismatch (at P H υ t)) in
          subst (λ (r : Replayed). PlaysTo (t ∷ σ) υ r n) (sym (goes t σ s g n q k ∙ stays_ended table lengths r (λ z. omega arith) σ)) (mismatched_at (here t σ υ r n S refl) st m refl)

  plays : (σ υ : List ℕ) (s : Replay) (g : List ℕ) (n : ℕ) → n ≡ length υ → Stands K υ s → Gens υ g → PlaysTo σ υ (go_on table lengths σ (standing s g n verdict.Clean)) n
  unfolding go_on
  plays [] υ s g n c S G = through S G refl (omega arith)
  plays (t ∷ σ) υ s g n c S G = plays_entry t σ υ s g n c S G (λ s' g' S' G'. plays σ (t ∷ υ) s' g' (n + 1) (omega arith) S' G')

  -- how the replay of a schedule standing
  pub plays_all : (σ : List ℕ) → PlaysTo σ [] (played table lengths σ) 0
  unfolding played begun
  plays_all σ = plays σ [] start _ 0 refl (stands_start K) gens_start

  -- ---- a legal schedule goes through

  pub legal_part : (ρ υ : List ℕ) → Legal P H (reverse_aux ρ υ) → Legal P H υ
  legal_part [] υ L = L
  legal_part (t ∷ ρ) υ L = (legal_part ρ (t ∷ υ) L).0

  pub record PlaysThrough (σ : List ℕ) : Type 0 where
    pub stands : Stands K (reverse σ) (played table lengths σ).state
    pub gens : Gens (reverse σ) (played table lengths σ).generations
    pub verdict : (played table lengths σ).verdict ≡ verdict.Clean
    pub steps : (played table lengths σ).steps ≡ length σ

  -- a legal schedule has an allowed, matching step at each entry
  legal_entry : {σ : List ℕ} {r : Replayed} (e : Entry σ [] r 0) → Legal P H (reverse σ)
      → Steps P H (reverse e.ρ) e.t × Matches P (after P H (reverse e.ρ)) (at P H (reverse e.ρ) e.t)
  legal_entry {σ} e L =
      let a : reverse σ ≡ reverse_aux e.rest (e.t ∷ reverse e.ρ) = ap reverse e.splits ∙ reverse_aux-append e.ρ (e.t ∷ e.rest) [] in
      let b : Legal P H (e.t ∷ reverse e.ρ) = legal_part e.rest _ (subst (Legal P H) a L) in
      (b.1, b.2)

  pub legal_through : (σ : List ℕ) → Legal P H (reverse σ) → PlaysThrough σ
  legal_through σ L = by (plays_all σ)
    where
      by : PlaysTo σ [] (played table lengths σ) 0 → PlaysThrough σ
      by (through S G v e) = record { stands = S; gens = G; verdict = v; steps = omega arith }
      by (refused_at e nay v) = absurd (nay (legal_entry e L).0)
      by (mismatched_at e st m v) = absurd (not_matching m (legal_entry e L).1)

  pub clean_through : (σ : List ℕ) → (played table lengths σ).verdict ≡ verdict.Clean → PlaysThrough σ
  clean_through σ c = by (plays_all σ)
    where
      by : PlaysTo σ [] (played table lengths σ) 0 → PlaysThrough σ
      by (through S G v e) = record { stands = S; gens = G; verdict = v; steps = omega arith }
      by (refused_at e nay v) = absurd (let z : 0 ≡ 5 = ap (λ (w : Verdict). (numbered w).number) (sym c ∙ v) in omega arith)
      by (mismatched_at e st m v) = absurd (let z : 0 ≡ 7 = ap (λ (w : Verdict). (numbered w).number) (sym c ∙ v) in omega arith)
