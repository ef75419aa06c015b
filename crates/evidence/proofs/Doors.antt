-- The contract of `review_evidence` from what its parts found. Assumes nothing.
use mathlib.Core.Path.{◌≡◌, refl, sym, ap, ◌∙◌, subst}
use mathlib.Core.Logic.{◌≢◌}
use mathlib.Core.Bool.{Bool}
use mathlib.Core.List.{List, [], ◌∷◌, ◌++◌}
use Prim.Native.Nat.{ℕ, ◌*◌, ◌+◌, ◌≤◌, ◌<◌}
use native.Mathlib.Omega.{arith}
use lib.ListN.{length, get_or, take, drop}
use lib.Seq.{take_at}
use borrow.Author.Tests.{eq-eqb, ne_eqb}
use Rattle.tables.specs.Rows.{rows}
use Rattle.rules.specs.Rules.{checked}
use Rattle.verdicts.specs.Verdicts.{tell, refused, numbered}
use Rattle.verdicts.specs.declared.Told.{Told}
use Rattle.verdicts.specs.declared.Refusal.{Refusal}
use Rattle.verdicts.specs.declared.Verdict.{Verdict}
use Rattle.verdicts.specs.declared.Verdict.TheVariants.{Refused}
use Rattle.verdicts.proofs.Verdicts.{refused_some}
use Rattle.relation.specs.Table.{related}
use Rattle.sheet.specs.Sheet.{pair, sheet_of, kept_pairs, first_kept}
use Rattle.findings.specs.declared.finding.Finding.{Finding}
use Rattle.steps.specs.Writing.{FilledBy}
use Rattle.verdicts.specs.FirstTold.{or_else}
use Rattle.verdicts.proofs.FirstTold.{or_either, or_zero, or_assoc, or_refused, or_passed}
use Rattle.rooms.specs.declared.short.Room.{Room}
use Rattle.rooms.specs.Short.{room_of, first_short}
use Rattle.rooms.specs.Refusals.{review_rooms, review_refusal}
use Rattle.rooms.proofs.Rooms.{all_long, first_either, none_either, then_short}
use Rattle.review.specs.Judge.{reaches}
use Rattle.review.specs.Agreement.{number, Reviewed}
use Rattle.evidence.specs.declared.door.Evidence.{Evidence}
use Rattle.evidence.specs.Evidence.{Disputes, HasBefore, against, both_ways, evidence_room, evidence_of}
use Rattle.evidence.specs.Doors.{evidence_refusal, refusal_of, schedule_at, Opposes, HoldsEvidence, Admissible, Evidenced}
use Rattle.evidence.proofs.Shown.{shown_ten, shown_orders, shown_long, evidence_is}
use Rattle.evidence.proofs.Slices.{both_long, x_at, y_at, nothing_of}
use Rattle.steps.proofs.Filled.{filled_room}

-- what stands first in a room that is filled
front_is : {τ room room' : List ℕ} {n : ℕ} → FilledBy τ room room' n → take n room' ≡ τ
front_is {τ} {room} {room'} {n} F = ap (take n) (filled_room F) ∙ take_at τ (drop n room) n (sym F.long)

-- nothing fills
none_is : {room room' : List ℕ} {n : ℕ} → FilledBy [] room room' n → (n ≡ 0) × (room' ≡ room)
none_is {room} {room'} {n} F = (F.long, filled_room F ∙ ap (λ (k : ℕ). drop k room) F.long)

-- ---- what the room holds

module _ {commands lengths σ relation generations : List ℕ} {f : Finding} {relation' generations' : List ℕ} (R : Reviewed commands lengths σ relation generations f relation' generations')
    (pass : (review_refusal commands lengths (length relation) (length generations)).number ≡ 0) {room room' : List ℕ} {n : ℕ}
    (F : FilledBy (evidence_of commands lengths (reaches commands lengths σ) (number f) f.sheet) room room' n) where
  abbrev ρ : ℕ → ℕ → Bool
  ρ = reaches commands lengths σ

  ten_is : number f ≡ 10 → evidence_of commands lengths ρ (number f) f.sheet ≡ against commands lengths ρ (first_kept f.sheet)
  unfolding evidence_of
  ten_is e = rw (eq-eqb (number f) 10 e)

  eleven_is : number f ≡ 11 → evidence_of commands lengths ρ (number f) f.sheet ≡ both_ways commands lengths ρ (kept_pairs f.sheet)
  unfolding evidence_of
  eleven_is e = rw (ne_eqb (number f) 10 (λ z. omega arith), eq-eqb (number f) 11 e)

  opposes : number f ≡ 11 → (k : ℕ) → k < length (kept_pairs f.sheet) → Opposes commands lengths room' k (get_or (kept_pairs f.sheet) k (pair 0 0))
  opposes e k l =
      let ps = kept_pairs f.sheet in
      let is : room' ≡ both_ways commands lengths ρ ps ++ drop n room = filled_room F ∙ ap (λ (τ : List ℕ). τ ++ drop n room) (eleven_is e) in
      let p = get_or ps k (pair 0 0) in
      let (a, b) = shown_orders R pass e k l in
      record {
        x_first =
            subst (HasBefore commands lengths p.first p.second)
            (sym (x_at commands lengths ρ (rows commands) (drop n room) ps (shown_long R pass e) k l) ∙ ap (schedule_at (rows commands) (k * 2)) (sym is)) a;
        y_first =
            subst (HasBefore commands lengths p.second p.first)
            (sym (y_at commands lengths ρ (rows commands) (drop n room) ps (shown_long R pass e) k l) ∙ ap (schedule_at (rows commands) (k * 2 + 1)) (sym is)) b;
      }

  holds : HoldsEvidence commands lengths σ room (record { finding = f; entries = n }) room'
  holds =
      record {
        written = F;
        disputes = λ e. subst (Disputes commands lengths σ) (sym (front_is F ∙ ten_is e)) (shown_ten R pass e);
        opposes = opposes;
        count = λ e. F.long ∙ ap length (eleven_is e) ∙ both_long commands lengths ρ (rows commands) (kept_pairs f.sheet) (shown_long R pass e);
        nothing = λ e. none_is (subst (λ (τ : List ℕ). FilledBy τ room room' n) (nothing_of commands lengths ρ (number f) f.sheet e) F);
      }

-- what `show` left, over the relation room
pub shown_holds : {commands lengths σ relation generations room : List ℕ} {f : Finding} {relation' generations' room' : List ℕ} {n : ℕ}
    → (review_refusal commands lengths (length relation) (length generations)).number ≡ 0 → Reviewed commands lengths σ relation generations f relation' generations'
    → FilledBy (evidence_of commands lengths (related relation' (rows commands)) (number f) f.sheet) room room' n
    → HoldsEvidence commands lengths σ room (record { finding = f; entries = n }) room'
shown_holds {room = room} {room' = room'} {n = n} pass R F =
    holds R pass (subst (λ (τ : List ℕ). FilledBy τ room room' n) (evidence_is R pass) F)

-- ---- refusals

module _ (commands lengths : List ℕ) (relation generations given : ℕ) where
  abbrev lent : Room
  lent = room_of 4 (evidence_room (rows commands)) given

  -- what is refused without evidence, and then the evidence room
  showing_is : or_else (review_refusal commands lengths relation generations) (first_short (lent ∷ [])) ≡ evidence_refusal commands lengths relation generations given
  unfolding evidence_refusal review_refusal
  showing_is =
      or_assoc (checked commands lengths) (first_short (review_rooms (rows commands) relation generations)) (first_short (lent ∷ []))
      ∙ ap (or_else (checked commands lengths)) (sym (then_short (review_rooms (rows commands) relation generations) (lent ∷ [])))

  pub showing_first : (r : Refusal) → refused r ≡ review_refusal commands lengths relation generations → refused r ≡ evidence_refusal commands lengths relation generations given
  showing_first r e = or_refused r e (first_short (lent ∷ [])) ∙ showing_is

  pub showing_room : tell 0 0 0 ≡ review_refusal commands lengths relation generations → first_short (lent ∷ []) ≡ evidence_refusal commands lengths relation generations given
  showing_room e = or_passed e (first_short (lent ∷ [])) ∙ showing_is

  -- what holds of what is told without evidence, of 4 with digit 4, and of 0, holds of what is told
  pub showing_either : (P : Told → Type 0) → P (review_refusal commands lengths relation generations) → P (tell 4 4 0) → P (tell 0 0 0)
      → P (evidence_refusal commands lengths relation generations given)
  showing_either P p q z =
      subst P showing_is (or_either P (review_refusal commands lengths relation generations) _ p (λ _. first_either lent [] P q (none_either P z)))

  -- tables and rooms that are not refused here are not refused without evidence, and the evidence room suffices
  pub showing_passes : (evidence_refusal commands lengths relation generations given).number ≡ 0
      → ((review_refusal commands lengths relation generations).number ≡ 0) × (evidence_room (rows commands) ≤ given)
  showing_passes z =
      let (a, b) = or_zero (review_refusal commands lengths relation generations) (first_short (lent ∷ [])) (ap (λ (t : Told). t.number) showing_is ∙ z) in
      (a, (all_long lent [] b).0)

pub admissible : (commands lengths relation generations room : List ℕ) → (refusal_of commands lengths relation generations room).number ≡ 0
    → Admissible commands lengths relation generations room
admissible commands lengths relation generations room z =
    let (a, f) = showing_passes commands lengths (length relation) (length generations) (length room) z in
    record { admitted = a; fits = f }

-- ---- the door

module _ (commands lengths σ relation generations room : List ℕ) where
  abbrev all : Told
  all = refusal_of commands lengths relation generations room

  -- refused, with nothing done
  pub evidenced_refused : (r : Refusal) → refused r ≡ all → {v : Verdict} → v ≡ Refused r
      → Evidenced commands lengths σ relation generations room (record { finding = record { verdict = v; sheet = sheet_of [] }; entries = 0 }) relation generations room
  evidenced_refused r e is =
      let m : all.number ≢ 0 = λ z. refused_some r (ap (λ (t : Told). t.number) e ∙ z) in
      record {
        refused = λ _. (ap numbered is ∙ e, record { sheet = refl; entries = refl; relation_kept = refl; generations_kept = refl; room_kept = refl });
        reviewed = λ z. absurd (m z);
        holds = λ z. absurd (m z);
      }

  pub evidenced : all.number ≡ 0 → {r : Evidence} {relation' generations' room' : List ℕ}
      → Reviewed commands lengths σ relation generations r.finding relation' generations' × HoldsEvidence commands lengths σ room r room'
      → Evidenced commands lengths σ relation generations room r relation' generations' room'
  evidenced pass (R, W) = record { refused = λ m. absurd (m pass); reviewed = λ _. R; holds = λ _. W }
