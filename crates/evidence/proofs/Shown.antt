-- What a review found, and the evidence for it. Assumes nothing.
use mathlib.Core.Path.{◌≡◌, sym, ap, ◌∙◌}
use mathlib.Core.Logic.{⊎_elim}
use mathlib.Core.Bool.{Bool, true, false}
use mathlib.Core.List.{List, []}
use Prim.Native.Nat.{ℕ, ◌≤◌, ◌<◌}
use lib.ListN.{length, get_or}
use Rattle.tables.specs.Rows.{rows}
use Rattle.verdicts.specs.Numbers.{has_pairs, fills}
use Rattle.verdicts.specs.declared.Told.{Told}
use Rattle.verdicts.proofs.Numbers.{pairs_fill}
use Rattle.relation.specs.Table.{related}
use Rattle.relation.proofs.Truth.{split}
use Rattle.sheet.specs.declared.Pair.{Pair}
use Rattle.sheet.specs.declared.Sheet.{Sheet}
use Rattle.sheet.specs.Sheet.{pair, sheet_of, kept_pairs, first_kept}
use Rattle.sheet.proofs.Sheets.{sheet_long}
use Rattle.findings.specs.declared.finding.Finding.{Finding}
use Rattle.findings.specs.Findings.{fault_told, fault_pairs}
use Rattle.verdicts.specs.FirstTold.{or_else}
use Rattle.steps.specs.Ending.{judged}
use Rattle.steps.specs.Going.{played}
use Rattle.verdicts.proofs.FirstTold.{or_second}
use Rattle.rooms.specs.Refusals.{review_refusal}
use Rattle.happens.proofs.Reaching.{related_reaches}
use Rattle.rooms.proofs.Refusals.{Admitted, admitted}
use Rattle.review.specs.Judge.{generations_by, reaches, verdict_of}
use Rattle.review.specs.Agreement.{number, Reviewed}
use Rattle.evidence.specs.Evidence.{Disputes, HasBefore, against, first_first, second_first, evidence_of}
use Rattle.evidence.specs.Needs.{Showable}
use Rattle.evidence.specs.Evidence.{evidence_room}
use Rattle.evidence.proofs.Verdicts.{Gives, ten_commands, ten_disputes, eleven_commands, eleven_orders, eleven_long}
use Rattle.evidence.proofs.Slices.{evidence_alike, nothing_of}
use Rattle.review.proofs.Telling.{verdict_is, sheet_is, empty_is}

module _ {commands lengths σ relation room : List ℕ} {r : Finding} {relation' room' : List ℕ} (R : Reviewed commands lengths σ relation room r relation' room')
    (pass : (review_refusal commands lengths (length relation) (length room)).number ≡ 0) where
  A : Admitted commands lengths (length relation) (length room)
  A = admitted commands lengths (length relation) (length room) pass

  told : number r ≡ (or_else (judged lengths (played commands lengths σ)) (fault_told commands lengths (generations_by commands lengths σ) (reaches commands lengths σ))).number
  unfolding verdict_of
  told = ap (λ (t : Told). t.number) (verdict_is R.demand₂ ∙ sym (or_second (review_refusal commands lengths (length relation) (length room)) _ pass))

  module _ (fault : has_pairs (number r) ≡ true) where
    full : fills (number r) ≡ true
    full = pairs_fill (number r) fault

    sheet_so : r.sheet ≡ sheet_of (fault_pairs commands lengths (generations_by commands lengths σ) (reaches commands lengths σ))
    sheet_so = sheet_is R.demand₂ full

    -- what the relation room holds is what reaches what
    related_is : (c x : ℕ) → c < rows commands → x < rows commands → related relation' (rows commands) c x ≡ reaches commands lengths σ c x
    related_is = related_reaches commands lengths (generations_by commands lengths σ) relation relation' (R.demand₂.relation_holds full) A.relation_fits

  -- by the verdict and the sheet
  gives : Gives commands lengths σ (number r) r.sheet
  gives = record { keeps = A.keeps; told = told; sheet = sheet_so }

  pub shown_ten : number r ≡ 10 → Disputes commands lengths σ (against commands lengths (reaches commands lengths σ) (first_kept r.sheet))
  shown_ten = ten_disputes gives

  module _ (eleven : number r ≡ 11) (k : ℕ) (l : k < length (kept_pairs r.sheet)) where
    abbrev p : Pair
    p = get_or (kept_pairs r.sheet) k (pair 0 0)

    pub shown_orders :
        HasBefore commands lengths p.first p.second (first_first commands lengths (reaches commands lengths σ) p)
        × HasBefore commands lengths p.second p.first (second_first commands lengths (reaches commands lengths σ) p)
    shown_orders = eleven_orders gives eleven k l

    pub shown_long :
        (length (first_first commands lengths (reaches commands lengths σ) p) ≡ rows commands)
        × (length (second_first commands lengths (reaches commands lengths σ) p) ≡ rows commands)
    shown_long = eleven_long gives eleven k l

  -- ---- what writing asks for

  some_sheet : (ps : List Pair) × (r.sheet ≡ sheet_of ps)
  some_sheet =
      ⊎_elim (λ (t : fills (number r) ≡ true). (fault_pairs commands lengths (generations_by commands lengths σ) (reaches commands lengths σ), sheet_is R.demand₂ t))
      (λ (f : fills (number r) ≡ false). ([], empty_is R.demand₁ f))
      (split (fills (number r)))

  pub showable : {room'' : List ℕ} → evidence_room (rows commands) ≤ length room'' → Showable commands lengths r.sheet room''
  showable fits = record { keeps = A.keeps; fits = fits; long = ap (λ (s : Sheet). length s.pairs) some_sheet.1 ∙ sheet_long some_sheet.0 }

  -- the evidence over the room's table is that over what reaches what
  pub evidence_is : evidence_of commands lengths (related relation' (rows commands)) (number r) r.sheet ≡ evidence_of commands lengths (reaches commands lengths σ) (number r) r.sheet
  evidence_is =
      ⊎_elim
      (λ (t : has_pairs (number r) ≡ true). evidence_alike A.keeps (related_is t) (number r) r.sheet (ten_commands gives) (eleven_commands gives))
      (λ (f : has_pairs (number r) ≡ false).
      let none : (ρ : ℕ → ℕ → Bool) → evidence_of commands lengths ρ (number r) r.sheet ≡ [] = λ ρ. nothing_of commands lengths ρ (number r) r.sheet f in
      none _ ∙ sym (none _))
      (split (has_pairs (number r)))
