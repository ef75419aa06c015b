-- What stands before what in a schedule that goes through is what runs before what in its log. Assumes nothing.
use mathlib.Core.Path.{◌≡◌, refl, sym, ap, ◌∙◌, subst}
use mathlib.Core.List.{List, [], ◌∷◌, ◌++◌, reverse, reverse_aux, reverse_aux-eq, reverse_aux-append, reverse_aux-reverse_aux-nil, reverse-reverse, tail}
use Prim.Native.Nat.{ℕ, ◌<◌}
use native.Mathlib.Omega.{arith}
use lib.ListN.{length, take, drop, take-append-drop}
use lib.Seq.{take-append_seam}
use Rattle.tables.specs.Rows.{rows}
use Rattle.rules.specs.Rules.{Keeps}
use Rattle.schedules.specs.Machine as machine
use Rattle.schedules.specs.Machine.{Program}
use Rattle.schedules.specs.Threads.{Threads, log_of, Legal}
use Rattle.schedules.specs.HappensBefore.{Goes, stays, more, Before}
use Rattle.schedules.proofs.Along.{first_more}
use Rattle.schedules.proofs.Threads.{goes_commands}
use Rattle.programs.specs.Program.{program}
use Rattle.replay.specs.Schedules.{Precedes}
use Rattle.programs.proofs.Programs.{threads}
use Rattle.replay.proofs.Ties.{has_run_lem}
use Rattle.replay.proofs.Plays.{PlaysThrough, legal_part, legal_through}

-- entries that follow stand in front
pub goes_aux : (ρ υ : List ℕ) → Goes υ (reverse_aux ρ υ)
goes_aux [] υ = stays
goes_aux (t ∷ ρ) υ = first_more t (goes_aux ρ (t ∷ υ))

-- the entries that a longer schedule has after a shorter one
pub record Rest (τ υ : List ℕ) : Type 0 where
  pub rest : List ℕ
  pub is : υ ≡ reverse_aux rest τ

goes_rest : {τ υ : List ℕ} → Goes τ υ → Rest τ υ
goes_rest stays = record { rest = []; is = refl }
goes_rest {τ} (more c r) =
    let R = goes_rest r in
    record { rest = R.rest ++ c ∷ []; is = ap (λ (l : List ℕ). c ∷ l) R.is ∙ sym (reverse_aux-append R.rest (c ∷ []) τ) }

-- a schedule's front, last step first, is where the schedule goes on from
front : {τ : List ℕ} (σ : List ℕ) → Goes τ (reverse σ) → take (length (reverse τ)) σ ≡ reverse τ
front {τ} σ r =
    let R = goes_rest r in
    let e : σ ≡ reverse τ ++ R.rest = sym (reverse-reverse σ) ∙ ap reverse R.is ∙ reverse_aux-reverse_aux-nil R.rest τ ∙ reverse_aux-eq τ R.rest in
    ap (take (length (reverse τ))) e ∙ take-append_seam (reverse τ) R.rest

module _ {table lengths : List ℕ} (K : Keeps table lengths) where
  abbrev P : Program
  P = program table lengths

  abbrev H : Threads (program table lengths)
  H = threads K

  -- an earlier part of a schedule's log is the log of an earlier part of the schedule
  pub record Earlier (part υ : List ℕ) : Type 0 where
    pub sooner : List ℕ
    pub goes : Goes sooner υ
    pub log : log_of P H sooner ≡ part

  part_of : {part l : List ℕ} → Goes part l → (υ : List ℕ) → l ≡ log_of P H υ → Earlier part υ
  unfolding log_of
  part_of stays υ e = record { sooner = υ; goes = stays; log = sym e }
  part_of (more c r) [] e = absurd (let z : 1 ≡ 0 = ap (λ (l : List ℕ). length (take 1 l)) e in omega arith)
  part_of (more c r) (t ∷ υ) e = let q = part_of r υ (ap tail e) in record { sooner = q.sooner; goes = more t q.goes; log = q.log }

  -- a part of a schedule that goes through goes through
  pub part_through : (σ : List ℕ) (k : ℕ) → PlaysThrough K σ → PlaysThrough K (take k σ)
  part_through σ k T =
      legal_through K (take k σ) (legal_part K (drop k σ) _ (subst (Legal P H) (ap reverse (sym (take-append-drop k σ)) ∙ reverse_aux-append (take k σ) (drop k σ) []) T.stands.legal))

  module _ (σ : List ℕ) (T : PlaysThrough K σ) (x y : ℕ) (lx : x < rows table) (ly : y < rows table) where
    pub precedes_to : Precedes table lengths x y σ → Before P x y (log_of P H (reverse σ))
    precedes_to p =
        let ρ = take p.part σ in
        let S = (part_through σ p.part T).stands in
        let e : reverse σ ≡ reverse_aux (drop p.part σ) (reverse ρ) = ap reverse (sym (take-append-drop p.part σ)) ∙ reverse_aux-append ρ (drop p.part σ) [] in
        record {
          part = log_of P H (reverse ρ);
          goes_on = goes_commands H (subst (Goes (reverse ρ)) (sym e) (goes_aux (drop p.part σ) (reverse ρ)));
          sooner = sym (has_run_lem K S x lx) ∙ p.sooner;
          later = sym (has_run_lem K S y ly) ∙ p.later;
          at_last = sym (has_run_lem K T.stands y ly) ∙ p.at_last;
        }

    pub precedes_from : Before P x y (log_of P H (reverse σ)) → Precedes table lengths x y σ
    precedes_from b =
        let q = part_of b.goes_on (reverse σ) refl in
        let k = length (reverse q.sooner) in
        let S = (part_through σ k T).stands in
        let e : log_of P H (reverse (take k σ)) ≡ b.part = ap (λ (l : List ℕ). log_of P H (reverse l)) (front σ q.goes) ∙ ap (log_of P H) (reverse-reverse q.sooner) ∙ q.log in
        record {
          part = k;
          sooner = has_run_lem K S x lx ∙ ap (λ (l : List ℕ). (machine.state P l).ran x) e ∙ b.sooner;
          later = has_run_lem K S y ly ∙ ap (λ (l : List ℕ). (machine.state P l).ran y) e ∙ b.later;
          at_last = has_run_lem K T.stands y ly ∙ b.at_last;
        }
