-- The schedules that are written as evidence are that, over a clean schedule and what reaches what over its generations. Assumes nothing.
use mathlib.Core.Path.{◌≡◌, refl, sym, ap, ◌∙◌}
use mathlib.Core.Logic.{◌⊎◌, inl, inr, ⊎_elim, ◌≢◌}
use mathlib.Core.Bool.{Bool, true, not}
use mathlib.Core.List.{List, reverse}
use Prim.Native.Nat.{ℕ, ◌<◌}
use native.Mathlib.Omega.{arith}
use lib.Dec.{eqb}
use lib.ListN.{length}
use borrow.Author.Tests.{eq-eqb, ne_eqb}
use Rattle.tables.specs.Rows.{rows}
use Rattle.rules.specs.Rules.{Keeps}
use Rattle.verdicts.specs.Numbers.{ends_unclean}
use Rattle.relation.specs.Chains.{here}
use Rattle.relation.proofs.Truth.{isnt, right}
use Rattle.schedules.specs.Machine.{Program}
use Rattle.schedules.specs.Threads as threads
use Rattle.schedules.specs.HappensBefore.{Reaches, Reuse, NoReuse, reach}
use Rattle.schedules.specs.Claims as claims
use Rattle.schedules.proofs.Table.{decides}
use Rattle.schedules.proofs.Theorems.{sound}
use Rattle.steps.specs.Ending.{judged}
use Rattle.steps.specs.Going.{played, generation}
use Rattle.programs.specs.Program.{program}
use Rattle.replay.specs.Writer.{apart_from, apart_schedule}
use Rattle.replay.specs.Schedules.{Complete, stopped, mismatched, Clean, Precedes}
use Rattle.programs.proofs.Programs as programs
use Rattle.replay.proofs.Plays.{clean_through, legal_through}
use Rattle.replay.proofs.Places.{dirty_told}
use Rattle.replay.proofs.Schedules.{unlike, complete_to, clean_to, clean_from, clean_long, generation_is}
use Rattle.replay.proofs.Precede.{precedes_from}
use Rattle.programs.proofs.Reaching.{reuse_same, reaches_same}
use Rattle.replay.proofs.Writing.{first_complete}
use Rattle.schedules.specs.Shows.{Avoids}
use Rattle.evidence.specs.Evidence.{Disputes, HasBefore}
use Rattle.schedules.proofs.Showing.{shows_reuse, shows_first}
use Rattle.replay.proofs.Steering.{Steered, steered_all}

module _ {table lengths : List ℕ} (K : Keeps table lengths) {σ : List ℕ} (C : Clean table lengths σ) where
  abbrev P : Program
  P = program table lengths

  abbrev H : threads.Threads (program table lengths)
  H = programs.threads K

  abbrev g : ℕ → ℕ
  g = generation (played table lengths σ)

  abbrev gens : ℕ → ℕ
  gens = threads.gens P H (reverse σ)

  same : (c : ℕ) → c < rows table → g c ≡ gens c
  same c l = generation_is K (clean_through K σ C.through) c l

  -- what reaches what
  abbrev ρ : ℕ → ℕ → Bool
  ρ = reach P g

  avoids : (c d : ℕ) → c < rows table → c ≢ d → Avoids P gens c d (apart_from ρ c d)
  unfolding apart_from
  avoids c d lc n =
      record {
        apart = λ x lx far. right (eqb x d) _ (ap not (isnt _ (λ t. far (reaches_same P same ((decides P g c x lc lx).0 t)))));
        also = rw (eq-eqb d d refl);
        without = rw (ne_eqb c d n, (decides P g c c lc lc).1 here);
      }

  module _ (c d : ℕ) where
    abbrev τ : List ℕ
    τ = apart_schedule table lengths ρ c d

    whole : Complete table lengths τ
    whole = first_complete K (apart_from ρ c d)

    steered : Steered K (apart_from ρ c d) (reverse τ)
    steered = steered_all K (apart_from ρ c d)

  -- ---- a reuse fault

  pub disputes : (c₁ c₂ : ℕ) → Reuse P g c₁ c₂ → Disputes table lengths σ (apart_schedule table lengths ρ c₁ c₂)
  disputes c₁ c₂ R = record { complete = whole c₁ c₂; other = by (steered c₁ c₂) }
    where
      τ' : List ℕ
      τ' = apart_schedule table lengths ρ c₁ c₂

      Other : Type 0
      Other =
          (ends_unclean (judged lengths (played table lengths τ')).number ≡ true)
          ⊎ ((c : ℕ) × (c < rows table) × (generation (played table lengths τ') c ≢ g c))

      dirty : ¬ threads.Clean P H (reverse τ') → Other
      dirty n = inl (dirty_told τ' (whole c₁ c₂) (λ D. n (clean_to K D)))

      unlike_at : (x : ℕ) → x < rows table → threads.gens P H (reverse τ') x ≢ gens x → Complete table lengths τ' → Other
      unlike_at x l n (stopped c stop) = inr (x, l, λ e. n (sym (generation_is K (clean_through K τ' c) x l) ∙ e ∙ same x l))
      unlike_at x l n (mismatched v _) = inl (dirty_told τ' (whole c₁ c₂) (λ D. unlike (sym v ∙ D.through) (λ z. omega arith)))

      differ : c₁ ≢ c₂
      differ e = absurd (omega (arith, R.succeeds.gen, ap g e))

      by : Steered K (apart_from ρ c₁ c₂) (reverse τ') → Other
      by (inl n) = dirty n
      by (inr (υ, D, r)) =
          ⊎_elim dirty (λ w. unlike_at w.0 w.1 w.2 (whole c₁ c₂))
          (shows_reuse (programs.lawful K) H (reverse σ) (clean_to K C) c₁ c₂ (reuse_same P same R) (apart_from ρ c₁ c₂)
          (avoids c₁ c₂ R.succeeds.low₁ differ) υ D (reverse τ') r (complete_to K (whole c₁ c₂)))

  -- ---- no reuse fault

  module _ (none : NoReuse P gens) where
    F : claims.Settled P H (reverse σ)
    F = record { clean = clean_to K C; none = none }

    -- then any schedule that is written is clean, and runs every command
    ends_clean : (c d : ℕ) → threads.Clean P H (reverse (τ c d))
    ends_clean c d = (sound (programs.lawful K) H (reverse σ) F (reverse (τ c d)) (complete_to K (whole c d))).0

    pub first_long : (c d : ℕ) → length (τ c d) ≡ rows table
    first_long c d = clean_long K {σ = τ c d} (clean_from K {σ = τ c d} (ends_clean c d))

    pub first_in : (x y : ℕ) → x < rows table → y < rows table → x ≢ y → ¬ Reaches P g y x → HasBefore table lengths x y (τ y x)
    first_in x y lx ly ne far = record { complete = whole y x; precedes = by (steered y x) }
      where
        by : Steered K (apart_from ρ y x) (reverse (τ y x)) → Precedes table lengths x y (τ y x)
        by (inl n) = absurd (n (ends_clean y x))
        by (inr (υ, E, r)) =
            precedes_from K (τ y x) (legal_through K (τ y x) (ends_clean y x).legal) x y lx ly
            (shows_first (programs.lawful K) H (reverse σ) F x y lx ly (λ p. far (reaches_same P (λ c l. sym (same c l)) p)) (apart_from ρ y x)
            (avoids y x ly (λ e. ne (sym e))) υ E (reverse (τ y x)) r (complete_to K (whole y x)))
