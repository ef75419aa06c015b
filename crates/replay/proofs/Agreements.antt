-- Agreement and order, between the schedules of the replay and those of `schedules`. Assumes nothing.
use mathlib.Core.Path.{sym, ◌∙◌, subst}
use mathlib.Core.Logic.{◌↔◌}
use mathlib.Core.List.{List, reverse, reverse-reverse}
use Prim.Native.Nat.{ℕ, ◌<◌}
use Rattle.tables.specs.Rows.{rows}
use Rattle.rules.specs.Rules.{Keeps}
use Rattle.schedules.specs.Machine.{Program}
use Rattle.schedules.specs.Threads as threads
use Rattle.schedules.specs.Claims as claims
use Rattle.programs.specs.Program.{program}
use Rattle.replay.specs.Schedules.{Complete, Clean, Agree, Precedes, InOneOrder, Disagree, unclean, unlike}
use Rattle.programs.proofs.Programs as programs
use Rattle.replay.proofs.Plays.{clean_through}
use Rattle.replay.proofs.Schedules.{complete_to, complete_from, clean_from, generation_is}
use Rattle.replay.proofs.Precede.{precedes_to, precedes_from}

module _ {table lengths : List ℕ} (K : Keeps table lengths) where
  abbrev P : Program
  P = program table lengths

  abbrev H : threads.Threads (program table lengths)
  H = programs.threads K

  pub agree_from : claims.Agree P H → Agree table lengths
  agree_from S =
      let clean : (τ : List ℕ) → Complete table lengths τ → Clean table lengths τ = λ τ c. clean_from K (S (reverse τ) (reverse τ) (complete_to K c) (complete_to K c)).0 in
      record {
        clean = clean;
        alike =
            λ σ τ cσ cτ x l. generation_is K (clean_through K σ (clean σ cσ).through) x l
            ∙ sym ((S (reverse σ) (reverse τ) (complete_to K cσ) (complete_to K cτ)).2 x l)
            ∙ sym (generation_is K (clean_through K τ (clean τ cτ).through) x l);
      }

  pub disagreed : Disagree table lengths → ¬ Agree table lengths
  disagreed (unclean τ c n) A = n (A.clean τ c)
  disagreed (unlike σ τ cσ cτ c l n) A = n (A.alike σ τ cσ cτ c l)

  -- ---- the order of two commands, where all schedules agree

  module _ (A : Agree table lengths) (x y : ℕ) (lx : x < rows table) (ly : y < rows table) where
    precedes_is : (σ : List ℕ) → Complete table lengths σ → Precedes table lengths x y σ ↔ claims.Precedes P H x y (reverse σ)
    precedes_is σ c = let T = clean_through K σ (A.clean σ c).through in (precedes_to K σ T x y lx ly, precedes_from K σ T x y lx ly)

    pub order_from : claims.InOneOrder P H x y → InOneOrder table lengths x y
    order_from S σ τ cσ cτ =
        let (a, b) = precedes_is σ cσ in
        let (c, d) = precedes_is τ cτ in
        let (to, from) = S (reverse σ) (reverse τ) (complete_to K cσ) (complete_to K cτ) in
        (λ p. d (to (a p)), λ p. b (from (c p)))

    pub order_to : InOneOrder table lengths x y → claims.InOneOrder P H x y
    order_to S σ τ cσ cτ =
        let (a, b) = precedes_is (reverse σ) (complete_from K cσ) in
        let (c, d) = precedes_is (reverse τ) (complete_from K cτ) in
        let (to, from) = S (reverse σ) (reverse τ) (complete_from K cσ) (complete_from K cτ) in
        subst (λ (l : List ℕ). claims.Precedes P H x y l ↔ claims.Precedes P H x y τ) (reverse-reverse σ)
        (subst (λ (l : List ℕ). claims.Precedes P H x y (reverse (reverse σ)) ↔ claims.Precedes P H x y l) (reverse-reverse τ)
        ((λ p. c (to (b p))), (λ p. a (from (d p)))))
