-- Entries of a schedule: those that are joined go on one after the other, where a replay has ended nothing changes, and what a loop over entries has come to. Assumes nothing.
use mathlib.Core.Path.{◌≡◌, refl, sym, ap, ◌∙◌}
use mathlib.Core.Bool.{true, false}
use mathlib.Core.List.{List, [], ◌∷◌}
use mathlib.Core.Logic.{◌≢◌}
use Prim.Native.Nat.{ℕ, zero, suc, ◌+◌, ◌≤◌, ◌<◌}
use native.Mathlib.Numerals.{add-one}
use native.Mathlib.Omega.{arith}
use lib.ListN.{length, get_or, set, drop}
use lib.Seq.{drop-cons, drop-nil}
use borrow.Author.Tests.{eq-eqb, ne_eqb}
use Rattle.verdicts.specs.Verdicts.{numbered}
use Rattle.verdicts.specs.declared.Verdict.TheVariants as verdict
use Rattle.verdicts.proofs.Verdicts.{zero_clean}
use Rattle.steps.specs.declared.change.Change.{Change}
use Rattle.steps.specs.declared.state.Replay.{Replay}
use Rattle.steps.specs.declared.step.How.{How}
use Rattle.steps.specs.declared.step.How.TheVariants.{Mismatch, Ran}
use Rattle.steps.specs.declared.step.Did.{Did}
use Rattle.steps.specs.declared.step.Did.TheVariants.{NotAllowed, Took}
use Rattle.steps.specs.declared.going.Replayed.{Replayed}
use Rattle.barriers.specs.Counting.{counted}
use Rattle.steps.specs.Claims.{GoOnJoined, StaysEnded}
use Rattle.steps.specs.Step.{stepped}
use Rattle.steps.specs.Going.{standing, went_on, one_step_on, go_on}
use Rattle.steps.specs.Writing.{does_go_on}
use Rattle.steps.specs.Needs.{Found, applied}
use Rattle.steps.proofs.Stepping.{found_did, found_kept, found_after}

module _ (commands lengths : List ℕ) where
  pub go_on_joined : GoOnJoined commands lengths
  unfolding go_on
  go_on_joined [] τ r = refl
  go_on_joined (t ∷ σ) τ r = go_on_joined σ τ (one_step_on commands lengths r t)

  pub stays_ended : StaysEnded commands lengths
  unfolding go_on one_step_on
  stays_ended r n [] = refl
  stays_ended r n (t ∷ σ) = rw (ne_eqb (numbered r.verdict).number 0 n) (stays_ended r n σ)

  -- One entry, where it has not.
  pub one_on : (r : Replayed) (t : ℕ) → (numbered r.verdict).number ≡ 0 → {d : Did} {a : Replay} → (stepped commands lengths r.state t).did ≡ d
      → (stepped commands lengths r.state t).after ≡ a → one_step_on commands lengths r t ≡ went_on d a r
  unfolding one_step_on
  one_on r t z e f = rw (eq-eqb (numbered r.verdict).number 0 z, e, f)

  -- by the verdict so far
  module _ (σ : List ℕ) (r : Replayed) where
    pub goes_ended : r.verdict ≢ verdict.Clean → r ≡ go_on commands lengths σ r
    goes_ended n = sym (stays_ended r (λ z. n (zero_clean r.verdict z)) σ)

-- ---- the loop over entries

-- It has come to entry i, at this point.
pub record At (commands lengths σ : List ℕ) (whole : Replayed) (s : Replay) (g : List ℕ) (n i : ℕ) : Type 0 where
  pub within : i ≤ length σ
  pub is : go_on commands lengths σ whole ≡ go_on commands lengths (drop i σ) (standing s g n verdict.Clean)

module _ (commands lengths σ : List ℕ) where
  pub at_start : (s : Replay) (g : List ℕ) (n : ℕ) → At commands lengths σ (standing s g n verdict.Clean) s g n 0
  at_start s g n = record { within = omega arith; is = refl }

  module _ (whole : Replayed) {s : Replay} {g : List ℕ} {n i : ℕ} (A : At commands lengths σ whole s g n i) where
    nothing : (l : List ℕ) (i : ℕ) → length l ≤ i → drop i l ≡ []
    nothing [] i h = drop-nil i
    nothing (x ∷ l) zero h = absurd (omega arith)
    nothing (x ∷ l) (suc i) h = nothing l i (omega arith)

    pub at_end : length σ ≤ i → standing s g n verdict.Clean ≡ go_on commands lengths σ whole
    unfolding go_on
    at_end l = sym (A.is ∙ rw (nothing σ i l))

    module _ (l : i < length σ) where
      -- the next entry
      next : {d : Did} {a : Replay} → (stepped commands lengths s (get_or σ i 0)).did ≡ d → (stepped commands lengths s (get_or σ i 0)).after ≡ a
          → go_on commands lengths σ whole ≡ go_on commands lengths (drop (i + 1) σ) (went_on d a (standing s g n verdict.Clean))
      unfolding go_on
      next {d} {a} e f =
          A.is ∙ ap (λ (l : List ℕ). go_on commands lengths l (standing s g n verdict.Clean)) (drop-cons σ i 0 l)
          ∙ ap (go_on commands lengths (drop (suc i) σ)) (one_on commands lengths (standing s g n verdict.Clean) (get_or σ i 0) refl e f)
          ∙ ap (λ (k : ℕ). go_on commands lengths (drop k σ) (went_on d a (standing s g n verdict.Clean))) (sym (add-one i))

      module _ {made : Change} (F : Found commands lengths s (get_or σ i 0) made) where
        did_so : {d : Did} → made.did ≡ d → (stepped commands lengths s (get_or σ i 0)).did ≡ d
        did_so e = found_did F ∙ e

        kept_so : {d : Did} → made.did ≡ d → does_go_on d ≡ false → (stepped commands lengths s (get_or σ i 0)).after ≡ s
        kept_so e f = found_kept F (ap does_go_on e ∙ f)

        pub at_refused : made.did ≡ NotAllowed → standing s g n (verdict.NotAllowed n) ≡ go_on commands lengths σ whole
        at_refused e =
            sym (next (did_so e) (kept_so e refl) ∙ stays_ended commands lengths (standing s g n (verdict.NotAllowed n)) (λ z. omega arith) (drop (i + 1) σ))

        module _ {how : How} (took : made.did ≡ Took how) where
          pub at_mismatch : {c : ℕ} → how ≡ Mismatch c → standing s g n (verdict.Mismatch c) ≡ go_on commands lengths σ whole
          at_mismatch {c} h =
              let e = took ∙ ap Took h in
              sym (next (did_so e) (kept_so e refl) ∙ stays_ended commands lengths (standing s g n (verdict.Mismatch c)) (λ z. omega arith) (drop (i + 1) σ))

          pub ran_goes : {c k : ℕ} → how ≡ Ran c k → does_go_on made.did ≡ true
          ran_goes h = ap does_go_on (took ∙ ap Took h)

          pub at_more : {c k m : ℕ} {s' : Replay} {g' : List ℕ} → how ≡ Ran c k → s' ≡ applied s (get_or σ i 0) made → g' ≡ set g c k → m ≡ counted n
              → At commands lengths σ whole s' g' m (i + 1)
          at_more {c} {k} h es eg em =
              record {
                within = omega arith;
                is = rw (es, eg, em) (next (did_so (took ∙ ap Took h)) (found_after F (ran_goes h)));
              }
