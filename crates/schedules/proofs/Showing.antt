-- The claims of specs/Shows. Assumes nothing.
use mathlib.Core.Path.{◌≡◌, sym, ap, ◌∙◌}
use mathlib.Core.Logic.{◌⊎◌, inl, inr, ◌≢◌}
use mathlib.Core.Bool.{Bool, true}
use mathlib.Core.List.{List}
use Prim.Native.Nat.{ℕ, ◌<◌}
use Rattle.relation.proofs.Truth.{clashing}
use Rattle.schedules.specs.Machine.{Program, Lawful}
use Rattle.schedules.specs.Threads.{Threads, log_of, after, gens, Legal, Complete, stopped, mismatched, Clean}
use Rattle.schedules.proofs.Logs.{Allowed}
use Rattle.schedules.proofs.Tests.{not_matching}
use Rattle.schedules.proofs.Along.{gen_then}
use Rattle.schedules.proofs.Threads.{stand, legal_log, must, goes_commands, clean_log}
use Rattle.schedules.proofs.Theorems.{all_ran, sound}
use Rattle.schedules.specs.Shows.{Drains, ShowsReuse, ShowsFirst}
use Rattle.schedules.proofs.Astray.{astray, not_c, first_of}

module _ {P : Program} (W : Lawful P) (H : Threads P) where
  open P use {size}
  open H use {thread}

  -- no command of E is allowed in the log
  drained : {E : ℕ → Bool} {υ : List ℕ} → Drains P H E υ → (x : ℕ) → E x ≡ true → ¬ Allowed P (after P H υ) x
  drained {E} {υ} D x e A =
      let (q, st) = must H (stand H υ D.legal) A in
      clashing (ap E (sym q) ∙ e) (D.none (thread x) st)

  dirty_or_legal : {τ : List ℕ} → Complete P H τ → (¬ Clean P H τ) ⊎ Legal P H τ
  dirty_or_legal (stopped h stop) = inr h
  dirty_or_legal (mismatched h st w) = inl (λ K. not_matching w K.legal.2)

  pub shows_reuse : ShowsReuse P H
  shows_reuse σ C c₁ c₂ R E Q υ D τ r K = go (dirty_or_legal K)
    where
      go : (¬ Clean P H τ) ⊎ Legal P H τ → (¬ Clean P H τ) ⊎ ((x : ℕ) × (x < size) × (gens P H τ x ≢ gens P H σ x))
      go (inl n) = inl n
      go (inr L) =
          let (x, lx, ran, n) = astray W (clean_log H W C) R.succeeds.low₁ Q (log_of P H υ) D.only (drained D) R (legal_log H υ D.legal) in
          inr (x, lx, λ q. n (sym (gen_then P (goes_commands H r) (legal_log H τ L) x ran) ∙ q))

  pub shows_first : ShowsFirst P H
  shows_first σ F x y lx ly n E Q υ D τ r K =
      let C = clean_log H W F.clean in
      record {
        part = log_of P H υ;
        goes_on = goes_commands H r;
        sooner = first_of W C ly Q (log_of P H υ) D.only (drained D) F.none (legal_log H υ D.legal) x lx n;
        later = not_c W C ly Q (log_of P H υ) D.only (drained D);
        at_last = all_ran W H τ (sound W H σ F τ K).0 y ly;
      }
