-- One proof for each claim of specs/Claims; three of them, completes, decides and decided, come from the modules before.
use mathlib.Core.Path.{◌≡◌, sym, ◌∙◌, subst}
use mathlib.Core.Logic.{◌⊎◌, inl, inr, ⊎_elim, ◌≢◌}
use mathlib.Core.Bool.{true, false}
use mathlib.Core.List.{List, ◌∷◌}
use Prim.Native.Nat.{ℕ, ◌<◌}
use Rattle.relation.proofs.Truth.{clashing, split}
use Rattle.relation.proofs.Chains.{reach_map}
use Rattle.schedules.specs.Machine.{Program, Lawful, Mismatch, state}
use Rattle.schedules.specs.Threads.{Threads, at, log_of, after, gens, Legal, Complete, stopped, mismatched, Clean}
use Rattle.schedules.specs.HappensBefore.{Reaches, reach, Reuse, NoReuse}
use Rattle.schedules.specs.Claims.{Alike, Settled, Precedes, AllRan, Sound, Real, Agree, Agreement, Disagreement, OneRelation, OneFirst, Always, EitherFirst, InOneOrder, OneOrder}
use Rattle.schedules.proofs.Logs.{Allowed}
use Rattle.schedules.proofs.Good.{good}
use Rattle.schedules.proofs.Tests.{not_matching}
use Rattle.schedules.proofs.Along.{gen_then}
use Rattle.schedules.proofs.Final.{final}
use Rattle.schedules.proofs.Sound.{ended, fits}
pub use Rattle.schedules.proofs.Table.{decides}
use Rattle.schedules.proofs.Table.{edge_alike}
use Rattle.schedules.proofs.Cut.{Strays, faults, differs}
use Rattle.schedules.proofs.Real.{strays}
use Rattle.schedules.proofs.Ordered.{not_both, one_of, always_log, without}
use Rattle.schedules.proofs.Threads.{stand, legal_log, stops_log, may, must, led, goes_commands, clean_log, clean_run}
pub use Rattle.schedules.proofs.Completes.{completes}
pub use Rattle.schedules.proofs.Decided.{decided}

module _ {P : Program} (W : Lawful P) (H : Threads P) where
  open P use {size}
  open H use {thread}

  pub all_ran : AllRan P H
  all_ran σ C = (final W (clean_log H W C)).all

  pub sound : Sound P H
  sound σ F τ (stopped h stop) =
      let (C, same) = ended W (clean_log H W F.clean) F.none (legal_log H τ h) (stops_log H τ h stop) in
      (clean_run H W h C, same)
  sound σ F _ (mismatched {υ} h st w) =
      absurd (not_matching w (fits W (clean_log H W F.clean) F.none (log_of P H υ) (legal_log H υ h) (may H (stand H υ h) st)))

  dirty : {υ : List ℕ} {t : ℕ} → Mismatch P (after P H υ) (at P H υ t) → ¬ Clean P H (t ∷ υ)
  dirty w K = not_matching w K.legal.2

  dirty_or_legal : {τ : List ℕ} → Complete P H τ → (¬ Clean P H τ) ⊎ Legal P H τ
  dirty_or_legal (stopped h stop) = inr h
  dirty_or_legal (mismatched h st w) = inl (dirty w)

  pub real : Real P H
  real σ C c₁ c₂ R = from (strays W (clean_log H W C) R)
    where
      Unlike : List ℕ → Type 0
      Unlike τ = (¬ Clean P H τ) ⊎ ((x : ℕ) × (x < size) × (gens P H τ x ≢ gens P H σ x))

      from : Strays P (gens P H σ) → (τ : List ℕ) × Complete P H τ × Unlike τ
      from (faults l h c A w) =
          let (υ, g, e) = led H l h in
          let (A', w') = subst (λ (l : List ℕ). Allowed P (state P l) c × Mismatch P (state P l) c) (sym e) (A, w) in
          let (q, st) = must H (stand H υ g) A' in
          let m : Mismatch P (after P H υ) (at P H υ (thread c)) = subst (Mismatch P (after P H υ)) q w' in
          (thread c ∷ υ, mismatched g st m, inl (dirty m))
      from (differs l h x ran n) =
          let (υ, g, e) = led H l h in
          let (τ, r, K) = completes W H υ g in
          let (ran', n') = subst (λ (l : List ℕ). ((state P l).ran x ≡ true) × ((state P l).gen x ≢ gens P H σ x)) (sym e) (ran, n) in (
            τ,
            K,
            ⊎_elim inl (λ (L : Legal P H τ). inr (x, (good W l h).low x ran, λ q. n' (sym (gen_then P (goes_commands H r) (legal_log H τ L) x ran') ∙ q))) (dirty_or_legal K),
          )

  -- ---- agreement

  pub agreement : Agreement P H
  agreement σ C = (forth, back)
    where
      whole : Complete P H σ
      whole = stopped C.legal C.stops

      forth : Agree P H → NoReuse P (gens P H σ)
      forth A =
          ⊎_elim
          (λ (w : (c₁ : ℕ) × (c₂ : ℕ) × Reuse P (gens P H σ) c₁ c₂).
          let (τ, K, unlike) = real σ C w.0 w.1 w.2 in
          let (_, D, same) = A σ τ whole K in
          absurd (⊎_elim (λ n. n D) (λ d. d.2 (same d.0 d.1)) unlike))
          (λ none. none)
          (decided P (gens P H σ))

      back : NoReuse P (gens P H σ) → Agree P H
      back none τ υ K L =
          let F : Settled P H σ = record { clean = C; none = none } in
          let (D, e) = sound σ F τ K in
          let (E, f) = sound σ F υ L in
          (D, E, λ x l. f x l ∙ sym (e x l))

  pub disagreement : Disagreement P H
  disagreement σ K n A = n (A σ σ K K).0

  pub one_relation : OneRelation P H
  one_relation σ F τ D =
      let same : Alike P H τ σ = (sound σ F τ (stopped D.legal D.stops)).1 in
      (same, λ x y. (reach_map (edge_alike (λ x l. sym (same x l))), reach_map (edge_alike same)))

  -- ---- the order of two commands

  pub one_first : OneFirst P H
  one_first τ C x y lx ly n = (one_of _ (legal_log H τ C.legal) (all_ran τ C x lx) (all_ran τ C y ly) n, λ w. not_both w.0 w.1)

  pub always : Always P H
  always σ F x y p n ly reg τ K =
      let D = (sound σ F τ K).0 in
      always_log W (clean_log H W F.clean) F.none p n reg (log_of P H τ) (legal_log H τ D.legal) (all_ran τ D y ly)

  pub either_first : EitherFirst P H
  either_first σ F x y lx ly n =
      let (l, h, rx, ry) = without W (clean_log H W F.clean) F.none x y lx ly n in
      let (υ, g, e) = led H l h in
      let (τ, r, K) = completes W H υ g in
      (τ, K, record { part = log_of P H υ; goes_on = goes_commands H r; sooner = rw e rx; later = rw e ry; at_last = all_ran τ (sound σ F τ K).0 y ly })

  pub one_order : OneOrder P H
  one_order σ F x y lx ly rx ry n = (forth, back)
    where
      g : ℕ → ℕ
      g = gens P H σ

      -- whoever reaches the other goes first in every complete schedule
      back : Reaches P g x y ⊎ Reaches P g y x → InOneOrder P H x y
      back (inl p) τ υ K L = (λ _. always σ F x y p n ly ry υ L, λ _. always σ F x y p n ly ry τ K)
      back (inr p) τ υ K L =
          let never : (τ : List ℕ) → Complete P H τ → ¬ Precedes P H x y τ = λ τ K b. not_both b (always σ F y x p (λ e. n (sym e)) lx rx τ K) in
          (λ b. absurd (never τ K b), λ b. absurd (never υ L b))

      -- and where neither does, either goes first in some
      forth : InOneOrder P H x y → Reaches P g x y ⊎ Reaches P g y x
      forth S =
          ⊎_elim (λ (t : reach P g x y ≡ true). inl ((decides P g x y lx ly).0 t))
          (λ (f : reach P g x y ≡ false). ⊎_elim (λ (t : reach P g y x ≡ true). inr ((decides P g y x ly lx).0 t))
          (λ (e : reach P g y x ≡ false).
          let (τ, K, b) = either_first σ F x y lx ly (λ p. clashing ((decides P g y x ly lx).1 p) e) in
          let (υ, L, d) = either_first σ F y x ly lx (λ p. clashing ((decides P g x y lx ly).1 p) f) in
          absurd (not_both ((S τ υ K L).0 b) d))
          (split (reach P g y x)))
          (split (reach P g x y))
