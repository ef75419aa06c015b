-- A legal schedule is no longer than the tables: each of its steps runs another command. So generations are few too. Assumes nothing.
use mathlib.Core.Path.{◌≡◌, refl, ap, sym, ◌∙◌}
use mathlib.Core.Bool.{true, false}
use mathlib.Core.List.{List, [], ◌∷◌}
use mathlib.Core.Logic.{by_cases, ⊎_elim, ◌≢◌}
use Prim.Native.Nat.{ℕ, suc, ◌≤◌, ◌<◌}
use native.Mathlib.Decide.{ℕ_discrete}
use native.Mathlib.Omega.{arith}
use lib.ListN.{length}
use Rattle.tables.specs.Rows.{rows}
use Rattle.rules.specs.Rules.{Keeps}
use Rattle.relation.proofs.Truth.{clashing, split}
use Rattle.schedules.specs.Tally.{tally}
use Rattle.schedules.specs.Machine.{Program, State, next, state}
use Rattle.schedules.specs.Threads.{Threads, at, after, gens, Steps, Legal}
use Rattle.schedules.proofs.Tally.{tally_one, tally_none, tally_all, tally_most}
use Rattle.schedules.proofs.Step.{ran_same, ran_other, gen_same, gen_idle, gen_other, done_top}
use Rattle.schedules.proofs.Threads.{stand, may}
use Rattle.programs.specs.Program.{program}
use Rattle.programs.proofs.Programs.{threads}

module _ {commands lengths : List ℕ} (K : Keeps commands lengths) where
  abbrev P : Program
  P = program commands lengths

  abbrev H : Threads P
  H = threads K

  -- how many commands have run
  abbrev ran_in : State → ℕ
  ran_in s = tally (rows commands) s.ran

  one_more : (υ : List ℕ) → Legal P H υ → {t : ℕ} → Steps P H υ t → ran_in (next P (after P H υ) (at P H υ t)) ≡ suc (ran_in (after P H υ))
  one_more υ L {t} st =
      let s = after P H υ in
      let c = at P H υ t in
      let A = may H (stand H υ L) st in
      tally_one (rows commands) s.ran (next P s c).ran c A.low A.fresh (ran_same P s c c refl) (λ x n. ran_other P s c x (λ e. n (sym e)))

  each_runs : (υ : List ℕ) → Legal P H υ → ran_in (after P H υ) ≡ length υ
  unfolding Rattle.schedules.specs.Threads.log_of state
  each_runs [] L = tally_none (rows commands) _ (λ i l e. clashing e refl)
  each_runs (t ∷ υ) L = one_more υ L.0 L.1 ∙ ap suc (each_runs υ L.0)

  pub legal_few : (υ : List ℕ) → Legal P H υ → length υ ≤ rows commands
  legal_few υ L = omega (arith, each_runs υ L, tally_most (rows commands) (after P H υ).ran)

  pub steps_few : {υ : List ℕ} {t : ℕ} → Legal P H υ → Steps P H υ t → length υ < rows commands
  steps_few {υ} {t} L st = omega (arith, each_runs υ L, one_more υ L st, tally_most (rows commands) (next P (after P H υ) (at P H υ t)).ran)

  -- where all commands have run, there are as many steps
  pub legal_all : (υ : List ℕ) → Legal P H υ → ((c : ℕ) → c < rows commands → (after P H υ).ran c ≡ true) → length υ ≡ rows commands
  legal_all υ L all = sym (each_runs υ L) ∙ tally_all (rows commands) (after P H υ).ran all

  -- no more generations than steps
  pub done_few : (υ : List ℕ) (b : ℕ) → (after P H υ).done b ≤ length υ
  unfolding Rattle.schedules.specs.Threads.log_of state
  done_few [] b = omega arith
  done_few (t ∷ υ) b = omega (arith, done_few υ b, done_top P (after P H υ) (at P H υ t) b)

  -- no generation is above the number of steps
  pub gens_few : (υ : List ℕ) (c : ℕ) → gens P H υ c ≤ length υ
  unfolding Rattle.schedules.specs.Threads.log_of state
  gens_few [] c = omega arith
  gens_few (t ∷ υ) c =
      let s = after P H υ in
      let d = at P H υ t in
      by_cases (ℕ_discrete d c)
      (λ (e : d ≡ c).
      ⊎_elim (λ (r : P.registers d ≡ true). omega (arith, gen_same P s d c e r, done_few υ (P.barrier d)))
      (λ (r : P.registers d ≡ false). omega (arith, gen_idle P s d c e r)) (split (P.registers d)))
      (λ (n : d ≢ c). omega (arith, gen_other P s d c n, gens_few υ c))
