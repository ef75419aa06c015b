-- What reaches what, in the tables as a program. Assumes nothing.
use mathlib.Core.Path.{◌≡◌, sym, ap, ◌∙◌, subst}
use mathlib.Core.Bool.{false}
use mathlib.Core.List.{List}
use Prim.Native.Nat.{ℕ, zero, suc, ◌+◌, ◌<◌}
use native.Mathlib.Omega.{arith}
use Rattle.tables.specs.Rows.{rows, thread_of}
use Rattle.rules.specs.Rules.{Keeps}
use Rattle.relation.specs.Chains.{here, goes}
use Rattle.relation.proofs.Chains.{reach_map}
use Rattle.relation.proofs.Truth.{isnt}
use Rattle.schedules.specs.Machine.{Program}
use Rattle.schedules.specs.Threads as threads
use Rattle.schedules.specs.HappensBefore.{along, Reaches, Succeeds, Waits, Reuse}
use Rattle.schedules.proofs.Table.{edge_alike}
use Rattle.programs.specs.Program.{program}
use Rattle.programs.proofs.Programs as programs

-- ---- what reaches what hangs on the generations of the program's commands alone

module _ (P : Program) {g g' : ℕ → ℕ} (same : (c : ℕ) → c < P.size → g c ≡ g' c) where
  pub reaches_same : {x y : ℕ} → Reaches P g x y → Reaches P g' x y
  reaches_same = reach_map (edge_alike same)

  succeeds_same : {c₁ c₂ : ℕ} → Succeeds P g c₁ c₂ → Succeeds P g' c₁ c₂
  succeeds_same s =
      record { low₁ = s.low₁; low₂ = s.low₂; reg₁ = s.reg₁; reg₂ = s.reg₂; at = s.at; gen = sym (same _ s.low₂) ∙ s.gen ∙ ap suc (same _ s.low₁) }

  waits_same : {c₁ c₂ : ℕ} → Waits P g c₁ c₂ → Waits P g' c₁ c₂
  waits_same w = record { before = w.before; is_before = w.is_before; not_first = w.not_first; reached = reaches_same w.reached }

pub reuse_same : (P : Program) {g g' : ℕ → ℕ} → ((c : ℕ) → c < P.size → g c ≡ g' c) → {c₁ c₂ : ℕ} → Reuse P g c₁ c₂ → Reuse P g' c₁ c₂
reuse_same P same r =
    record { succeeds = succeeds_same P same r.succeeds; loose = λ w. r.loose (waits_same P (λ c l. sym (same c l)) w) }

module _ {table lengths : List ℕ} (K : Keeps table lengths) where
  abbrev P : Program
  P = program table lengths

  abbrev H : threads.Threads (program table lengths)
  H = programs.threads K

  -- a command reaches the later ones of its thread
  pub reaches_on : (g : ℕ → ℕ) (n x : ℕ) → x + n < rows table → thread_of lengths x ≡ thread_of lengths (x + n) → Reaches P g x (x + n)
  reaches_on g zero x l e = subst (Reaches P g x) (omega arith) here
  reaches_on g (suc n) x l e =
      let t = thread_of lengths x in
      let hx = H.home x (omega arith) in
      let hy : x + suc n < H.high t = subst (λ (t : ℕ). x + suc n < H.high t) (sym e) (H.home (x + suc n) l).2 in
      let th : thread_of lengths (x + n) ≡ t = (H.only t (x + n) hx.0 (omega (arith, hx.1)) (omega arith)).0 in
      let nf : P.first (x + suc n) ≡ false = isnt _ (λ f. omega (arith, H.is_first_in_thread (x + suc n) l f, ap H.low e, hx.1)) in
      goes (reaches_on g n x (omega arith) (sym th)) (along l (omega arith) nf)
