-- A clean log has run everything, and every generation that it opened is complete; and a log that stops so is clean.
use mathlib.Core.Path.{◌≡◌, refl, subst}
use mathlib.Core.Logic.{by_cases}
use mathlib.Core.Bool.{true}
use mathlib.Core.List.{List}
use Prim.Native.Nat.{ℕ, zero, suc, ◌≤◌, ◌<◌}
use native.Mathlib.Nat.{suc_inj}
use native.Mathlib.Omega.{arith}
use native.Mathlib.Decide.{dec_le}
use Rattle.schedules.specs.Machine.{Program, Lawful, State, Member, member, registered, state, Ready}
use Rattle.schedules.proofs.Tally.{tally_pos, tally_none}
use Rattle.schedules.proofs.Logs.{LegalLog, StopsLog, CleanLog}
use Rattle.schedules.proofs.Step.{member_in, member_out}
use Rattle.schedules.proofs.Good.{Good, good, full, lacking}
use Rattle.schedules.proofs.Tests.{has_run_lem}

-- all has run, and no generation is open
pub record Final (P : Program) (S : State) : Type 0 where
  pub good : Good P S
  pub all : (x : ℕ) → x < P.size → S.ran x ≡ true
  pub over : {b k x : ℕ} → Member P S b k x → k ≤ S.done b

module _ {P : Program} (W : Lawful P) where
  open P use {size}

  pub final : {l : List ℕ} → CleanLog P l → Final P (state P l)
  unfolding registered
  final {l} C = record { good = G; all = all; over = over }
    where
      s : State
      s = state P l

      G : Good P s
      G = good W l C.legal

      over : {b k x : ℕ} → Member P s b k x → k ≤ s.done b
      over {b} {k} {x} h =
          by_cases (dec_le k (s.done b)) (λ (l : k ≤ s.done b). l)
          (λ (n : ¬ (k ≤ s.done b)).
          let e : k ≡ suc (s.done b) = (lacking G h n).0 in
          absurd (omega (arith, tally_pos size (member P s b (suc (s.done b))) x (G.low x h.run) (member_in (rw e at h)), C.unset b)))

      all : (x : ℕ) → x < size → s.ran x ≡ true
      all zero l = has_run_lem zero (C.stops zero) l (λ y e. absurd (omega arith))
      all (suc y) l =
          let before : s.ran y ≡ true = all y (omega arith) in
          has_run_lem (suc y) (C.stops (suc y)) l (λ z e f. subst (Ready P s) (suc_inj e) (C.free y before))

  pub clean_of : {l : List ℕ} → LegalLog P l → StopsLog P l → ((b k x : ℕ) → Member P (state P l) b k x → k ≤ (state P l).done b) → CleanLog P l
  unfolding registered
  clean_of {l} h stop over =
      record {
        legal = h;
        stops = stop;
        free = λ y e. record { run = e; freed = λ syn. over (P.barrier y) _ y (record { run = e; reg = W.sync_registers y syn; at = refl; gen = refl }) };
        unset =
            λ b. tally_none size _ (λ i _ t.
            let late : suc ((state P l).done b) ≤ (state P l).done b = over b _ i (member_out t) in
            omega arith);
      }

module _ {P : Program} {S : State} (F : Final P S) where
  -- each command stands in its own generation
  pub itself : (c : ℕ) → c < P.size → P.registers c ≡ true → Member P S (P.barrier c) (S.gen c) c
  itself c l r = record { run = F.all c l; reg = r; at = refl; gen = refl }

  pub class_size : {b k x : ℕ} → Member P S b k x → registered P S b k ≡ P.count x
  class_size h = full F.good h (F.over h)
