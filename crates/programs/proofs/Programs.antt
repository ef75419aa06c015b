-- Tables that pass are a lawful program, and their lengths are its threads. Assumes nothing.
use mathlib.Core.Path.{◌≡◌, sym, ap}
use mathlib.Core.Bool.{true, not}
use mathlib.Core.List.{List}
use Prim.Native.Nat.{ℕ, ◌<◌}
use native.Mathlib.Omega.{arith}
use lib.Dec.{eqb, leb}
use lib.ListN.{length}
use borrow.Author.Tests.{eqb-true, eqb-false, eq-eqb, leb-true, not-false}
use Rattle.tables.specs.Limits.{barriers}
use Rattle.tables.specs.Rows.{rows, kind, name, count, arrive, sync, registers, first_row, end_row, thread_of}
use Rattle.rules.specs.Rules.{Keeps}
use Rattle.tables.proofs.Rows.{home, only}
use Rattle.rules.proofs.Rules.{row_barrier}
use Rattle.relation.proofs.Truth.{same_test}
use Rattle.schedules.specs.Machine.{Lawful}
use Rattle.schedules.specs.Threads.{Threads}
use Rattle.programs.specs.Program.{program}

turned : (m n : ℕ) → eqb m n ≡ eqb n m
turned m n = same_test _ _ (λ e. eq-eqb n m (sym (eqb-true m n e))) (λ e. eq-eqb m n (sym (eqb-true n m e)))

module _ {commands lengths : List ℕ} (K : Keeps commands lengths) where
  pub lawful : Lawful (program commands lengths)
  lawful =
      record {
        sync_registers = λ c e. ap (leb arrive) (eqb-true (kind commands c) sync e);
        counts = λ c l r. (row_barrier K c l (leb-true _ _ r)).1;
        clash_sym = λ c d. ap not (turned (count commands c) (count commands d));
        clash_count = λ c d e. eqb-true (count commands c) (count commands d) (not-false _ e);
      }

  -- what registers names a barrier
  pub named : (c : ℕ) → c < rows commands → registers commands c ≡ true → name commands c < barriers
  named c l r = (row_barrier K c l (leb-true _ _ r)).0

  abbrev pub threads : Threads (program commands lengths)
  threads =
      record {
        threads = length lengths;
        thread = thread_of lengths;
        low = first_row lengths;
        high = end_row lengths;
        span = λ t. omega arith;
        home = λ c l. let h = home lengths c (omega arith) in (h.there, h.low, h.high);
        only = λ t c there low high. let (is, l) = only lengths c t (record { there = there; low = low; high = high }) in (is, omega arith);
        is_first_in_thread = λ c l. eqb-true _ _;
        not_first =
            λ c l e.
            let h = home lengths c (omega arith) in
            let n : ¬ (c ≡ first_row lengths (thread_of lengths c)) = eqb-false _ _ e in
            omega arith;
      }
