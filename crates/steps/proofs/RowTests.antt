-- What a row is and what it changes, from the tests. Assumes nothing.
use mathlib.Core.Path.{◌≡◌, sym, ◌∙◌}
use mathlib.Core.Bool.{Bool, true, false}
use mathlib.Core.List.{List}
use mathlib.Core.Logic.{⊎_elim}
use Prim.Native.Nat.{ℕ, ◌+◌, ◌≤◌, ◌<◌}
use native.Mathlib.Omega.{arith}
use lib.Dec.{eqb, ltb}
use borrow.Author.Tests.{lt-ltb, le-ltb, le-leb, lt-leb, ltb-true}
use Rattle.relation.proofs.Truth.{split, both}
use Rattle.std.specs.Prelude.{Some}
use Rattle.tables.specs.Limits.{barriers}
use Rattle.tables.specs.Rows.{kind, name, count, arrive, sync, registers}
use Rattle.turns.specs.Turns.{may_go}
use Rattle.barriers.specs.declared.barrier.Barrier.{Barrier}
use Rattle.barriers.specs.declared.barrier.Met.TheVariants.{Clash, Stays, Completes}
use Rattle.barriers.specs.declared.barrier.Registration.{Registration}
use Rattle.barriers.specs.Barrier.{registration}
use Rattle.barriers.specs.Counting.{counted}
use Rattle.steps.specs.declared.row.Entrant.{Entrant}
use Rattle.steps.specs.declared.step.How.TheVariants.{Mismatch, Ran}
use Rattle.steps.specs.declared.step.Did.TheVariants.{Took}
use Rattle.steps.specs.declared.row.Row.{Row}
use Rattle.steps.specs.declared.row.Row.TheVariants as row
use Rattle.steps.specs.declared.row.Row.TheVariants.{Passes, Enters}
use Rattle.steps.specs.Step.{enters}
use Rattle.steps.specs.Needs.{row_at, row_of_thread, KnownRow, wait_of, still, entering}

module _ (commands : List ℕ) (c : ℕ) {k b : ℕ} (ke : k ≡ kind commands c) (be : b ≡ name commands c) where
  pub row_low : k < arrive → Passes c ≡ row_at commands c
  unfolding row_at
  row_low l = rw (lt-leb arrive (kind commands c) (omega arith))

  module _ (l : arrive ≤ k) where
    pub row_past : barriers ≤ b → Passes c ≡ row_at commands c
    unfolding row_at
    row_past m = rw (le-leb arrive (kind commands c) (omega arith), le-ltb (name commands c) barriers (omega arith))

    pub row_enters : b < barriers → {n : ℕ} → n ≡ count commands c
        → Enters (record { command = c; barrier = b; count = n; syncs = eqb k sync }) ≡ row_at commands c
    unfolding row_at
    row_enters m e = rw (le-leb arrive (kind commands c) (omega arith), lt-ltb (name commands c) barriers (omega arith), ke, be, e)

-- a row's barrier is there
row_known : (commands : List ℕ) (c : ℕ) → KnownRow (row_at commands c)
unfolding row_at
row_known commands c =
    ⊎_elim (λ (e : enters commands c ≡ true). rw e (ltb-true _ _ (both (registers commands c) (ltb (name commands c) barriers) e).1))
    (λ (e : enters commands c ≡ false). rw e tt) (split (enters commands c))

module _ (commands lengths : List ℕ) (t first n wait : ℕ) where
  thread_row_known : KnownRow (row_of_thread commands lengths t first n wait)
  unfolding row_of_thread
  thread_row_known =
      ⊎_elim (λ (e : may_go lengths t n wait ≡ true). rw e (row_known commands (first + n)))
      (λ (e : may_go lengths t n wait ≡ false). rw e tt) (split (may_go lengths t n wait))

  pub with_known : {row : Row} → row ≡ row_of_thread commands lengths t first n wait → (row ≡ row_of_thread commands lengths t first n wait) × KnownRow row
  with_known e = (e, rw e thread_row_known)

  module _ {l : Bool} (is : l ≡ may_go lengths t n wait) where
    pub thread_stays : l ≡ false → row.NotAllowed ≡ row_of_thread commands lengths t first n wait
    unfolding row_of_thread
    thread_stays e = rw (sym is ∙ e)

    pub thread_goes : l ≡ true → row_at commands (first + n) ≡ row_of_thread commands lengths t first n wait
    unfolding row_of_thread
    thread_goes e = rw (sym is ∙ e)

-- ---- what it changes at its barrier

module _ (e : Entrant) (v : Barrier) (r : Registration) (is : r ≡ registration v e.count) where
  pub enters_clash : r.met ≡ Clash → still (Took (Mismatch e.command)) ≡ entering e v
  unfolding entering
  enters_clash m = rw (sym is, m)

  module _ {g w : ℕ} (ge : g ≡ counted v.done) (we : w ≡ wait_of e.syncs e.barrier) where
    pub enters_stays : r.met ≡ Stays
        → record { did = Took (Ran e.command g); wait = w; frees = 0; entered = Some (record { barrier = e.barrier; after = r.after }) } ≡ entering e v
    unfolding entering
    enters_stays m = rw (sym is, m, ge, we)

    pub enters_completes : r.met ≡ Completes
        → record { did = Took (Ran e.command g); wait = w; frees = e.barrier + 1; entered = Some (record { barrier = e.barrier; after = r.after }) } ≡ entering e v
    unfolding entering
    enters_completes m = rw (sym is, m, ge, we)
