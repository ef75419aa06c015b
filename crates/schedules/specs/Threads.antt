-- Schedules: which thread steps (R16, R17, R19, R21, R22). A schedule is a list of threads, the last step first.
use Rattle.std.specs.Prelude.{◌≡◌, true, false, List, [], ◌∷◌, ℕ, suc, ◌+◌, ◌≤◌, ◌<◌, eqb}
use Rattle.schedules.specs.Tally.{bit}
use Rattle.schedules.specs.Machine.{Program, State, Ready, Mismatch, Matches, registered, state}

-- Commands belong to threads in order: thread t has the commands from low t up to, and without, high t (R3).
pub record Threads (P : Program) : Type 0 where
  pub threads : ℕ
  pub thread : ℕ → ℕ
  pub low : ℕ → ℕ
  pub high : ℕ → ℕ
  pub span : (t : ℕ) → low t ≤ high t
  -- each command stands in its thread
  pub home : (c : ℕ) → c < P.size → (thread c < threads) × (low (thread c) ≤ c) × (c < high (thread c))
  -- and in no other
  pub only : (t c : ℕ) → t < threads → low t ≤ c → c < high t → (thread c ≡ t) × (c < P.size)
  -- it is first in its thread exactly when it is the lowest there
  pub is_first_in_thread : (c : ℕ) → c < P.size → P.first c ≡ true → c ≡ low (thread c)
  pub not_first : (c : ℕ) → c < P.size → P.first c ≡ false → low (thread c) < c

module _ (P : Program) (H : Threads P) where
  open H use {threads, low, high}

  -- The next command of thread t, after a schedule.
  unfoldable pub at : List ℕ → ℕ → ℕ
  at [] t = low t
  at (u ∷ υ) t = at υ t + bit (eqb u t)

  -- One step runs the next command of one thread (R17).
  unfoldable pub log_of : List ℕ → List ℕ
  log_of [] = []
  log_of (t ∷ υ) = at υ t ∷ log_of υ

  -- The state after a schedule.
  abbrev pub after : List ℕ → State
  after υ = state P (log_of υ)

  -- The generation that each command has after a schedule.
  abbrev pub gens : List ℕ → ℕ → ℕ
  gens υ = (after υ).gen

  -- Thread t is blocked: its last command is a sync whose generation is not complete. It may have nothing left to run (R19).
  pub record Blocked (υ : List ℕ) (t : ℕ) : Type 0 where
    pub last : ℕ
    pub is_last : at υ t ≡ suc last
    pub own : low t ≤ last
    pub unready : ¬ Ready P (after υ) last

  -- A step is allowed if its thread exists, has a command left and isn't blocked (R16).
  pub record Steps (υ : List ℕ) (t : ℕ) : Type 0 where
    pub exists : t < threads
    pub left : at υ t < high t
    pub free : ¬ Blocked υ t

  -- Each step is allowed and none mismatches (R21).
  abbrev pub Legal : List ℕ → Type 0
  Legal [] = Unit {0}
  Legal (t ∷ υ) = Legal υ × Steps υ t × Matches P (after υ) (at υ t)

  -- No step is allowed (R21).
  abbrev pub Stops : List ℕ → Type 0
  Stops υ = (t : ℕ) → ¬ Steps υ t

  -- A schedule is legal and complete if each step is allowed and it ends either at its first mismatch or where no step is allowed (R21).
  pub data Complete : List ℕ → Type 0 where
    stopped : {υ : List ℕ} → Legal υ → Stops υ → Complete υ
    mismatched : {υ : List ℕ} {t : ℕ} → Legal υ → Steps υ t → Mismatch P (after υ) (at υ t) → Complete (t ∷ υ)

  -- It ends clean if there was no mismatch, no thread is blocked and every barrier is unset (R22).
  pub record Clean (υ : List ℕ) : Type 0 where
    pub legal : Legal υ
    pub stops : Stops υ
    pub unblocked : (t : ℕ) → t < threads → ¬ Blocked υ t
    pub unset : (b : ℕ) → registered P (after υ) b (suc ((after υ).done b)) ≡ 0
