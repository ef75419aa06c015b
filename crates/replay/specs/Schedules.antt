-- Schedules of two tables, under the steps of Step: which are legal and complete, which end clean, and what runs before what (D3, R21 to R23).
use Rattle.std.specs.Prelude.{◌≡◌, Bool, true, false, List, ◌≢◌, ◌↔◌, ℕ, suc, ◌<◌, ltb, length, take}
use Rattle.tables.specs.Limits.{barriers}
use Rattle.tables.specs.Rows.{rows, thread_of}
use Rattle.verdicts.specs.declared.Verdict.TheVariants as verdict
use Rattle.steps.specs.declared.state.Replay.{Replay}
use Rattle.steps.specs.Step.{allowed, command}
use Rattle.steps.specs.Ending.{is_blocked, barrier_set}
use Rattle.steps.specs.Going.{played, generation}

module _ (commands lengths : List ℕ) where
  -- the state that a schedule leads to
  abbrev pub state_after : List ℕ → Replay
  state_after σ = (played commands lengths σ).state

  -- Each step is allowed and none mismatches (R21).
  abbrev pub Through : List ℕ → Type 0
  Through σ = (played commands lengths σ).verdict ≡ verdict.Clean

  -- No step is allowed (R21).
  abbrev pub Stops : List ℕ → Type 0
  Stops σ = (t : ℕ) → allowed lengths (state_after σ) t ≡ false

  -- A schedule is legal and complete if each step is allowed and it ends either at its first mismatch or where no step is allowed (R21).
  pub data Complete (σ : List ℕ) : Type 0 where
    stopped : Through σ → Stops σ → Complete σ
    mismatched : {c : ℕ} → (played commands lengths σ).verdict ≡ verdict.Mismatch c → length σ ≡ suc (played commands lengths σ).steps → Complete σ

  -- It ends clean if there was no mismatch, no thread is blocked and every barrier is unset (R22).
  pub record Clean (σ : List ℕ) : Type 0 where
    pub through : Through σ
    pub stops : Stops σ
    pub unblocked : (t : ℕ) → t < length lengths → is_blocked (state_after σ) t ≡ false
    pub unset : (b : ℕ) → b < barriers → barrier_set (state_after σ) b ≡ false

  -- Two schedules end with the same generation for each command (D3).
  abbrev pub Alike : List ℕ → List ℕ → Type 0
  Alike σ τ = (c : ℕ) → c < rows commands → generation (played commands lengths σ) c ≡ generation (played commands lengths τ) c

  -- Command c has run: its thread stands past it (R23).
  abbrev pub has_run : Replay → ℕ → Bool
  has_run s c = ltb c (command lengths s (thread_of lengths c))

  -- x stands before y in a schedule: after some of its steps x has run and y has not, and after all of them y has (R23).
  pub record Precedes (x y : ℕ) (σ : List ℕ) : Type 0 where
    pub part : ℕ
    pub sooner : has_run (state_after (take part σ)) x ≡ true
    pub later : has_run (state_after (take part σ)) y ≡ false
    pub at_last : has_run (state_after σ) y ≡ true

  -- Every legal complete schedule ends clean with the same generation for each command (D3).
  pub record Agree : Type 0 where
    pub clean : (τ : List ℕ) → Complete τ → Clean τ
    pub alike : (σ τ : List ℕ) → Complete σ → Complete τ → Alike σ τ

  -- x and y stand in the same order in all legal complete schedules (D3).
  abbrev pub InOneOrder : ℕ → ℕ → Type 0
  InOneOrder x y = (σ τ : List ℕ) → Complete σ → Complete τ → Precedes x y σ ↔ Precedes x y τ

  -- That agreement fails: a legal complete schedule that does not end clean, or two that differ in the generation of a command (D3).
  pub data Disagree : Type 0 where
    unclean : (τ : List ℕ) → Complete τ → ¬ Clean τ → Disagree
    unlike : (σ τ : List ℕ) → Complete σ → Complete τ → (c : ℕ) → c < rows commands
        → generation (played commands lengths σ) c ≢ generation (played commands lengths τ) c → Disagree
