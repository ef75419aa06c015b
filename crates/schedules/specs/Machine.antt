-- How barriers behave, over any program: what has run, each command's generation, and how many generations of each barrier have completed (R10 to R14).
-- A log is a list of commands, the last command first.
use Rattle.std.specs.Prelude.{◌≡◌, Bool, true, false, ◌&&◌, ◌||◌, cond, List, [], ◌∷◌, ℕ, suc, ◌+◌, ◌≤◌, ◌<◌, eqb}
use Rattle.schedules.specs.Tally.{bit, tally}

-- The commands are the numbers below `size`; those of a thread are consecutive, so the command just before c in its thread is c - 1, unless c is first (R3).
pub record Program : Type 0 where
  pub size : ℕ
  pub first : ℕ → Bool
  -- an arrive or a sync, and not a read or a write
  pub registers : ℕ → Bool
  pub syncs : ℕ → Bool
  pub barrier : ℕ → ℕ
  pub count : ℕ → ℕ
  -- the two may not register in one generation: their counts differ, or a further rule forbids it
  pub clash : ℕ → ℕ → Bool

-- What is asked of a program: a sync registers, counts are 1 or more, and commands of different counts clash, whichever of them comes first (R5, R11).
pub record Lawful (P : Program) : Type 0 where
  pub sync_registers : (c : ℕ) → P.syncs c ≡ true → P.registers c ≡ true
  pub counts : (c : ℕ) → c < P.size → P.registers c ≡ true → 1 ≤ P.count c
  pub clash_sym : (c d : ℕ) → P.clash c d ≡ P.clash d c
  pub clash_count : (c d : ℕ) → P.clash c d ≡ false → P.count c ≡ P.count d

-- `done b` is the number of b's completed generations; what has registered so far at b are the members of generation done b + 1 (R10).
pub record State : Type 0 where
  pub ran : ℕ → Bool
  pub gen : ℕ → ℕ
  pub done : ℕ → ℕ

-- All barriers start unset (R15).
abbrev pub start : State
start = record { ran = λ c. false; gen = λ c. 0; done = λ b. 0 }

module _ (P : Program) where
  open P use {size, registers, syncs, barrier, count, clash}

  -- c has registered at b, in b's generation k.
  pub record Member (s : State) (b k c : ℕ) : Type 0 where
    pub run : s.ran c ≡ true
    pub reg : registers c ≡ true
    pub at : barrier c ≡ b
    pub gen : s.gen c ≡ k

  -- The same as a test, to count by.
  unfoldable pub member : State → ℕ → ℕ → ℕ → Bool
  member s b k c = s.ran c && (registers c && (eqb (barrier c) b && eqb (s.gen c) k))

  -- How many have registered at b in its generation k: commands, whichever threads they are of (R14).
  unfoldable pub registered : State → ℕ → ℕ → ℕ
  registered s b k = tally size (member s b k)

  -- d has registered where c would, in a generation that is not complete.
  abbrev pub Open : State → ℕ → ℕ → Type 0
  Open s c d = Member s (barrier c) (suc (s.done (barrier c))) d

  -- To register beside one that it clashes with, as one of a different count, is a mismatch (R11).
  pub record Mismatch (s : State) (c : ℕ) : Type 0 where
    pub reg : registers c ≡ true
    pub with : ℕ
    pub waits : Open s c with
    pub clashes : clash with c ≡ true

  -- c does not mismatch (R11).
  abbrev pub Matches : State → ℕ → Type 0
  Matches s c = registers c ≡ true → (d : ℕ) → Open s c d → clash d c ≡ false

  -- With c, registrations reach the count (R12).
  unfoldable pub completes : State → ℕ → Bool
  completes s c = eqb (suc (registered s (barrier c) (suc (s.done (barrier c))))) (count c)

  -- c runs. Its generation is one more than the completed generations of its barrier; reads and writes have 0 (R13). When registrations reach the
  -- count, in that same step one more generation has completed, so that nobody of it is blocked and the barrier is unset (R12).
  unfoldable pub next : State → ℕ → State
  next s c =
      record {
        ran = λ x. eqb c x || s.ran x;
        gen = λ x. cond (eqb c x) (cond (registers c) (suc (s.done (barrier c))) 0) (s.gen x);
        done = λ b. s.done b + bit (registers c && (eqb (barrier c) b && completes s c));
      }

  -- The state after a log.
  unfoldable pub state : List ℕ → State
  state [] = start
  state (c ∷ l) = next (state l) c

  -- y has run and does not block its thread: it is no sync, or its generation is complete (R19).
  pub record Ready (s : State) (y : ℕ) : Type 0 where
    pub run : s.ran y ≡ true
    pub freed : syncs y ≡ true → s.gen y ≤ s.done (barrier y)
