-- Which thread a writer lets step; and that no more is asked of the commands that go first than what is said of rows. Assumes nothing.
use mathlib.Core.Path.{◌≡◌, refl, ◌∙◌}
use mathlib.Core.Bool.{Bool, true, false, not, ◌||◌}
use mathlib.Core.List.{List}
use mathlib.Core.Logic.{⊎_elim}
use Prim.Native.Nat.{ℕ, zero, suc, ◌+◌, ◌≤◌, ◌<◌}
use native.Mathlib.Omega.{arith}
use lib.Dec.{eqb}
use lib.ListN.{length, set, length-set, get_or-eq_default}
use lib.Seq.{get_or-set_same, get_or-set_other}
use borrow.Author.Count.{below_none, below_more}
use Rattle.tables.specs.Lowest.{lowest}
use Rattle.tables.specs.Rows.{rows}
use Rattle.rules.specs.Rules.{Keeps}
use Rattle.tables.proofs.Lowest.{lowest_first, lowest_is}
use Rattle.tables.proofs.Rows.{end_most}
use Rattle.turns.specs.Turns.{does_go_first}
use Rattle.turns.proofs.Turns.{or_none}
use Rattle.relation.proofs.Truth.{split}
use Rattle.steps.specs.declared.state.Replay.{Replay}
use Rattle.steps.specs.State.{start}
use Rattle.steps.specs.Step.{allowed, command, stepped}
use Rattle.steps.specs.Ending.{lowest_allowed}
use Rattle.steps.specs.Writing.{stepping, picked, picked_first}
use Rattle.steps.proofs.Changing.{may}
use Rattle.replay.specs.Writer.{schedule_by, apart_from, apart_schedule}
use Rattle.replay.specs.Needs.{PutsApart}

-- ---- the thread that steps

-- where no command goes first, the lowest allowed thread steps
pub picks_lowest : (early : ℕ → Bool) (lengths : List ℕ) (s : Replay) → ((x : ℕ) → early x ≡ false) → lowest_allowed lengths s ≡ picked_first early lengths s
unfolding picked_first picked
picks_lowest early lengths s none =
    or_none (picked early lengths s) (allowed lengths s) (length lengths)
    (λ k _. ⊎_elim (λ e. rw e (none (command lengths s k))) (λ e. rw e) (split (allowed lengths s k)))

-- ---- choices that are alike write the same schedule

module _ {choose other : Replay → ℕ} (alike : (s : Replay) → choose s ≡ other s) (commands lengths : List ℕ) where
  stepping_alike : (n : ℕ) (s : Replay) → stepping choose commands lengths n s ≡ stepping other commands lengths n s
  unfolding stepping
  stepping_alike zero s = refl
  stepping_alike (suc n) s = rw (alike s, stepping_alike n (stepped commands lengths s (other s)).after)

  pub schedule_alike : schedule_by choose commands lengths ≡ schedule_by other commands lengths
  unfolding schedule_by
  schedule_alike = stepping_alike (rows commands) start

pub lowest_alike : (p q : ℕ → Bool) (n : ℕ) → ((k : ℕ) → k < n → p k ≡ q k) → lowest p n ≡ lowest q n
lowest_alike p q n e =
    let L = lowest_first q n in
    lowest_is p (record {
      at_most = L.at_most;
      passes = λ l. e (lowest q n) l ∙ L.passes l;
      below = λ k l. e k (omega (arith, L.at_most)) ∙ L.below k l;
    })

-- the next command of a thread that may step is a row of the table
next_row : {commands lengths : List ℕ} → Keeps commands lengths → (s : Replay) (t : ℕ) → allowed lengths s t ≡ true → command lengths s t < rows commands
next_row {commands} {lengths} K s t e = let m = may commands lengths s t e in omega (arith, end_most lengths t, m.left.left, K.adds_up)

module _ {commands lengths : List ℕ} (K : Keeps commands lengths) {early other : ℕ → Bool} (same : (x : ℕ) → x < rows commands → early x ≡ other x) where
  -- the next command of an allowed thread is a row
  picked_alike : (s : Replay) (t : ℕ) → picked early lengths s t ≡ picked other lengths s t
  unfolding picked
  picked_alike s t =
      ⊎_elim (λ e. rw e (same (command lengths s t) (next_row K s t e))) (λ e. rw e) (split (allowed lengths s t))

  pub first_alike : (s : Replay) → picked_first early lengths s ≡ picked_first other lengths s
  unfolding picked_first
  first_alike s = rw (lowest_alike (picked early lengths s) (picked other lengths s) (length lengths) (λ k _. picked_alike s k))

-- tables of what reaches what that are alike on rows
module _ {commands lengths : List ℕ} (K : Keeps commands lengths) where
  pub apart_alike : (ρ ρ' : ℕ → ℕ → Bool) (c d : ℕ) → ((x : ℕ) → x < rows commands → ρ c x ≡ ρ' c x) → apart_schedule commands lengths ρ c d ≡ apart_schedule commands lengths ρ' c d
  unfolding apart_from
  apart_alike ρ ρ' c d same = schedule_alike (first_alike K (λ x l. rw (same x l))) commands lengths

-- an empty list has no command go first
pub nothing_first : (early : List Bool) → length early ≡ 0 → (x : ℕ) → does_go_first early x ≡ false
nothing_first early e x = get_or-eq_default early false (omega arith)

-- ---- the list is filled from the front

pub said_by : (ρ : ℕ → ℕ → Bool) (c d x : ℕ) {b : Bool} → b ≡ ρ c x → (eqb x d || not b) ≡ apart_from ρ c d x
unfolding apart_from
said_by ρ c d x e = rw e

-- what stands before x is said of the commands before x
pub record Said (ρ : ℕ → ℕ → Bool) (c d : ℕ) (before after : List Bool) (x : ℕ) : Type 0 where
  pub long : length after ≡ length before
  pub each : (k : ℕ) → k < x → does_go_first after k ≡ apart_from ρ c d k

module _ (ρ : ℕ → ℕ → Bool) (c d : ℕ) (before : List Bool) where
  pub said_none : Said ρ c d before before 0
  said_none = record { long = refl; each = below_none _ }

  module _ {after : List Bool} {x : ℕ} (S : Said ρ c d before after x) where
    pub said_more : x < length before → (b : Bool) → b ≡ apart_from ρ c d x → Said ρ c d before (set after x b) (x + 1)
    said_more l b e =
        record {
          long = length-set after x b ∙ S.long;
          each = below_more _ x (λ k m. get_or-set_other after x k b false (omega arith) ∙ S.each k m) (get_or-set_same after x b false (omega (arith, S.long)) ∙ e);
        }

    pub said_all : length after ≤ x → PutsApart ρ c d before after
    said_all l = record { long = S.long; each = λ k m. S.each k (omega (arith, S.long)) }
