-- What a step changes, stored, is what it does. Assumes nothing.
use mathlib.Core.Path.{◌≡◌, refl, sym, ap, ◌∙◌}
use mathlib.Core.Bool.{Bool, true, false, ◌&&◌}
use mathlib.Core.List.{List}
use mathlib.Core.Logic.{⊎_elim, by_cases}
use Prim.Native.Nat.{ℕ, ◌+◌, ◌<◌}
use native.Mathlib.Decide.{dec_lt}
use native.Mathlib.Omega.{arith}
use lib.Dec.{eqb}
use lib.ListN.{get_or, set}
use lib.Seq.{set-get_or}
use borrow.Author.Tests.{eqb-true}
use Rattle.relation.proofs.Truth.{split, clashing, both}
use Rattle.tables.specs.Limits.{most_threads, barriers}
use Rattle.tables.specs.Rows.{name, count, first_row, syncs}
use Rattle.turns.specs.Turns.{released, has_any_left, may_step}
use Rattle.turns.proofs.Turns.{Left, left_so, left_past, released_nobody}
use Rattle.barriers.specs.declared.barrier.Barrier.{Barrier}
use Rattle.barriers.specs.declared.barrier.Met.{Met}
use Rattle.barriers.specs.declared.barrier.Met.TheVariants.{Clash, Stays, Completes}
use Rattle.barriers.specs.declared.barrier.Registration.{Registration}
use Rattle.steps.specs.declared.change.Change.{Change}
use Rattle.steps.specs.declared.row.Entrant.{Entrant}
use Rattle.steps.specs.declared.row.Row.{Row}
use Rattle.steps.specs.declared.row.Row.TheVariants as row
use Rattle.steps.specs.declared.row.Row.TheVariants.{Passes, Enters}
use Rattle.steps.specs.declared.state.Replay.{Replay}
use Rattle.barriers.specs.Counting.{counted}
use Rattle.barriers.specs.Barrier.{unset, registration}
use Rattle.steps.specs.State.{ran_so_far, waiting, barrier_at}
use Rattle.steps.specs.Step.{enters, allowed, command, meeting, registering, running, stepped}
use Rattle.steps.specs.Writing.{does_go_on}
use Rattle.steps.specs.Needs.{row_at, row_of_thread, KnownRow, changing, entering, changed, KnownChange, step_change, applied}

set_none : (waits : List ℕ) (t : ℕ) → get_or waits t 0 ≡ 0 → set waits t 0 ≡ waits
set_none waits t e = ap (set waits t) (sym e) ∙ set-get_or waits t 0

-- nobody waits anew, and nobody is released
settled_none : (waits : List ℕ) (t : ℕ) → get_or waits t 0 ≡ 0 → released 0 (set waits t 0) ≡ waits
settled_none waits t e = released_nobody (set waits t 0) ∙ set_none waits t e

-- ---- a command that registers, by what it meets

module _ (s : Replay) (t : ℕ) (x : Entrant) (g : ℕ) (v : Barrier) where
  did_by : (m : Met) → (meeting s t x.command x.syncs x.barrier g v m).did ≡ (changing x g v m).did
  did_by Clash = refl
  did_by Stays = refl
  did_by Completes = refl

  kept_by : (m : Met) → does_go_on (changing x g v m).did ≡ false → (meeting s t x.command x.syncs x.barrier g v m).after ≡ s
  kept_by Clash e = refl
  kept_by Stays e = clashing refl e
  kept_by Completes e = clashing refl e

module _ (s : Replay) (t c b n g : ℕ) (v : Barrier) (free : waiting s t ≡ 0) where
  abbrev entered_by : Bool → Met → Change
  entered_by y m = changing (record { command = c; barrier = b; count = n; syncs = y }) g v m

  after_by : (y : Bool) (m : Met) → does_go_on (entered_by y m).did ≡ true → (meeting s t c y b g v m).after ≡ applied s t (entered_by y m)
  after_by y Clash e = clashing e refl
  after_by true Stays e = rw (released_nobody (set s.waits t (b + 1)))
  after_by false Stays e = rw (settled_none s.waits t free)
  after_by true Completes e = refl
  after_by false Completes e = rw (set_none s.waits t free)

-- ---- any command

-- a row whose barrier is there enters no other
known_by : (x : Entrant) (g : ℕ) (v : Barrier) (m : Met) → x.barrier < barriers → KnownChange (changing x g v m)
known_by x g v Clash l = tt
known_by x g v Stays l = l
known_by x g v Completes l = l

pub known_change : (r : Row) (bs : List Barrier) → KnownRow r → KnownChange (changed r bs)
unfolding entering
known_change row.NotAllowed bs k = tt
known_change (Passes c) bs k = tt
known_change (Enters x) bs k =
    let v = get_or bs x.barrier (unset 0) in known_by x (counted v.done) (registration v x.count).after (registration v x.count).met k

module _ (commands : List ℕ) (s : Replay) (t c : ℕ) where
  abbrev entrant : Entrant
  entrant = record { command = c; barrier = name commands c; count = count commands c; syncs = syncs commands c }

  abbrev here : Barrier
  here = barrier_at s (name commands c)

  abbrev met : Registration
  met = registration here (count commands c)

  run_did : (running commands s t c).did ≡ (changed (row_at commands c) s.barriers).did
  unfolding running registering row_at entering
  run_did =
      ⊎_elim (λ (e : enters commands c ≡ true). rw e (did_by s t entrant (counted here.done) met.after met.met))
      (λ (e : enters commands c ≡ false). rw e) (split (enters commands c))

  run_kept : does_go_on (changed (row_at commands c) s.barriers).did ≡ false → (running commands s t c).after ≡ s
  unfolding running registering row_at entering
  run_kept f =
      ⊎_elim
      (λ (e : enters commands c ≡ true). rw e (kept_by s t entrant (counted here.done) met.after met.met (rw e at f)))
      (λ (e : enters commands c ≡ false). clashing refl (rw e at f)) (split (enters commands c))

  run_after : waiting s t ≡ 0 → does_go_on (changed (row_at commands c) s.barriers).did ≡ true
      → (running commands s t c).after ≡ applied s t (changed (row_at commands c) s.barriers)
  unfolding running registering row_at entering
  run_after w f =
      ⊎_elim
      (λ (e : enters commands c ≡ true). rw e (after_by s t c (name commands c) (count commands c) (counted here.done) met.after w (syncs commands c) met.met (rw e at f)))
      (λ (e : enters commands c ≡ false). rw (e, settled_none s.waits t w)) (split (enters commands c))

-- ---- a step

module _ (commands lengths : List ℕ) (s : Replay) (t : ℕ) where
  -- thread t is there, has a command left and does not wait
  pub record May : Type 0 where
    pub left : Left lengths t (ran_so_far s t)
    pub free : waiting s t ≡ 0

  pub may : allowed lengths s t ≡ true → May
  unfolding allowed may_step
  may e =
      let (f, g) = both (has_any_left lengths t (ran_so_far s t)) _ e in
      record { left = left_so lengths t (ran_so_far s t) f; free = eqb-true _ _ g }

  -- where it is not allowed
  not_allowed : allowed lengths s t ≡ false → does_go_on (step_change commands lengths s t).did ≡ false
  unfolding allowed may_step row_of_thread
  not_allowed e = rw e

  pub goes_so : does_go_on (step_change commands lengths s t).did ≡ true → allowed lengths s t ≡ true
  goes_so g = ⊎_elim (λ e. e) (λ (e : allowed lengths s t ≡ false). clashing g (not_allowed e)) (split (allowed lengths s t))

  pub goes_allowed : does_go_on (step_change commands lengths s t).did ≡ true → May
  goes_allowed g = may (goes_so g)

  pub step_did : (stepped commands lengths s t).did ≡ (step_change commands lengths s t).did
  unfolding stepped allowed may_step row_of_thread
  step_did =
      ⊎_elim (λ (e : has_any_left lengths t (ran_so_far s t) && eqb (waiting s t) 0 ≡ true). rw e (run_did commands s t (command lengths s t)))
      (λ (e : has_any_left lengths t (ran_so_far s t) && eqb (waiting s t) 0 ≡ false). rw e) (split (has_any_left lengths t (ran_so_far s t) && eqb (waiting s t) 0))

  pub step_kept : does_go_on (step_change commands lengths s t).did ≡ false → (stepped commands lengths s t).after ≡ s
  unfolding stepped allowed may_step row_of_thread
  step_kept f =
      ⊎_elim
      (λ (e : has_any_left lengths t (ran_so_far s t) && eqb (waiting s t) 0 ≡ true). rw e (run_kept commands s t (command lengths s t) (rw e at f)))
      (λ (e : has_any_left lengths t (ran_so_far s t) && eqb (waiting s t) 0 ≡ false). rw e) (split (has_any_left lengths t (ran_so_far s t) && eqb (waiting s t) 0))

  pub step_after : does_go_on (step_change commands lengths s t).did ≡ true → (stepped commands lengths s t).after ≡ applied s t (step_change commands lengths s t)
  unfolding stepped allowed may_step row_of_thread
  step_after g =
      let m = goes_allowed g in
      ⊎_elim
      (λ (e : has_any_left lengths t (ran_so_far s t) && eqb (waiting s t) 0 ≡ true). rw e (run_after commands s t (command lengths s t) m.free (rw e at g)))
      (λ (e : has_any_left lengths t (ran_so_far s t) && eqb (waiting s t) 0 ≡ false). clashing g (not_allowed e)) (split (has_any_left lengths t (ran_so_far s t) && eqb (waiting s t) 0))

  -- what is no thread has no row, wherever its rows are said to begin
  pub row_first : {first : ℕ} → (t < most_threads → first ≡ first_row lengths t) → (n wait : ℕ)
      → row_of_thread commands lengths t first n wait ≡ row_of_thread commands lengths t (first_row lengths t) n wait
  unfolding row_of_thread
  row_first e n wait =
      by_cases (dec_lt t most_threads) (λ (l : t < most_threads). rw (e l)) (λ (l : ¬ (t < most_threads)). rw (sym (left_past lengths t n (omega arith))))

  -- what is found so is the step's change
  pub change_is : {first n wait : ℕ} {row : Row} {made : Change} → (t < most_threads → first ≡ first_row lengths t) → n ≡ ran_so_far s t → wait ≡ waiting s t
      → row ≡ row_of_thread commands lengths t first n wait → made ≡ changed row s.barriers → made ≡ step_change commands lengths s t
  change_is {first} {n} {wait} begins ne we re me = me ∙ ap (λ (r : Row). changed r s.barriers) (re ∙ row_first begins n wait ∙ rw (ne, we))
