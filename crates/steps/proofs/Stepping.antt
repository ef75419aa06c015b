-- One step, from the change that was found, and what each store of it needs. Assumes nothing.
use mathlib.Core.Path.{◌≡◌, refl, sym, ap, ◌∙◌}
use mathlib.Core.Bool.{Bool, true, false}
use mathlib.Core.List.{List}
use mathlib.Core.Logic.{by_cases, ⊎_elim, ◌≢◌}
use Prim.Native.Nat.{ℕ, zero, suc, ◌+◌, ◌*◌, ◌≤◌, ◌<◌}
use native.Mathlib.Decide.{dec_lt, ℕ_discrete}
use native.Mathlib.Numerals.{add-one}
use native.Mathlib.Omega.{arith}
use lib.ListN.{length, get_or, set, replicate, length-replicate, get_or-replicate, get_or-eq_default, get_or-map}
use lib.Seq.{get_or-set_same, get_or-set_other}
use lib.Dec.{eqb}
use borrow.Author.Tests.{eq-eqb}
use Rattle.relation.proofs.Truth.{split}
use Rattle.tables.specs.Limits.{most_threads}
use Rattle.tables.specs.Rows.{first_row}
use Rattle.tables.proofs.Rows.{first_none, first_next}
use Rattle.turns.specs.Turns.{let_go_of, released}
use Rattle.steps.specs.declared.change.Change.{Change}
use Rattle.steps.specs.declared.row.Row.{Row}
use Rattle.steps.specs.declared.state.Replay.{Replay}
use Rattle.steps.specs.declared.step.Did.{Did}
use Rattle.barriers.specs.Counting.{counted}
use Rattle.barriers.specs.Barrier.{registration}
use Rattle.steps.specs.State.{ran_so_far, waiting}
use Rattle.steps.specs.Claims.{CountOne}
use Rattle.steps.specs.Step.{registering, stepped}
use Rattle.steps.specs.Writing.{does_go_on}
use Rattle.steps.specs.Needs.{row_of_thread, KnownRow, changed, step_change, Found, applied, FirstRows}
use Rattle.steps.proofs.Changing.{May, goes_allowed, step_did, step_kept, step_after, change_is, known_change}

module _ {commands lengths : List ℕ} {s : Replay} {t : ℕ} {made : Change} (F : Found commands lengths s t made) where
  goes_is : {b : Bool} → does_go_on made.did ≡ b → does_go_on (step_change commands lengths s t).did ≡ b
  goes_is e = ap (λ (d : Change). does_go_on d.did) (sym F.change_is) ∙ e

  pub found_may : does_go_on made.did ≡ true → May commands lengths s t
  found_may e = goes_allowed commands lengths s t (goes_is e)

  pub found_kept : does_go_on made.did ≡ false → (stepped commands lengths s t).after ≡ s
  found_kept e = step_kept commands lengths s t (goes_is e)

  pub found_after : does_go_on made.did ≡ true → (stepped commands lengths s t).after ≡ applied s t made
  found_after e = step_after commands lengths s t (goes_is e) ∙ ap (applied s t) (sym F.change_is)

  pub found_did : (stepped commands lengths s t).did ≡ made.did
  found_did = step_did commands lengths s t ∙ ap (λ (d : Change). d.did) (sym F.change_is)

  -- the whole answer
  whole : {a : Replay} {d : Did} → a ≡ (stepped commands lengths s t).after → d ≡ (stepped commands lengths s t).did → record { after = a; did = d } ≡ stepped commands lengths s t
  whole e f = rw (e, f)

  pub answers_kept : does_go_on made.did ≡ false → record { after = s; did = made.did } ≡ stepped commands lengths s t
  answers_kept e = whole (sym (found_kept e)) (sym found_did)

  pub answers_on : {s' : Replay} → does_go_on made.did ≡ true → s' ≡ applied s t made → record { after = s'; did = made.did } ≡ stepped commands lengths s t
  answers_on e f = whole (f ∙ sym (found_after e)) (sym found_did)

  -- what the stores need
  pub found_thread : does_go_on made.did ≡ true → t < most_threads
  found_thread e = (found_may e).left.thread

  pub found_next : does_go_on made.did ≡ true → ran_so_far s t < get_or lengths t 0
  found_next e = (found_may e).left.left

pub found : (commands lengths : List ℕ) (s : Replay) (t first n wait : ℕ) (row : Row) (made : Change) → (t < most_threads → first ≡ first_row lengths t) → n ≡ ran_so_far s t
    → wait ≡ waiting s t → (row ≡ row_of_thread commands lengths t first n wait) × KnownRow row → made ≡ changed row s.barriers → Found commands lengths s t made
found commands lengths s t first n wait row made begins ne we re me =
    record { change_is = change_is commands lengths s t begins ne we re.0 me; known = rw me (known_change row s.barriers re.1) }

-- ---- where each thread's rows begin

pub record Begins (lengths firsts : List ℕ) (sum t : ℕ) : Type 0 where
  pub few : t ≤ most_threads
  pub firsts_so : FirstRows lengths t firsts
  pub sum_is : sum ≡ first_row lengths t
  pub sum_small : sum ≤ t * 4294967295

module _ (lengths : List ℕ) where
  pub begins_none : Begins lengths (replicate 64 0) 0 0
  begins_none =
      record {
        few = omega arith;
        firsts_so = record { each = λ t l. absurd (omega arith); small = λ t. rw (zeros t) (omega arith) };
        sum_is = sym (first_none lengths);
        sum_small = omega arith;
      }
    where
      zeros : (t : ℕ) → get_or (replicate {A = ℕ} 64 0) t 0 ≡ 0
      zeros t =
          by_cases (dec_lt t 64) (λ (l : t < 64). get_or-replicate {A = ℕ} 64 t 0 0 l)
          (λ (l : ¬ (t < 64)).
          let past : length (replicate {A = ℕ} 64 0) ≤ t = omega (arith, length-replicate {A = ℕ} 64 0) in
          get_or-eq_default (replicate {A = ℕ} 64 0) 0 past)

  -- no row is large, of lengths that are not
  pub first_small : ((i : ℕ) → get_or lengths i 0 ≤ 4294967295) → (t : ℕ) → first_row lengths t ≤ t * 4294967295
  first_small h zero = omega (arith, first_none lengths)
  first_small h (suc t) = omega (arith, first_small h t, h t, ap (first_row lengths) (add-one t), first_next lengths t)

  pub begins_more : {firsts : List ℕ} {sum t : ℕ} → Begins lengths firsts sum t → t < length firsts → t < most_threads → (x : ℕ) → x ≡ get_or lengths t 0 → x ≤ 4294967295
      → Begins lengths (set firsts t sum) (sum + x) (t + 1)
  unfolding most_threads
  begins_more {firsts} {sum} {t} B l few x e h =
      record {
        few = omega arith;
        firsts_so =
            record {
              each =
                  λ u m. by_cases (ℕ_discrete u t) (λ (q : u ≡ t). rw q (get_or-set_same firsts t sum 0 l ∙ B.sum_is))
                  (λ (q : u ≢ t). get_or-set_other firsts t u sum 0 q ∙ B.firsts_so.each u (omega arith));
              small =
                  λ u. by_cases (ℕ_discrete u t) (λ (q : u ≡ t). rw (q, get_or-set_same firsts t sum 0 l) (omega (arith, B.sum_small)))
                  (λ (q : u ≢ t). rw (get_or-set_other firsts t u sum 0 q) (B.firsts_so.small u));
            };
        sum_is = omega (arith, B.sum_is, first_next lengths t);
        sum_small = omega (arith, B.sum_small);
      }

  pub begins_all : {firsts : List ℕ} {sum t : ℕ} → Begins lengths firsts sum t → most_threads ≤ t → FirstRows lengths most_threads firsts
  begins_all B l = record { each = λ u m. B.firsts_so.each u (omega arith); small = B.firsts_so.small }

-- ---- a sync of count 1

let_go_none : (w : ℕ) → let_go_of w 0 ≡ 0
let_go_none w = ⊎_elim (λ (e : eqb 0 w ≡ true). rw e) (λ (e : eqb 0 w ≡ false). rw e) (split (eqb 0 w))

pub count_one : CountOne
unfolding registering registration counted
count_one s t c b e l =
    rw e (ap (get_or (released (b + 1) (set s.waits t (b + 1))) t) (sym (let_go_none (b + 1)))
    ∙ get_or-map (let_go_of (b + 1)) (set s.waits t (b + 1)) t 0 ∙ ap (let_go_of (b + 1)) (get_or-set_same s.waits t (b + 1) 0 l) ∙ rw (eq-eqb (b + 1) (b + 1) refl))
