-- What the two writers write, of what the one behind them does. Assumes nothing.
use mathlib.Core.Path.{◌≡◌, refl, sym, ap, ap₂, ◌∙◌, subst}
use mathlib.Core.Logic.{by_cases}
use mathlib.Core.Bool.{Bool, false}
use mathlib.Core.List.{List, [], ◌++◌, append_assoc}
use Prim.Native.Nat.{ℕ, min, ◌≤◌, ◌<◌}
use native.Mathlib.Decide.{dec_lt}
use native.Mathlib.Omega.{arith}
use lib.Dec.{leb, ltb}
use lib.ListN.{length, take, drop, take-append-drop}
use lib.Seq.{length-take-le, drop-append-le}
use borrow.Author.Tests.{le-ltb}
use Rattle.tables.specs.Limits.{most_rows}
use Rattle.tables.specs.Rows.{rows}
use Rattle.rules.specs.Rules.{Keeps}
use Rattle.std.specs.Prelude.{Result, Ok, Err, IsOk}
use Rattle.verdicts.specs.declared.Refusal.{Refusal}
use Rattle.verdicts.proofs.Verdicts.{refused_some}
use Rattle.verdicts.specs.declared.Told.{Told}
use Rattle.relation.specs.Table.{words, inside, related}
use Rattle.relation.proofs.Truth.{clashing, both, isnt}
use Rattle.turns.specs.Turns.{does_go_first}
use Rattle.replay.specs.Writer.{schedule_by, schedule, apart_from}
use Rattle.replay.specs.Needs.{first_schedule, PutsApart}
use Rattle.steps.specs.declared.state.Replay.{Replay}
use Rattle.steps.specs.State.{start}
use Rattle.steps.specs.Writing.{picked_first, writes, FilledBy}
use Rattle.replay.specs.Doors.{WritesBy, WritesSchedule, WritesApart}
use Rattle.replay.specs.Schedules.{Complete}
use Rattle.replay.proofs.Refusals.{unwritten_keeps, keeps_written}
use Rattle.replay.proofs.Places.{stepping_few}
use Rattle.replay.proofs.Picking.{picks_lowest, nothing_first, schedule_alike, first_alike}
use Rattle.steps.proofs.Filled.{filled_by, filled_room}

-- what is no command reaches nothing
no_row : (relation : List ℕ) (m c x : ℕ) → m ≤ c → related relation m c x ≡ false
unfolding related
no_row relation m c x l =
    isnt _ (λ t.
    let (u, _) = both (inside (length relation) m c x) _ t in
    let (_, v) = both (leb (words m) (length relation)) _ u in
    let (w, _) = both (ltb c m) _ v in
    clashing w (le-ltb c m l))

-- a number that is cut to the most rows is the same command, or none
few_apart : (relation : List ℕ) (m c d x : ℕ) → m ≤ most_rows → {a : ℕ} → a ≡ min c most_rows → apart_from (related relation m) a d x ≡ apart_from (related relation m) c d x
unfolding apart_from
few_apart relation m c d x l {a} e =
    by_cases (dec_lt c m) (λ (h : c < m). let q : a ≡ c = omega arith in rw q)
    (λ (n : ¬ (c < m)). rw (no_row relation m a x (omega arith), no_row relation m c x (omega arith)))

-- the schedule is written into the first M places of a room that has them
pub wrote_first : (early : List Bool) (commands lengths before : List ℕ) {now : List ℕ} {s : Replay} {n : ℕ} → s ≡ start → rows commands ≤ length before
    → FilledBy (writes early commands lengths (length (take (rows commands) before)) s) (take (rows commands) before) now n
    → FilledBy (first_schedule early commands lengths) before (now ++ drop (rows commands) before) n
unfolding schedule_by
wrote_first early commands lengths before {now} {s} {n} e l F =
    let m = rows commands in
    let long : length (take m before) ≡ m = length-take-le m before l in
    let σ = writes early commands lengths m start in
    let is : writes early commands lengths (length (take m before)) s ≡ σ = ap₂ (λ (k : ℕ) (s : Replay). writes early commands lengths k s) long e in
    let few : n ≤ length (take m before) = omega (arith, F.long, ap length is, long, stepping_few commands lengths (picked_first (does_go_first early) lengths) m start) in
    let back : drop n (take m before) ++ drop m before ≡ drop n before = sym (drop-append-le n (take m before) (drop m before) few) ∙ ap (drop n) (take-append-drop m before) in
    filled_by (F.long ∙ ap length is)
    (ap (λ (r : List ℕ). r ++ drop m before) (filled_room F ∙ ap (λ (l : List ℕ). l ++ drop n (take m before)) is)
    ∙ append_assoc σ (drop n (take m before)) (drop m before) ∙ ap (λ (l : List ℕ). σ ++ l) back)

module _ {commands lengths before after : List ℕ} where
  -- schedules that are the same for tables that pass
  same : (σ τ : List ℕ) → (Keeps commands lengths → σ ≡ τ) → (r : Result ℕ Refusal) → WritesBy σ commands lengths before after r → WritesBy τ commands lengths before after r
  same σ τ e (Err r) W = record { refusal = W.refusal; refused = W.refused; wrote = tt; complete = tt }
  same σ τ e (Ok n) W =
      let is : σ ≡ τ = e (unwritten_keeps commands lengths (length before) (ap (λ (t : Told). t.number) (sym W.refusal))) in
      record {
        refusal = W.refusal;
        refused = tt;
        wrote = subst (λ (ρ : List ℕ). FilledBy ρ before after n) is W.wrote;
        complete = subst (Complete commands lengths) is W.complete;
      }

  pub wrote_lowest : (r : Result ℕ Refusal) → WritesBy (first_schedule [] commands lengths) commands lengths before after r → WritesSchedule commands lengths before after r
  unfolding schedule
  wrote_lowest r = same _ _ (λ _. sym (schedule_alike (λ s. picks_lowest (does_go_first []) lengths s (nothing_first [] refl)) commands lengths)) r

  pub wrote_apart : (r : Result ℕ Refusal) (relation : List ℕ) (c d : ℕ) {m a : ℕ} {early early' : List Bool} → m ≡ min (rows commands) most_rows → a ≡ min c most_rows → length early ≡ most_rows
      → PutsApart (related relation m) a d early early' → WritesBy (first_schedule early' commands lengths) commands lengths before after r
      → WritesApart commands lengths relation c d before after r
  wrote_apart r relation c d {m} {a} {early} {early'} e f l A =
      same _ _ (λ K.
      let q : m ≡ rows commands = omega (arith, K.few_rows) in
      schedule_alike (first_alike K (λ x lx.
      A.each x (omega (arith, K.few_rows)) ∙ ap (λ (n : ℕ). apart_from (related relation n) a d x) q ∙ few_apart relation (rows commands) c d x K.few_rows f)) commands lengths) r

-- tables that pass are not refused in a room that is long enough
pub written_ok : {σ commands lengths before after : List ℕ} (r : Result ℕ Refusal) → WritesBy σ commands lengths before after r → Keeps commands lengths → rows commands ≤ length before
    → IsOk r
written_ok (Ok n) W K l = refl
written_ok {commands = commands} {lengths = lengths} {before = before} (Err r) W K l =
    absurd (refused_some r (ap (λ (t : Told). t.number) W.refusal ∙ keeps_written commands lengths (length before) K l))
