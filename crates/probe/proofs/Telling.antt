-- What a door has put into its answer room is what it promises to tell. Assumes nothing.
use mathlib.Core.Path.{◌≡◌, refl, ap, ◌∙◌}
use mathlib.Core.List.{List, ◌++◌}
use Prim.Native.Nat.{ℕ, ◌-◌, ◌/◌, ◌%◌, ◌^◌, ◌≤◌, ◌<◌, min}
use native.Mathlib.Omega.{arith}
use lib.ListN.{length, set, take, length-drop}
use Rattle.verdicts.specs.Verdicts.{result_told, numbered}
use Rattle.verdicts.specs.declared.Told.{Told}
use Rattle.tables.specs.Over.{over}
use Rattle.notation.specs.Reading.{Reading, sizes, answered, rest_at, rest_of}
use Rattle.notation.specs.Promise.{Read}
use Rattle.replay.specs.Doors.{WritesSchedule}
use Rattle.std.specs.Result.{result_unwrap_or}
use Rattle.std.specs.Prelude.{Result}
use Rattle.verdicts.specs.declared.Refusal.{Refusal}
use Rattle.evidence.specs.declared.door.Evidence.{Evidence}
use Rattle.evidence.specs.Doors.{Evidenced}
use Rattle.std.specs.Prelude.{Result}
use Rattle.kernels.specs.declared.kernel.KernelRefusal.{KernelRefusal}
use Rattle.runs.specs.declared.Course.{Course}
use Rattle.probe.specs.declared.ran.Ran.{Ran}
use Rattle.runs.specs.Run.{RunsKernel}
use Rattle.std.specs.Prelude.{Ok, Err}
use Rattle.notation.specs.declared.scan.Sizes.{Sizes}
use Rattle.notation.specs.declared.reading.Unread.TheVariants.{Unfit, Over}
use Rattle.probe.specs.Numbers.{answer_room, largest, told_numbers, pair_numbers, run_told}
use Rattle.probe.specs.Promise.{ProbesReview, ProbesSchedule, ProbesRead, ProbesWarp}
use Rattle.probe.proofs.Fitting.{rest_in}
use Rattle.probe.proofs.Putting.{told_and_more, told_and_one, told_and_two}

module _ (commands lengths σ relation generations evidence answer : List ℕ) where
  pub review_short : length answer < answer_room → ProbesReview commands lengths σ relation generations evidence answer relation generations evidence answer 14
  review_short h = record { refuses = λ _. (refl, refl, refl, refl, refl); found = λ l. absurd (omega arith) }

  pub review_told : {r : Evidence} {relation' generations' evidence' answer' answer'' : List ℕ} {t : Told} → answer_room ≤ length answer
      → Evidenced commands lengths σ relation generations evidence r relation' generations' evidence' → t ≡ numbered r.finding.verdict
      → answer' ≡ over (told_numbers t r.finding.sheet.total r.entries) answer → answer'' ≡ over (take 4 answer' ++ pair_numbers r.finding.sheet.pairs) answer'
      → ProbesReview commands lengths σ relation generations evidence answer relation' generations' evidence' answer'' t.number
  review_told {r} {t = t} h R e p q =
      let s = r.finding.sheet in
      record {
        refuses = λ l. absurd (omega arith);
        found = λ _. (r, R, ap (λ (t : Told). t.number) e, q ∙ rw (p, e) (told_and_more (numbered r.finding.verdict) s.total r.entries answer (pair_numbers s.pairs)));
      }

module _ (commands lengths room answer : List ℕ) where
  pub schedule_short : length answer < answer_room → ProbesSchedule commands lengths room answer room answer 14
  schedule_short h = record { refuses = λ _. (refl, refl, refl); wrote = λ l. absurd (omega arith) }

  pub schedule_told : (r : Result ℕ Refusal) {room' answer' : List ℕ} {t : Told} → answer_room ≤ length answer
      → WritesSchedule commands lengths room room' r → t ≡ result_told r → answer' ≡ over (told_numbers t (result_unwrap_or r 0) 0) answer
      → ProbesSchedule commands lengths room answer room' answer' t.number
  schedule_told r h W e p =
      record {
        refuses = λ l. absurd (omega arith);
        wrote = λ _. (r, W, ap (λ (t : Told). t.number) e, p ∙ ap (λ (t : Told). over (told_numbers t (result_unwrap_or r 0) 0) answer) e);
      }

-- none of either is found in a text that is refused
pub sizes_found : (r : Reading) → result_unwrap_or r (sizes 0 0) ≡ sizes (answered r).command_count (answered r).thread_count
sizes_found (Err (Unfit p)) = refl
sizes_found (Err Over) = refl
sizes_found (Ok s) = refl

-- the rest of a text begins so far before its end
pub rest_begins : (text : List ℕ) (r : Reading) (rest : List ℕ) → rest ≡ rest_of r text → (length rest ≤ length text) × (length text - length rest ≡ rest_at r (length text))
rest_begins text r rest e =
    let n : length rest ≡ length text - rest_at r (length text) = ap length e ∙ length-drop (rest_at r (length text)) text in
    (omega arith, omega (arith, rest_in r (length text)))

module _ (text commands lengths answer : List ℕ) where
  pub read_short : length answer < answer_room → ProbesRead text commands lengths answer commands lengths answer 14
  read_short h = record { refuses = λ _. (refl, refl, refl, refl); read = λ l. absurd (omega arith) }

  pub read_told : {r : Reading} {commands' lengths' answer' rest : List ℕ} {t : Told} {f : Sizes} {n : ℕ} → answer_room ≤ length answer
      → Read text commands lengths commands' lengths' r → t ≡ (answered r).told → f ≡ sizes (answered r).command_count (answered r).thread_count
      → answer' ≡ over (told_numbers t f.commands f.threads) answer → rest ≡ rest_of r text → n ≡ min (length text - length rest) largest
      → ProbesRead text commands lengths answer commands' lengths' (set answer' 4 n) t.number
  unfolding answer_room
  read_told {r} {rest = rest} h R e f p s at =
      record {
        refuses = λ l. absurd (omega arith);
        read = λ _. (
          r,
          R,
          ap (λ (t : Told). t.number) e,
          rw (p, e, f, at, (rest_begins text r rest s).1) (told_and_one (answered r).told (answered r).command_count (answered r).thread_count answer _ (omega arith)),
        );
      }

module _ (statements expressions : List ℕ) (lanes steps : ℕ) (cells answer : List ℕ) where
  pub warp_short : length answer < answer_room → ProbesWarp statements expressions lanes steps cells answer cells answer 14
  warp_short h = record { refuses = λ _. (refl, refl, refl); ran = λ l. absurd (omega arith) }

  pub warp_told : {r : Result Course KernelRefusal} {q : Ran} {cells' answer' : List ℕ} → answer_room ≤ length answer → RunsKernel statements expressions lanes steps cells cells' r → q ≡ run_told r
      → answer' ≡ over (told_numbers q.told q.ending 0) answer
      → ProbesWarp statements expressions lanes steps cells answer cells' (set (set answer' 4 (q.taken % 2 ^ 32)) 5 (q.taken / 2 ^ 32)) q.told.number
  unfolding answer_room
  warp_told {r} h R e p =
      record {
        refuses = λ l. absurd (omega arith);
        ran = λ _. (r, R, ap (λ (q : Ran). q.told.number) e, rw (p, e) (told_and_two (run_told r).told (run_told r).ending 0 answer _ _ (omega arith)));
      }
