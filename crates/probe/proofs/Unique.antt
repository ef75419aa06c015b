-- Any two answers that meet a door's contract are equal: the number, and every room at exit. Assumes nothing.
use mathlib.Core.Path.{◌≡◌, sym, ap, ◌∙◌}
use mathlib.Core.Logic.{by_cases}
use mathlib.Core.List.{List}
use Prim.Native.Nat.{ℕ, ◌<◌}
use native.Mathlib.Decide.{dec_lt}
use native.Mathlib.Omega.{arith}
use lib.ListN.{length}
use Rattle.verdicts.specs.Verdicts.{result_told}
use Rattle.relation.specs.Chains.{Chain}
use Rattle.relation.specs.Table.{Related}
use Rattle.relation.specs.Bits.{Words}
use Rattle.relation.proofs.Rooms.{writes_one}
use Rattle.tables.specs.Over.{over}
use Rattle.notation.specs.Reading.{Reading, answered}
use Rattle.notation.proofs.Readings.{read_one}
use Rattle.std.specs.Prelude.{Result}
use Rattle.verdicts.specs.declared.Refusal.{Refusal}
use Rattle.replay.proofs.Unique.{write_one}
use Rattle.review.specs.Agreement.{number}
use Rattle.evidence.specs.declared.door.Evidence.{Evidence}
use Rattle.evidence.proofs.Unique.{evidence_one}
use Rattle.runs.specs.Run.{KernelTold}
use Rattle.runs.proofs.Unique.{kernel_one}
use Rattle.probe.specs.Numbers.{answer_room, review_numbers, written_numbers, reading_numbers, run_told, warp_numbers}
use Rattle.probe.specs.Promise.{ProbesReview, ProbesSchedule, ProbesRead, ProbesClose, ProbesWarp}

-- words of 32 bits stand in the relation rooms
pub probe_review_one : {commands lengths σ relation generations evidence answer ra ga ea aa rb gb eb ab : List ℕ} {n m : ℕ} → Words ra → Words rb
    → ProbesReview commands lengths σ relation generations evidence answer ra ga ea aa n → ProbesReview commands lengths σ relation generations evidence answer rb gb eb ab m
    → (n ≡ m) × (ra ≡ rb) × (ga ≡ gb) × (ea ≡ eb) × (aa ≡ ab)
probe_review_one {commands} {lengths} {σ} {relation} {generations} {evidence} {answer} wa wb A B =
    by_cases (dec_lt (length answer) answer_room)
    (λ (h : length answer < answer_room).
    let (p, q, s, u, t) = A.refuses h in
    let (p', q', s', u', t') = B.refuses h in
    (p ∙ sym p', q ∙ sym q', s ∙ sym s', u ∙ sym u', t ∙ sym t'))
    (λ (h : ¬ (length answer < answer_room)).
    let (r, R, p, t) = A.found (omega arith) in
    let (r', R', p', t') = B.found (omega arith) in
    let (e, q, s, u) = evidence_one commands lengths σ relation generations evidence r r' wa wb R R' in
    (p ∙ ap (λ (z : Evidence). number z.finding) e ∙ sym p', q, s, u, t ∙ ap (λ (z : Evidence). over (review_numbers z) answer) e ∙ sym t'))

pub probe_schedule_one : {commands lengths room answer ra aa rb ab : List ℕ} {n m : ℕ}
    → ProbesSchedule commands lengths room answer ra aa n → ProbesSchedule commands lengths room answer rb ab m → (n ≡ m) × (ra ≡ rb) × (aa ≡ ab)
probe_schedule_one {commands} {lengths} {room} {answer} A B =
    by_cases (dec_lt (length answer) answer_room)
    (λ (h : length answer < answer_room).
    let (p, q, t) = A.refuses h in
    let (p', q', t') = B.refuses h in
    (p ∙ sym p', q ∙ sym q', t ∙ sym t'))
    (λ (h : ¬ (length answer < answer_room)).
    let (r, R, p, t) = A.wrote (omega arith) in
    let (r', R', p', t') = B.wrote (omega arith) in
    let (e, q) = write_one _ commands lengths room r r' R R' in
    (p ∙ ap (λ (z : Result ℕ Refusal). (result_told z).number) e ∙ sym p', q, t ∙ ap (λ (z : Result ℕ Refusal). over (written_numbers z) answer) e ∙ sym t'))

pub probe_read_one : {text commands lengths answer ca la aa cb lb ab : List ℕ} {n m : ℕ}
    → ProbesRead text commands lengths answer ca la aa n → ProbesRead text commands lengths answer cb lb ab m → (n ≡ m) × (ca ≡ cb) × (la ≡ lb) × (aa ≡ ab)
probe_read_one {text} {commands} {lengths} {answer} A B =
    by_cases (dec_lt (length answer) answer_room)
    (λ (h : length answer < answer_room).
    let (p, q, s, t) = A.refuses h in
    let (p', q', s', t') = B.refuses h in
    (p ∙ sym p', q ∙ sym q', s ∙ sym s', t ∙ sym t'))
    (λ (h : ¬ (length answer < answer_room)).
    let (r, R, p, t) = A.read (omega arith) in
    let (r', R', p', t') = B.read (omega arith) in
    let (e, q, s) = read_one R R' in
    (p ∙ ap (λ (z : Reading). (answered z).told.number) e ∙ sym p', q, s, t ∙ ap (λ (z : Reading). over (reading_numbers z (length text)) answer) e ∙ sym t'))

pub probe_close_one : {relation ra rb : List ℕ} {m n k : ℕ} → Words ra → Words rb → ProbesClose relation m ra n → ProbesClose relation m rb k → (n ≡ k) × (ra ≡ rb)
probe_close_one {relation} {m = m} wa wb A B =
    (A.answers ∙ sym B.answers, (writes_one (Chain (Related relation m)) relation _ _ m _ _ wa wb A.closed B.closed).1)

pub probe_warp_one : {statements expressions : List ℕ} {lanes steps : ℕ} {cells answer ca aa cb ab : List ℕ} {n m : ℕ}
    → ProbesWarp statements expressions lanes steps cells answer ca aa n → ProbesWarp statements expressions lanes steps cells answer cb ab m → (n ≡ m) × (ca ≡ cb) × (aa ≡ ab)
probe_warp_one {statements} {expressions} {lanes} {steps} {cells} {answer} A B =
    by_cases (dec_lt (length answer) answer_room)
    (λ (h : length answer < answer_room).
    let (p, q, t) = A.refuses h in
    let (p', q', t') = B.refuses h in
    (p ∙ sym p', q ∙ sym q', t ∙ sym t'))
    (λ (h : ¬ (length answer < answer_room)).
    let (r, R, p, t) = A.ran (omega arith) in
    let (r', R', p', t') = B.ran (omega arith) in
    let e = kernel_one statements expressions lanes steps cells _ _ r r' R R' in
    (p ∙ ap (λ (z : KernelTold). (run_told z.answer).told.number) e ∙ sym p', ap (λ (z : KernelTold). z.cells) e, t ∙ ap (λ (z : KernelTold). over (warp_numbers z.answer) answer) e ∙ sym t'))
