-- Two answers that meet the contract of a public function for the same inputs are equal. Assumes nothing.
use mathlib.Core.Path.{◌≡◌, sym, ◌∙◌}
use mathlib.Core.Bool.{Bool}
use mathlib.Core.List.{List}
use Prim.Native.Nat.{ℕ}
use Rattle.std.proofs.Common.{Option}
use Rattle.sets.specs.declared.Set.{Set}
use Rattle.turns.specs.declared.ready.Ready.{Ready}
use Rattle.turns.specs.Promise.{PutsNumber, Settles, AnswersLowestBlocked, AnswersBlockedSet, AnswersBlockedAfter, AnswersAllows, AnswersLowestAllowed, AnswersReadyNone, AnswersLook, AnswersChoose}

pub put_one : (numbers : List ℕ) (i x : ℕ) {r s : List ℕ} → PutsNumber numbers i x r → PutsNumber numbers i x s → r ≡ s
put_one numbers i x e f = e ∙ sym f

pub settle_one : (waits : List ℕ) (t wait frees : ℕ) {r s : List ℕ} → Settles waits t wait frees r → Settles waits t wait frees s → r ≡ s
settle_one waits t wait frees e f = e ∙ sym f

pub lowest_blocked_one : (waits : List ℕ) (threads : ℕ) {r s : Option ℕ} → AnswersLowestBlocked waits threads r → AnswersLowestBlocked waits threads s → r ≡ s
lowest_blocked_one waits threads e f = e ∙ sym f

pub blocked_set_one : (lengths waits : List ℕ) {r s : Set} → AnswersBlockedSet lengths waits r → AnswersBlockedSet lengths waits s → r ≡ s
blocked_set_one lengths waits e f = e ∙ sym f

pub blocked_after_one : (blocked : Set) (lengths waits : List ℕ) (t wait frees : ℕ) {r s : Set} → AnswersBlockedAfter blocked lengths waits t wait frees r
    → AnswersBlockedAfter blocked lengths waits t wait frees s → r ≡ s
blocked_after_one blocked lengths waits t wait frees e f = e ∙ sym f

pub allows_one : (lengths : List ℕ) (t n wait : ℕ) {r s : Bool} → AnswersAllows lengths t n wait r → AnswersAllows lengths t n wait s → r ≡ s
allows_one lengths t n wait e f = e ∙ sym f

pub lowest_allowed_one : (lengths next waits : List ℕ) {r s : Option ℕ} → AnswersLowestAllowed lengths next waits r → AnswersLowestAllowed lengths next waits s → r ≡ s
lowest_allowed_one lengths next waits e f = e ∙ sym f

pub none_one : {r s : Ready} → AnswersReadyNone r → AnswersReadyNone s → r ≡ s
none_one e f = e ∙ sym f

pub look_one : (ready : Ready) (lengths : List ℕ) (early : List Bool) (t n x : ℕ) {r s : Ready} → AnswersLook ready lengths early t n x r
    → AnswersLook ready lengths early t n x s → r ≡ s
look_one ready lengths early t n x e f = e ∙ sym f

pub choose_one : (ready : Ready) (blocked : Set) {r s : Option ℕ} → AnswersChoose ready blocked r → AnswersChoose ready blocked s → r ≡ s
choose_one ready blocked e f = e ∙ sym f
