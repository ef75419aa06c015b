-- What each public function promises.
use Rattle.std.specs.Prelude.{◌≡◌, Bool, List, Option, ℕ, length, set}
use Rattle.tables.specs.Lowest.{found}
use Rattle.sets.specs.declared.Set.{Set}
use Rattle.turns.specs.declared.ready.Ready.{Ready}
use Rattle.turns.specs.Turns.{held, settled, may_go, may_step}
use Rattle.turns.specs.Ready.{none_ready, looked, held_below, held_after, chosen}

-- `put`
abbrev pub PutsNumber : (numbers : List ℕ) (i x : ℕ) (numbers' : List ℕ) → Type 0
PutsNumber numbers i x numbers' = numbers' ≡ set numbers i x

-- `settle`
abbrev pub Settles : (waits : List ℕ) (t wait frees : ℕ) (waits' : List ℕ) → Type 0
Settles waits t wait frees waits' = waits' ≡ settled t wait frees waits

-- `lowest_blocked`
abbrev pub AnswersLowestBlocked : (waits : List ℕ) (threads : ℕ) (r : Option ℕ) → Type 0
AnswersLowestBlocked waits threads r = r ≡ found (held waits) threads

-- `blocked_set`
abbrev pub AnswersBlockedSet : (lengths waits : List ℕ) (r : Set) → Type 0
AnswersBlockedSet lengths waits r = r ≡ held_below waits (length lengths)

-- `blocked_after`
abbrev pub AnswersBlockedAfter : (blocked : Set) (lengths waits : List ℕ) (t wait frees : ℕ) (r : Set) → Type 0
AnswersBlockedAfter blocked lengths waits t wait frees r = r ≡ held_after waits (length lengths) t wait frees blocked

-- `allows`
abbrev pub AnswersAllows : (lengths : List ℕ) (t n wait : ℕ) (r : Bool) → Type 0
AnswersAllows lengths t n wait r = r ≡ may_go lengths t n wait

-- `lowest_allowed`
abbrev pub AnswersLowestAllowed : (lengths next waits : List ℕ) (r : Option ℕ) → Type 0
AnswersLowestAllowed lengths next waits r = r ≡ found (may_step lengths next waits) (length lengths)

-- `Ready::none`
abbrev pub AnswersReadyNone : (r : Ready) → Type 0
AnswersReadyNone r = r ≡ none_ready

-- `Ready::look`
abbrev pub AnswersLook : (ready : Ready) (lengths : List ℕ) (early : List Bool) (t n x : ℕ) (r : Ready) → Type 0
AnswersLook ready lengths early t n x r = r ≡ looked lengths early ready t n x

-- `Ready::choose`
abbrev pub AnswersChoose : (ready : Ready) (blocked : Set) (r : Option ℕ) → Type 0
AnswersChoose ready blocked r = r ≡ chosen ready blocked
