-- The tests as they are made, of any numbers: of what is seen of two commands, and of a table of what reaches what (R29, R31, R32).
use Rattle.std.specs.Prelude.{Bool, not, ◌&&◌, ◌||◌, List, ℕ, ◌+◌, ◌-◌, eqb, leb, ltb}
use Rattle.tables.specs.Rows.{kind, name, write, arrive}
use Rattle.relation.specs.Table.{related}
use Rattle.rooms.specs.Rooms.{number_at}
use Rattle.faults.specs.declared.faults.Fault.{Fault}
use Rattle.faults.specs.declared.faults.Fault.TheVariants.{Reuse, Race}
use Rattle.faults.specs.declared.faults.Seen.{Seen}

-- what is seen of command c, by a room of heads: the row that each row's thread begins at
abbrev pub seen_at : List ℕ → List ℕ → List ℕ → ℕ → Seen
seen_at heads commands generations c =
    record { row = c; kind = kind commands c; name = name commands c; generation = number_at generations c; head = number_at heads c }

-- `succeeds` of what is seen (R29)
unfoldable pub succeeds_by : Seen → Seen → Bool
succeeds_by c₁ c₂ = leb arrive c₁.kind && (leb arrive c₂.kind && (eqb c₁.name c₂.name && eqb (c₁.generation + 1) c₂.generation))

-- `reuse`: c₂ is first in its thread when its head is no row before it (R29)
unfoldable pub reuse_by : List ℕ → ℕ → Seen → Seen → Bool
reuse_by relation m c₁ c₂ = succeeds_by c₁ c₂ && (leb c₂.row c₂.head || not (related relation m c₁.row (c₂.row - 1)))

-- `conflict` of what is seen (R31)
unfoldable pub conflict_by : Seen → Seen → Bool
conflict_by x y =
    ltb x.kind arrive && (ltb y.kind arrive && (eqb x.name y.name && (eqb x.kind write || eqb y.kind write)))

-- neither of x and y reaches the other
abbrev pub unordered : List ℕ → ℕ → ℕ → ℕ → Bool
unordered relation m x y = not (related relation m x y) && not (related relation m y x)

-- `race`: two commands are of one thread when they have one head (R32)
unfoldable pub race_by : List ℕ → ℕ → Seen → Seen → Bool
race_by relation m x y =
    ltb x.row y.row && (conflict_by x y && (not (eqb x.head y.head) && unordered relation m x.row y.row))

-- `faulty`, of the outer and the inner command: the answer of `is_fault`
abbrev pub is_fault : List ℕ → ℕ → Fault → Seen → Seen → Bool
is_fault relation m Reuse outer inner = reuse_by relation m inner outer
is_fault relation m Race outer inner = race_by relation m outer inner
