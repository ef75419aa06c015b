-- Refusals 1 to 4, in the order tested: tables that do not pass, then rooms that are short (R37, R39, R81).
use Rattle.std.specs.Prelude.{cond, List, [], ◌∷◌, ℕ}
use Rattle.tables.specs.Rows.{rows}
use Rattle.rules.specs.Rules.{are_bad_commands, checked}
use Rattle.verdicts.specs.Verdicts.{tell}
use Rattle.verdicts.specs.FirstTold.{or_else}
use Rattle.verdicts.specs.declared.Told.{Told}
use Rattle.relation.specs.Table.{words}
use Rattle.rooms.specs.declared.short.Room.{Room}
use Rattle.rooms.specs.Short.{room_of, first_short}

-- the rooms of a review, the lowest digit first: 0 the relation room, and 1 the generation room (R39)
abbrev pub review_rooms : (m relation_length generation_length : ℕ) → List Room
review_rooms m relation_length generation_length = room_of 0 (words m) relation_length ∷ room_of 1 m generation_length ∷ []

-- 1 to 4, of tables and the lengths of the two rooms (R37, R39)
unfoldable pub review_refusal : List ℕ → List ℕ → (relation_length generation_length : ℕ) → Told
review_refusal commands lengths relation_length generation_length = or_else (checked commands lengths) (first_short (review_rooms (rows commands) relation_length generation_length))

-- 1 and 4, of how many numbers there are in the commands and in the two rooms: what stands in them is not looked at (R81)
unfoldable pub size_refusal : List ℕ → (relation_length generation_length : ℕ) → Told
size_refusal commands relation_length generation_length =
    or_else (cond (are_bad_commands commands) (tell 1 0 0) (tell 0 0 0)) (first_short (review_rooms (rows commands) relation_length generation_length))
