-- What a verdict's number means (D1, D3, R36 to R38, R40, R41). Numbers that share a meaning are listed here and nowhere else, so a new verdict joins them here.
use Rattle.std.specs.Prelude.{Bool, ◌||◌, ℕ, eqb}

-- 1 to 4: tables or rooms are refused (R37).
abbrev pub is_refusal : ℕ → Bool
is_refusal n = eqb n 1 || eqb n 2 || eqb n 3 || eqb n 4

-- 7: an allowed step mismatches; later entries aren't read (R20), and a legal complete schedule ends there (R21).
abbrev pub breaks_off : ℕ → Bool
breaks_off n = eqb n 7

-- 5 and 7 are judged step by step, whichever comes first, and end the replay at once (R38).
abbrev pub is_final : ℕ → Bool
is_final n = eqb n 5 || breaks_off n

-- 7, 8 and 9: a legal complete schedule that does not end clean (R22, R59).
abbrev pub ends_unclean : ℕ → Bool
ends_unclean n = breaks_off n || eqb n 8 || eqb n 9

-- What is told of a replay, before faults are looked for: 5 to 9, or 0 (R81).
abbrev pub is_ending : ℕ → Bool
is_ending n = eqb n 0 || is_final n || eqb n 6 || ends_unclean n

-- 10 and 11: outside them the sheet is empty with total 0 (R36).
abbrev pub has_pairs : ℕ → Bool
has_pairs n = eqb n 10 || eqb n 11

-- For 0, 10 and 11 both rooms are filled. For all others both rooms are untouched (R40).
abbrev pub fills : ℕ → Bool
fills n = eqb n 0 || has_pairs n

-- 0 to 11: any tables, any schedule and any rooms end in one of these (D1).
abbrev pub is_verdict : ℕ → Bool
is_verdict n = is_refusal n || is_ending n || has_pairs n

-- 0 and 7 to 11: what a legal complete schedule gets, of tables and rooms that pass (R37).
abbrev pub is_complete : ℕ → Bool
is_complete n = ends_unclean n || fills n

-- 0 or 11 exactly when the schedule offered is legal and complete and all such schedules agree (D3).
abbrev pub settles : ℕ → Bool
settles n = eqb n 0 || eqb n 11

-- 7 to 10: given only where that agreement fails (D3).
abbrev pub disagrees : ℕ → Bool
disagrees n = ends_unclean n || eqb n 10

-- 12 and 13: a reading is refused (R41).
abbrev pub is_unread : ℕ → Bool
is_unread n = eqb n 12 || eqb n 13
