-- What each public function promises.
use Rattle.std.specs.Prelude.{◌≡◌, ℕ}
use Rattle.lanes.specs.declared.Lanes.{Lanes}
use Rattle.lanes.specs.Words.{woken_by, broken_by, returned_by, leaving, only_active, highest_of, all_of}

-- `Lanes::wake`
abbrev pub AnswersWake : (lanes : Lanes) (kind mask : ℕ) (r : Lanes) → Type 0
AnswersWake lanes kind mask r = r ≡ woken_by lanes kind mask

-- `Lanes::break_off`
abbrev pub AnswersBreakOff : (lanes r : Lanes) → Type 0
AnswersBreakOff lanes r = r ≡ broken_by lanes

-- `Lanes::give_up`
abbrev pub AnswersGiveUp : (lanes r : Lanes) → Type 0
AnswersGiveUp lanes r = r ≡ returned_by lanes

-- `Lanes::leave_out`
abbrev pub AnswersLeaveOut : (lanes : Lanes) (mask : ℕ) (r : Lanes) → Type 0
AnswersLeaveOut lanes mask r = r ≡ leaving lanes mask

-- `Lanes::only`
abbrev pub AnswersOnly : (lanes : Lanes) (mask : ℕ) (r : Lanes) → Type 0
AnswersOnly lanes mask r = r ≡ only_active lanes mask

-- `highest`
abbrev pub AnswersHighest : (mask r : ℕ) → Type 0
AnswersHighest mask r = r ≡ highest_of 32 mask

-- `all_of`
abbrev pub AnswersAllOf : (n r : ℕ) → Type 0
AnswersAllOf n r = r ≡ all_of n
