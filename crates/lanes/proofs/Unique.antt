-- Two answers that meet the contract of a public function for the same inputs are equal. Assumes nothing.
use mathlib.Core.Path.{◌≡◌, sym, ◌∙◌}
use Prim.Native.Nat.{ℕ}
use Rattle.lanes.specs.declared.Lanes.{Lanes}
use Rattle.lanes.specs.Promise.{AnswersWake, AnswersBreakOff, AnswersGiveUp, AnswersLeaveOut, AnswersOnly, AnswersHighest, AnswersAllOf}

pub wake_one : (L : Lanes) (kind mask : ℕ) {r s : Lanes} → AnswersWake L kind mask r → AnswersWake L kind mask s → r ≡ s
wake_one L kind mask e f = e ∙ sym f

pub break_off_one : (L : Lanes) {r s : Lanes} → AnswersBreakOff L r → AnswersBreakOff L s → r ≡ s
break_off_one L e f = e ∙ sym f

pub give_up_one : (L : Lanes) {r s : Lanes} → AnswersGiveUp L r → AnswersGiveUp L s → r ≡ s
give_up_one L e f = e ∙ sym f

pub leave_out_one : (L : Lanes) (mask : ℕ) {r s : Lanes} → AnswersLeaveOut L mask r → AnswersLeaveOut L mask s → r ≡ s
leave_out_one L mask e f = e ∙ sym f

pub only_one : (L : Lanes) (mask : ℕ) {r s : Lanes} → AnswersOnly L mask r → AnswersOnly L mask s → r ≡ s
only_one L mask e f = e ∙ sym f

pub highest_one : (mask : ℕ) {r s : ℕ} → AnswersHighest mask r → AnswersHighest mask s → r ≡ s
highest_one mask e f = e ∙ sym f

pub all_of_one : (n : ℕ) {r s : ℕ} → AnswersAllOf n r → AnswersAllOf n s → r ≡ s
all_of_one n e f = e ∙ sym f
