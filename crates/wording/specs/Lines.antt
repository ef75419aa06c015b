-- The lines: what a schedule shows, in words, and the schedule, each closed by a newline (R63).
use Rattle.std.specs.Prelude.{cond, List, [], ◌∷◌, ◌++◌, ℕ, eqb, length}
use Rattle.printing.specs.Marks.{space, newline}
use Rattle.printing.specs.Figures.{figures}
use Rattle.wording.specs.declared.Shown.{Shown}
use Rattle.wording.specs.declared.Shown.TheVariants.{First, Generation, Mismatch, Deadlock, LeftSet}

abbrev pub line_end : List ℕ
line_end = newline ∷ []

-- `command `
abbrev pub command_word : List ℕ
command_word = 99 ∷ 111 ∷ 109 ∷ 109 ∷ 97 ∷ 110 ∷ 100 ∷ space ∷ []

-- ` comes before command `
abbrev pub first_word : List ℕ
first_word = space ∷ 99 ∷ 111 ∷ 109 ∷ 101 ∷ 115 ∷ space ∷ 98 ∷ 101 ∷ 102 ∷ 111 ∷ 114 ∷ 101 ∷ space ∷ 99 ∷ 111 ∷ 109 ∷ 109 ∷ 97 ∷ 110 ∷ 100 ∷ space ∷ []

-- ` gets generation `
abbrev pub gets_word : List ℕ
gets_word = space ∷ 103 ∷ 101 ∷ 116 ∷ 115 ∷ space ∷ 103 ∷ 101 ∷ 110 ∷ 101 ∷ 114 ∷ 97 ∷ 116 ∷ 105 ∷ 111 ∷ 110 ∷ space ∷ []

-- `, not `
abbrev pub not_word : List ℕ
not_word = 44 ∷ space ∷ 110 ∷ 111 ∷ 116 ∷ space ∷ []

-- ` comes to a barrier that expects another count` and the line's end
abbrev pub clash_word : List ℕ
clash_word = space ∷ 99 ∷ 111 ∷ 109 ∷ 101 ∷ 115 ∷ space ∷ 116 ∷ 111 ∷ space ∷ 97 ∷ space ∷ 98 ∷ 97 ∷ 114 ∷ 114 ∷ 105 ∷ 101 ∷ 114 ∷ space ∷ 116 ∷ 104 ∷ 97 ∷ 116 ∷ space ∷ 101 ∷ 120 ∷ 112 ∷ 101 ∷ 99 ∷ 116 ∷ 115 ∷ space ∷ 97 ∷ 110 ∷ 111 ∷ 116 ∷ 104 ∷ 101 ∷ 114 ∷ space ∷ 99 ∷ 111 ∷ 117 ∷ 110 ∷ 116 ∷ newline ∷ []

-- `deadlock, a thread waits at command `
abbrev pub deadlock_word : List ℕ
deadlock_word = 100 ∷ 101 ∷ 97 ∷ 100 ∷ 108 ∷ 111 ∷ 99 ∷ 107 ∷ 44 ∷ space ∷ 97 ∷ space ∷ 116 ∷ 104 ∷ 114 ∷ 101 ∷ 97 ∷ 100 ∷ space ∷ 119 ∷ 97 ∷ 105 ∷ 116 ∷ 115 ∷ space ∷ 97 ∷ 116 ∷ space ∷ 99 ∷ 111 ∷ 109 ∷ 109 ∷ 97 ∷ 110 ∷ 100 ∷ space ∷ []

-- `barrier `
abbrev pub barrier_word : List ℕ
barrier_word = 98 ∷ 97 ∷ 114 ∷ 114 ∷ 105 ∷ 101 ∷ 114 ∷ space ∷ []

-- ` still waits for more` and the line's end
abbrev pub more_word : List ℕ
more_word = space ∷ 115 ∷ 116 ∷ 105 ∷ 108 ∷ 108 ∷ space ∷ 119 ∷ 97 ∷ 105 ∷ 116 ∷ 115 ∷ space ∷ 102 ∷ 111 ∷ 114 ∷ space ∷ 109 ∷ 111 ∷ 114 ∷ 101 ∷ newline ∷ []

-- ---- what a schedule shows

-- the line in words (R63)
unfoldable pub shown_line : Shown → List ℕ
shown_line (First x y) = command_word ++ figures x ++ first_word ++ figures y ++ line_end
shown_line (Generation c g h) = command_word ++ figures c ++ gets_word ++ figures g ++ not_word ++ figures h ++ line_end
shown_line (Mismatch c) = command_word ++ figures c ++ clash_word
shown_line (Deadlock c) = deadlock_word ++ figures c ++ line_end
shown_line (LeftSet b) = barrier_word ++ figures b ++ more_word

-- ---- a schedule

-- what stands after a thread's number: a space where others are left, and else the line's end
abbrev pub parting_byte : ℕ → ℕ
parting_byte left = cond (eqb left 0) newline space

-- the threads in their order; no schedule that shows something is empty, and of the empty one there is no line (R63)
unfoldable pub steps_line : List ℕ → List ℕ
steps_line [] = []
steps_line (t ∷ σ) = figures t ++ parting_byte (length σ) ∷ steps_line σ
