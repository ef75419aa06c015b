-- Classes of bytes, and runs of bytes (R43).
use Rattle.std.specs.Prelude.{Bool, cond, ◌&&◌, ◌||◌, List, [], ◌∷◌, ℕ, suc, eqb, leb, drop}
use Rattle.spelling.specs.declared.bytes.Class.{Class}
use Rattle.spelling.specs.declared.bytes.Class.TheVariants.{Blank, Letter, Digit, Other}

abbrev pub blank : Class
blank = Blank

abbrev pub letter : Class
letter = Letter

abbrev pub digit : Class
digit = Digit

abbrev pub other : Class
other = Other

-- blanks are spaces, 32, and newlines, 10; letters are lower-case ones, 97 to 122; digits are 48 to 57 (R43)
unfoldable pub class_of : ℕ → Class
class_of b =
    cond (eqb b 32 || eqb b 10) blank (cond (leb 97 b && leb b 122) letter (cond (leb 48 b && leb b 57) digit other))

-- the classes by number, in that order
abbrev pub code : Class → ℕ
code Blank = 0
code Letter = 1
code Digit = 2
code Other = 3

-- is a byte of the class of a number, of which there may be none?
abbrev pub of_class : ℕ → ℕ → Bool
of_class n b = eqb (code (class_of b)) n

-- is a byte of a class?
abbrev pub is : Class → ℕ → Bool
is k b = of_class (code k) b

-- how many bytes that pass a test the bytes begin with (R43)
unfoldable pub run : (ℕ → Bool) → List ℕ → ℕ
run p [] = 0
run p (b ∷ s) = cond (p b) (suc (run p s)) 0

-- how many blanks the bytes begin with, and the bytes from there on (R43)
abbrev pub blanks : List ℕ → ℕ
blanks s = run (is blank) s

abbrev pub skip : List ℕ → List ℕ
skip s = drop (blanks s) s
