-- The classes told apart by their numbers. Assumes nothing.
use mathlib.Core.Path.{◌≡◌, refl, sym, ap, ◌∙◌}
use mathlib.Core.Bool.{true, false, cond}
use Prim.Native.Nat.{ℕ}
use denote.Enum.Declared.{tag_of}
use lib.Dec.{eqb}
use borrow.Author.Tests.{eq-eqb, ne_eqb, eqb-true}
use Rattle.spelling.specs.contracts.bytes.Class.{the_type}
use Rattle.spelling.specs.declared.bytes.Class.{Class}
use Rattle.spelling.specs.declared.bytes.Class.TheVariants.{Blank, Letter, Digit, Other}
use Rattle.spelling.specs.Bytes.{class_of, code, is}

-- the number that `as` gives is that of the definition
pub tag_code : (k : Class) → tag_of the_type k ≡ code k
tag_code Blank = refl
tag_code Letter = refl
tag_code Digit = refl
tag_code Other = refl

-- the class of a number
named : ℕ → Class
named n = cond (eqb n 0) Blank (cond (eqb n 1) Letter (cond (eqb n 2) Digit Other))

named_code : (k : Class) → named (code k) ≡ k
unfolding named
named_code Blank = refl
named_code Letter = refl
named_code Digit = refl
named_code Other = refl

code_one : (k l : Class) → code k ≡ code l → k ≡ l
code_one k l e = sym (named_code k) ∙ ap named e ∙ named_code l

pub class_is : (k : Class) (b : ℕ) → is k b ≡ true → k ≡ class_of b
class_is k b e = sym (code_one (class_of b) k (eqb-true _ _ e))

-- k is the class of a byte
module _ (k l : Class) (b : ℕ) (h : k ≡ class_of b) where
  pub is_class : k ≡ l → is l b ≡ true
  is_class e = eq-eqb _ _ (ap code (sym h ∙ e))

  pub is_other : (k ≡ l → ⊥) → is l b ≡ false
  is_other n = ne_eqb _ _ (λ (e : code (class_of b) ≡ code l). n (h ∙ code_one (class_of b) l e))
