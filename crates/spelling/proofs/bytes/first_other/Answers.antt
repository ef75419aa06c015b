use Rattle.std.proofs.Common.{◌≡◌, ℕ, ◌+◌, ◌<◌, Bool, true, false, not, List, length, get_or, Some, None, sym, ap, ◌∙◌, arith}
use Rattle.std.specs.Prelude.{position}
use Rattle.std.proofs.lemmas.List.Sums.{position_or_len_is}
use borrow.Author.Count.{below_none, below_more}
use borrow.Author.Tests.{lt-ltb, le-ltb, eq-eqb, ne_eqb}
use denote.Enum.Declared.{tag_of}
use Rattle.spelling.specs.contracts.bytes.Class.{the_type}
use Rattle.spelling.specs.declared.bytes.Class.{Class}
use Rattle.spelling.specs.Bytes.{class_of, code, of_class}
use Rattle.spelling.proofs.Classes.{tag_code}
use Rattle.spelling.proofs.bytes.first_other.Goals as goal

-- bytes gone through from the front: none of the first n passes a test
module _ (p : ℕ → Bool) (bytes : List ℕ) (n : ℕ) (none : (k : ℕ) → k < n → p (get_or bytes k 0) ≡ false) where
  -- byte n, which is byte i
  gone_more : (i : ℕ) → i ≡ n → p (get_or bytes i 0) ≡ false → (k : ℕ) → k < n + 1 → p (get_or bytes k 0) ≡ false
  gone_more i e f = below_more _ n none (ap (λ (k : ℕ). p (get_or bytes k 0)) (sym e) ∙ f)

  gone_to : n < length bytes → (i : ℕ) → i ≡ n → p (get_or bytes i 0) ≡ true → Some n ≡ position p bytes
  gone_to l i e t =
      let first = position_or_len_is p bytes n 0 (omega arith) none (λ _. ap (λ (k : ℕ). p (get_or bytes k 0)) (sym e) ∙ t) in
      sym (rw (first, lt-ltb _ _ l))

  gone_all : n ≡ length bytes → None ≡ position p bytes
  gone_all e =
      let first = position_or_len_is p bytes n 0 (omega arith) none (λ l. absurd (omega arith)) in
      sym (rw (first, le-ltb n (length bytes) (omega arith)))

-- the class of a byte, told by its number
module _ (class b : ℕ) (k : Class) (h : k ≡ class_of b) where
  numbered : tag_of the_type k ≡ code (class_of b)
  numbered = tag_code k ∙ ap code h

  told_same : tag_of the_type k ≡ class → not (of_class class b) ≡ false
  told_same e = ap not (eq-eqb _ _ (sym numbered ∙ e))

  told_other : (tag_of the_type k ≡ class → ⊥) → not (of_class class b) ≡ true
  told_other n = ap not (ne_eqb _ _ (λ e. n (numbered ∙ e)))

pub loop-i-init : goal.loop-i-init
loop-i-init c = below_none _

pub returns-then-class_of-class : goal.returns-then-class_of-class
returns-then-class_of-class c =
    gone_to (λ b. not (of_class c.args.class b)) _ c.loop-i.i c.loop-i.invariant c.loop-i-test.true _ (omega arith) (told_other _ _ _ c.class_of.ensures c.if-class_of-class.true)

pub loop-i-preserved : goal.loop-i-preserved
loop-i-preserved c =
    gone_more (λ b. not (of_class c.args.class b)) _ c.loop-i.i c.loop-i.invariant _ (omega arith) (told_same _ _ _ c.class_of.ensures c.if-class_of-class.false)

pub returns : goal.returns
returns c = gone_all (λ b. not (of_class c.args.class b)) _ c.loop-i.i c.loop-i.invariant (omega arith)
