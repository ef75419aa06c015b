-- `first_token` meets its contract: by the class of the first byte. Assumes nothing.
use mathlib.Core.Path.{◌≡◌, sym, ap, ◌∙◌}
use mathlib.Core.List.{List}
use Prim.Native.Nat.{ℕ}
use native.Mathlib.Omega.{arith}
use denote.Enum.Declared.{tag_of}
use lib.ListN.{length, take}
use lib.Seq.{length-take-le}
use Rattle.spelling.specs.contracts.bytes.Class.{the_type}
use Rattle.spelling.specs.declared.bytes.Class.{Class}
use Rattle.spelling.specs.Bytes.{is, of_class, run}
use Rattle.spelling.proofs.Classes.{tag_code}
use Rattle.spelling.proofs.Runs.{run_le}
use Rattle.grammar.proofs.Pieces.{word_piece, number_piece, mark_piece}
use Rattle.grammar.proofs.tokens.first_token.Goals as goal

-- the first bytes, of the class that the first has
module _ (s : List ℕ) (k : Class) (n : ℕ) (e : n ≡ run (of_class (tag_of the_type k)) s) where
  is_run : n ≡ run (is k) s
  is_run = e ∙ ap (λ (m : ℕ). run (of_class m) s) (tag_code k)

  run_long : length (take n s) ≡ n
  run_long = length-take-le n s (omega (arith, is_run, run_le (is k) s))

pub slice_bounds-run-end : goal.slice_bounds-run-end
slice_bounds-run-end c = sym (run_long _ _ _ c.run_of.ensures)

pub slice_bounds-run-end-in-Digit : goal.slice_bounds-run-end-in-Digit
slice_bounds-run-end-in-Digit c = sym (run_long _ _ _ c.run_of-in-Digit.ensures)

pub returns-in-Letter : goal.returns-in-Letter
returns-in-Letter c =
    let k = c.class_of-class in
    rw (run_long _ _ _ c.run_of.ensures) (word_piece _ _ k.ensures c.in-Letter.is _ (is_run _ _ _ c.run_of.ensures) _ c.word.ensures)

pub returns-in-Digit : goal.returns-in-Digit
returns-in-Digit c =
    let k = c.class_of-class in
    let r = c.run_of-in-Digit in
    rw (run_long _ _ _ r.ensures) (number_piece _ _ k.ensures c.in-Digit.is _ (is_run _ _ _ r.ensures) _ c.number.ensures)

pub returns-in_default : goal.returns-in_default
returns-in_default c = c.mark.ensures ∙ mark_piece _ _ c.class_of-class.ensures c.in_default.not-Letter c.in_default.not-Digit
