use mathlib.Core.Path.{◌≡◌, sym, ◌∙◌}
use Prim.Native.Nat.{◌+◌, ◌-◌, ◌*◌}
use native.Mathlib.Omega.{arith}
use lib.ListN.{drop, get_or}
use borrow.Author.Rules.{rules}
use Rattle.spelling.specs.declared.bytes.Class.TheVariants.{Digit}
use Rattle.spelling.specs.Bytes.{is, digit}
use Rattle.spelling.specs.Numbers.{most_number}
use Rattle.spelling.proofs.Scans.{run_on, run_off, run_out}
use Rattle.spelling.proofs.Classes.{is_class, is_other}
use Rattle.spelling.proofs.Numbers.{means_number, means_nothing, digit_range, decimal_grows, decimal_on, decimal_out}
use Rattle.spelling.proofs.number.read_number.Goals as goal
use Rattle.spelling.proofs.number.read_number.Goals.{in_default, in_default-2}

pub returns-in-empty : goal.returns-in-empty
returns-in-empty c = sym (means_nothing _ (λ n m. omega (arith, m.some, c.in-empty.len_below)))

pub returns-in-empty-2 : goal.returns-in-empty-2
returns-in-empty-2 c = sym (means_nothing _ (λ n m. omega (arith, m.leading (omega arith), c.in-empty.len_at_least)))

-- a byte that is no digit
pub returns-then-ne : goal.returns-then-ne
returns-then-ne c =
    let l = c.loop-byte in
    let w = c.args.bytes.now in
    let h = c.loop-byte-test.true in
    let n : c.class_of.result ≡ Digit → ⊥ = search rules in
    let z = run_off (is digit) w l.byte-index h (is_other _ digit _ c.class_of.ensures n) in
    sym (means_nothing w (λ n m. omega (arith, l.invariant.0, h, m.digits, z)))

-- the byte that the loop reads is a digit
pub overflow_mul-value : goal.overflow_mul-value
unfolding most_number
overflow_mul-value c = omega (arith, c.loop-byte.invariant.2)

pub overflow_sub-byte : goal.overflow_sub-byte
overflow_sub-byte c = let d : c.class_of.result ≡ Digit = search rules in (digit_range _ (sym c.class_of.ensures ∙ d)).0

pub overflow_add-value : goal.overflow_add-value
unfolding most_number
overflow_add-value c =
    let d : c.class_of.result ≡ Digit = search rules in
    omega (arith, c.loop-byte.invariant.2, c.from.ensures, (digit_range _ (sym c.class_of.ensures ∙ d)).1)

-- the value has passed the limit, and more digits make it no smaller
pub returns-then-value-gt-MOST_NUMBER : goal.returns-then-value-gt-MOST_NUMBER
unfolding most_number
returns-then-value-gt-MOST_NUMBER c =
    let l = c.loop-byte in
    let w = c.args.bytes.now in
    let h = c.loop-byte-test.true in
    let g = decimal_grows (drop (l.byte-index + 1) w) (l.value * 10 + (get_or w l.byte-index 0 - 48)) in
    sym (means_nothing w (λ n m. omega (arith, m.small, m.value, c.if-value-gt-MOST_NUMBER.true, c.from.ensures, l.invariant.1, decimal_on l.value w l.byte-index h, g)))

pub loop-byte-preserved : goal.loop-byte-preserved
unfolding most_number
loop-byte-preserved c =
    let l = c.loop-byte in
    let w = c.args.bytes.now in
    let h = c.loop-byte-test.true in
    let d : c.class_of.result ≡ Digit = search rules in (
      omega (arith, l.invariant.0, run_on (is digit) w l.byte-index h (is_class _ digit _ c.class_of.ensures d)),
      rw c.from.ensures (sym (decimal_on l.value w l.byte-index h) ∙ l.invariant.1),
      omega (arith, c.if-value-gt-MOST_NUMBER.false),
    )

pub returns : goal.returns
returns c =
    let l = c.loop-byte in
    let w = c.args.bytes.now in
    let o = c.loop-byte-test.false in
    sym (means_number w l.value (record {
      digits = omega (arith, l.invariant.0, l.auto.byte-index-end, o, run_out (is digit) w l.byte-index o);
      some = grind arith;
      leading = λ z. grind arith;
      value = sym l.invariant.1 ∙ decimal_out l.value w l.byte-index o;
      small = l.invariant.2;
    }))
