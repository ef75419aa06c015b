-- `strip` meets its contract: the smaller of the two rows is the operand, or row i itself. Assumes nothing.
use Rattle.std.proofs.Common.{◌≡◌, ℕ, ◌*◌, ◌<◌, ◌≤◌, min, cond, ltb, ap, ◌∙◌, arith, mul-le-mul_right, le-ltb, lt-ltb}
use mathlib.Core.Logic.{by_cases}
use native.Mathlib.Decide.{dec_lt}
use Rattle.values.proofs.wide.strip.Goals as goal

smaller : (i x : ℕ) → min i x ≡ cond (ltb x i) x i
smaller i x =
    by_cases (dec_lt x i) (λ (l : x < i). rw (lt-ltb x i l) (omega arith)) (λ (l : ¬ (x < i)). rw (le-ltb x i (omega arith)) (omega arith))

pub overflow_mul-result : goal.overflow_mul-result
overflow_mul-result c =
    let a = c.args in
    let low : c.min.result ≤ a.i = omega arith in
    omega (arith, mul-le-mul_right {m = c.min.result} {n = a.i} a.count low)

pub returns : goal.returns
returns c = ap (λ (r : ℕ). r * c.args.count) (c.min.ensures ∙ smaller c.args.i c.args.x)
