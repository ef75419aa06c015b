-- `without` meets its contract: both words lack of `a` what `a` and `b` share. Assumes nothing.
use mathlib.Core.Path.{◌≡◌, sym, ap, ◌∙◌}
use Prim.Native.Nat.{ℕ, ◌+◌, ◌-◌, ◌*◌}
use native.Mathlib.Omega.{arith}
use lib.Bits.{bit_and, bit_xor, and_comm, and_self, xor_add_and}
use Rattle.std.proofs.lemmas.Nat.{and-not, and_assoc}
use Rattle.lanes.proofs.without.Goals as goal

pub returns : goal.returns
returns c =
    let a = c.args.a in
    let b = c.args.b in
    let both = bit_and a b in
    let kept : bit_and a (4294967295 - b) + both ≡ a = rw (and_comm a (4294967295 - b), and_comm a b) (and-not 32 b a (omega arith) (omega arith)) in
    let same : bit_and a both ≡ both = sym (and_assoc b a a) ∙ ap (λ (x : ℕ). bit_and x b) (and_self a) in
    let other : bit_xor a both + bit_and a both * 2 ≡ a + both = xor_add_and a both in
    omega arith
