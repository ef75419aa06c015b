-- Bytes that are put into a room one after another. Assumes nothing.
use mathlib.Core.Path.{◌≡◌, refl, sym, ap, ◌∙◌}
use mathlib.Core.Logic.{by_cases}
use mathlib.Core.List.{List, [], ◌∷◌, ◌++◌}
use Prim.Native.Nat.{ℕ, suc, ◌+◌, ◌≤◌, ◌<◌}
use native.Mathlib.Decide.{dec_lt}
use native.Mathlib.Nat.{zero-add, add-zero}
use native.Mathlib.Numerals.{add-one}
use native.Mathlib.Omega.{arith}
use lib.ListN.{length, set, take, get_or, length-append, length-set}
use lib.Seq.{take-suc, set_out, sets, sets-eq, length-sets}
use Rattle.tables.specs.Over.{over}
use Rattle.printing.specs.declared.Printer.{Printer}
use Rattle.printing.specs.Putting.{past, PutsBytes, Prints}

-- ---- a run of stores

sets_append : (room : List ℕ) (at : ℕ) (a b : List ℕ) → sets room at (a ++ b) ≡ sets (sets room at a) (at + length a) b
sets_append room at [] b = rw (add-zero at)
sets_append room at (x ∷ a) b =
    let e : suc at + length a ≡ at + suc (length a) = omega arith in
    sets_append (set room at x) (suc at) a b ∙ ap (λ (k : ℕ). sets (sets (set room at x) (suc at) a) k b) e

-- past the end of the room nothing is stored
sets_out : (room : List ℕ) (at : ℕ) (w : List ℕ) → length room ≤ at → sets room at w ≡ room
sets_out room at [] h = refl
sets_out room at (x ∷ w) h = sets_out (set room at x) (suc at) w (omega (arith, length-set room at x)) ∙ set_out room at x h

-- so the place may stay at the end
sets_on : (room : List ℕ) (at : ℕ) (a b : List ℕ) → sets (sets room at a) (past (length room) at (length a)) b ≡ sets room at (a ++ b)
sets_on room at a b =
    by_cases (dec_lt (length room) (at + length a))
    (λ (h : length room < at + length a).
    sets_out (sets room at a) (past (length room) at (length a)) b (omega (arith, length-sets room at a))
    ∙ sym (sets_out (sets room at a) (at + length a) b (omega (arith, length-sets room at a)))
    ∙ sym (sets_append room at a b))
    (λ (h : ¬ (length room < at + length a)).
    let e : past (length room) at (length a) ≡ at + length a = omega arith in
    ap (λ (k : ℕ). sets (sets room at a) k b) e ∙ sym (sets_append room at a b))

sets_over : (w room : List ℕ) → length w ≤ length room → sets room 0 w ≡ over w room
sets_over w room h = sets-eq w room 0 (omega arith) ∙ rw (zero-add (length w))

-- ---- puts one after another

pub puts_bytes_on : {before mid after : List ℕ} {at n k : ℕ} {a b : List ℕ} → PutsBytes before mid at a n → PutsBytes mid after n b k → PutsBytes before after at (a ++ b) k
puts_bytes_on {before} {at = at} {a = a} {b} p q =
    record {
      room = q.room ∙ rw (p.room, p.on) (sets_on before at a b);
      on = omega (arith, p.on, q.on, ap length p.room, length-sets before at a, length-append a b);
    }

pub puts_none : (p : Printer) → Prints p p []
puts_none p = record { puts = record { room = refl; on = omega arith }; same = refl }

pub puts_on : {p q r : Printer} {a b : List ℕ} → Prints p q a → Prints q r b → Prints p r (a ++ b)
puts_on f g = record { puts = puts_bytes_on f.puts g.puts; same = g.same ∙ f.same }

pub puts_as : {p q : Printer} {v w : List ℕ} → v ≡ w → Prints p q v → Prints p q w
puts_as e f = rw e at f

-- from the start of a room with place for them
pub puts_over : {p q : Printer} {w : List ℕ} → p.at ≡ 0 → Prints p q w → length w ≤ length p.room.now → q.room.now ≡ over w p.room.now
puts_over {p} {w = w} z f h = f.puts.room ∙ ap (λ (k : ℕ). sets p.room.now k w) z ∙ sets_over w p.room.now h

-- ---- a list put byte by byte

pub front_next : {p q r : Printer} (w : List ℕ) (i : ℕ) → Prints p q (take i w) → i < length w → Prints q r (get_or w i 0 ∷ []) → Prints p r (take (i + 1) w)
front_next w i f h g = rw (add-one i, take-suc w i 0 h) (puts_on f g)
