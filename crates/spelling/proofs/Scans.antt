-- A list taken apart at a place, and a run from there on: the laws behind the loops. Assumes nothing.
use mathlib.Core.Path.{◌≡◌}
use mathlib.Core.Bool.{Bool, true, false}
use mathlib.Core.List.{List, ◌∷◌}
use Prim.Native.Nat.{ℕ, suc, ◌+◌, ◌≤◌, ◌<◌}
use native.Mathlib.Numerals.{add-one}
use lib.ListN.{length, get_or, drop, drop_of_length-le}
use lib.Seq.{drop-cons}
use Rattle.spelling.specs.Bytes.{run}

pub drop_next : (s : List ℕ) (i : ℕ) → i < length s → drop i s ≡ get_or s i 0 ∷ drop (i + 1) s
drop_next s i h = rw add-one (drop-cons s i 0 h)

module _ (p : ℕ → Bool) (s : List ℕ) (i : ℕ) where
  pub run_on : i < length s → p (get_or s i 0) ≡ true → run p (drop i s) ≡ suc (run p (drop (i + 1) s))
  unfolding run
  run_on h e = rw (drop_next s i h, e)

  pub run_off : i < length s → p (get_or s i 0) ≡ false → run p (drop i s) ≡ 0
  unfolding run
  run_off h e = rw (drop_next s i h, e)

  pub run_out : length s ≤ i → run p (drop i s) ≡ 0
  unfolding run
  run_out h = rw (drop_of_length-le s {i = i} h)
