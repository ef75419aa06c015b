-- Runs of bytes that pass a test: how long they are, where they stop, and what they leave. Assumes nothing.
use mathlib.Core.Path.{◌≡◌, refl, sym}
use mathlib.Core.Logic.{⊎_elim, by_cases}
use native.Mathlib.Decide.{dec_lt}
use mathlib.Core.Bool.{Bool, true, false, cond}
use mathlib.Mathlib.Data.Bool.Basic.{dichotomy}
use mathlib.Core.List.{List, [], ◌∷◌, ◌++◌}
use Prim.Native.Nat.{ℕ, suc, ◌+◌, ◌≤◌, ◌<◌}
use native.Mathlib.Omega.{arith}
use lib.ListN.{length, get_or, take, drop, take-append-drop}
use Rattle.std.proofs.Common.{not, position}
use Rattle.std.specs.Option.{unwrap_or}
use Rattle.std.specs.List.{position_or_len}
use Rattle.std.proofs.lemmas.List.Recursion.{is_position_or_len}
use borrow.Author.Tests.{lt-ltb, le-ltb}
use Rattle.spelling.specs.Bytes.{run}

-- what is empty by its first byte is so whatever follows
same_none : (t : Bool) (n m : ℕ) → cond t (suc n) 0 ≡ 0 → cond t (suc m) 0 ≡ 0
same_none true n m e = absurd (omega arith)
same_none false n m e = refl

module _ (p : ℕ → Bool) where
  -- by the first byte
  module _ (b : ℕ) (s : List ℕ) where
    run_more : p b ≡ true → run p (b ∷ s) ≡ suc (run p s)
    unfolding run
    run_more e = rw e

    pub run_none : p b ≡ false → run p (b ∷ s) ≡ 0
    unfolding run
    run_none e = rw e

    pub run_cases : (P : ℕ → Type 0) → (p b ≡ true → P (suc (run p s))) → (p b ≡ false → P 0) → P (run p (b ∷ s))
    run_cases P f g =
        ⊎_elim (λ (e : p b ≡ false). rw (run_none e) (g e)) (λ (e : p b ≡ true). rw (run_more e) (f e)) (dichotomy (p b))

  pub run_pos_at : (s : List ℕ) → 0 < length s → p (get_or s 0 0) ≡ true → 0 < run p s
  run_pos_at [] h e = absurd (omega arith)
  run_pos_at (b ∷ s) h e = omega (arith, run_more b s e)

  pub run_none_at : (s : List ℕ) → p (get_or s 0 0) ≡ false → run p s ≡ 0
  unfolding run
  run_none_at [] e = refl
  run_none_at (b ∷ s) e = run_none b s e

  pub run_le : (s : List ℕ) → run p s ≤ length s
  unfolding run
  run_le [] = omega arith
  run_le (b ∷ s) = run_cases b s (λ n. n ≤ suc (length s)) (λ e. omega (arith, run_le s)) (λ e. omega arith)

  pub run_stops : (s : List ℕ) → run p (drop (run p s) s) ≡ 0
  unfolding run
  run_stops [] = refl
  run_stops (b ∷ s) = run_cases b s (λ n. run p (drop n (b ∷ s)) ≡ 0) (λ e. run_stops s) (run_none b s)

  -- a run goes on behind bytes that all pass
  pub run_past : (w s : List ℕ) → run p w ≡ length w → run p (w ++ s) ≡ length w + run p s
  run_past [] s e = omega arith
  run_past (b ∷ w) s e =
      ⊎_elim (λ (f : p b ≡ false). absurd (omega (arith, run_none b w f)))
      (λ (f : p b ≡ true). omega (arith, run_more b (w ++ s) f, run_past w s (omega (arith, run_more b w f)))) (dichotomy (p b))

  pub run_whole : (w s : List ℕ) → run p w ≡ length w → run p s ≡ 0 → run p (w ++ s) ≡ length w
  run_whole w s e z = omega (arith, run_past w s e, z)

  run_front : (w r : List ℕ) → run p (w ++ r) ≡ 0 → run p w ≡ 0
  unfolding run
  run_front [] r e = refl
  run_front (b ∷ w) r e = same_none (p b) (run p (w ++ r)) (run p w) e

  pub run_take : (n : ℕ) (s : List ℕ) → run p s ≡ 0 → run p (take n s) ≡ 0
  run_take n s e = run_front (take n s) (drop n s) (rw (take-append-drop n s) e)

  pub run_behind : (w c : List ℕ) → run p w ≡ 0 → p 32 ≡ false → run p (w ++ (32 ∷ c)) ≡ 0
  unfolding run
  run_behind [] c z e = run_none 32 c e
  run_behind (b ∷ w) c z e = same_none (p b) (run p w) (run p (w ++ (32 ∷ c))) z

  -- a run stops at the first byte that does not pass, or at the end
  module _ (q : ℕ → Bool) (no : (b : ℕ) → q b ≡ not (p b)) where
    run_first : (s : List ℕ) → run p s ≡ position_or_len q s
    unfolding run
    run_first =
        is_position_or_len (run p) q refl
        (λ b s. ⊎_elim (λ (e : p b ≡ false). rw (run_none b s e, no b, e) refl) (λ (e : p b ≡ true). rw (run_more b s e, no b, e) (omega arith)) (dichotomy (p b)))

    pub run_position : (s : List ℕ) → unwrap_or (position q s) (length s) ≡ run p s
    run_position s =
        by_cases (dec_lt (run p s) (length s)) (λ (l : run p s < length s). rw (sym (run_first s), lt-ltb _ _ l) refl)
        (λ (n : ¬ (run p s < length s)). rw (sym (run_first s), le-ltb (run p s) (length s) (omega arith)) (omega (arith, run_le s)))
