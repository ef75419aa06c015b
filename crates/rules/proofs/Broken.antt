-- The rows as three numbers each: the first that breaks the rules is the first bad row. Assumes nothing.
use Rattle.std.proofs.Common.{◌≡◌, ℕ, zero, suc, ◌+◌, ◌*◌, ◌<◌, ◌≤◌, not, true, false, List, [], length, get_or, drop, refl, ap, ◌∙◌, arith, Bool, cond, ltb, Some, None, MatchOption}
use Rattle.std.specs.Simd.{first_chunks}
use Rattle.std.specs.List.{position_or_len}
use Rattle.std.proofs.lemmas.List.{get_or-take, get_or-drop}
use Rattle.std.proofs.lemmas.List.Sums.{position_or_len_is}
use Rattle.std.proofs.Math.Nat.{add-zero, suc-mul}
use borrow.Author.Tests.{ltb-true, ltb-false}
use Rattle.tables.specs.Rows.{rows, kind, name, count}
use Rattle.tables.specs.Lowest.{lowest}
use Rattle.tables.proofs.Lowest.{lowest_first}
use Rattle.rules.specs.Rules.{keeps, first_bad_of}
use Rattle.rules.specs.Needs.{is_broken, first_broken}

chunks_long : (n k : ℕ) (xs : List ℕ) → length (first_chunks n k xs) ≡ k
chunks_long n zero xs = refl
chunks_long n (suc k) xs = ap (λ (j : ℕ). suc j) (chunks_long n k (drop n xs))

-- a number of a chunk is one of the list
chunk_at : (n k : ℕ) (xs : List ℕ) (c i : ℕ) → c < k → i < n → get_or (get_or (first_chunks n k xs) c []) i 0 ≡ get_or xs (c * n + i) 0
chunk_at n zero xs c i l h = absurd (omega arith)
chunk_at n (suc k) xs zero i l h = get_or-take n xs i 0 h ∙ ap (λ (j : ℕ). get_or xs j 0) (let e : i ≡ 0 * n + i = omega arith in e)
chunk_at n (suc k) xs (suc c) i l h =
    chunk_at n k (drop n xs) c i (omega arith) h ∙ get_or-drop n xs (c * n + i) 0
    ∙ ap (λ (j : ℕ). get_or xs j 0) (let e : n + (c * n + i) ≡ suc c * n + i = omega (arith, suc-mul c n) in e)

module _ (commands : List ℕ) (threads : ℕ) where
  abbrev rows_of : List (List ℕ)
  rows_of = first_chunks 3 (rows commands) commands

  -- row c as three numbers
  row_is : (c : ℕ) → c < rows commands → is_broken threads (get_or rows_of c []) ≡ not (keeps commands threads c)
  row_is c l =
      let at : (i : ℕ) → i < 3 → get_or (get_or rows_of c []) i 0 ≡ get_or commands (c * 3 + i) 0 = λ i h. chunk_at 3 (rows commands) commands c i l h in
      let k : get_or (get_or rows_of c []) 0 0 ≡ kind commands c = at 0 (omega arith) ∙ rw add-zero in
      let n : get_or (get_or rows_of c []) 1 0 ≡ name commands c = at 1 (omega arith) in
      let m : get_or (get_or rows_of c []) 2 0 ≡ count commands c = at 2 (omega arith) in
      rw (k, n, m) refl

  broken_is : position_or_len (is_broken threads) rows_of ≡ first_bad_of commands threads
  unfolding first_bad_of
  broken_is =
      let F = lowest_first (λ c. not (keeps commands threads c)) (rows commands) in
      let long = chunks_long 3 (rows commands) commands in
      position_or_len_is (is_broken threads) rows_of _ [] (omega (arith, F.at_most, long)) (λ c l. row_is c (omega (arith, F.at_most)) ∙ F.below c l)
      (λ l. let h : lowest (λ c. not (keeps commands threads c)) (rows commands) < rows commands = omega (arith, long) in row_is _ h ∙ F.passes h)

  -- there is none, or it is the first bad row
  pub first_broken_is : MatchOption (first_broken commands threads) (rows commands ≤ first_bad_of commands threads)
      (λ c. (c < rows commands) × (c ≡ first_bad_of commands threads))
  first_broken_is = rw (broken_is, chunks_long 3 (rows commands) commands) (by (ltb (first_bad_of commands threads) (rows commands)) refl)
    where
      by : (b : Bool) → ltb (first_bad_of commands threads) (rows commands) ≡ b
          → MatchOption (cond b (Some (first_bad_of commands threads)) None) (rows commands ≤ first_bad_of commands threads)
          (λ c. (c < rows commands) × (c ≡ first_bad_of commands threads))
      by true e = (ltb-true _ _ e, refl)
      by false e = ltb-false _ _ e
