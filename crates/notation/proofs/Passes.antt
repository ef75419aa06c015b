-- The two passes over a text: what the judging pass has counted and what is found from its place on are all of it, and so are what the writing pass has written
-- and what is still to come. Assumes nothing.
use mathlib.Core.Path.{◌≡◌, refl, ap, sym, ◌∙◌}
use mathlib.Core.Bool.{true, false, cond}
use mathlib.Core.List.{List, [], ◌∷◌}
use mathlib.Core.Option.{none, some}
use Rattle.std.specs.Prelude.{Ok, Err}
use Prim.Native.Nat.{ℕ, suc, ◌+◌, ◌*◌, ◌≤◌, ◌<◌}
use native.Mathlib.Numerals.{add-one}
use native.Mathlib.Omega.{arith}
use lib.ListN.{length, set}
use Rattle.tables.specs.Limits.{most_rows}
use Rattle.spelling.specs.Machine.{Outcome, Row, outcome, found_after, flat}
use Rattle.tables.specs.Over.{over}
use Rattle.tables.proofs.Over.{Filling, filling_none, filling_left, filling_count, filling_room, filling_long, filling_done, filling_more, filling_three}
use Rattle.grammar.specs.declared.tokens.Token.{Token}
use Rattle.grammar.specs.declared.tokens.Met.TheVariants as M
use Rattle.grammar.specs.declared.automaton.State.{State}
use Rattle.grammar.specs.declared.automaton.State.TheVariants.{Word, Close, Parting}
use Rattle.grammar.specs.declared.automaton.TokenMove.{TokenMove}
use Rattle.grammar.specs.declared.automaton.TokenMove.TheVariants as Do
use Rattle.grammar.specs.Tokens.{token_at}
use Rattle.grammar.specs.Automaton.{token_moves, may_end, move}
use Rattle.notation.specs.Reading.{read_of, row_numbers, thread_lengths, sizes, Scanned, scanned_by, scanned_of}
use Rattle.notation.specs.Needs.{Rooms}
use Rattle.notation.proofs.Along.{starts_from, found_from, met_end, met_token, found_end, found_token, judged_further}

-- the judgement of m commands and t threads before the places, and of what is found at them
abbrev judgement : List ℕ → ℕ → ℕ → ℕ → Outcome → Scanned
judgement places end m t o = scanned_by places end (m + length o.rows) (t + length o.lengths) o.stop

pub record Judging (text : List ℕ) (at : ℕ) (s : State) (m t : ℕ) : Type 0 where
  pub inside : at ≤ length text
  pub few : (m ≤ at) × (t ≤ at)
  pub n : ℕ
  pub same : judgement (starts_from text at) (length text) m t (found_from text at s n) ≡ scanned_of text

pub judging_start : (text : List ℕ) → Judging text 0 Word 0 0
unfolding scanned_of
judging_start text =
    let p : 0 + length (read_of text).rows ≡ length (read_of text).rows = omega arith in
    let q : 0 + length (read_of text).lengths ≡ length (read_of text).lengths = omega arith in
    record { inside = omega arith; few = (omega arith, omega arith); n = 0; same = rw (p, q) }

module _ {text : List ℕ} {at : ℕ} {s : State} {m t : ℕ} (J : Judging text at s m t) where
  module _ {from : ℕ} (e : token_at text at ≡ M.End from) where
    ends : judgement [] (length text) m t (outcome [] [] (cond (may_end s) none (some 0))) ≡ scanned_of text
    ends =
        let E = met_end text at J.inside from e in
        rw (E.starts, found_end text at J.inside E s J.n) at J.same

    pub judging_passed : may_end s ≡ true → Ok (sizes m t) ≡ scanned_of text
    judging_passed q =
        let x : m + 0 ≡ m = omega arith in
        let y : t + 0 ≡ t = omega arith in
        rw (q, x, y) at ends

    pub judging_short : may_end s ≡ false → Err from ≡ scanned_of text
    judging_short q = ap Err (met_end text at J.inside from e).place ∙ rw q at ends

  module _ {tok : Token} {from nxt : ℕ} (e : token_at text at ≡ M.Token tok from nxt) where
    goes : (v : TokenMove) → token_moves s tok ≡ v
        → judgement (from ∷ starts_from text nxt) (length text) m t (found_after (move v) J.n (found_from text nxt)) ≡ scanned_of text
    goes v q =
        let X = met_token text at J.inside tok from nxt e in
        rw (X.starts, found_token text at J.inside X s J.n v q) at J.same

    pub judging_further : (at < nxt) × (nxt ≤ length text) × (at < length text)
    judging_further = (met_token text at J.inside tok from nxt e).further

    pub judging_refused : token_moves s tok ≡ Do.Refuse → Err from ≡ scanned_of text
    judging_refused q = goes Do.Refuse q

    pub judging_on : {u : State} → token_moves s tok ≡ Do.On u → Judging text nxt u m t
    judging_on {u} q =
        let h = judging_further in
        record {
          inside = h.1;
          few = (omega (arith, J.few.0, h.0), omega (arith, J.few.1, h.0));
          n = J.n;
          same = sym (judged_further from (starts_from text nxt) (length text) _ _ (found_from text nxt u J.n).stop) ∙ goes (Do.On u) q;
        }

    pub judging_row : {k a c : ℕ} → token_moves s tok ≡ Do.Row k a c → Judging text nxt Close (m + 1) t
    judging_row {k} {a} {c} q =
        let h = judging_further in
        let o = found_from text nxt Close (suc J.n) in
        let z : m + 1 + length o.rows ≡ m + suc (length o.rows) = omega arith in
        record {
          inside = h.1;
          few = (omega (arith, J.few.0, h.0), omega (arith, J.few.1, h.0));
          n = suc J.n;
          same = rw z (sym (judged_further from (starts_from text nxt) (length text) _ _ o.stop) ∙ goes (Do.Row k a c) q);
        }

    pub judging_thread : token_moves s tok ≡ Do.Thread → Judging text nxt Parting m (t + 1)
    judging_thread q =
        let h = judging_further in
        let o = found_from text nxt Parting 0 in
        let z : t + 1 + length o.lengths ≡ t + suc (length o.lengths) = omega arith in
        record {
          inside = h.1;
          few = (omega (arith, J.few.0, h.0), omega (arith, J.few.1, h.0));
          n = 0;
          same = rw z (sym (judged_further from (starts_from text nxt) (length text) _ _ o.stop) ∙ goes Do.Thread q);
        }

-- the writing pass: i numbers and j lengths are written, and the thread has n rows so far
pub record Writing (text was was' now now' : List ℕ) (at : ℕ) (s : State) (i j n : ℕ) : Type 0 where
  pub inside : at ≤ length text
  pub rows : Filling (row_numbers text) (flat (found_from text at s n).rows) was now i
  pub lens : Filling (thread_lengths text) (found_from text at s n).lengths was' now' j
  pub few : (n * 3 ≤ i) × (length (row_numbers text) ≤ most_rows * 3)

pub flat_long : (rs : List Row) → length (flat rs) ≡ length rs * 3
unfolding flat
flat_long [] = refl
flat_long (r ∷ rs) = omega (arith, flat_long rs)

pub writing_start : {text was was' : List ℕ} → Rooms text was was' → Writing text was was' was was' 0 Word 0 0 0
writing_start {text} R =
    record {
      inside = omega arith;
      rows = filling_none _ _ R.rows;
      lens = filling_none _ _ R.lens;
      few = (omega arith, omega (arith, R.few_rows, flat_long (read_of text).rows));
    }

module _ {text was was' now now' : List ℕ} {at : ℕ} {s : State} {i j n : ℕ} (W : Writing text was was' now now' at s i j n) where
  -- where nothing more is found, both tables are written
  done : (found_from text at s n).rows ≡ [] → (found_from text at s n).lengths ≡ [] → (now ≡ over (row_numbers text) was) × (now' ≡ over (thread_lengths text) was')
  unfolding flat
  done p q = (filling_done W.rows (ap flat p), filling_done W.lens q)

  pub writing_end : {from : ℕ} → token_at text at ≡ M.End from → (now ≡ over (row_numbers text) was) × (now' ≡ over (thread_lengths text) was')
  writing_end {from} e =
      let q = found_end text at W.inside (met_end text at W.inside from e) s n in
      done (ap (λ (o : Outcome). o.rows) q) (ap (λ (o : Outcome). o.lengths) q)

  module _ {tok : Token} {from nxt : ℕ} (e : token_at text at ≡ M.Token tok from nxt) where
    goes_to : (v : TokenMove) → token_moves s tok ≡ v → found_from text at s n ≡ found_after (move v) n (found_from text nxt)
    goes_to v q = found_token text at W.inside (met_token text at W.inside tok from nxt e) s n v q

    pub writing_further : (at < nxt) × (nxt ≤ length text) × (at < length text)
    writing_further = (met_token text at W.inside tok from nxt e).further

    pub writing_refused : token_moves s tok ≡ Do.Refuse → (now ≡ over (row_numbers text) was) × (now' ≡ over (thread_lengths text) was')
    writing_refused q = let g = goes_to Do.Refuse q in done (ap (λ (o : Outcome). o.rows) g) (ap (λ (o : Outcome). o.lengths) g)

    pub writing_on : {u : State} → token_moves s tok ≡ Do.On u → Writing text was was' now now' nxt u i j n
    writing_on {u} q =
        let g = goes_to (Do.On u) q in
        record {
          inside = writing_further.1;
          rows = filling_left _ (ap (λ (o : Outcome). flat o.rows) g) W.rows;
          lens = filling_left _ (ap (λ (o : Outcome). o.lengths) g) W.lens;
          few = W.few;
        }

    module _ {k a c : ℕ} (q : token_moves s tok ≡ Do.Row k a c) where
      abbrev after : List ℕ
      after = flat (found_from text nxt Close (suc n)).rows

      row_left : Filling (row_numbers text) (k ∷ a ∷ c ∷ after) was now i
      unfolding flat
      row_left = filling_left _ (ap (λ (o : Outcome). flat o.rows) (goes_to (Do.Row k a c) q)) W.rows

      -- the row has its room, and the thread's count does not overflow
      pub writing_room : (i + 3 ≤ length now) × (n + 1 ≤ most_rows)
      writing_room =
          let f : i + 3 ≤ length (row_numbers text) = omega (arith, filling_count row_left) in
          (omega (arith, filling_room row_left, filling_long row_left), omega (arith, f, W.few.0, W.few.1))

      pub writing_row : Writing text was was' (set (set (set now i k) (i + 1) a) (i + 2) c) now' nxt Close (i + 3) j (n + 1)
      writing_row =
          rw (add-one n)
          (record {
            inside = writing_further.1;
            rows = filling_three k a c row_left;
            lens = filling_left _ (ap (λ (o : Outcome). o.lengths) (goes_to (Do.Row k a c) q)) W.lens;
            few = (omega (arith, W.few.0), W.few.1);
          })

    module _ (q : token_moves s tok ≡ Do.Thread) where
      thread_left : Filling (thread_lengths text) (n ∷ (found_from text nxt Parting 0).lengths) was' now' j
      thread_left = filling_left _ (ap (λ (o : Outcome). o.lengths) (goes_to Do.Thread q)) W.lens

      pub writing_place : j < length now'
      writing_place =
          let f : j + 1 ≤ length (thread_lengths text) = omega (arith, filling_count thread_left) in
          omega (arith, filling_room thread_left, filling_long thread_left)

      pub writing_thread : Writing text was was' now (set now' j n) nxt Parting i (j + 1) 0
      writing_thread =
          record {
            inside = writing_further.1;
            rows = filling_left _ (ap (λ (o : Outcome). flat o.rows) (goes_to Do.Thread q)) W.rows;
            lens = filling_more n thread_left;
            few = (omega arith, W.few.1);
          }
