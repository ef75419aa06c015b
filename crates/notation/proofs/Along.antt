-- What is found from a place of a text on, token by token: the laws behind the two passes. Assumes nothing.
use mathlib.Core.Path.{◌≡◌, refl, sym, ◌∙◌}
use mathlib.Core.Bool.{Bool, true, false, cond, true≢false}
use mathlib.Core.List.{List, [], ◌∷◌}
use mathlib.Core.Option.{Option, none, some}
use Prim.Native.Nat.{ℕ, ◌+◌, ◌≤◌, ◌<◌}
use native.Mathlib.Omega.{arith}
use lib.Dec.{eqb}
use lib.ListN.{length, drop}
use borrow.Author.Tests.{eqb-true, eqb-false}
use Rattle.spelling.specs.Bytes.{blanks, skip}
use Rattle.spelling.specs.Tokens as T
use Rattle.spelling.specs.Machine.{Outcome, outcome, further, found_after, found}
use Rattle.spelling.proofs.Cuts.{tokens_end, tokens_next, starts_end, starts_next, end_place, next_place}
use Rattle.grammar.specs.declared.tokens.Token.{Token}
use Rattle.grammar.specs.declared.tokens.Met.TheVariants as M
use Rattle.grammar.specs.declared.automaton.State.{State}
use Rattle.grammar.specs.declared.automaton.TokenMove.{TokenMove}
use Rattle.grammar.specs.Tokens.{token_of, size_of, token_at}
use Rattle.grammar.specs.Automaton.{token_moves, may_end, move, next_move}
use Rattle.notation.specs.Reading.{scanned_by}
use Rattle.grammar.proofs.Lexes.{pos, most}

-- which of the two stands after the blanks
end_by : (s : List ℕ) (p from : ℕ) (b : Bool) → eqb (length s) 0 ≡ b → cond b (M.End p) (M.Token (token_of s) p (p + size_of s)) ≡ M.End from
    → (length s ≡ 0) × (p ≡ from)
end_by s p from true e q = (eqb-true (length s) 0 e, cc)
end_by s p from false e q = absurd (true≢false cc)

token_by : (s : List ℕ) (p : ℕ) (t : Token) (from nxt : ℕ) (b : Bool) → eqb (length s) 0 ≡ b
    → cond b (M.End p) (M.Token (token_of s) p (p + size_of s)) ≡ M.Token t from nxt
    → (0 < length s) × (token_of s ≡ t) × (p ≡ from) × (p + size_of s ≡ nxt)
token_by s p t from nxt true e q = absurd (true≢false cc)
token_by s p t from nxt false e q = let n = eqb-false (length s) 0 e in (omega (arith, n), cc, cc, cc)

module _ (text : List ℕ) where
  -- the tokens from a place on, their places, and what is found in them from a state, with n rows of the thread so far
  abbrev tokens_from : ℕ → List Token
  tokens_from at = T.tokens size_of token_of (drop at text)

  abbrev pub starts_from : ℕ → List ℕ
  starts_from at = T.starts size_of (drop at text) at

  abbrev pub found_from : ℕ → State → ℕ → Outcome
  found_from at s n = found next_move may_end (tokens_from at) s n

  module _ (at : ℕ) (l : at ≤ length text) where
    abbrev s : List ℕ
    s = drop at text

    -- the end stands there
    pub record EndsAt (from : ℕ) : Type 0 where
      pub tokens : tokens_from at ≡ []
      pub starts : starts_from at ≡ []
      pub place : from ≡ length text

    pub met_end : (from : ℕ) → token_at text at ≡ M.End from → EndsAt from
    unfolding token_at
    met_end from e =
        let h = end_by (skip s) (at + blanks s) from (eqb (length (skip s)) 0) refl e in
        record {
          tokens = tokens_end size_of pos most token_of s h.0;
          starts = starts_end size_of pos most s at h.0;
          place = sym h.1 ∙ end_place size_of pos most text at l h.0;
        }

    -- a token stands there
    pub record Meets (t : Token) (from nxt : ℕ) : Type 0 where
      pub tokens : tokens_from at ≡ t ∷ tokens_from nxt
      pub starts : starts_from at ≡ from ∷ starts_from nxt
      pub further : (at < nxt) × (nxt ≤ length text) × (at < length text)

    pub met_token : (t : Token) (from nxt : ℕ) → token_at text at ≡ M.Token t from nxt → Meets t from nxt
    unfolding token_at
    met_token t from nxt e =
        let h = token_by (skip s) (at + blanks s) t from nxt (eqb (length (skip s)) 0) refl e in
        record {
          tokens = rw (h.1, h.3) at (tokens_next size_of pos most text at token_of h.0);
          starts = rw (h.3, h.2) at (starts_next size_of pos most text at h.0);
          further = rw h.3 at (next_place size_of pos most text at l h.0);
        }

    -- what is found there
    pub found_end : {from : ℕ} → EndsAt from → (st : State) (n : ℕ) → found_from at st n ≡ outcome [] [] (cond (may_end st) none (some 0))
    unfolding found
    found_end E st n = rw E.tokens

    pub found_token : {t : Token} {from nxt : ℕ} → Meets t from nxt → (st : State) (n : ℕ) (m : TokenMove) → token_moves st t ≡ m
        → found_from at st n ≡ found_after (move m) n (found_from nxt)
    unfolding found
    found_token X st n m e = rw (X.tokens, e)

-- a judgement is not changed by a token before
pub judged_further : (p : ℕ) (ps : List ℕ) (e m t : ℕ) (o : Option ℕ) → scanned_by (p ∷ ps) e m t (further o) ≡ scanned_by ps e m t o
judged_further p ps e m t none = refl
judged_further p ps e m t (some i) = refl
