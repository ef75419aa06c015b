-- Bytes and the tokens they spell: a text spells its tokens, if they fit, and no others. Assumes nothing.
use mathlib.Core.Path.{◌≡◌, refl, sym, ap, ◌∙◌}
use mathlib.Core.Logic.{by_cases}
use mathlib.Core.Bool.{Bool}
use mathlib.Core.List.{List, [], ◌∷◌, ◌++◌, append_assoc, append-nil}
use Prim.Native.Nat.{ℕ, zero, suc, ◌+◌, ◌<◌}
use native.Mathlib.Nat.{zero-add}
use native.Mathlib.Decide.{dec_lt}
use native.Mathlib.Omega.{arith}
use lib.ListN.{length, get_or, take, length-append, get_or-eq_default}
use lib.Seq.{drop-append_seam, take-add, take-length, take-nil}
use Rattle.spelling.specs.Bytes.{class_of, is, blank, run, blanks, skip}
use Rattle.spelling.specs.Tokens.{after_first, starts, tokens}
use Rattle.spelling.specs.Spells.{Spells, none, gap, token as one}
use Rattle.spelling.proofs.Runs.{run_cases, run_take, run_behind}
use Rattle.spelling.proofs.Laws.{Each, Lexer}
use Rattle.spelling.proofs.Cuts.{length_skip, length_later, starts_end, starts_on, tokens_end, tokens_on, tokens_skip, starts_tokens}

module _ {T : Type 0} {size : List ℕ → ℕ} {token : List ℕ → T} {Spelling : List ℕ → T → Type 0} {extends : T → ℕ → Bool} {Fits : T → Type 0}
    (L : Lexer size token Spelling extends Fits) where
  abbrev Spelt : List ℕ → List T → Type 0
  Spelt = Spells Spelling extends

  abbrev toks : List ℕ → List T
  toks s = tokens size token s

  -- two spellings with a blank between
  pub joined : {w c : List ℕ} {ts us : List T} → Spells Spelling extends w ts → Spells Spelling extends c us
      → Spells Spelling extends (w ++ (32 ∷ c)) (ts ++ us)
  unfolding class_of
  joined none q = gap 32 refl q
  joined (gap b e x) q = gap b e (joined x q)
  joined {c} (one text v s t y a e x) q =
      one (text ++ (32 ∷ c)) v (s ++ (32 ∷ c)) t y (run_behind (extends t) s c a (L.blank_ends t))
      (ap (λ (l : List ℕ). l ++ (32 ∷ c)) e ∙ append_assoc v s (32 ∷ c)) (joined x q)

  -- blanks before what is spelt, and blanks alone
  blanks_spelt : (s v : List ℕ) (ts : List T) → Spelt v ts → Spelt (take (blanks s) s ++ v) ts
  unfolding run
  blanks_spelt [] v ts x = x
  blanks_spelt (b ∷ s) v ts x =
      run_cases (is blank) b s (λ n. Spelt (take n (b ∷ s) ++ v) ts) (λ e. gap b e (blanks_spelt s v ts x)) (λ e. x)

  blanks_alone : (s : List ℕ) → Spelt (take (blanks s) s) []
  blanks_alone s = rw append-nil at (blanks_spelt s [] [] none)

  -- a token is found where it is spelt, and then what follows it
  tokens_first : (w s : List ℕ) (t : T) → Spelling w t → run (extends t) s ≡ 0 → toks (w ++ s) ≡ t ∷ toks s
  tokens_first w s t y a =
      let h : 0 < length (skip (w ++ s)) = rw (L.tight w s t y) (omega (arith, length-append w s, L.some w t y)) in
      tokens_on size L.pos L.most token (w ++ s) h
      ∙ rw (L.tight w s t y, L.token_found w s t y a, L.size_found w s t y a, drop-append_seam w s)

  pub spelt_tokens : {text : List ℕ} {ts : List T} → Spells Spelling extends text ts → tokens size token text ≡ ts
  unfolding run
  spelt_tokens none = tokens_end size L.pos L.most token [] refl
  spelt_tokens (gap {s} b e x) = tokens_skip size L.pos L.most token (b ∷ s) s (rw e) ∙ spelt_tokens x
  spelt_tokens (one text w s t y a e x) = ap toks e ∙ tokens_first w s t y a ∙ ap (λ (l : List T). t ∷ l) (spelt_tokens x)

  -- the bytes before a token spell the tokens before it, for bytes that stand at place q
  abbrev Before : ℕ → List ℕ → ℕ → Type 0
  Before i s q = (k : ℕ) × (get_or (starts size s q) i (q + length s) ≡ q + k) × Spelt (take k s) (take i (toks s))

  module _ (s : List ℕ) (q : ℕ) where
    abbrev u : List ℕ
    u = skip s

    before_end : (i : ℕ) → ¬ (0 < length u) → Before i s q
    before_end i n =
        rw (starts_end size L.pos L.most s q (omega arith), tokens_end size L.pos L.most token s (omega arith), take-nil i)
        (blanks s, omega (arith, length_skip s), blanks_alone s)

    module _ (h : 0 < length u) where
      before_first : Before zero s q
      before_first = rw (starts_on size L.pos L.most s q h) (blanks s, refl, blanks_alone s)

      before_next : (j : ℕ) → Fits (token u) → Before j (after_first size s) (q + blanks s + size u) → Before (suc j) s q
      before_next j f (k, place, x) =
          let e : q + length s ≡ q + blanks s + size u + length (after_first size s) = omega (arith, length_later size L.pos L.most s h) in
          let y : Spelt (take (size u) u ++ take k (after_first size s)) (token u ∷ take j (toks (after_first size s))) =
          one _ _ _ (token u) (L.spelt u h f) (run_take (extends (token u)) k (after_first size s) (L.apart u h f)) refl x in
          rw (starts_on size L.pos L.most s q h, tokens_on size L.pos L.most token s h, e)
          (blanks s + (size u + k), omega arith, rw (take-add (blanks s) (size u + k) s, take-add (size u) k u) (blanks_spelt s _ _ y))

  before : (i : ℕ) (s : List ℕ) (q : ℕ) → Each Fits (take i (toks s)) → Before i s q
  before zero s q f = by_cases (dec_lt 0 (length (skip s))) (before_first s q) (before_end s q zero)
  before (suc j) s q f =
      by_cases (dec_lt 0 (length (skip s)))
      (λ (h : 0 < length (skip s)).
      let g : Each Fits (token (skip s) ∷ take j (toks (after_first size s))) = rw (tokens_on size L.pos L.most token s h) at f in
      before_next s q h j g.0 (before j (after_first size s) _ g.1))
      (before_end s q (suc j))

  pub prefix : (text : List ℕ) (i : ℕ) → Each Fits (take i (tokens size token text))
      → Spells Spelling extends (take (get_or (starts size text 0) i (length text)) text) (take i (tokens size token text))
  prefix text i f =
      let b = before i text 0 f in
      let e : get_or (starts size text 0) i (length text) ≡ b.0 = ap (get_or (starts size text 0) i) (sym (zero-add (length text))) ∙ b.1 ∙ zero-add b.0 in
      rw e b.2

  pub tokens_spelt : (text : List ℕ) → Each Fits (tokens size token text) → Spells Spelling extends text (tokens size token text)
  tokens_spelt text f =
      let n = length (toks text) in
      let e : get_or (starts size text 0) n (length text) ≡ length text =
      get_or-eq_default (starts size text 0) (length text) (omega (arith, starts_tokens size L.pos L.most token text 0)) in
      rw (e, take-length text, take-length (toks text)) at (prefix text n (rw (take-length (toks text)) f))
