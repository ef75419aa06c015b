-- What the shared theory asks of the tokens: what bytes begin with is what they spell. Assumes nothing.
use mathlib.Core.Path.{◌≡◌, refl, ap, sym, ◌∙◌}
use mathlib.Core.Logic.{inl, inr, ⊎_elim}
use mathlib.Core.Bool.{true, false}
use mathlib.Core.List.{List, [], ◌∷◌, ◌++◌}
use mathlib.Mathlib.Data.Bool.Basic.{dichotomy}
use Prim.Native.Nat.{ℕ, ◌<◌}
use native.Mathlib.Omega.{arith}
use lib.ListN.{length, get_or, take, drop}
use lib.Seq.{take-append_seam}
use Rattle.tables.specs.Rows.{read, write, arrive, sync}
use Rattle.spelling.specs.declared.bytes.Class.{Class}
use Rattle.spelling.specs.Bytes.{class_of, is, blank, letter, digit, run, blanks}
use Rattle.spelling.specs.Words.{same_bytes}
use Rattle.spelling.specs.Numbers.{Means}
use Rattle.spelling.proofs.Classes.{class_is}
use Rattle.spelling.proofs.Runs.{run_none, run_none_at, run_whole, run_stops}
use Rattle.spelling.proofs.Numbers.{means_number}
use Rattle.grammar.specs.declared.tokens.Token.{Token}
use Rattle.grammar.specs.declared.tokens.Token.TheVariants.{Access, Signal, Return, Number, Semi, Bars, Misfit}
use Rattle.grammar.specs.declared.tokens.Piece.{Piece}
use Rattle.grammar.specs.Spelling.{read_word, write_word, arrive_word, sync_word, return_word, Spelling, extends}
use Rattle.grammar.specs.Tokens.{word_of, numeral, number_of, sized, mark_of, piece_of, token_of, size_of}
use Rattle.grammar.proofs.Pieces.{by_word, by_number, by_piece, word_piece, number_piece}
pub use Rattle.grammar.proofs.Pieces.{pos, most}

-- every token is of the notation but a misfit
abbrev pub Fits : Token → Type 0
Fits (Access k) = Unit {0}
Fits (Signal k) = Unit {0}
Fits Return = Unit {0}
Fits (Number n) = Unit {0}
Fits Semi = Unit {0}
Fits Bars = Unit {0}
Fits Misfit = ⊥

pub blank_ends : (t : Token) → extends t 32 ≡ false
unfolding class_of
blank_ends (Access k) = refl
blank_ends (Signal k) = refl
blank_ends Return = refl
blank_ends (Number n) = refl
blank_ends Semi = refl
blank_ends Bars = refl
blank_ends Misfit = refl

-- a property of bytes and the token that they spell holds of all, once it holds of each word, number and mark
by_spelling : (P : List ℕ → Token → Type 0) → P read_word (Access read) → P write_word (Access write) → P arrive_word (Signal arrive) → P sync_word (Signal sync)
    → P return_word Return → ((w : List ℕ) (n : ℕ) → Means w n → P w (Number n)) → P (59 ∷ []) Semi → P (124 ∷ 124 ∷ []) Bars
    → (w : List ℕ) (t : Token) → Spelling w t → P w t
by_spelling P a b c d e n x y w (Access k) (inl h) = rw (h.0, h.1) a
by_spelling P a b c d e n x y w (Access k) (inr h) = rw (h.0, h.1) b
by_spelling P a b c d e n x y w (Signal k) (inl h) = rw (h.0, h.1) c
by_spelling P a b c d e n x y w (Signal k) (inr h) = rw (h.0, h.1) d
by_spelling P a b c d e n x y w Return h = rw h e
by_spelling P a b c d e n x y w (Number v) h = n w v h
by_spelling P a b c d e n x y w Semi h = rw h x
by_spelling P a b c d e n x y w Bars h = rw h y
by_spelling P a b c d e n x y w Misfit h = absurd h

pub some : (w : List ℕ) (t : Token) → Spelling w t → 0 < length w
some =
    by_spelling (λ w t. 0 < length w) (omega arith) (omega arith) (omega arith) (omega arith) (omega arith) (λ w n m. m.some) (omega arith) (omega arith)

-- bytes of one class throughout begin with a byte of it
first : (k : Class) (w s : List ℕ) → 0 < length w → run (is k) w ≡ length w → k ≡ class_of (get_or (w ++ s) 0 0)
first k [] s h e = absurd (omega arith)
first k (b ∷ w) s h e =
    ⊎_elim (λ (f : is k b ≡ false). absurd (omega (arith, run_none (is k) b w f))) (λ (f : is k b ≡ true). class_is k b f) (dichotomy (is k b))

word_found : (w s : List ℕ) (t : Token) → 0 < length w → run (is letter) w ≡ length w → t ≡ word_of w → run (is letter) s ≡ 0
    → sized t (length w) ≡ piece_of (w ++ s)
word_found w s t h e q z =
    word_piece (w ++ s) letter (first letter w s h e) refl (length w) (sym (run_whole (is letter) w s e z)) t (q ∙ ap word_of (sym (take-append_seam w s)))

number_found : (w s : List ℕ) (n : ℕ) → Means w n → run (is digit) s ≡ 0 → sized (Number n) (length w) ≡ piece_of (w ++ s)
number_found w s n m z =
    number_piece (w ++ s) digit (first digit w s m.some m.digits) refl (length w) (sym (run_whole (is digit) w s m.digits z)) (Number n)
    (ap numeral (sym (means_number w n m)) ∙ ap number_of (sym (take-append_seam w s)))

pub tight : (w s : List ℕ) (t : Token) → Spelling w t → blanks (w ++ s) ≡ 0
unfolding run class_of
tight w s =
    by_spelling (λ w t. blanks (w ++ s) ≡ 0) refl refl refl refl refl
    (λ w n m. run_none_at (is blank) (w ++ s) (rw (← first digit w s m.some m.digits))) refl refl w

found : (w s : List ℕ) (t : Token) → Spelling w t → run (extends t) s ≡ 0 → sized t (length w) ≡ piece_of (w ++ s)
unfolding run class_of word_of same_bytes piece_of mark_of
found w s =
    by_spelling (λ w t. run (extends t) s ≡ 0 → sized t (length w) ≡ piece_of (w ++ s))
    (word_found read_word s (Access read) (omega arith) refl refl) (word_found write_word s (Access write) (omega arith) refl refl)
    (word_found arrive_word s (Signal arrive) (omega arith) refl refl) (word_found sync_word s (Signal sync) (omega arith) refl refl)
    (word_found return_word s Return (omega arith) refl refl) (λ w n. number_found w s n) (λ z. refl) (λ z. refl) w

pub token_found : (w s : List ℕ) (t : Token) → Spelling w t → run (extends t) s ≡ 0 → token_of (w ++ s) ≡ t
token_found w s t h z = ap (λ (p : Piece). p.token) (sym (found w s t h z))

pub size_found : (w s : List ℕ) (t : Token) → Spelling w t → run (extends t) s ≡ 0 → size_of (w ++ s) ≡ length w
size_found w s t h z = ap (λ (p : Piece). p.size) (sym (found w s t h z))

-- the bytes that the token takes spell it, and those behind them do not extend it
abbrev Spelt : List ℕ → List ℕ → Token → Type 0
Spelt w r t = Fits t → Spelling w t × (run (extends t) r ≡ 0)

word_spelt : (w r : List ℕ) → run (is letter) r ≡ 0 → Spelt w r (word_of w)
word_spelt w r z =
    by_word (Spelt w r) w (λ e f. (inl (refl, e), z)) (λ e f. (inr (refl, e), z)) (λ e f. (inl (refl, e), z)) (λ e f. (inr (refl, e), z))
    (λ e f. (e, z)) (λ f. absurd f)

number_spelt : (w r : List ℕ) → run (is digit) r ≡ 0 → Spelt w r (number_of w)
number_spelt w r z = by_number (Spelt w r) w (λ n m f. (m, z)) (λ f. absurd f)

spots : (s : List ℕ) → Spelt (take (size_of s) s) (drop (size_of s) s) (token_of s)
spots s =
    by_piece (λ p. Spelt (take p.size s) (drop p.size s) p.token) s (λ e. word_spelt _ _ (run_stops (is letter) s))
    (λ e. number_spelt _ _ (run_stops (is digit) s))
    (λ e f. (e, run_none_at (λ b. false) (drop 1 s) refl)) (λ e f. (e, run_none_at (λ b. false) (drop 2 s) refl)) (λ f. absurd f)

module _ (s : List ℕ) (h : 0 < length s) (f : Fits (token_of s)) where
  pub spelt : Spelling (take (size_of s) s) (token_of s)
  spelt = (spots s f).0

  pub apart : run (extends (token_of s)) (drop (size_of s) s) ≡ 0
  apart = (spots s f).1
