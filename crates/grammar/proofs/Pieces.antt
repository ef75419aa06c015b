-- The token that bytes begin with, test by test: the laws behind `first_token` and `token_at`, and a property of each. Assumes nothing.
use mathlib.Core.Path.{◌≡◌, refl, ap, sym, ◌∙◌}
use mathlib.Core.Bool.{Bool, true, false, cond, ◌&&◌, and-false, true≢false}
use mathlib.Core.List.{List, [], ◌∷◌}
use Rattle.std.specs.Prelude.{Option, Some, None}
use Prim.Native.Nat.{ℕ, ◌+◌, ◌-◌, ◌≤◌, ◌<◌}
use native.Mathlib.Omega.{arith}
use lib.Dec.{eqb}
use lib.ListN.{length, get_or, take, drop, length-take, length-drop, drop_of_length-le}
use lib.Seq.{take_all, drop-drop}
use borrow.Author.Tests.{eq-eqb, ne_eqb, eqb-true}
use Rattle.tables.specs.Rows.{read, write, arrive, sync}
use Rattle.spelling.specs.Bytes.{class_of, is, blank, letter, digit, run, blanks}
use Rattle.spelling.specs.Words.{same_bytes}
use Rattle.spelling.specs.Numbers.{numeral_of, Means}
use Rattle.spelling.specs.declared.bytes.Class.{Class}
use Rattle.spelling.proofs.Classes.{is_other}
use Rattle.spelling.proofs.Runs.{run_pos_at, run_le}
use Rattle.spelling.proofs.Words.{both, alike_same}
use Rattle.spelling.proofs.Numbers.{number_means}
use Rattle.grammar.specs.declared.tokens.Token.{Token}
use Rattle.grammar.specs.declared.tokens.Token.TheVariants.{Access, Signal, Return, Number, Semi, Bars, Misfit}
use Rattle.grammar.specs.declared.tokens.Piece.{Piece}
use Rattle.grammar.specs.declared.tokens.Met.TheVariants as M
use Rattle.grammar.specs.Spelling.{read_word, write_word, arrive_word, sync_word, return_word}
use Rattle.grammar.specs.Tokens.{word_of, numeral, number_of, sized, mark_of, piece_of, size_of, token_at}

module _ (s : List ℕ) where
  -- k is the class of the first byte
  module _ (k : Class) (c : k ≡ class_of (get_or s 0 0)) where
    pub word_piece : k ≡ letter → (n : ℕ) → n ≡ run (is k) s → (t : Token) → t ≡ word_of (take n s) → sized t n ≡ piece_of s
    unfolding piece_of
    word_piece l n r t e = rw (← c, l, e, r, l)

    pub number_piece : k ≡ digit → (n : ℕ) → n ≡ run (is k) s → (t : Token) → t ≡ number_of (take n s) → sized t n ≡ piece_of s
    unfolding piece_of
    number_piece l n r t e = rw (← c, l, e, r, l)

    pub mark_piece : (k ≡ letter → ⊥) → (k ≡ digit → ⊥) → mark_of s ≡ piece_of s
    unfolding piece_of
    mark_piece n m = rw (is_other k letter (get_or s 0 0) c n, is_other k digit (get_or s 0 0) c m)

-- a property of a word's token holds of every one, once it holds of each word and of a misfit; so for numbers and pieces
by_test : {A : Type 0} (P : A → Type 0) (t : Bool) {x y : A} → (t ≡ true → P x) → (t ≡ false → P y) → P (cond t x y)
by_test P true f g = f refl
by_test P false f g = g refl

pub by_word : (P : Token → Type 0) (w : List ℕ) → (w ≡ read_word → P (Access read)) → (w ≡ write_word → P (Access write)) → (w ≡ arrive_word → P (Signal arrive))
    → (w ≡ sync_word → P (Signal sync)) → (w ≡ return_word → P Return) → P Misfit → P (word_of w)
unfolding word_of
by_word P w a b c d e m =
    by_test P (same_bytes w read_word) (λ h. a (alike_same w read_word h)) (λ h. by_test P (same_bytes w write_word) (λ h. b (alike_same w write_word h))
    (λ h. by_test P (same_bytes w arrive_word) (λ h. c (alike_same w arrive_word h)) (λ h. by_test P (same_bytes w sync_word) (λ h. d (alike_same w sync_word h))
    (λ h. by_test P (same_bytes w return_word) (λ h. e (alike_same w return_word h)) (λ h. m)))))

pub by_number : (P : Token → Type 0) (w : List ℕ) → ((n : ℕ) → Means w n → P (Number n)) → P Misfit → P (number_of w)
by_number P w f m = by_numeral (numeral_of w) refl
  where
    by_numeral : (x : Option ℕ) → numeral_of w ≡ x → P (numeral x)
    by_numeral (Some n) e = f n (number_means w n e)
    by_numeral None e = m

pub by_piece : (P : Piece → Type 0) (s : List ℕ)
    → (is letter (get_or s 0 0) ≡ true → P (sized (word_of (take (run (is letter) s) s)) (run (is letter) s)))
    → (is digit (get_or s 0 0) ≡ true → P (sized (number_of (take (run (is digit) s) s)) (run (is digit) s)))
    → (take 1 s ≡ 59 ∷ [] → P (sized Semi 1)) → (take 2 s ≡ 124 ∷ 124 ∷ [] → P (sized Bars 2)) → P (sized Misfit 1) → P (piece_of s)
unfolding piece_of mark_of
by_piece P s w n c b m =
    by_test P (is letter (get_or s 0 0)) w (λ e. by_test P (is digit (get_or s 0 0)) n (λ e. by_test P (eqb (get_or s 0 0) 59) (λ e. c (semi s e))
    (λ e. by_test P (eqb (get_or s 0 0) 124 && eqb (get_or s 1 0) 124) (λ e. b (bars s e)) (λ e. m))))
  where
    semi : (s : List ℕ) → eqb (get_or s 0 0) 59 ≡ true → take 1 s ≡ 59 ∷ []
    semi [] e = absurd (true≢false (sym e))
    semi (x ∷ s) e = let h : x ≡ 59 = eqb-true x 59 e in cc

    bars : (s : List ℕ) → (eqb (get_or s 0 0) 124 && eqb (get_or s 1 0) 124) ≡ true → take 2 s ≡ 124 ∷ 124 ∷ []
    bars [] e = absurd (true≢false (sym e))
    bars (x ∷ []) e = absurd (true≢false (sym e ∙ and-false (eqb x 124)))
    bars (x ∷ y ∷ s) e =
        let h = both (eqb x 124) (eqb y 124) e in
        let p : x ≡ 124 = eqb-true x 124 h.0 in
        let q : y ≡ 124 = eqb-true y 124 h.1 in
        cc

module _ (s : List ℕ) (h : 0 < length s) where
  pub pos : 0 < size_of s
  pos =
      by_piece (λ p. 0 < p.size) s (run_pos_at (is letter) s h) (run_pos_at (is digit) s h) (λ e. omega arith) (λ e. omega arith) (omega arith)

  pub most : size_of s ≤ length s
  most =
      by_piece (λ p. p.size ≤ length s) s (λ e. run_le (is letter) s) (λ e. run_le (is digit) s) (λ e. omega arith)
      (λ e. omega (arith, length-take 2 s, ap length e)) (omega arith)

-- a slice from a place on
pub slice_from : (l : List ℕ) (p : ℕ) → take (length l - p) (drop p l) ≡ drop p l
slice_from l p = take_all (length l - p) (drop p l) (omega (arith, length-drop p l))

-- past the text stands its end
pub end_past : (text : List ℕ) (at : ℕ) → length text < at → M.End at ≡ token_at text at
unfolding token_at run
end_past text at h = let z : at + 0 ≡ at = omega arith in rw (drop_of_length-le text {i = at} (omega (arith, h)), z)

-- n blanks stand at a place
module _ (text : List ℕ) (at n : ℕ) (h : at ≤ length text) (r : n ≡ blanks (take (length text - at) (drop at text))) where
  abbrev bytes : List ℕ
  bytes = drop (at + n) text

  counts : blanks (drop at text) ≡ n
  counts = sym (r ∙ ap blanks (slice_from text at))

  pub from_most : at + n ≤ length text
  from_most = omega (arith, counts, run_le (is blank) (drop at text), length-drop at text)

  after : drop (blanks (drop at text)) (drop at text) ≡ bytes
  after = drop-drop (blanks (drop at text)) at text ∙ rw counts

  pub end_at : at + n ≡ length text → M.End (at + n) ≡ token_at text at
  unfolding token_at
  end_at e = rw (after, counts, eq-eqb (length bytes) 0 (omega (arith, length-drop (at + n) text)))

  module _ (e : at + n ≡ length text → ⊥) where
    some_left : 0 < length bytes
    some_left = omega (arith, length-drop (at + n) text, from_most, e)

    pub some_from : 0 < length (take (length text - (at + n)) bytes)
    some_from = rw (slice_from text (at + n)) some_left

    module _ (p : Piece) (q : p ≡ piece_of (take (length text - (at + n)) bytes)) where
      is_piece : p ≡ piece_of bytes
      is_piece = q ∙ rw (slice_from text (at + n))

      pub token_most : at + n + p.size ≤ length text
      token_most = omega (arith, ap (λ (x : Piece). x.size) is_piece, most bytes some_left, length-drop (at + n) text, from_most)

      pub token_met : M.Token p.token (at + n) (at + n + p.size) ≡ token_at text at
      unfolding token_at
      token_met = rw (after, counts, ne_eqb (length bytes) 0 (λ z. omega (arith, some_left)), is_piece)
