-- The tokens of a text one after another: where each begins, and that the fuel never runs out. Assumes nothing.
use mathlib.Core.Path.{◌≡◌, refl, sym, ap, ◌∙◌}
use mathlib.Core.Logic.{by_cases}
use mathlib.Core.Bool.{Bool, true, false, cond}
use mathlib.Core.List.{List, [], ◌∷◌, map}
use Prim.Native.Nat.{ℕ, zero, suc, ◌+◌, ◌≤◌, ◌<◌}
use native.Mathlib.Decide.{dec_lt}
use native.Mathlib.Omega.{arith}
use lib.Dec.{eqb}
use lib.ListN.{length, get_or, drop, length-drop, length-map}
use lib.Seq.{drop-drop}
use borrow.Author.Tests.{eq-eqb, ne_eqb, eqb-false}
use Rattle.spelling.specs.Bytes.{is, blank, blanks, skip}
use Rattle.spelling.specs.Tokens.{Spot, spot, after_first, spots_n, spots, starts, tokens}
use Rattle.spelling.proofs.Runs.{run_le}

same_rest : {A B : Type 0} (g : A → B) (b : Bool) (z x y : A) → (b ≡ false → g x ≡ g y) → g (cond b z x) ≡ g (cond b z y)
same_rest g true z x y f = refl
same_rest g false z x y f = f refl

pub length_skip : (s : List ℕ) → blanks s + length (skip s) ≡ length s
length_skip s = omega (arith, length-drop (blanks s) s, run_le (is blank) s)

module _ (size : List ℕ → ℕ) (pos : (s : List ℕ) → 0 < length s → 0 < size s) (most : (s : List ℕ) → 0 < length s → size s ≤ length s) where
  -- how much a token leaves
  pub length_later : (s : List ℕ) → 0 < length (skip s) → blanks s + size (skip s) + length (after_first size s) ≡ length s
  length_later s h = omega (arith, length_skip s, length-drop (size (skip s)) (skip s), most (skip s) h)

  shorter : (s : List ℕ) → eqb (length (skip s)) 0 ≡ false → length (after_first size s) < length s
  shorter s e =
      let h : 0 < length (skip s) = omega (arith, eqb-false (length (skip s)) 0 e) in
      omega (arith, length_later s h, pos (skip s) h)

  cuts_empty : (n : ℕ) (s : List ℕ) (p : ℕ) → length s ≤ 0 → spots_n size n s p ≡ []
  unfolding spots_n
  cuts_empty zero s p h = refl
  cuts_empty (suc n) s p h = rw (eq-eqb (length (skip s)) 0 (omega (arith, length_skip s)))

  -- fuel for the later tokens is all that counts
  fuel_step : (n m : ℕ) (s : List ℕ) (p : ℕ)
      → (eqb (length (skip s)) 0 ≡ false
      → spots_n size n (after_first size s) (p + blanks s + size (skip s)) ≡ spots_n size m (after_first size s) (p + blanks s + size (skip s)))
      → spots_n size (suc n) s p ≡ spots_n size (suc m) s p
  unfolding spots_n
  fuel_step n m s p f =
      same_rest (λ (l : List Spot). l) (eqb (length (skip s)) 0) [] _ _ (λ e. ap (λ (l : List Spot). spot (p + blanks s) (skip s) ∷ l) (f e))

  cuts_fuel : (n m : ℕ) (s : List ℕ) (p : ℕ) → length s ≤ n → length s ≤ m → spots_n size n s p ≡ spots_n size m s p
  cuts_fuel zero m s p h g = cuts_empty zero s p h ∙ sym (cuts_empty m s p h)
  cuts_fuel (suc n) zero s p h g = cuts_empty (suc n) s p g ∙ sym (cuts_empty zero s p g)
  cuts_fuel (suc n) (suc m) s p h g =
      fuel_step n m s p (λ e. cuts_fuel n m (after_first size s) _ (omega (arith, shorter s e)) (omega (arith, shorter s e)))

  -- the first token and the others, or none
  cuts_step : (s : List ℕ) (p : ℕ) → spots size s p ≡ spots_n size (suc (length (after_first size s))) s p
  cuts_step s p =
      cuts_fuel (length s) (suc (length s)) s p (omega arith) (omega arith)
      ∙ fuel_step (length s) (length (after_first size s)) s p
      (λ e. cuts_fuel (length s) (length (after_first size s)) (after_first size s) _ (omega (arith, shorter s e)) (omega arith))

  cuts_end : (s : List ℕ) (p : ℕ) → length (skip s) ≡ 0 → spots size s p ≡ []
  unfolding spots_n
  cuts_end s p e = cuts_step s p ∙ rw (eq-eqb (length (skip s)) 0 e)

  cuts_on : (s : List ℕ) (p : ℕ) → 0 < length (skip s)
      → spots size s p ≡ spot (p + blanks s) (skip s) ∷ spots size (after_first size s) (p + blanks s + size (skip s))
  unfolding spots_n
  cuts_on s p h = cuts_step s p ∙ rw (ne_eqb (length (skip s)) 0 (λ e. omega arith))

  pub starts_end : (s : List ℕ) (p : ℕ) → length (skip s) ≡ 0 → starts size s p ≡ []
  starts_end s p e = ap (map (λ (c : Spot). c.place)) (cuts_end s p e)

  pub starts_on : (s : List ℕ) (p : ℕ) → 0 < length (skip s)
      → starts size s p ≡ (p + blanks s) ∷ starts size (after_first size s) (p + blanks s + size (skip s))
  starts_on s p h = ap (map (λ (c : Spot). c.place)) (cuts_on s p h)

  -- no token begins past the end
  start_none : (i : ℕ) (s : List ℕ) (p : ℕ) → ¬ (0 < length (skip s)) → get_or (starts size s p) i (p + length s) ≤ p + length s
  start_none i s p n = rw (starts_end s p (omega arith)) (omega arith)

  pub start_inside : (i : ℕ) (s : List ℕ) (p : ℕ) → get_or (starts size s p) i (p + length s) ≤ p + length s
  start_inside zero s p =
      by_cases (dec_lt 0 (length (skip s))) (λ (h : 0 < length (skip s)). rw (starts_on s p h) (omega (arith, length_skip s))) (start_none zero s p)
  start_inside (suc i) s p =
      by_cases (dec_lt 0 (length (skip s)))
      (λ (h : 0 < length (skip s)).
      let e : p + length s ≡ p + blanks s + size (skip s) + length (after_first size s) = omega (arith, length_later s h) in
      rw (starts_on s p h, e) (start_inside i (after_first size s) (p + blanks s + size (skip s))))
      (start_none (suc i) s p)

  module _ {T : Type 0} (token : List ℕ → T) where
    abbrev tok : Spot → T
    tok c = token c.bytes

    -- the tokens do not depend on the place
    anywhere : (n : ℕ) (s : List ℕ) (p q : ℕ) → map tok (spots_n size n s p) ≡ map tok (spots_n size n s q)
    unfolding spots_n
    anywhere zero s p q = refl
    anywhere (suc n) s p q =
        same_rest (map tok) (eqb (length (skip s)) 0) [] _ _ (λ e. ap (λ (l : List T). token (skip s) ∷ l) (anywhere n (after_first size s) _ _))

    tokens_anywhere : (s : List ℕ) (p : ℕ) → map (λ (c : Spot). token c.bytes) (spots size s p) ≡ tokens size token s
    tokens_anywhere s p = anywhere (length s) s p 0

    pub starts_tokens : (s : List ℕ) (p : ℕ) → length (starts size s p) ≡ length (tokens size token s)
    starts_tokens s p =
        length-map (spots size s p) (λ (c : Spot). c.place) ∙ sym (length-map (spots size s p) tok) ∙ ap length (tokens_anywhere s p)

    pub tokens_end : (s : List ℕ) → length (skip s) ≡ 0 → tokens size token s ≡ []
    tokens_end s e = ap (map tok) (cuts_end s 0 e)

    pub tokens_on : (s : List ℕ) → 0 < length (skip s) → tokens size token s ≡ token (skip s) ∷ tokens size token (after_first size s)
    tokens_on s h = ap (map tok) (cuts_on s 0 h) ∙ ap (λ (l : List T). token (skip s) ∷ l) (tokens_anywhere (after_first size s) _)

    -- nor on the blanks before them
    pub tokens_skip : (s r : List ℕ) → skip s ≡ skip r → tokens size token s ≡ tokens size token r
    tokens_skip s r e =
        by_cases (dec_lt 0 (length (skip s)))
        (λ (h : 0 < length (skip s)).
        tokens_on s h ∙ ap (λ (u : List ℕ). token u ∷ tokens size token (drop (size u) u)) e ∙ sym (tokens_on r (rw e at h)))
        (λ (n : ¬ (0 < length (skip s))). tokens_end s (omega arith) ∙ sym (tokens_end r (omega (arith, ap length e))))

  -- along a text, from place at
  module _ (text : List ℕ) (at : ℕ) where
    abbrev rest : List ℕ
    rest = drop at text

    abbrev next : ℕ
    next = at + blanks rest + size (skip rest)

    later_rest : after_first size rest ≡ drop next text
    later_rest = ap (drop (size (skip rest))) (drop-drop (blanks rest) at text) ∙ drop-drop (size (skip rest)) (at + blanks rest) text

    pub end_place : at ≤ length text → length (skip rest) ≡ 0 → at + blanks rest ≡ length text
    end_place l e = omega (arith, length_skip rest, length-drop at text)

    pub next_place : at ≤ length text → 0 < length (skip rest) → (at < next) × (next ≤ length text) × (at < length text)
    next_place l h =
        let k = length_later rest h in
        let d = length-drop at text in
        let o = pos (skip rest) h in
        (omega arith, omega arith, omega arith)

    pub starts_next : 0 < length (skip rest) → starts size rest at ≡ (at + blanks rest) ∷ starts size (drop next text) next
    starts_next h = rw later_rest at (starts_on rest at h)

    pub tokens_next : {T : Type 0} (token : List ℕ → T) → 0 < length (skip rest)
        → tokens size token rest ≡ token (skip rest) ∷ tokens size token (drop next text)
    tokens_next token h = rw later_rest at (tokens_on token rest h)
