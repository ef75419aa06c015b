-- The tokens of a text: spaces and newlines may stand between them (R43). What token the bytes begin with, and how many bytes it takes, each notation says.
use Rattle.std.specs.Prelude.{cond, List, [], ◌∷◌, map, ℕ, zero, suc, ◌+◌, eqb, length, drop}
use Rattle.spelling.specs.Bytes.{blanks, skip}

-- where a token begins: its place, and the bytes from there on
pub record Spot : Type 0 where
  pub place : ℕ
  pub bytes : List ℕ

abbrev pub spot : ℕ → List ℕ → Spot
spot p s = record { place = p; bytes = s }

module _ (size : List ℕ → ℕ) where
  -- the bytes after their blanks and their first token
  abbrev pub after_first : List ℕ → List ℕ
  after_first s = drop (size (skip s)) (skip s)

  -- where the tokens of the bytes begin, at most n of them; the bytes stand at place p
  unfoldable pub spots_n : ℕ → List ℕ → ℕ → List Spot
  spots_n zero s p = []
  spots_n (suc n) s p =
      cond (eqb (length (skip s)) 0) [] (spot (p + blanks s) (skip s) ∷ spots_n n (after_first s) (p + blanks s + size (skip s)))

  -- all of them, since each takes a byte
  abbrev pub spots : List ℕ → ℕ → List Spot
  spots s p = spots_n (length s) s p

  -- the places of the tokens (R43)
  abbrev pub starts : List ℕ → ℕ → List ℕ
  starts s p = map (λ (c : Spot). c.place) (spots s p)

  -- the tokens (R43)
  abbrev pub tokens : {T : Type 0} → (List ℕ → T) → List ℕ → List T
  tokens token s = map (λ (c : Spot). token c.bytes) (spots s 0)
