-- Which texts spell which tokens, over any notation: which bytes spell a token, and which bytes a token would go on with (R43).
use Rattle.std.specs.Prelude.{◌≡◌, Bool, true, List, [], ◌∷◌, ◌++◌, ℕ}
use Rattle.spelling.specs.Bytes.{is, blank, run}

module _ {T : Type 0} (Spelling : List ℕ → T → Type 0) (extends : T → ℕ → Bool) where
  -- blanks may stand anywhere between tokens; a token is a longest run: what follows it does not extend it (R43)
  pub data Spells : List ℕ → List T → Type 0 where
    none : Spells [] []
    gap : {s : List ℕ} {ts : List T} (b : ℕ) → is blank b ≡ true → Spells s ts → Spells (b ∷ s) ts
    token : {ts : List T} (text w s : List ℕ) (t : T) → Spelling w t → run (extends t) s ≡ 0 → text ≡ w ++ s → Spells s ts → Spells text (t ∷ ts)
