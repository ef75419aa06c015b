-- Where a text is refused, over any notation: which tokens it has, which bytes spell which tokens, and which tokens make a whole text (R48).
use Rattle.std.specs.Prelude.{◌≡◌, List, [], ◌∷◌, ◌++◌, ℕ, ◌≤◌, length, get_or, take, drop}

-- tokens go on after those before as the rest does: with its first token, or with the end
abbrev pub Follows : {T : Type 0} → List T → List T → List T → Type 0
Follows ts before [] = ts ≡ before
Follows {T} ts before (t ∷ rest) = (more : List T) × (ts ≡ before ++ (t ∷ more))

module _ {T : Type 0} (Spells : List ℕ → List T → Type 0) (Whole : List T → Type 0) where
  -- a text with these tokens, which stand at these places, is refused at place p: the tokens before p begin a text of the notation, and with the token at p, or the
  -- end there, they do not (R48)
  pub record Refused (text : List ℕ) (tokens : List T) (starts : List ℕ) (p : ℕ) : Type 0 where
    -- so many tokens stand before p
    pub before : ℕ
    pub few : before ≤ length tokens
    pub place : p ≡ get_or starts before (length text)
    -- a text of the notation that begins with the bytes before p, and whose first tokens are those
    pub more : List ℕ
    pub later : List T
    pub begins : Spells (take p text ++ more) (take before tokens ++ later)
    pub whole : Whole (take before tokens ++ later)
    -- no text of the notation goes on so
    pub stuck : (ts : List T) → Whole ts → ¬ Follows ts (take before tokens) (drop before tokens)
