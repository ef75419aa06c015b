-- What a notation must show: of its tokens (Lexer) and of the machine that takes them (Grammar); walks of a machine. Assumes nothing.
use mathlib.Core.Path.{◌≡◌, refl, sym, ◌∙◌}
use mathlib.Core.Bool.{Bool, true, false}
use mathlib.Core.List.{List, [], ◌∷◌, ◌++◌}
use Prim.Native.Nat.{ℕ, ◌≤◌, ◌<◌}
use lib.ListN.{length, take, drop}
use Rattle.spelling.specs.Bytes.{run, blanks}
use Rattle.spelling.specs.Machine.{Move, refuse, on, row_done, thread_done}

-- every one of a list
abbrev pub Each : {T : Type 0} → (T → Type 0) → List T → Type 0
Each P [] = Unit {0}
Each P (t ∷ ts) = P t × Each P ts

-- what bytes begin with (size, token) is what they spell; tokens that no text has (a misspelt word) do not fit
pub record Lexer {T : Type 0} (size : List ℕ → ℕ) (token : List ℕ → T) (Spelling : List ℕ → T → Type 0) (extends : T → ℕ → Bool)
    (Fits : T → Type 0) : Type 0 where
  pub token_found : (w s : List ℕ) (t : T) → Spelling w t → run (extends t) s ≡ 0 → token (w ++ s) ≡ t
  pub size_found : (w s : List ℕ) (t : T) → Spelling w t → run (extends t) s ≡ 0 → size (w ++ s) ≡ length w
  pub some : (w : List ℕ) (t : T) → Spelling w t → 0 < length w
  pub tight : (w s : List ℕ) (t : T) → Spelling w t → blanks (w ++ s) ≡ 0
  pub spelt : (s : List ℕ) → 0 < length s → Fits (token s) → Spelling (take (size s) s) (token s)
  pub apart : (s : List ℕ) → 0 < length s → Fits (token s) → run (extends (token s)) (drop (size s) s) ≡ 0
  pub pos : (s : List ℕ) → 0 < length s → 0 < size s
  pub most : (s : List ℕ) → 0 < length s → size s ≤ length s
  pub blank_ends : (t : T) → extends t 32 ≡ false

-- a move leads to a state
abbrev pub To : {S : Type 0} → Move S → S → Type 0
To refuse u = ⊥
To (on s) u = s ≡ u
To (row_done r s) u = s ≡ u
To (thread_done s) u = s ≡ u

to_one : {S : Type 0} (m : Move S) {u v : S} → To m u → To m v → u ≡ v
to_one refuse g h = absurd g
to_one (on s) g h = sym g ∙ h
to_one (row_done r s) g h = sym g ∙ h
to_one (thread_done s) g h = sym g ∙ h

module _ {S T : Type 0} (next : S → T → Move S) where
  abbrev pub Goes : S → T → S → Type 0
  Goes s t u = To (next s t) u

  -- tokens lead from state to state
  abbrev pub Walk : List T → S → S → Type 0
  Walk [] s u = s ≡ u
  Walk (t ∷ ts) s u = (v : S) × Goes s t v × Walk ts v u

  pub walk_append : (ts us : List T) (s u v : S) → Walk ts s u → Walk us u v → Walk (ts ++ us) s v
  walk_append [] us s u v e x = rw e x
  walk_append (t ∷ ts) us s u v (r, g, w) x = (r, g, walk_append ts us r u v w x)

  pub walk_split : (ts us : List T) (s v : S) → Walk (ts ++ us) s v → (u : S) × Walk ts s u × Walk us u v
  walk_split [] us s v w = (s, refl, w)
  walk_split (t ∷ ts) us s v (r, g, w) = let x = walk_split ts us r v w in (x.0, (r, g, x.1), x.2)

  pub walk_one : (ts : List T) (s : S) {u v : S} → Walk ts s u → Walk ts s v → u ≡ v
  walk_one [] s d e = sym d ∙ e
  walk_one (t ∷ ts) s (a, g, w) (b, h, x) = let e : b ≡ a = to_one (next s t) h g in walk_one ts a w (rw e at x)

-- the machine takes whole texts and no others, takes nothing that does not fit, and can end from everywhere
pub record Grammar {S T : Type 0} (next : S → T → Move S) (ends : S → Bool) (start : S) (Fits : T → Type 0)
    (Spells : List ℕ → List T → Type 0) (Whole : List T → Type 0) : Type 0 where
  pub fits : (s : S) (t : T) (u : S) → Goes next s t u → Fits t
  pub sound : (ts : List T) (u : S) → Walk next ts start u → ends u ≡ true → Whole ts
  pub complete : (ts : List T) → Whole ts → (u : S) × Walk next ts start u × (ends u ≡ true)
  pub live : (s : S) → (w : List ℕ) × (ts : List T) × (u : S) × Spells w ts × Walk next ts s u × (ends u ≡ true)
