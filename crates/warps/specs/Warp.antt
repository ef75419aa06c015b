-- Table 2 of document 001: a warp of n lanes, and its step, rule by rule (R69).
use Rattle.std.specs.Prelude.{◌≡◌, Bool, true, false, ◌&&◌, not, cond, List, [], ◌∷◌, ℕ, zero, suc, ◌<◌, ltb, set}
use Rattle.warps.specs.Language.{Expr, Stm, skip, assign, branch, while, again, break, invoke, return, Bodies, Mem, eval, test}

-- t: the type of a token (R69)
pub data TokenType : Type 0 where
  div sync brk call : TokenType

-- δ: 0, b or r, for each lane (R69)
pub data DisableState : Type 0 where
  on broke returned : DisableState

-- Θ: a set of lanes
abbrev pub Mask : Type 0
Mask = ℕ → Bool

-- Δ
abbrev pub DisableMask : Type 0
DisableMask = ℕ → DisableState

-- what a warp's instruction stack holds: a statement, or a token with its mask
pub data Item : Type 0 where
  stm : Stm → Item
  tok : TokenType → Mask → Item

-- S W
unfoldable pub onto : List Stm → List Item → List Item
onto [] W = W
onto (s ∷ S) W = stm s ∷ onto S W

-- W, Θ, Δ, μ: stack, active mask, disable states, memory (R69)
pub record Config : Type 0 where
  pub stack : List Item
  pub active : Mask
  pub off : DisableMask
  pub mem : Mem

-- awaits(δ, t): δ = b → t = brk, and δ = r → t = call
unfoldable pub awaits : DisableState → TokenType → Bool
awaits on t = true
awaits broke div = false
awaits broke sync = false
awaits broke brk = true
awaits broke call = false
awaits returned div = false
awaits returned sync = false
awaits returned brk = false
awaits returned call = true

unfoldable pub is_on : DisableState → Bool
is_on on = true
is_on broke = false
is_on returned = false

-- enable(Δ₁, t_Θ) = ({θ ∈ Θ | Δ₂(θ) = 0}, Δ₂)
abbrev pub enabled : DisableMask → TokenType → Mask → DisableMask
enabled Δ k Θ t = cond (Θ t && awaits (Δ t) k) on (Δ t)

abbrev pub woken : DisableMask → TokenType → Mask → Mask
woken Δ k Θ t = Θ t && is_on (enabled Δ k Θ t)

-- act(Θ, e, μ) = {θ ∈ Θ | ℰ⟦e⟧ ≠ 0}
abbrev pub act : Mask → Expr → Mem → Mask
act Θ e μ t = Θ t && test e t μ

-- Θ \ Θ'
abbrev pub excluding : Mask → Mask → Mask
excluding Θ Θ' t = Θ t && not (Θ' t)

-- ∅
abbrev pub nobody : Mask
nobody t = false

-- Δ{Θ ↦ δ}
abbrev pub disable : Mask → DisableState → DisableMask → DisableMask
disable Θ d Δ t = cond (Θ t) d (Δ t)

-- μ{x ↦ ℰ⟦e⟧ of the lanes in Θ}: each evaluates in μ; they write in the order of their numbers, so that of several lanes the highest one's value stays (R69)
unfoldable pub updated : (n : ℕ) → Mask → (c : ℕ) → Expr → Mem → Mem
updated zero Θ c e μ = μ
updated (suc n) Θ c e μ = cond (Θ n) (set (updated n Θ c e μ) c (eval e n μ)) (updated n Θ c e μ)

-- Θ⁺, and its opposite
abbrev pub SomeActive : ℕ → Mask → Type 0
SomeActive n Θ = (t : ℕ) × (t < n) × (Θ t ≡ true)

abbrev pub NoneActive : ℕ → Mask → Type 0
NoneActive n Θ = (t : ℕ) → t < n → Θ t ≡ false

-- W, Θ, Δ, μ ⇒ʷ W', Θ', Δ', μ': the printed rules, with what they leave out written in: the rest of the stack, W, and all that stays (R69)
pub data WarpStep (body : Bodies) (n : ℕ) : List Item → Mask → DisableMask → Mem → List Item → Mask → DisableMask → Mem → Type 0 where
  -- (skip)  ; , Θ⁺ ⇒ ε, Θ⁺
  skip_w : {W : List Item} {Θ : Mask} {Δ : DisableMask} {μ : Mem} → SomeActive n Θ
      → WarpStep body n (stm skip ∷ W) Θ Δ μ
      W Θ Δ μ
  -- (assign)  x = e; , Θ⁺, μ ⇒ ε, Θ⁺, μ{x ↦ ℰ⟦e⟧ of Θ⁺}
  assign_w : {x : ℕ} {e : Expr} {W : List Item} {Θ : Mask} {Δ : DisableMask} {μ : Mem} → SomeActive n Θ
      → WarpStep body n (stm (assign x e) ∷ W) Θ Δ μ
      W Θ Δ (updated n Θ x e μ)
  -- (if)  if (e) S₁ else S₂, Θ⁺, μ ⇒ S₂ div_act S₁ sync_Θ⁺, Θ⁺ \ act, μ
  if_w : {e : Expr} {S₁ S₂ : ℕ} {W : List Item} {Θ : Mask} {Δ : DisableMask} {μ : Mem} → SomeActive n Θ
      → WarpStep body n (stm (branch e S₁ S₂) ∷ W) Θ Δ μ
      (onto (body S₂) (tok div (act Θ e μ) ∷ onto (body S₁) (tok sync Θ ∷ W))) (excluding Θ (act Θ e μ)) Δ μ
  -- (while)  while (e) S, Θ⁺, μ ⇒ S again (e) S brk_Θ⁺, act, μ
  while_w : {e : Expr} {S : ℕ} {W : List Item} {Θ : Mask} {Δ : DisableMask} {μ : Mem} → SomeActive n Θ
      → WarpStep body n (stm (while e S) ∷ W) Θ Δ μ
      (onto (body S) (stm (again e S) ∷ tok brk Θ ∷ W)) (act Θ e μ) Δ μ
  -- (while, underlined)  again (e) S, Θ⁺, μ ⇒ S again (e) S, act, μ
  again_w : {e : Expr} {S : ℕ} {W : List Item} {Θ : Mask} {Δ : DisableMask} {μ : Mem} → SomeActive n Θ
      → WarpStep body n (stm (again e S) ∷ W) Θ Δ μ
      (onto (body S) (stm (again e S) ∷ W)) (act Θ e μ) Δ μ
  -- (break)  break; [S] τ, Θ⁺, Δ ⇒ τ, ∅, Δ{Θ⁺ ↦ b}
  break_w : (S : List Stm) {k : TokenType} {m : Mask} {W : List Item} {Θ : Mask} {Δ : DisableMask} {μ : Mem} → SomeActive n Θ
      → WarpStep body n (stm break ∷ onto S (tok k m ∷ W)) Θ Δ μ
      (tok k m ∷ W) nobody (disable Θ broke Δ) μ
  -- (call)  f (); , Θ⁺ ⇒ φ(f) call_Θ⁺, Θ⁺
  call_w : {f : ℕ} {W : List Item} {Θ : Mask} {Δ : DisableMask} {μ : Mem} → SomeActive n Θ
      → WarpStep body n (stm (invoke f) ∷ W) Θ Δ μ
      (onto (body f) (tok call Θ ∷ W)) Θ Δ μ
  -- (return)  return; [S] τ, Θ⁺, Δ ⇒ τ, ∅, Δ{Θ⁺ ↦ r}
  return_w : (S : List Stm) {k : TokenType} {m : Mask} {W : List Item} {Θ : Mask} {Δ : DisableMask} {μ : Mem} → SomeActive n Θ
      → WarpStep body n (stm return ∷ onto S (tok k m ∷ W)) Θ Δ μ
      (tok k m ∷ W) nobody (disable Θ returned Δ) μ
  -- (token)  τ, Θ₁, Δ₁ ⇒ ε, Θ₂, Δ₂ where (Θ₂, Δ₂) = enable(Δ₁, τ)
  token_w : {k : TokenType} {m : Mask} {W : List Item} {Θ : Mask} {Δ : DisableMask} {μ : Mem}
      → WarpStep body n (tok k m ∷ W) Θ Δ μ
      W (woken Δ k m) (enabled Δ k m) μ
  -- (inact)  S τ, ∅ ⇒ τ, ∅; S has at least one statement
  inact_w : (s : Stm) (S : List Stm) {k : TokenType} {m : Mask} {W : List Item} {Θ : Mask} {Δ : DisableMask} {μ : Mem} → NoneActive n Θ
      → WarpStep body n (stm s ∷ onto S (tok k m ∷ W)) Θ Δ μ
      (tok k m ∷ W) Θ Δ μ

-- one configuration becomes another
abbrev pub Transition : Bodies → ℕ → Config → Config → Type 0
Transition body n c c' = WarpStep body n c.stack c.active c.off c.mem c'.stack c'.active c'.off c'.mem

-- the initial configuration of the program in a list: all n lanes are active, and one call token lies at the bottom (R69)
abbrev pub initial : Bodies → (n k : ℕ) → Mem → Config
initial body n k μ = record { stack = onto (body k) (tok call (λ t. ltb t n) ∷ []); active = λ t. ltb t n; off = λ t. on; mem = μ }

-- what some steps make of it
pub data Reachable (body : Bodies) (n k : ℕ) (μ : Mem) : Config → Type 0 where
  begin : Reachable body n k μ (initial body n k μ)
  further : {c c' : Config} → Reachable body n k μ c → Transition body n c c' → Reachable body n k μ c'
