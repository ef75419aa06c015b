-- Table 4 of document 001: a single thread, which is one lane by itself, and threads that interleave (R73).
use Rattle.std.specs.Prelude.{◌≡◌, Bool, true, false, cond, List, [], ◌∷◌, ◌++◌, ℕ, ◌<◌, eqb, set}
use Rattle.warps.specs.Language.{Expr, literal, Stm, skip, assign, branch, while, again, break, invoke, return, Bodies, Mem, eval, test}

-- c
pub data Context : Type 0 where
  brk_c call_c : Context

-- what a thread's instruction stack holds
pub data Piece : Type 0 where
  does : Stm → Piece
  ctx : Context → Piece

-- S T
unfoldable pub stacked : List Stm → List Piece → List Piece
stacked [] T = T
stacked (s ∷ S) T = does s ∷ stacked S T

-- T₋call: no call context in it
unfoldable pub call_free : List Piece → Bool
call_free [] = true
call_free (does s ∷ T) = call_free T
call_free (ctx brk_c ∷ T) = call_free T
call_free (ctx call_c ∷ T) = false

-- T, μ ⇒ᵗ T', μ' of thread t. An assignment takes two steps: it reads, and then writes what it read (R73).
pub data ThreadStep (body : Bodies) (t : ℕ) : List Piece → Mem → List Piece → Mem → Type 0 where
  -- (skip)  ; ⇒ ε
  skip_t : {T : List Piece} {μ : Mem} → ThreadStep body t (does skip ∷ T) μ T μ
  -- (assign, rd)  x = e; , μ ⇒ x = v; , μ where v = ℰ⟦e⟧
  assign_rd : {x : ℕ} {e : Expr} {T : List Piece} {μ : Mem} → ThreadStep body t (does (assign x e) ∷ T) μ (does (assign x (literal (eval e t μ))) ∷ T) μ
  -- (assign, wr)  x = v; , μ ⇒ ε, μ{x ↦ v}
  assign_wr : {x v : ℕ} {T : List Piece} {μ : Mem} → ThreadStep body t (does (assign x (literal v)) ∷ T) μ T (set μ x v)
  -- (if)  if (e) S₁ else S₂ ⇒ S₁ where ℰ⟦e⟧ ≠ 0, else S₂
  if_tt : {e : Expr} {S₁ S₂ : ℕ} {T : List Piece} {μ : Mem} → test e t μ ≡ true → ThreadStep body t (does (branch e S₁ S₂) ∷ T) μ (stacked (body S₁) T) μ
  if_ff : {e : Expr} {S₁ S₂ : ℕ} {T : List Piece} {μ : Mem} → test e t μ ≡ false → ThreadStep body t (does (branch e S₁ S₂) ∷ T) μ (stacked (body S₂) T) μ
  -- (while)  while (e) S ⇒ S again (e) S brk where ℰ⟦e⟧ ≠ 0, else ε
  while_tt : {e : Expr} {S : ℕ} {T : List Piece} {μ : Mem} → test e t μ ≡ true → ThreadStep body t (does (while e S) ∷ T) μ (stacked (body S) (does (again e S) ∷ ctx brk_c ∷ T)) μ
  while_ff : {e : Expr} {S : ℕ} {T : List Piece} {μ : Mem} → test e t μ ≡ false → ThreadStep body t (does (while e S) ∷ T) μ T μ
  -- (while, underlined)  again (e) S ⇒ S again (e) S where ℰ⟦e⟧ ≠ 0, else ε
  again_tt : {e : Expr} {S : ℕ} {T : List Piece} {μ : Mem} → test e t μ ≡ true → ThreadStep body t (does (again e S) ∷ T) μ (stacked (body S) (does (again e S) ∷ T)) μ
  again_ff : {e : Expr} {S : ℕ} {T : List Piece} {μ : Mem} → test e t μ ≡ false → ThreadStep body t (does (again e S) ∷ T) μ T μ
  -- (break)  break; [S] brk ⇒ ε
  break_t : (S : List Stm) {T : List Piece} {μ : Mem} → ThreadStep body t (does break ∷ stacked S (ctx brk_c ∷ T)) μ T μ
  -- (call)  f (); ⇒ φ(f) call
  call_t : {f : ℕ} {T : List Piece} {μ : Mem} → ThreadStep body t (does (invoke f) ∷ T) μ (stacked (body f) (ctx call_c ∷ T)) μ
  -- (return)  return; T₋call call ⇒ ε
  return_t : (U : List Piece) {T : List Piece} {μ : Mem} → call_free U ≡ true → ThreadStep body t (does return ∷ (U ++ (ctx call_c ∷ T))) μ T μ
  -- (context)  c ⇒ ε
  context_t : {c : Context} {T : List Piece} {μ : Mem} → ThreadStep body t (ctx c ∷ T) μ T μ

-- ς: the stack of each thread
abbrev pub ThreadStacks : Type 0
ThreadStacks = ℕ → List Piece

-- ς{θ ↦ T}
unfoldable pub become : ThreadStacks → (t : ℕ) → List Piece → ThreadStacks
become ς t T u = cond (eqb t u) T (ς u)

-- ς, μ ⇒ⁱ* ς', μ': none, one or more steps, each of one of the n threads (R73)
pub data Interleaved (body : Bodies) (n : ℕ) : ThreadStacks → Mem → ThreadStacks → Mem → Type 0 where
  none : {ς : ThreadStacks} {μ : Mem} → Interleaved body n ς μ ς μ
  next : {ς ρ : ThreadStacks} {μ ν ξ : Mem} (t : ℕ) {T : List Piece} → t < n → ThreadStep body t (ς t) μ T ν → Interleaved body n (become ς t T) ν ρ ξ → Interleaved body n ς μ ρ ξ
