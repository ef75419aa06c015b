-- Table 2 as a function, and who writes last.
use mathlib.Core.Path.{◌≡◌, refl, sym, ap, ◌∙◌, subst}
use mathlib.Core.Logic.{⊎_elim, by_cases, ◌≢◌}
use mathlib.Core.Bool.{Bool, true, false, ◌||◌, cond}
use mathlib.Core.List.{List, [], ◌∷◌}
use Prim.Native.Nat.{ℕ, zero, suc, ◌<◌}
use native.Mathlib.Omega.{arith}
use native.Mathlib.Decide.{ℕ_discrete}
use lib.ListN.{set}
use lib.Seq.{set-set}
use Rattle.relation.proofs.Truth.{clashing, split}
use Rattle.warps.specs.Language.{Expr, Stm, skip, assign, branch, while, again, break, invoke, return, Bodies, Mem, eval}
use Rattle.warps.specs.Warp.{TokenType, div, sync, brk, call, broke, returned, Mask, DisableMask, Item, stm, tok, onto, Config, enabled, woken, act, excluding, nobody, disable, updated, SomeActive, NoneActive, WarpStep, skip_w, assign_w, if_w, while_w, again_w, break_w, call_w, return_w, token_w, inact_w}
use Rattle.warps.proofs.Shape.{called, Shape}

unfoldable pub any : ℕ → Mask → Bool
any zero Θ = false
any (suc n) Θ = Θ n || any n Θ

up : {k : ℕ} {Θ : Mask} → SomeActive k Θ → SomeActive (suc k) Θ
up w = (w.0, omega (arith, w.1), w.2)

pub any_some : (k : ℕ) (Θ : Mask) → any k Θ ≡ true → SomeActive k Θ
unfolding any
any_some zero Θ e = clashing e refl
any_some (suc k) Θ e =
    ⊎_elim (λ (f : Θ k ≡ true). (k, omega arith, f)) (λ (f : Θ k ≡ false). up (any_some k Θ (sym (rw f) ∙ e))) (split (Θ k))

pub any_none : (k : ℕ) (Θ : Mask) → any k Θ ≡ false → NoneActive k Θ
unfolding any
any_none zero Θ e t l = absurd (omega arith)
any_none (suc k) Θ e t l =
    ⊎_elim (λ (f : Θ k ≡ true). clashing (rw f) e)
    (λ (f : Θ k ≡ false). by_cases (ℕ_discrete t k) (λ (q : t ≡ k). ap Θ q ∙ f) (λ (q : t ≢ k). any_none k Θ (sym (rw f) ∙ e) t (omega arith))) (split (Θ k))

pub some_any : (k : ℕ) (Θ : Mask) (t : ℕ) → t < k → Θ t ≡ true → any k Θ ≡ true
unfolding any
some_any zero Θ t l e = absurd (omega arith)
some_any (suc k) Θ t l e =
    by_cases (ℕ_discrete t k) (λ (q : t ≡ k). rw (ap Θ (sym q) ∙ e))
    (λ (q : t ≢ k). ⊎_elim (λ (f : Θ k ≡ true). rw f) (λ (f : Θ k ≡ false). rw f (some_any k Θ t (omega arith) e)) (split (Θ k)))

pub none_any : (k : ℕ) (Θ : Mask) → NoneActive k Θ → any k Θ ≡ false
unfolding any
none_any zero Θ h = refl
none_any (suc k) Θ h = rw (h k (omega arith)) (none_any k Θ (λ t l. h t (omega arith)))

-- from the first token on
unfoldable pub unwind : List Item → List Item
unwind [] = []
unwind (stm s ∷ W) = unwind W
unwind (tok k m ∷ W) = tok k m ∷ W

module _ (body : Bodies) (n : ℕ) where
  -- a statement, with some lane active
  unfoldable pub execute : Stm → List Item → Mask → DisableMask → Mem → Config
  execute skip W Θ Δ μ = record { stack = W; active = Θ; off = Δ; mem = μ }
  execute (assign c e) W Θ Δ μ = record { stack = W; active = Θ; off = Δ; mem = updated n Θ c e μ }
  execute (branch e a b) W Θ Δ μ = record { stack = onto (body b) (tok div (act Θ e μ) ∷ onto (body a) (tok sync Θ ∷ W)); active = excluding Θ (act Θ e μ); off = Δ; mem = μ }
  execute (while e k) W Θ Δ μ = record { stack = onto (body k) (stm (again e k) ∷ tok brk Θ ∷ W); active = act Θ e μ; off = Δ; mem = μ }
  execute (again e k) W Θ Δ μ = record { stack = onto (body k) (stm (again e k) ∷ W); active = act Θ e μ; off = Δ; mem = μ }
  execute break W Θ Δ μ = record { stack = unwind W; active = nobody; off = disable Θ broke Δ; mem = μ }
  execute (invoke f) W Θ Δ μ = record { stack = onto (body f) (tok call Θ ∷ W); active = Θ; off = Δ; mem = μ }
  execute return W Θ Δ μ = record { stack = unwind W; active = nobody; off = disable Θ returned Δ; mem = μ }

  unfoldable pub proceed : List Item → Mask → DisableMask → Mem → Config
  proceed [] Θ Δ μ = record { stack = []; active = Θ; off = Δ; mem = μ }
  proceed (stm s ∷ W) Θ Δ μ = cond (any n Θ) (execute s W Θ Δ μ) (record { stack = unwind W; active = Θ; off = Δ; mem = μ })
  proceed (tok k m ∷ W) Θ Δ μ = record { stack = W; active = woken Δ k m; off = enabled Δ k m; mem = μ }

  abbrev pub Leads : List Item → Mask → DisableMask → Mem → Config → Type 0
  Leads W Θ Δ μ c = WarpStep body n W Θ Δ μ c.stack c.active c.off c.mem

  -- a stack with a call token below: statements, then a token
  unwound : (P : List Item → List Item → Type 0) (W : List Item) → called W ≡ true
      → ((S : List Stm) (k : TokenType) (m : Mask) (R : List Item) → P (onto S (tok k m ∷ R)) (tok k m ∷ R)) → P W (unwind W)
  unfolding called onto unwind
  unwound P [] e f = clashing e refl
  unwound P (stm s ∷ W) e f = unwound (λ X Y. P (stm s ∷ X) Y) W e (λ S k m R. f (s ∷ S) k m R)
  unwound P (tok k m ∷ W) e f = f [] k m W

  execute_is : (s : Stm) (W : List Item) (Θ : Mask) (Δ : DisableMask) (μ : Mem) → called W ≡ true → SomeActive n Θ → Leads (stm s ∷ W) Θ Δ μ (execute s W Θ Δ μ)
  unfolding execute
  execute_is skip W Θ Δ μ c x = skip_w x
  execute_is (assign a e) W Θ Δ μ c x = assign_w x
  execute_is (branch e a b) W Θ Δ μ c x = if_w x
  execute_is (while e k) W Θ Δ μ c x = while_w x
  execute_is (again e k) W Θ Δ μ c x = again_w x
  execute_is break W Θ Δ μ c x = unwound (λ X Y. WarpStep body n (stm break ∷ X) Θ Δ μ Y nobody (disable Θ broke Δ) μ) W c (λ S k m R. break_w S x)
  execute_is (invoke f) W Θ Δ μ c x = call_w x
  execute_is return W Θ Δ μ c x = unwound (λ X Y. WarpStep body n (stm return ∷ X) Θ Δ μ Y nobody (disable Θ returned Δ) μ) W c (λ S k m R. return_w S x)

  -- a reached configuration steps until its stack is empty, as the function says
  pub steps : (looped : ℕ → Bool) (W : List Item) (Θ : Mask) (Δ : DisableMask) (μ : Mem) → Shape looped W → W ≢ [] → Leads W Θ Δ μ (proceed W Θ Δ μ)
  unfolding proceed
  steps looped [] Θ Δ μ h q = absurd (q refl)
  steps looped (tok k m ∷ W) Θ Δ μ h q = token_w
  steps looped (stm s ∷ W) Θ Δ μ h q =
      ⊎_elim (λ (e : any n Θ ≡ true). rw e (execute_is s W Θ Δ μ h.1 (any_some n Θ e)))
      (λ (e : any n Θ ≡ false). rw e (unwound (λ X Y. WarpStep body n (stm s ∷ X) Θ Δ μ Y Θ Δ μ) W h.1 (λ S k m R. inact_w s S (any_none n Θ e)))) (split (any n Θ))

  unwind_onto : (S : List Stm) (k : TokenType) (m : Mask) (W : List Item) → unwind (onto S (tok k m ∷ W)) ≡ tok k m ∷ W
  unfolding unwind onto
  unwind_onto [] k m W = refl
  unwind_onto (s ∷ S) k m W = unwind_onto S k m W

  acts {ℓ} : {A : Type ℓ} (x y : A) {Θ : Mask} → SomeActive n Θ → x ≡ cond (any n Θ) x y
  acts x y {Θ} w = rw (some_any n Θ w.0 w.1 w.2)

  rests {ℓ} : {A : Type ℓ} (x y : A) {Θ : Mask} → NoneActive n Θ → y ≡ cond (any n Θ) x y
  rests x y {Θ} w = rw (none_any n Θ w)

  at : {W R : List Item} (Θ : Mask) (Δ : DisableMask) (μ : Mem) → W ≡ R → ◌≡◌ {A = Config} (record { stack = W; active = Θ; off = Δ; mem = μ }) (record { stack = R; active = Θ; off = Δ; mem = μ })
  at Θ Δ μ e = λ i. record { stack = e i; active = Θ; off = Δ; mem = μ }

  -- Table 2 leaves no choice
  pub only : {W : List Item} {Θ : Mask} {Δ : DisableMask} {μ : Mem} {W' : List Item} {Θ' : Mask} {Δ' : DisableMask} {μ' : Mem} → WarpStep body n W Θ Δ μ W' Θ' Δ' μ'
      → ◌≡◌ {A = Config} (record { stack = W'; active = Θ'; off = Δ'; mem = μ' }) (proceed W Θ Δ μ)
  unfolding proceed execute
  only (skip_w x) = acts _ _ x
  only (assign_w x) = acts _ _ x
  only (if_w x) = acts _ _ x
  only (while_w x) = acts _ _ x
  only (again_w x) = acts _ _ x
  only (break_w S {k = k} {m = m} {W = W} {Θ = Θ} {Δ = Δ} {μ = μ} x) = at nobody (disable Θ broke Δ) μ (sym (unwind_onto S k m W)) ∙ acts _ _ x
  only (call_w x) = acts _ _ x
  only (return_w S {k = k} {m = m} {W = W} {Θ = Θ} {Δ = Δ} {μ = μ} x) = at nobody (disable Θ returned Δ) μ (sym (unwind_onto S k m W)) ∙ acts _ _ x
  only token_w = refl
  only (inact_w s S {k = k} {m = m} {W = W} {Θ = Θ} {Δ = Δ} {μ = μ} x) = at Θ Δ μ (sym (unwind_onto S k m W)) ∙ rests _ _ x

-- whoever updated last is the highest active lane
pub highest : (n : ℕ) (Θ : Mask) (c : ℕ) (e : Expr) (μ : Mem) (h : ℕ) → h < n → Θ h ≡ true → ((t : ℕ) → h < t → t < n → Θ t ≡ false) → updated n Θ c e μ ≡ set μ c (eval e h μ)
unfolding updated
highest zero Θ c e μ h l x a = absurd (omega arith)
highest (suc n) Θ c e μ h l x a =
    by_cases (ℕ_discrete h n) (λ (q : h ≡ n). subst (λ (k : ℕ). cond (Θ k) (set (updated k Θ c e μ) c (eval e k μ)) (updated k Θ c e μ) ≡ set μ c (eval e h μ)) q (rw x (onto_all h)))
    (λ (q : h ≢ n). rw (a n (omega arith) (omega arith)) (highest n Θ c e μ h (omega arith) x (λ t l m. a t l (omega arith))))
  where
    onto_all : (k : ℕ) → set (updated k Θ c e μ) c (eval e h μ) ≡ set μ c (eval e h μ)
    onto_all zero = refl
    onto_all (suc k) =
        ⊎_elim (λ (f : Θ k ≡ true). rw f (set-set (updated k Θ c e μ) c (eval e k μ) (eval e h μ) ∙ onto_all k)) (λ (f : Θ k ≡ false). rw f (onto_all k)) (split (Θ k))
