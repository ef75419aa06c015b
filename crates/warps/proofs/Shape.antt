-- What holds in every configuration that a start reaches.
use mathlib.Core.Path.{◌≡◌, refl, ◌∙◌}
use mathlib.Core.Bool.{Bool, true, false, ◌&&◌, not, cond}
use mathlib.Core.List.{List, [], ◌∷◌}
use Prim.Native.Nat.{ℕ, ◌<◌}
use Rattle.relation.proofs.Truth.{clashing, both}
use Rattle.warps.specs.Language.{Expr, Stm, skip, assign, branch, while, again, break, invoke, return, Bodies, Mem, test}
use Rattle.warps.specs.Warp.{TokenType, div, sync, brk, call, DisableState, on, broke, returned, Mask, DisableMask, Item, stm, tok, onto, awaits, is_on, act, WarpStep, skip_w, assign_w, if_w, while_w, again_w, break_w, call_w, return_w, token_w, inact_w}
use Rattle.warps.specs.Programs.{MayStand, AllMayStand, Confined}

-- ---- the stack, whoever is active

-- a brk token comes before any call token
unfoldable pub in_loop : List Item → Bool
in_loop [] = false
in_loop (stm s ∷ W) = in_loop W
in_loop (tok sync m ∷ W) = in_loop W
in_loop (tok div m ∷ W) = in_loop W
in_loop (tok brk m ∷ W) = true
in_loop (tok call m ∷ W) = false

unfoldable pub called : List Item → Bool
called [] = false
called (stm s ∷ W) = called W
called (tok sync m ∷ W) = called W
called (tok div m ∷ W) = called W
called (tok brk m ∷ W) = called W
called (tok call m ∷ W) = true

abbrev pub AtBrk : List Item → Type 0
AtBrk [] = ⊥
AtBrk (stm s ∷ W) = ⊥
AtBrk (tok sync m ∷ W) = ⊥
AtBrk (tok div m ∷ W) = ⊥
AtBrk (tok brk m ∷ W) = Unit {0}
AtBrk (tok call m ∷ W) = ⊥

abbrev pub Shaped : (ℕ → Bool) → Stm → List Item → Type 0
Shaped looped skip W = Unit {0}
Shaped looped (assign c e) W = Unit {0}
Shaped looped (branch e a b) W = (looped a ≡ true → in_loop W ≡ true) × (looped b ≡ true → in_loop W ≡ true)
Shaped looped (while e k) W = Unit {0}
Shaped looped (again e k) W = AtBrk W
Shaped looped break W = in_loop W ≡ true
Shaped looped (invoke f) W = looped f ≡ false
Shaped looped return W = Unit {0}

abbrev pub Shape : (ℕ → Bool) → List Item → Type 0
Shape looped [] = Unit {0}
Shape looped (stm s ∷ W) = Shaped looped s W × (called W ≡ true) × Shape looped W
Shape looped (tok k m ∷ W) = Shape looped W

-- ---- the stack, for one lane

pub data Need : Type 0 where
  going joining : Need
  resting : DisableState → Need

-- going: in every token but div. Joining (under a div): in the sync that comes next. Waiting: going from the token that wakes it.
abbrev pub Good : ℕ → List Item → Need → Type 0
Good t [] going = Unit {0}
Good t [] joining = ⊥
Good t [] (resting d) = Unit {0}
Good t (stm s ∷ W) p = Good t W p
Good t (tok sync m ∷ W) going = (m t ≡ true) × Good t W going
Good t (tok div m ∷ W) going = (m t ≡ false) × Good t W joining
Good t (tok brk m ∷ W) going = (m t ≡ true) × Good t W going
Good t (tok call m ∷ W) going = (m t ≡ true) × Good t W going
Good t (tok sync m ∷ W) joining = (m t ≡ true) × Good t W going
Good t (tok div m ∷ W) joining = ⊥
Good t (tok brk m ∷ W) joining = ⊥
Good t (tok call m ∷ W) joining = ⊥
Good t (tok k m ∷ W) (resting d) = cond (m t && awaits d k) (Good t W going) (Good t W (resting d))

abbrev pub need : Bool → DisableState → Need
need true d = going
need false d = resting d

-- an active lane is not disabled
pub record Inv (looped : ℕ → Bool) (n : ℕ) (W : List Item) (Θ : Mask) (Δ : DisableMask) : Type 0 where
  pub shape : Shape looped W
  pub good : (t : ℕ) → t < n → Good t W (need (Θ t) (Δ t))
  pub able : (t : ℕ) → t < n → Θ t ≡ true → Δ t ≡ on

-- ---- lemmas on the stack

pub in_onto : (S : List Stm) (W : List Item) → in_loop (onto S W) ≡ in_loop W
unfolding onto in_loop
in_onto [] W = refl
in_onto (s ∷ S) W = in_onto S W

pub called_onto : (S : List Stm) (W : List Item) → called (onto S W) ≡ called W
unfolding onto called
called_onto [] W = refl
called_onto (s ∷ S) W = called_onto S W

module _ (looped : ℕ → Bool) where
  shape_onto : (S : List Stm) (l : Bool) (W : List Item) → AllMayStand looped l S → (l ≡ true → in_loop W ≡ true) → called W ≡ true → Shape looped W → Shape looped (onto S W)
  unfolding onto
  shape_onto [] l W f i c h = h
  shape_onto (s ∷ S) l W f i c h = (one s f.0, called_onto S W ∙ c, shape_onto S l W f.1 i c h)
    where
      there : l ≡ true → in_loop (onto S W) ≡ true
      there e = in_onto S W ∙ i e

      one : (s : Stm) → MayStand looped l s → Shaped looped s (onto S W)
      one skip g = tt
      one (assign c e) g = tt
      one (branch e a b) g = (λ x. there (g.0 x), λ x. there (g.1 x))
      one (while e k) g = tt
      one (again e k) g = absurd g
      one break g = there g
      one (invoke f) g = g
      one return g = tt

  shape_drop : (S : List Stm) (W : List Item) → Shape looped (onto S W) → Shape looped W
  unfolding onto
  shape_drop [] W h = h
  shape_drop (s ∷ S) W h = shape_drop S W h.2

  again_in : (W : List Item) → AtBrk W → in_loop W ≡ true
  unfolding in_loop
  again_in [] a = absurd a
  again_in (stm s ∷ W) a = absurd a
  again_in (tok sync m ∷ W) a = absurd a
  again_in (tok div m ∷ W) a = absurd a
  again_in (tok brk m ∷ W) a = refl
  again_in (tok call m ∷ W) a = absurd a

  module _ (body : Bodies) (L : Confined body looped) (n : ℕ) where
    pub shape_next : {W : List Item} {Θ : Mask} {Δ : DisableMask} {μ : Mem} {W' : List Item} {Θ' : Mask} {Δ' : DisableMask} {μ' : Mem} → WarpStep body n W Θ Δ μ W' Θ' Δ' μ' → Shape looped W → Shape looped W'
    unfolding in_loop called
    shape_next (skip_w x) h = h.2
    shape_next (assign_w x) h = h.2
    shape_next (if_w {S₁ = a} {S₂ = b} {W = W} {Θ = Θ} x) h =
        shape_onto (body b) (looped b) _ (L b) (λ e. in_onto (body a) (tok sync Θ ∷ W) ∙ h.0.1 e) (called_onto (body a) (tok sync Θ ∷ W) ∙ h.1)
        (shape_onto (body a) (looped a) (tok sync Θ ∷ W) (L a) (λ e. h.0.0 e) h.1 h.2)
    shape_next (while_w {S = k} {W = W} {Θ = Θ} x) h = shape_onto (body k) (looped k) _ (L k) (λ e. refl) h.1 (tt, h.1, h.2)
    shape_next (again_w {S = k} {W = W} x) h = shape_onto (body k) (looped k) _ (L k) (λ e. again_in W h.0) h.1 h
    shape_next (break_w S {k = k} {m = m} {W = W} x) h = shape_drop S (tok k m ∷ W) h.2
    shape_next (call_w {f = f} x) h = shape_onto (body f) (looped f) _ (L f) (λ e. clashing e h.0) refl h.2
    shape_next (return_w S {k = k} {m = m} {W = W} x) h = shape_drop S (tok k m ∷ W) h.2
    shape_next token_w h = h
    shape_next (inact_w s S {k = k} {m = m} {W = W} x) h = shape_drop S (tok k m ∷ W) h.2

-- what is not in a mask is in no part of it
pub off : (a b : Bool) → a ≡ false → a && b ≡ false
off a b e = rw e

ison : (d : DisableState) → is_on d ≡ true → d ≡ on
unfolding is_on
ison on e = refl
ison broke e = clashing e refl
ison returned e = clashing e refl

module _ (t : ℕ) where
  pub good_onto : (S : List Stm) (W : List Item) (p : Need) → Good t W p → Good t (onto S W) p
  unfolding onto
  good_onto [] W p h = h
  good_onto (s ∷ S) W p h = good_onto S W p h

  pub good_drop : (S : List Stm) (W : List Item) (p : Need) → Good t (onto S W) p → Good t W p
  unfolding onto
  good_drop [] W p h = h
  good_drop (s ∷ S) W p h = good_drop S W p h

  choose {ℓ} : {A B : Type ℓ} (b : Bool) → A → B → cond b A B
  choose true a b = a
  choose false a b = b

  held {ℓ} : {A B : Type ℓ} (a b : Bool) → a ≡ true → A → B → cond (a && b) A B
  held a b e x y = rw e (choose b x y)

  woke {ℓ} : {A : Type ℓ} (B : Type ℓ) {b : Bool} → b ≡ true → A → cond b A B
  woke B e x = rw e x

  slept {ℓ} : (A : Type ℓ) {B : Type ℓ} {b : Bool} → b ≡ false → B → cond b A B
  slept A e y = rw e y

  -- a going lane may be put to wait, whatever its state
  mutual
    pub settle : (W : List Item) (d : DisableState) → Good t W going → Good t W (resting d)
    settle [] d h = tt
    settle (stm s ∷ W) d h = settle W d h
    settle (tok sync m ∷ W) d h = held (m t) (awaits d sync) h.0 h.1 (settle W d h.1)
    settle (tok div m ∷ W) d h = slept _ (off (m t) (awaits d div) h.0) (join W d h.1)
    settle (tok brk m ∷ W) d h = held (m t) (awaits d brk) h.0 h.1 (settle W d h.1)
    settle (tok call m ∷ W) d h = held (m t) (awaits d call) h.0 h.1 (settle W d h.1)

    pub join : (W : List Item) (d : DisableState) → Good t W joining → Good t W (resting d)
    join [] d h = absurd h
    join (stm s ∷ W) d h = join W d h
    join (tok sync m ∷ W) d h = held (m t) (awaits d sync) h.0 h.1 (settle W d h.1)
    join (tok div m ∷ W) d h = absurd h
    join (tok brk m ∷ W) d h = absurd h
    join (tok call m ∷ W) d h = absurd h

  on_awaits : (m a : Bool) (d : DisableState) (k : TokenType) → m ≡ true → a ≡ true → d ≡ on → (m && a) && awaits d k ≡ true
  unfolding awaits
  on_awaits m a d k e f g = rw (e, f, g)

  module _ (body : Bodies) (n : ℕ) where
    if_good : (W : List Item) (Θ : Mask) (e : Expr) (a b : ℕ) (d : DisableState) (μ : Mem) (x v : Bool) → Θ t ≡ x → test e t μ ≡ v → (x ≡ true → d ≡ on) → Good t W (need x d)
        → Good t (onto (body b) (tok div (act Θ e μ) ∷ onto (body a) (tok sync Θ ∷ W))) (need (x && not (x && v)) d)
    if_good W Θ e a b d μ true true ex ev o h = good_onto (body b) _ _ (woke _ (on_awaits _ _ d div ex ev (o refl)) (good_onto (body a) _ going (ex, h)))
    if_good W Θ e a b d μ true false ex ev o h = good_onto (body b) _ going (rw (ex, ev), good_onto (body a) _ joining (ex, h))
    if_good W Θ e a b d μ false v ex ev o h =
        good_onto (body b) _ _ (slept _ (off _ _ (off _ _ ex)) (good_onto (body a) _ (resting d) (slept _ (off _ _ ex) h)))

    while_good : (W : List Item) (Θ : Mask) (e : Expr) (k : ℕ) (d : DisableState) (x v : Bool) → Θ t ≡ x → (x ≡ true → d ≡ on) → Good t W (need x d)
        → Good t (onto (body k) (stm (again e k) ∷ tok brk Θ ∷ W)) (need (x && v) d)
    while_good W Θ e k d true true ex o h = good_onto (body k) _ going (ex, h)
    while_good W Θ e k d true false ex o h = good_onto (body k) _ _ (held _ (awaits d brk) ex h (settle W d h))
    while_good W Θ e k d false v ex o h = good_onto (body k) _ _ (slept _ (off _ _ ex) h)

    again_good : (W : List Item) (e : Expr) (k : ℕ) (d : DisableState) (x v : Bool) → Good t W (need x d) → Good t (onto (body k) (stm (again e k) ∷ W)) (need (x && v) d)
    again_good W e k d true true h = good_onto (body k) _ going h
    again_good W e k d true false h = good_onto (body k) _ (resting d) (settle W d h)
    again_good W e k d false v h = good_onto (body k) _ (resting d) h

    exit_good : (W : List Item) (S : List Stm) (d d' : DisableState) (x : Bool) → Good t (onto S W) (need x d) → Good t W (resting (cond x d' d))
    exit_good W S d d' true h = settle W d' (good_drop S W going h)
    exit_good W S d d' false h = good_drop S W (resting d) h

    call_good : (W : List Item) (Θ : Mask) (f : ℕ) (d : DisableState) (x : Bool) → Θ t ≡ x → Good t W (need x d) → Good t (onto (body f) (tok call Θ ∷ W)) (need x d)
    call_good W Θ f d true ex h = good_onto (body f) _ going (ex, h)
    call_good W Θ f d false ex h = good_onto (body f) _ (resting d) (slept _ (off _ _ ex) h)

    idle_good : (W : List Item) (m : Bool) (d : DisableState) (k : TokenType) → cond (m && awaits d k) (Good t W going) (Good t W (resting d))
        → Good t W (need (m && is_on (cond (m && awaits d k) on d)) (cond (m && awaits d k) on d))
    unfolding awaits is_on
    idle_good W false d k h = h
    idle_good W true on k h = h
    idle_good W true broke sync h = h
    idle_good W true broke div h = h
    idle_good W true broke brk h = h
    idle_good W true broke call h = h
    idle_good W true returned sync h = h
    idle_good W true returned div h = h
    idle_good W true returned brk h = h
    idle_good W true returned call h = h

    -- a token seen by a going lane: as by a resting one
    token_good : (W : List Item) (k : TokenType) (m : Mask) (d : DisableState) → d ≡ on → Good t (tok k m ∷ W) going → cond (m t && awaits d k) (Good t W going) (Good t W (resting d))
    token_good W sync m d o h = held (m t) _ h.0 h.1 (settle W d h.1)
    token_good W div m d o h = slept _ (off (m t) _ h.0) (join W d h.1)
    token_good W brk m d o h = held (m t) _ h.0 h.1 (settle W d h.1)
    token_good W call m d o h = held (m t) _ h.0 h.1 (settle W d h.1)

    seen : (W : List Item) (k : TokenType) (m : Mask) (d : DisableState) (x : Bool) → (x ≡ true → d ≡ on) → Good t (tok k m ∷ W) (need x d) → cond (m t && awaits d k) (Good t W going) (Good t W (resting d))
    seen W k m d true o h = token_good W k m d (o refl) h
    seen W k m d false o h = h

    pub good_next : {W : List Item} {Θ : Mask} {Δ : DisableMask} {μ : Mem} {W' : List Item} {Θ' : Mask} {Δ' : DisableMask} {μ' : Mem} → WarpStep body n W Θ Δ μ W' Θ' Δ' μ'
        → (Θ t ≡ true → Δ t ≡ on) → Good t W (need (Θ t) (Δ t)) → Good t W' (need (Θ' t) (Δ' t))
    good_next (skip_w x) o h = h
    good_next (assign_w x) o h = h
    good_next (if_w {e = e} {S₁ = a} {S₂ = b} {W = W} {Θ = Θ} {Δ = Δ} {μ = μ} x) o h = if_good W Θ e a b (Δ t) μ (Θ t) (test e t μ) refl refl o h
    good_next (while_w {e = e} {S = k} {W = W} {Θ = Θ} {Δ = Δ} {μ = μ} x) o h = while_good W Θ e k (Δ t) (Θ t) (test e t μ) refl o h
    good_next (again_w {e = e} {S = k} {W = W} {Θ = Θ} {Δ = Δ} {μ = μ} x) o h = again_good W e k (Δ t) (Θ t) (test e t μ) h
    good_next (break_w S {k = k} {m = m} {W = W} {Θ = Θ} {Δ = Δ} x) o h = exit_good (tok k m ∷ W) S (Δ t) broke (Θ t) h
    good_next (call_w {f = f} {W = W} {Θ = Θ} {Δ = Δ} x) o h = call_good W Θ f (Δ t) (Θ t) refl h
    good_next (return_w S {k = k} {m = m} {W = W} {Θ = Θ} {Δ = Δ} x) o h = exit_good (tok k m ∷ W) S (Δ t) returned (Θ t) h
    good_next (token_w {k = k} {m = m} {W = W} {Θ = Θ} {Δ = Δ}) o h = idle_good W (m t) (Δ t) k (seen W k m (Δ t) (Θ t) o h)
    good_next (inact_w s S {k = k} {m = m} {W = W} {Θ = Θ} {Δ = Δ} x) o h = good_drop S (tok k m ∷ W) (need (Θ t) (Δ t)) h

    able_next : {W : List Item} {Θ : Mask} {Δ : DisableMask} {μ : Mem} {W' : List Item} {Θ' : Mask} {Δ' : DisableMask} {μ' : Mem} → WarpStep body n W Θ Δ μ W' Θ' Δ' μ'
        → (Θ t ≡ true → Δ t ≡ on) → Θ' t ≡ true → Δ' t ≡ on
    able_next (skip_w x) o h = o h
    able_next (assign_w x) o h = o h
    able_next (if_w x) o h = o (both _ _ h).0
    able_next (while_w x) o h = o (both _ _ h).0
    able_next (again_w x) o h = o (both _ _ h).0
    able_next (break_w S x) o h = clashing h refl
    able_next (call_w x) o h = o h
    able_next (return_w S x) o h = clashing h refl
    able_next (token_w {k = k} {m = m} {Δ = Δ}) o h = ison _ (both (m t) _ h).1
    able_next (inact_w s S x) o h = o h

module _ (looped : ℕ → Bool) (body : Bodies) (L : Confined body looped) (n : ℕ) where
  pub next : {W : List Item} {Θ : Mask} {Δ : DisableMask} {μ : Mem} {W' : List Item} {Θ' : Mask} {Δ' : DisableMask} {μ' : Mem} → WarpStep body n W Θ Δ μ W' Θ' Δ' μ' → Inv looped n W Θ Δ → Inv looped n W' Θ' Δ'
  next s I =
      record {
        shape = shape_next looped body L n s I.shape;
        good = λ t l. good_next t body n s (I.able t l) (I.good t l);
        able = λ t l. able_next t body n s (I.able t l);
      }

  -- the start: a body that lies in no loop, under one call token
  pub start : (k : ℕ) (Θ : Mask) → looped k ≡ false → ((t : ℕ) → t < n → Θ t ≡ true) → Inv looped n (onto (body k) (tok call Θ ∷ [])) Θ (λ t. on)
  unfolding called
  start k Θ e a =
      record {
        shape = shape_onto looped (body k) (looped k) (tok call Θ ∷ []) (L k) (λ f. clashing f e) refl tt;
        good = λ t l. rw (a t l) (good_onto t (body k) (tok call Θ ∷ []) going (a t l, tt));
        able = λ t l f. refl;
      }
