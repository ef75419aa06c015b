-- Every warp step from a reached configuration is matched by steps of single lanes.
use mathlib.Core.Path.{◌≡◌, refl, sym, ap, ◌∙◌, subst}
use mathlib.Core.Bool.{Bool, true, false, ◌&&◌, not, cond}
use mathlib.Core.List.{List, [], ◌∷◌, ◌++◌}
use Prim.Native.Nat.{ℕ, ◌<◌}
use borrow.Author.Tests.{lt-ltb, le-ltb}
use lib.Dec.{ltb}
use lib.ListN.{set}
use Rattle.relation.proofs.Truth.{clashing, pair}
use Rattle.warps.specs.Language.{Expr, literal, Stm, skip, assign, branch, while, again, break, invoke, return, Bodies, Mem, eval, test}
use Rattle.warps.specs.Warp.{TokenType, div, sync, brk, call, DisableState, on, broke, returned, Mask, DisableMask, Item, stm, tok, onto, awaits, is_on, enabled, woken, act, excluding, nobody, disable, updated, WarpStep, skip_w, assign_w, if_w, while_w, again_w, break_w, call_w, return_w, token_w, inact_w}
use Rattle.warps.specs.Threads.{brk_c, call_c, Piece, does, ctx, stacked, call_free, ThreadStep, skip_t, assign_rd, assign_wr, if_tt, if_ff, while_tt, while_ff, again_tt, again_ff, break_t, call_t, return_t, context_t, ThreadStacks, Interleaved}
use Rattle.warps.specs.Projection.{running, waiting, mode_of, proj, stacks}
use Rattle.warps.specs.Programs.{Confined}
use Rattle.warps.proofs.Shape.{off, in_loop, called, AtBrk, going, joining, Good, need, Inv}
use Rattle.warps.proofs.Sweep.{ThreadSteps, join, sweep}

taken {ℓ} : {A : Type ℓ} {b : Bool} (x y : A) → b ≡ true → cond b x y ≡ x
taken x y e = rw e

passed {ℓ} : {A : Type ℓ} {b : Bool} (x y : A) → b ≡ false → cond b x y ≡ y
passed x y e = rw e

nor : (a b : Bool) → b ≡ false → a && b ≡ false
nor true b e = e
nor false b e = refl

module _ (t : ℕ) where
  runs_onto : (S : List Stm) (W : List Item) → proj t (onto S W) running ≡ stacked S (proj t W running)
  unfolding proj onto stacked
  runs_onto [] W = refl
  runs_onto (s ∷ S) W = ap (λ (T : List Piece). does s ∷ T) (runs_onto S W)

  waits_onto : (S : List Stm) (W : List Item) (d : DisableState) → proj t (onto S W) (waiting d) ≡ proj t W (waiting d)
  unfolding proj onto
  waits_onto [] W d = refl
  waits_onto (s ∷ S) W d = waits_onto S W d

  -- ---- what a break leaves

  abbrev Unloop : List Piece → List Piece → Type 0
  Unloop T U = (S : List Stm) × (T ≡ stacked S (ctx brk_c ∷ U))

  to : {T U R : List Piece} → R ≡ U → Unloop T U → Unloop T R
  to {T} e u = subst (Unloop T) (sym e) u

  mutual
    unfolding proj in_loop stacked awaits

    unloop : (W : List Item) → in_loop W ≡ true → Good t W going → Unloop (proj t W running) (proj t W (waiting broke))
    unloop [] i h = clashing i refl
    unloop (stm s ∷ W) i h = let r = unloop W i h in (s ∷ r.0, ap (λ (T : List Piece). does s ∷ T) r.1)
    unloop (tok sync m ∷ W) i h = to (passed _ _ (nor (m t) false refl)) (unloop W i h.1)
    unloop (tok div m ∷ W) i h = to (passed _ _ (nor (m t) false refl)) (unloop_join W i h.1)
    unloop (tok brk m ∷ W) i h = to (taken _ _ (pair (m t) true h.0 refl)) ([], refl)
    unloop (tok call m ∷ W) i h = clashing i refl

    unloop_join : (W : List Item) → in_loop W ≡ true → Good t W joining → Unloop (proj t W (waiting on)) (proj t W (waiting broke))
    unloop_join [] i h = absurd h
    unloop_join (stm s ∷ W) i h = unloop_join W i h
    unloop_join (tok sync m ∷ W) i h =
        to (passed _ _ (nor (m t) false refl)) (subst (λ (T : List Piece). Unloop T (proj t W (waiting broke))) (sym (taken _ _ (pair (m t) true h.0 refl))) (unloop W i h.1))
    unloop_join (tok div m ∷ W) i h = absurd h
    unloop_join (tok brk m ∷ W) i h = absurd h
    unloop_join (tok call m ∷ W) i h = absurd h

  -- ---- what a return leaves

  abbrev Unframe : List Piece → List Piece → Type 0
  Unframe T U = (R : List Piece) × (call_free R ≡ true) × (T ≡ R ++ (ctx call_c ∷ U))

  to' : {T U R : List Piece} → R ≡ U → Unframe T U → Unframe T R
  to' {T} e u = subst (Unframe T) (sym e) u

  mutual
    unfolding proj called call_free awaits

    unframe : (W : List Item) → called W ≡ true → Good t W going → Unframe (proj t W running) (proj t W (waiting returned))
    unframe [] i h = clashing i refl
    unframe (stm s ∷ W) i h = let r = unframe W i h in (does s ∷ r.0, r.1, ap (λ (T : List Piece). does s ∷ T) r.2)
    unframe (tok sync m ∷ W) i h = to' (passed _ _ (nor (m t) false refl)) (unframe W i h.1)
    unframe (tok div m ∷ W) i h = to' (passed _ _ (nor (m t) false refl)) (unframe_join W i h.1)
    unframe (tok brk m ∷ W) i h = let r = unframe W i h.1 in to' (passed _ _ (nor (m t) false refl)) (ctx brk_c ∷ r.0, r.1, ap (λ (T : List Piece). ctx brk_c ∷ T) r.2)
    unframe (tok call m ∷ W) i h = to' (taken _ _ (pair (m t) true h.0 refl)) ([], refl, refl)

    unframe_join : (W : List Item) → called W ≡ true → Good t W joining → Unframe (proj t W (waiting on)) (proj t W (waiting returned))
    unframe_join [] i h = absurd h
    unframe_join (stm s ∷ W) i h = unframe_join W i h
    unframe_join (tok sync m ∷ W) i h =
        to' (passed _ _ (nor (m t) false refl)) (subst (λ (T : List Piece). Unframe T (proj t W (waiting returned))) (sym (taken _ _ (pair (m t) true h.0 refl))) (unframe W i h.1))
    unframe_join (tok div m ∷ W) i h = absurd h
    unframe_join (tok brk m ∷ W) i h = absurd h
    unframe_join (tok call m ∷ W) i h = absurd h

  -- ---- one lane, rule by rule; x: it is active, d: its state, v: its test

  module _ (body : Bodies) where
    abbrev Goes : List Piece → Mem → List Piece → Type 0
    Goes T μ U = ThreadSteps body t T μ U μ

    still : {T U : List Piece} (μ : Mem) → T ≡ U → Goes T μ U
    still {T} μ e = subst (λ (U : List Piece). Goes T μ U) e ThreadSteps.none

    goes : {T U R : List Piece} (μ : Mem) → ThreadStep body t T μ U μ → U ≡ R → Goes T μ R
    goes μ s e = ThreadSteps.more s (still μ e)

    if_lane : (W : List Item) (Θ : Mask) (e : Expr) (a b : ℕ) (d : DisableState) (μ : Mem) (x v : Bool) → Θ t ≡ x → test e t μ ≡ v → (x ≡ true → d ≡ on)
        → Goes (proj t (stm (branch e a b) ∷ W) (mode_of x d)) μ (proj t (onto (body b) (tok div (act Θ e μ) ∷ onto (body a) (tok sync Θ ∷ W))) (mode_of (x && not (x && v)) d))
    unfolding proj awaits
    if_lane W Θ e a b d μ true true ex ev o =
        goes μ (if_tt ev)
        (sym (waits_onto (body b) _ d ∙ taken _ _ (pair _ (awaits d div) (pair _ _ ex ev) (rw (o refl))) ∙ runs_onto (body a) (tok sync Θ ∷ W)))
    if_lane W Θ e a b d μ true false ex ev o =
        goes μ (if_ff ev)
        (sym (runs_onto (body b) (tok div (act Θ e μ) ∷ onto (body a) (tok sync Θ ∷ W)) ∙ ap (stacked (body b)) (waits_onto (body a) (tok sync Θ ∷ W) on ∙ taken _ _ (pair _ true ex refl))))
    if_lane W Θ e a b d μ false v ex ev o =
        still μ (sym (waits_onto (body b) (tok div (act Θ e μ) ∷ onto (body a) (tok sync Θ ∷ W)) d ∙ passed _ _ (off _ (awaits d div) (off _ _ ex)) ∙ waits_onto (body a) (tok sync Θ ∷ W) d ∙ passed _ _ (off _ (awaits d sync) ex)))

    while_lane : (W : List Item) (Θ : Mask) (e : Expr) (k : ℕ) (d : DisableState) (μ : Mem) (x v : Bool) → Θ t ≡ x → test e t μ ≡ v → (x ≡ true → d ≡ on)
        → Goes (proj t (stm (while e k) ∷ W) (mode_of x d)) μ (proj t (onto (body k) (stm (again e k) ∷ tok brk Θ ∷ W)) (mode_of (x && v) d))
    unfolding proj awaits
    while_lane W Θ e k d μ true true ex ev o = goes μ (while_tt ev) (sym (runs_onto (body k) (stm (again e k) ∷ tok brk Θ ∷ W)))
    while_lane W Θ e k d μ true false ex ev o =
        goes μ (while_ff ev) (sym (waits_onto (body k) (stm (again e k) ∷ tok brk Θ ∷ W) d ∙ taken _ _ (pair _ (awaits d brk) ex (rw (o refl)))))
    while_lane W Θ e k d μ false v ex ev o = still μ (sym (waits_onto (body k) (stm (again e k) ∷ tok brk Θ ∷ W) d ∙ passed _ _ (off _ (awaits d brk) ex)))

    -- the lane leaves the loop in two steps: the test, then the context
    leaves : (W : List Item) (d : DisableState) (μ : Mem) → d ≡ on → AtBrk W → Good t W going → Goes (proj t W running) μ (proj t W (waiting d))
    unfolding proj awaits
    leaves [] d μ o a h = absurd a
    leaves (stm s ∷ W) d μ o a h = absurd a
    leaves (tok sync m ∷ W) d μ o a h = absurd a
    leaves (tok div m ∷ W) d μ o a h = absurd a
    leaves (tok brk m ∷ W) d μ o a h = goes μ context_t (sym (taken _ _ (pair _ (awaits d brk) h.0 (rw o))))
    leaves (tok call m ∷ W) d μ o a h = absurd a

    again_lane : (W : List Item) (e : Expr) (k : ℕ) (d : DisableState) (μ : Mem) (x v : Bool) → test e t μ ≡ v → (x ≡ true → d ≡ on) → AtBrk W → Good t W (need x d)
        → Goes (proj t (stm (again e k) ∷ W) (mode_of x d)) μ (proj t (onto (body k) (stm (again e k) ∷ W)) (mode_of (x && v) d))
    unfolding proj
    again_lane W e k d μ true true ev o a h = goes μ (again_tt ev) (sym (runs_onto (body k) (stm (again e k) ∷ W)))
    again_lane W e k d μ true false ev o a h =
        ThreadSteps.more (again_ff ev) (subst (λ (U : List Piece). Goes (proj t W running) μ U) (sym (waits_onto (body k) (stm (again e k) ∷ W) d)) (leaves W d μ (o refl) a h))
    again_lane W e k d μ false v ev o a h = still μ (sym (waits_onto (body k) (stm (again e k) ∷ W) d))

    break_lane : (W : List Item) (S : List Stm) (d : DisableState) (μ : Mem) (x : Bool) → in_loop (onto S W) ≡ true → Good t (onto S W) (need x d)
        → Goes (proj t (stm break ∷ onto S W) (mode_of x d)) μ (proj t W (waiting (cond x broke d)))
    unfolding proj
    break_lane W S d μ true i h =
        let r = unloop (onto S W) i h in
        subst (λ (T : List Piece). Goes (does break ∷ T) μ (proj t W (waiting broke))) (sym r.1) (goes μ (break_t r.0) (waits_onto S W broke))
    break_lane W S d μ false i h = still μ (waits_onto S W d)

    return_lane : (W : List Item) (S : List Stm) (d : DisableState) (μ : Mem) (x : Bool) → called (onto S W) ≡ true → Good t (onto S W) (need x d)
        → Goes (proj t (stm return ∷ onto S W) (mode_of x d)) μ (proj t W (waiting (cond x returned d)))
    unfolding proj
    return_lane W S d μ true i h =
        let r = unframe (onto S W) i h in
        subst (λ (T : List Piece). Goes (does return ∷ T) μ (proj t W (waiting returned))) (sym r.2) (goes μ (return_t r.0 r.1) (waits_onto S W returned))
    return_lane W S d μ false i h = still μ (waits_onto S W d)

    call_lane : (W : List Item) (Θ : Mask) (f : ℕ) (d : DisableState) (μ : Mem) (x : Bool) → Θ t ≡ x
        → Goes (proj t (stm (invoke f) ∷ W) (mode_of x d)) μ (proj t (onto (body f) (tok call Θ ∷ W)) (mode_of x d))
    unfolding proj
    call_lane W Θ f d μ true ex = goes μ call_t (sym (runs_onto (body f) (tok call Θ ∷ W)))
    call_lane W Θ f d μ false ex = still μ (sym (waits_onto (body f) (tok call Θ ∷ W) d ∙ passed _ _ (off _ (awaits d call) ex)))

    skip_lane : (W : List Item) (d : DisableState) (μ : Mem) (x : Bool) → Goes (proj t (stm skip ∷ W) (mode_of x d)) μ (proj t W (mode_of x d))
    unfolding proj
    skip_lane W d μ true = goes μ skip_t refl
    skip_lane W d μ false = still μ refl

    -- what a token wakes
    awake : (W : List Item) (m : Bool) (d : DisableState) (k : TokenType)
        → cond (m && awaits d k) (proj t W running) (proj t W (waiting d)) ≡ proj t W (mode_of (m && is_on (cond (m && awaits d k) on d)) (cond (m && awaits d k) on d))
    unfolding awaits is_on
    awake W false d k = refl
    awake W true on k = refl
    awake W true broke sync = refl
    awake W true broke div = refl
    awake W true broke brk = refl
    awake W true broke call = refl
    awake W true returned sync = refl
    awake W true returned div = refl
    awake W true returned brk = refl
    awake W true returned call = refl

    meets : (W : List Item) (k : TokenType) (m : Mask) (d : DisableState) (μ : Mem) → d ≡ on → Good t (tok k m ∷ W) going
        → Goes (proj t (tok k m ∷ W) running) μ (cond (m t && awaits d k) (proj t W running) (proj t W (waiting d)))
    unfolding proj awaits
    meets W sync m d μ o h = still μ (sym (taken _ _ (pair _ (awaits d sync) h.0 (rw o))))
    meets W div m d μ o h = still μ (ap (λ (d : DisableState). proj t W (waiting d)) (sym o) ∙ sym (passed _ _ (off _ (awaits d div) h.0)))
    meets W brk m d μ o h = goes μ context_t (sym (taken _ _ (pair _ (awaits d brk) h.0 (rw o))))
    meets W call m d μ o h = goes μ context_t (sym (taken _ _ (pair _ (awaits d call) h.0 (rw o))))

    token_lane : (W : List Item) (k : TokenType) (m : Mask) (d : DisableState) (μ : Mem) (x : Bool) → (x ≡ true → d ≡ on) → Good t (tok k m ∷ W) (need x d)
        → Goes (proj t (tok k m ∷ W) (mode_of x d)) μ (cond (m t && awaits d k) (proj t W running) (proj t W (waiting d)))
    unfolding proj
    token_lane W k m d μ true o h = meets W k m d μ (o refl) h
    token_lane W k m d μ false o h = still μ refl

    inact_lane : (W : List Item) (s : Stm) (S : List Stm) (d : DisableState) (μ : Mem) (x : Bool) → x ≡ false → Goes (proj t (stm s ∷ onto S W) (mode_of x d)) μ (proj t W (mode_of x d))
    unfolding proj
    inact_lane W s S d μ true e = clashing refl e
    inact_lane W s S d μ false e = still μ (waits_onto S W d)

-- ---- all lanes

module _ (body : Bodies) (n : ℕ) where
  plain : (W W' : List Item) (Θ Θ' : Mask) (Δ Δ' : DisableMask) (μ : Mem)
      → ((t : ℕ) → t < n → ThreadSteps body t (proj t W (mode_of (Θ t) (Δ t))) μ (proj t W' (mode_of (Θ' t) (Δ' t))) μ)
      → Interleaved body n (stacks n W Θ Δ) μ (stacks n W' Θ' Δ') μ
  plain W W' Θ Θ' Δ Δ' μ h =
      sweep body n (stacks n W Θ Δ) (stacks n W' Θ' Δ') (λ k. μ) (λ t l. rw (lt-ltb t n l) (h t l)) (λ t l. rw (le-ltb t n l))

  module _ (c : ℕ) (e : Expr) (W : List Item) (Θ : Mask) (Δ : DisableMask) (μ : Mem) where
    -- the active lanes have read
    abbrev half : ℕ → Bool → List Piece
    half t x = cond x (does (assign c (literal (eval e t μ))) ∷ proj t W running) (proj t W (waiting (Δ t)))

    abbrev told : ThreadStacks
    told t = cond (ltb t n) (half t (Θ t)) []

    reads : (t : ℕ) (x : Bool) → ThreadSteps body t (proj t (stm (assign c e) ∷ W) (mode_of x (Δ t))) μ (half t x) μ
    unfolding proj
    reads t true = ThreadSteps.more assign_rd ThreadSteps.none
    reads t false = ThreadSteps.none

    stores : (t : ℕ) (x : Bool) (ν : Mem) → ThreadSteps body t (half t x) ν (proj t W (mode_of x (Δ t))) (cond x (set ν c (eval e t μ)) ν)
    stores t true ν = ThreadSteps.more assign_wr ThreadSteps.none
    stores t false ν = ThreadSteps.none

    assigned : Interleaved body n (stacks n (stm (assign c e) ∷ W) Θ Δ) μ (stacks n W Θ Δ) (updated n Θ c e μ)
    unfolding updated
    assigned =
        join body n (sweep body n (stacks n (stm (assign c e) ∷ W) Θ Δ) told (λ k. μ) (λ t l. rw (lt-ltb t n l) (reads t (Θ t))) (λ t l. rw (le-ltb t n l)))
        (sweep body n told (stacks n W Θ Δ) (λ k. updated k Θ c e μ) (λ t l. rw (lt-ltb t n l) (stores t (Θ t) (updated t Θ c e μ))) (λ t l. rw (le-ltb t n l)))

  module _ (looped : ℕ → Bool) (L : Confined body looped) where
    pub matched : {W : List Item} {Θ : Mask} {Δ : DisableMask} {μ : Mem} {W' : List Item} {Θ' : Mask} {Δ' : DisableMask} {μ' : Mem} → Inv looped n W Θ Δ → WarpStep body n W Θ Δ μ W' Θ' Δ' μ'
        → Interleaved body n (stacks n W Θ Δ) μ (stacks n W' Θ' Δ') μ'
    matched I (skip_w {W = W} {Θ = Θ} {Δ = Δ} {μ = μ} x) = plain _ _ Θ Θ Δ Δ μ (λ t l. skip_lane t body W (Δ t) μ (Θ t))
    matched I (assign_w {x = c} {e = e} {W = W} {Θ = Θ} {Δ = Δ} {μ = μ} x) = assigned c e W Θ Δ μ
    matched I (if_w {e = e} {S₁ = a} {S₂ = b} {W = W} {Θ = Θ} {Δ = Δ} {μ = μ} x) =
        plain _ _ Θ (excluding Θ (act Θ e μ)) Δ Δ μ (λ t l. if_lane t body W Θ e a b (Δ t) μ (Θ t) (test e t μ) refl refl (I.able t l))
    matched I (while_w {e = e} {S = k} {W = W} {Θ = Θ} {Δ = Δ} {μ = μ} x) =
        plain _ _ Θ (act Θ e μ) Δ Δ μ (λ t l. while_lane t body W Θ e k (Δ t) μ (Θ t) (test e t μ) refl refl (I.able t l))
    matched I (again_w {e = e} {S = k} {W = W} {Θ = Θ} {Δ = Δ} {μ = μ} x) =
        plain _ _ Θ (act Θ e μ) Δ Δ μ (λ t l. again_lane t body W e k (Δ t) μ (Θ t) (test e t μ) refl (I.able t l) I.shape.0 (I.good t l))
    matched I (break_w S {k = k} {m = m} {W = W} {Θ = Θ} {Δ = Δ} {μ = μ} x) =
        plain _ _ Θ nobody Δ (disable Θ broke Δ) μ (λ t l. break_lane t body (tok k m ∷ W) S (Δ t) μ (Θ t) I.shape.0 (I.good t l))
    matched I (call_w {f = f} {W = W} {Θ = Θ} {Δ = Δ} {μ = μ} x) = plain _ _ Θ Θ Δ Δ μ (λ t l. call_lane t body W Θ f (Δ t) μ (Θ t) refl)
    matched I (return_w S {k = k} {m = m} {W = W} {Θ = Θ} {Δ = Δ} {μ = μ} x) =
        plain _ _ Θ nobody Δ (disable Θ returned Δ) μ (λ t l. return_lane t body (tok k m ∷ W) S (Δ t) μ (Θ t) I.shape.1 (I.good t l))
    matched I (token_w {k = k} {m = m} {W = W} {Θ = Θ} {Δ = Δ} {μ = μ}) =
        plain _ _ Θ (woken Δ k m) Δ (enabled Δ k m) μ
        (λ t l. subst (λ (U : List Piece). ThreadSteps body t (proj t (tok k m ∷ W) (mode_of (Θ t) (Δ t))) μ U μ) (awake t body W (m t) (Δ t) k)
        (token_lane t body W k m (Δ t) μ (Θ t) (I.able t l) (I.good t l)))
    matched I (inact_w s S {k = k} {m = m} {W = W} {Θ = Θ} {Δ = Δ} {μ = μ} x) =
        plain _ _ Θ Θ Δ Δ μ (λ t l. inact_lane t body (tok k m ∷ W) s S (Δ t) μ (Θ t) (x t l))
