-- The code's warp is a configuration of Table 2, and its step is that table's.
use mathlib.Core.Path.{◌≡◌, refl, sym, ap, ap₂, ◌∙◌, fun_ext}
use mathlib.Core.Logic.{⊎_elim, by_cases, ◌≢◌}
use mathlib.Core.Bool.{Bool, true, false, ◌&&◌, not, cond}
use mathlib.Core.List.{List, [], ◌∷◌}
use Prim.Native.Nat.{ℕ, zero, suc, ◌≤◌, ◌<◌}
use native.Mathlib.Decide.{ℕ_discrete, dec_lt}
use native.Mathlib.Omega.{arith}
use borrow.Author.Tests.{eq-eqb, ne_eqb, le-ltb}
use lib.Dec.{eqb}
use lib.ListN.{set}
use Rattle.relation.specs.Bits.{bit_of}
use Rattle.relation.proofs.Truth.{clashing, split, both}
use Rattle.relation.proofs.Words.{except_bit, zero_bit}
use Rattle.warps.specs.Language.{Expr, Stm, skip, assign, branch, while, again, break, invoke, return, Mem, eval, test}
use Rattle.warps.specs.Warp.{div, call, on, Mask, DisableMask, Item, stm, tok, onto, Config, act, updated, initial}
use Rattle.warps.specs.Lists.{rows_from}
use Rattle.warps.proofs.Proceed.{any_some, unwind, execute, proceed}
use Rattle.warps.proofs.Theorems.{highest_stays}
use Rattle.lanes.specs.Words.{sync_token, div_token, brk_token, call_token, state_of, except, woken_by, broken_by, returned_by, leaving, only_active, highest_of, all_of}
use Rattle.lanes.specs.declared.Lanes.{Lanes}
use Rattle.lanes.proofs.Bits.{Below, below_except, any_zero, any_word, highest_above, highest_in, all_bit}
use Rattle.lanes.proofs.Words.{Apart, woken_state, woken_active, broken_state, returned_state, apart_woken, apart_broken, apart_returned, apart_fewer}
use Rattle.kernels.specs.Rows.{statements, list_of, kind_of, x_of, y_of, z_of, skip_kind, assign_kind, if_kind, while_kind, break_kind, call_kind}
use Rattle.values.specs.Expressions.{expression}
use Rattle.values.proofs.Lanewise.{acting_bit}
use Rattle.machine.specs.Entries.{Entry, row, token, pile, list_over, from_token}
use Rattle.machine.specs.Entries as entries
use Rattle.machine.specs.Step.{Warp, act_of, obey, advance, start_of}
use Rattle.runs.specs.Denotes.{stm_of, bodies_of, items, config_of}

-- tokens are of the first n lanes
abbrev pub Tokens : ℕ → List Entry → Type 0
Tokens n [] = Unit {0}
Tokens n (row i ∷ W) = Tokens n W
Tokens n (entries.again i ∷ W) = Tokens n W
Tokens n (token kind mask ∷ W) = Below n mask × Tokens n W

-- what every warp keeps that a start of n lanes reaches
pub record Sound (n : ℕ) (w : Warp) : Type 0 where
  pub apart : Apart w.lanes
  pub low : Below n w.lanes.active
  pub tokens : Tokens n w.stack

module _ (s e : List ℕ) where
  items_pile : (m i b : ℕ) (W : List Entry) → items s e (pile s m i b W) ≡ onto (rows_from (stm_of s e) (list_of s) m i b) (items s e W)
  unfolding items pile rows_from onto
  items_pile zero i b W = refl
  items_pile (suc m) i b W =
      ⊎_elim (λ (q : eqb (list_of s i) b ≡ true). rw q (ap (λ (R : List Item). stm (stm_of s e i) ∷ R) (items_pile m (suc i) b W)))
      (λ (q : eqb (list_of s i) b ≡ false). rw q (items_pile m (suc i) b W)) (split (eqb (list_of s i) b))

  items_over : (b : ℕ) (W : List Entry) → items s e (list_over s b W) ≡ onto (bodies_of s e b) (items s e W)
  items_over b W = items_pile (statements s) 0 b W

  items_drop : (W : List Entry) → items s e (from_token W) ≡ unwind (items s e W)
  unfolding items from_token unwind
  items_drop [] = refl
  items_drop (row i ∷ W) = items_drop W
  items_drop (entries.again i ∷ W) = items_drop W
  items_drop (token k m ∷ W) = refl

  module _ (n : ℕ) (few : n ≤ 32) where
    same : {W W' : List Item} {Θ Θ' : Mask} {Δ Δ' : DisableMask} {μ μ' : Mem} → W ≡ W' → ((t : ℕ) → Θ t ≡ Θ' t) → ((t : ℕ) → Δ t ≡ Δ' t) → μ ≡ μ'
        → ◌≡◌ {A = Config} (record { stack = W; active = Θ; off = Δ; mem = μ }) (record { stack = W'; active = Θ'; off = Δ'; mem = μ' })
    same p q r m = λ i. record { stack = p i; active = fun_ext q i; off = fun_ext r i; mem = m i }

    module _ (W : List Entry) (L : Lanes) (μ : Mem) (A : Apart L) (l : Below n L.active) where
      acted : (x : ℕ) (t : ℕ) → bit_of (act_of s e L μ x) t ≡ act (bit_of L.active) (expression e x) μ t
      acted x t = acting_bit L.active (expression e x) μ (λ t h. l t (omega arith)) t

      stored : L.active ≢ 0 → (c : ℕ) (x : Expr) → set μ c (eval x (highest_of 32 L.active) μ) ≡ updated n (bit_of L.active) c x μ
      stored z c x =
          let (t, h, b) = any_some n (bit_of L.active) (any_word n L.active l z) in
          let top : bit_of L.active (highest_of 32 L.active) ≡ true = highest_in 32 L.active t (omega arith) b in
          sym (highest_stays n (bit_of L.active) c x μ (highest_of 32 L.active) (inside top) top (λ t p q. highest_above 32 L.active t p (omega arith)))
        where
          inside : bit_of L.active (highest_of 32 L.active) ≡ true → highest_of 32 L.active < n
          inside h = by_cases (dec_lt (highest_of 32 L.active) n) (λ (q : highest_of 32 L.active < n). q) (λ (q : ¬ (highest_of 32 L.active < n)). clashing h (l (highest_of 32 L.active) (omega arith)))

      abbrev Obeys : Stm → Warp → Type 0
      Obeys S w = config_of s e w ≡ execute (bodies_of s e) n S (items s e W) (bit_of L.active) (state_of L) μ

      choose : (b : Bool) (S T : Stm) (v w : Warp) → Obeys S v → Obeys T w → Obeys (cond b S T) (cond b v w)
      choose true S T v w p q = p
      choose false S T v w p q = q

      skips : Obeys skip (record { stack = W; lanes = L; cells = μ })
      unfolding execute
      skips = refl

      assigns : L.active ≢ 0 → (x : ℕ) (y : Expr) → Obeys (assign x y) (record { stack = W; lanes = L; cells = set μ x (eval y (highest_of 32 L.active) μ) })
      unfolding execute
      assigns a x y = same refl (λ t. refl) (λ t. refl) (stored a x y)

      branches : (x y z : ℕ)
          → Obeys (branch (expression e x) y z)
          (record { stack = list_over s z (token div_token (act_of s e L μ x) ∷ list_over s y (token sync_token L.active ∷ W)); lanes = leaving L (act_of s e L μ x); cells = μ })
      unfolding execute items
      branches x y z =
          same
          (items_over z (token div_token (act_of s e L μ x) ∷ list_over s y (token sync_token L.active ∷ W))
          ∙ ap (onto (bodies_of s e z)) (ap₂ (λ (m : Mask) (R : List Item). tok div m ∷ R) (fun_ext (acted x)) (items_over y (token sync_token L.active ∷ W))))
          (λ t. except_bit L.active (act_of s e L μ x) t ∙ ap (λ (b : Bool). bit_of L.active t && not b) (acted x t)) (λ t. refl) refl

      loops : (i : ℕ)
          → Obeys (while (expression e (x_of s i)) (y_of s i))
          (record { stack = list_over s (y_of s i) (entries.again i ∷ token brk_token L.active ∷ W); lanes = only_active L (act_of s e L μ (x_of s i)); cells = μ })
      unfolding execute items
      loops i = same (items_over (y_of s i) (entries.again i ∷ token brk_token L.active ∷ W)) (acted (x_of s i)) (λ t. refl) refl

      repeats : (i : ℕ)
          → Obeys (again (expression e (x_of s i)) (y_of s i)) (record { stack = list_over s (y_of s i) (entries.again i ∷ W); lanes = only_active L (act_of s e L μ (x_of s i)); cells = μ })
      unfolding execute items
      repeats i = same (items_over (y_of s i) (entries.again i ∷ W)) (acted (x_of s i)) (λ t. refl) refl

      breaks : Obeys break (record { stack = from_token W; lanes = broken_by L; cells = μ })
      unfolding execute
      breaks = same (items_drop W) zero_bit (λ t. broken_state L t A) refl

      calls : (x : ℕ) → Obeys (invoke x) (record { stack = list_over s x (token call_token L.active ∷ W); lanes = L; cells = μ })
      unfolding execute items
      calls x = same (items_over x (token call_token L.active ∷ W)) (λ t. refl) (λ t. refl) refl

      returns : Obeys return (record { stack = from_token W; lanes = returned_by L; cells = μ })
      unfolding execute
      returns = same (items_drop W) zero_bit (λ t. returned_state L t A) refl

      obeys : (i : ℕ) → L.active ≢ 0 → Obeys (stm_of s e i) (obey s e i W L μ)
      unfolding obey stm_of
      obeys i a =
          choose (eqb (kind_of s i) skip_kind) _ _ _ _ skips
          (choose (eqb (kind_of s i) assign_kind) _ _ _ _ (assigns a (x_of s i) (expression e (y_of s i)))
          (choose (eqb (kind_of s i) if_kind) _ _ _ _ (branches (x_of s i) (y_of s i) (z_of s i))
          (choose (eqb (kind_of s i) while_kind) _ _ _ _ (loops i) (choose (eqb (kind_of s i) break_kind) _ _ _ _ breaks (choose (eqb (kind_of s i) call_kind) _ _ _ _ (calls (x_of s i)) returns)))))

    -- the code's step is Table 2's
    pub advances : (W : List Entry) (L : Lanes) (μ : Mem) → Sound n (record { stack = W; lanes = L; cells = μ })
        → config_of s e (advance s e W L μ) ≡ proceed (bodies_of s e) n (items s e W) (bit_of L.active) (state_of L) μ
    unfolding advance proceed items
    advances [] L μ S = refl
    advances (token k m ∷ W) L μ S = same refl (λ t. woken_active L k m t S.apart) (λ t. woken_state L k m t S.apart) refl
    advances (row i ∷ W) L μ S =
        by_cases (ℕ_discrete L.active 0)
        (λ (q : L.active ≡ 0). rw (eq-eqb L.active 0 q, any_zero n L.active q) (same (items_drop W) (λ t. refl) (λ t. refl) refl))
        (λ (q : L.active ≢ 0). rw (ne_eqb L.active 0 q, any_word n L.active S.low q) (obeys W L μ S.apart S.low i q))
    advances (entries.again i ∷ W) L μ S =
        by_cases (ℕ_discrete L.active 0)
        (λ (q : L.active ≡ 0). rw (eq-eqb L.active 0 q, any_zero n L.active q) (same (items_drop W) (λ t. refl) (λ t. refl) refl))
        (λ (q : L.active ≢ 0). rw (ne_eqb L.active 0 q, any_word n L.active S.low q) (repeats W L μ S.apart S.low i))

    -- ---- what a warp keeps
    tokens_pile : (m i b : ℕ) (W : List Entry) → Tokens n W → Tokens n (pile s m i b W)
    unfolding pile
    tokens_pile zero i b W h = h
    tokens_pile (suc m) i b W h =
        ⊎_elim (λ (q : eqb (list_of s i) b ≡ true). rw q (tokens_pile m (suc i) b W h)) (λ (q : eqb (list_of s i) b ≡ false). rw q (tokens_pile m (suc i) b W h)) (split (eqb (list_of s i) b))

    tokens_drop : (W : List Entry) → Tokens n W → Tokens n (from_token W)
    unfolding from_token
    tokens_drop [] h = h
    tokens_drop (row i ∷ W) h = tokens_drop W h
    tokens_drop (entries.again i ∷ W) h = tokens_drop W h
    tokens_drop (token k m ∷ W) h = h

    sound_choice : (b : Bool) (v w : Warp) → Sound n v → Sound n w → Sound n (cond b v w)
    sound_choice true v w p q = p
    sound_choice false v w p q = q

    module _ (W : List Entry) (L : Lanes) (μ : Mem) (A : Apart L) (l : Below n L.active) (T : Tokens n W) where
      low_act : (x : ℕ) → Below n (act_of s e L μ x)
      low_act x t h = acted W L μ A l x t ∙ rw (l t h)

      apart_act : (x : ℕ) → Apart (only_active L (act_of s e L μ x))
      apart_act x = apart_fewer L (act_of s e L μ x) A (λ t h. (both (bit_of L.active t) (test (expression e x) t μ) (sym (acted W L μ A l x t) ∙ h)).0)

      apart_left : (a : ℕ) → Apart (leaving L a)
      apart_left a = apart_fewer L (except L.active a) A (λ t h. (both (bit_of L.active t) (not (bit_of a t)) (sym (except_bit L.active a t) ∙ h)).0)

      dropped : (M : Lanes) → Apart M → Below n M.active → Sound n (record { stack = from_token W; lanes = M; cells = μ })
      dropped M a h = record { apart = a; low = h; tokens = tokens_drop W T }

      sound_obey : (i : ℕ) → Sound n (obey s e i W L μ)
      unfolding obey
      sound_obey i =
          sound_choice (eqb (kind_of s i) skip_kind) _ _ (record { apart = A; low = l; tokens = T })
          (sound_choice (eqb (kind_of s i) assign_kind) _ _ (record { apart = A; low = l; tokens = T })
          (sound_choice (eqb (kind_of s i) if_kind) _ _
          (record {
            apart = apart_left (act_of s e L μ (x_of s i));
            low = below_except n L.active (act_of s e L μ (x_of s i)) l;
            tokens = tokens_pile (statements s) 0 (z_of s i) _ (low_act (x_of s i), tokens_pile (statements s) 0 (y_of s i) _ (l, T));
          })
          (sound_choice (eqb (kind_of s i) while_kind) _ _
          (record { apart = apart_act (x_of s i); low = low_act (x_of s i); tokens = tokens_pile (statements s) 0 (y_of s i) _ (l, T) })
          (sound_choice (eqb (kind_of s i) break_kind) _ _ (dropped (broken_by L) (apart_broken L A) (λ t h. zero_bit t))
          (sound_choice (eqb (kind_of s i) call_kind) _ _ (record { apart = A; low = l; tokens = tokens_pile (statements s) 0 (x_of s i) _ (l, T) })
          (dropped (returned_by L) (apart_returned L A) (λ t h. zero_bit t)))))))

      sound_again : (i : ℕ) → Sound n (record { stack = list_over s (y_of s i) (entries.again i ∷ W); lanes = only_active L (act_of s e L μ (x_of s i)); cells = μ })
      sound_again i = record { apart = apart_act (x_of s i); low = low_act (x_of s i); tokens = tokens_pile (statements s) 0 (y_of s i) _ T }

    woken_low : (L : Lanes) (k m : ℕ) → Below n m → Below n (woken_by L k m).active
    woken_low L k m h = let w = woken_by L k m in below_except n (except m w.broke) w.returned (below_except n m w.broke h)

    pub sound_advance : (W : List Entry) (L : Lanes) (μ : Mem) → Sound n (record { stack = W; lanes = L; cells = μ }) → Sound n (advance s e W L μ)
    unfolding advance
    sound_advance [] L μ S = S
    sound_advance (token k m ∷ W) L μ S = record { apart = apart_woken L k m S.apart; low = woken_low L k m S.tokens.0; tokens = S.tokens.1 }
    sound_advance (row i ∷ W) L μ S =
        sound_choice (eqb L.active 0) _ _ (dropped W L μ S.apart S.low S.tokens L S.apart S.low) (sound_obey W L μ S.apart S.low S.tokens i)
    sound_advance (entries.again i ∷ W) L μ S =
        sound_choice (eqb L.active 0) _ _ (dropped W L μ S.apart S.low S.tokens L S.apart S.low) (sound_again W L μ S.apart S.low S.tokens i)

    -- ---- the start
    state_start : (t : ℕ) → state_of (record { active = all_of n; broke = 0; returned = 0 }) t ≡ on
    state_start t = rw (zero_bit t)

    pub begins : (μ : Mem) → config_of s e (start_of s n μ) ≡ initial (bodies_of s e) n 0 μ
    unfolding items
    begins μ =
        same (items_over 0 (token call_token (all_of n) ∷ []) ∙ ap (λ (Θ : Mask). onto (bodies_of s e 0) (tok call Θ ∷ [])) (fun_ext (λ t. all_bit n t few))) (λ t. all_bit n t few) state_start refl

    low_start : Below n (all_of n)
    low_start t h = all_bit n t few ∙ le-ltb t n h

    pub sound_start : (μ : Mem) → Sound n (start_of s n μ)
    sound_start μ =
        record {
          apart = record { one = λ t h. clashing h (zero_bit t); able = λ t h. state_start t };
          low = low_start;
          tokens = tokens_pile (statements s) 0 0 _ (low_start, tt);
        }
