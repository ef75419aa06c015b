-- The words follow the rules of Table 2: as masks and disable states, lane by lane.
use mathlib.Core.Path.{◌≡◌, refl, sym, ap, ◌∙◌}
use mathlib.Core.Logic.{⊎_elim, by_cases, ◌≢◌}
use mathlib.Core.Bool.{Bool, true, false, ◌&&◌, ◌||◌, not, cond}
use Prim.Native.Nat.{ℕ}
use native.Mathlib.Decide.{ℕ_discrete}
use native.Mathlib.Omega.{arith}
use borrow.Author.Tests.{eq-eqb, ne_eqb, lt-ltb, le-ltb}
use lib.Dec.{eqb, ltb}
use Rattle.relation.specs.Bits.{bit_of}
use Rattle.relation.proofs.Truth.{clashing, split, both}
use Rattle.relation.proofs.Words.{or_bit, except_bit, zero_bit}
use Rattle.warps.specs.Warp.{TokenType, div, sync, brk, call, DisableState, on, broke, returned, awaits, is_on, enabled, woken, disable}
use Rattle.lanes.specs.Words.{state_by, state_of, token_type, except, woken_by, broken_by, returned_by, only_active}
use Rattle.lanes.specs.declared.Lanes.{Lanes}

-- no lane has both broken off and returned; an active one has done neither
pub record Apart (L : Lanes) : Type 0 where
  pub one : (t : ℕ) → bit_of L.broke t ≡ true → bit_of L.returned t ≡ false
  pub able : (t : ℕ) → bit_of L.active t ≡ true → state_of L t ≡ on

wake_brk : (b r m : Bool) → (b ≡ true → r ≡ false) → state_by (b && not m) r ≡ cond (m && awaits (state_by b r) brk) on (state_by b r)
unfolding awaits
wake_brk true true m h = clashing refl (h refl)
wake_brk true false true h = refl
wake_brk true false false h = refl
wake_brk false true true h = refl
wake_brk false true false h = refl
wake_brk false false true h = refl
wake_brk false false false h = refl

wake_call : (b r m : Bool) → state_by b (r && not m) ≡ cond (m && awaits (state_by b r) call) on (state_by b r)
unfolding awaits
wake_call true r true = refl
wake_call true r false = refl
wake_call false true true = refl
wake_call false true false = refl
wake_call false false true = refl
wake_call false false false = refl

wake_none : (k : TokenType) (b r m : Bool) → awaits broke k ≡ false → awaits returned k ≡ false → state_by b r ≡ cond (m && awaits (state_by b r) k) on (state_by b r)
unfolding awaits
wake_none k true r true h g = rw h
wake_none k true r false h g = refl
wake_none k false true true h g = rw g
wake_none k false true false h g = refl
wake_none k false false true h g = refl
wake_none k false false false h g = refl

-- Δ₂ of a token
pub woken_state : (L : Lanes) (k m t : ℕ) → Apart L → state_of (woken_by L k m) t ≡ enabled (state_of L) (token_type k) (bit_of m) t
unfolding awaits
woken_state L k m t A =
    by_cases (ℕ_discrete k 0)
    (λ (e : k ≡ 0). rw (eq-eqb k 0 e, ne_eqb k 2 (λ q. omega arith), le-ltb 2 k (omega arith)) (wake_none sync (bit_of L.broke t) (bit_of L.returned t) (bit_of m t) refl refl))
    (λ (n₀ : k ≢ 0). by_cases (ℕ_discrete k 1)
    (λ (e : k ≡ 1). rw (ne_eqb k 0 n₀, eq-eqb k 1 e, ne_eqb k 2 (λ q. omega arith), le-ltb 2 k (omega arith)) (wake_none div (bit_of L.broke t) (bit_of L.returned t) (bit_of m t) refl refl))
    (λ (n₁ : k ≢ 1). by_cases (ℕ_discrete k 2)
    (λ (e : k ≡ 2). rw (ne_eqb k 0 n₀, ne_eqb k 1 n₁, eq-eqb k 2 e, le-ltb 2 k (omega arith))
    (ap (λ (b : Bool). state_by b (bit_of L.returned t)) (except_bit L.broke m t) ∙ wake_brk (bit_of L.broke t) (bit_of L.returned t) (bit_of m t) (A.one t)))
    (λ (n₂ : k ≢ 2). rw (ne_eqb k 0 n₀, ne_eqb k 1 n₁, ne_eqb k 2 n₂, lt-ltb 2 k (omega arith))
    (ap (state_by (bit_of L.broke t)) (except_bit L.returned m t) ∙ wake_call (bit_of L.broke t) (bit_of L.returned t) (bit_of m t)))))

open_mask : (m b r : Bool) → (m && not b) && not r ≡ m && is_on (state_by b r)
unfolding is_on
open_mask false b r = refl
open_mask true true r = refl
open_mask true false true = refl
open_mask true false false = refl

-- Θ₂ of a token
pub woken_active : (L : Lanes) (k m t : ℕ) → Apart L → bit_of (woken_by L k m).active t ≡ woken (state_of L) (token_type k) (bit_of m) t
woken_active L k m t A =
    let w = woken_by L k m in
    except_bit (except m w.broke) w.returned t ∙ ap (λ (x : Bool). x && not (bit_of w.returned t)) (except_bit m w.broke t)
    ∙ open_mask (bit_of m t) (bit_of w.broke t) (bit_of w.returned t) ∙ ap (λ (d : DisableState). bit_of m t && is_on d) (woken_state L k m t A)

break_state : (a b r : Bool) → (a ≡ true → state_by b r ≡ on) → state_by (b || a) r ≡ cond a broke (state_by b r)
break_state true true r h = refl
break_state true false r h = refl
break_state false true r h = refl
break_state false false r h = refl

return_state : (a b r : Bool) → (a ≡ true → state_by b r ≡ on) → state_by b (r || a) ≡ cond a returned (state_by b r)
return_state true true r h = let e : broke ≡ on = h refl in absurd (let z : ◌≡◌ {A = ℕ} 0 1 = cc in omega arith)
return_state true false true h = refl
return_state true false false h = refl
return_state false true r h = refl
return_state false false true h = refl
return_state false false false h = refl

pub broken_state : (L : Lanes) (t : ℕ) → Apart L → state_of (broken_by L) t ≡ disable (bit_of L.active) broke (state_of L) t
broken_state L t A = ap (λ (b : Bool). state_by b (bit_of L.returned t)) (or_bit L.broke L.active t) ∙ break_state (bit_of L.active t) (bit_of L.broke t) (bit_of L.returned t) (A.able t)

pub returned_state : (L : Lanes) (t : ℕ) → Apart L → state_of (returned_by L) t ≡ disable (bit_of L.active) returned (state_of L) t
returned_state L t A = ap (state_by (bit_of L.broke t)) (or_bit L.returned L.active t) ∙ return_state (bit_of L.active t) (bit_of L.broke t) (bit_of L.returned t) (A.able t)

-- ---- lanes stay apart
state_on : (b r : Bool) → state_by b r ≡ on → (b ≡ false) × (r ≡ false)
state_on true r e = absurd (let z : ◌≡◌ {A = ℕ} 0 1 = cc in omega arith)
state_on false true e = absurd (let z : ◌≡◌ {A = ℕ} 0 1 = cc in omega arith)
state_on false false e = (refl, refl)

fewer_set : (c : Bool) (a m t : ℕ) → bit_of (cond c (except a m) a) t ≡ true → bit_of a t ≡ true
fewer_set true a m t e = (both (bit_of a t) (not (bit_of m t)) (sym (except_bit a m t) ∙ e)).0
fewer_set false a m t e = e

fewer_clear : (c : Bool) (a m t : ℕ) → bit_of a t ≡ false → bit_of (cond c (except a m) a) t ≡ false
fewer_clear true a m t e = except_bit a m t ∙ rw e
fewer_clear false a m t e = e

open_on : (m b r : Bool) → (m && not b) && not r ≡ true → state_by b r ≡ on
open_on true false false e = refl
open_on true false true e = clashing e refl
open_on true true r e = clashing e refl
open_on false b r e = clashing e refl

pub apart_woken : (L : Lanes) (k m : ℕ) → Apart L → Apart (woken_by L k m)
apart_woken L k m A =
    let w = woken_by L k m in
    record {
      one = λ t e. fewer_clear (ltb 2 k) L.returned m t (A.one t (fewer_set (eqb k 2) L.broke m t e));
      able = λ t e. open_on (bit_of m t) (bit_of w.broke t) (bit_of w.returned t) (sym (except_bit (except m w.broke) w.returned t ∙ ap (λ (x : Bool). x && not (bit_of w.returned t)) (except_bit m w.broke t)) ∙ e);
    }

pub apart_broken : (L : Lanes) → Apart L → Apart (broken_by L)
apart_broken L A =
    record {
      one =
          λ t e. ⊎_elim (λ (b : bit_of L.broke t ≡ true). A.one t b)
          (λ (b : bit_of L.broke t ≡ false). (state_on (bit_of L.broke t) (bit_of L.returned t) (A.able t (sym (rw b) ∙ sym (or_bit L.broke L.active t) ∙ e))).1) (split (bit_of L.broke t));
      able = λ t e. clashing e (zero_bit t);
    }

pub apart_returned : (L : Lanes) → Apart L → Apart (returned_by L)
apart_returned L A =
    record {
      one =
          λ t e. or_bit L.returned L.active t ∙ rw (A.one t e)
          (⊎_elim (λ (b : bit_of L.active t ≡ true). clashing e (state_on (bit_of L.broke t) (bit_of L.returned t) (A.able t b)).0) (λ (b : bit_of L.active t ≡ false). b) (split (bit_of L.active t)));
      able = λ t e. clashing e (zero_bit t);
    }

pub apart_fewer : (L : Lanes) (a : ℕ) → Apart L → ((t : ℕ) → bit_of a t ≡ true → bit_of L.active t ≡ true) → Apart (only_active L a)
apart_fewer L a A h = record { one = A.one; able = λ t e. A.able t (h t e) }
