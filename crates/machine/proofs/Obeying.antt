-- The rules of Table 2, as the code comes to them.
use mathlib.Core.Path.{◌≡◌, refl, sym, ap, ◌∙◌}
use mathlib.Core.Logic.{◌≢◌}
use mathlib.Core.Bool.{false}
use mathlib.Core.List.{List, ◌∷◌}
use Prim.Native.Nat.{ℕ, ◌-◌, ◌≤◌, ◌<◌}
use native.Mathlib.Omega.{arith}
use borrow.Author.Tests.{eq-eqb, ne_eqb}
use lib.Dec.{eqb}
use lib.ListN.{get_or, set}
use Rattle.warps.specs.Language.{Mem, eval}
use Rattle.lanes.specs.Words.{call_token, woken_by, broken_by, returned_by, highest_of}
use Rattle.lanes.specs.declared.Lanes.{Lanes}
use Rattle.std.specs.Prelude.{Option, Some, None}
use Rattle.std.specs.Option.{unwrap_or}
use Rattle.kernels.specs.declared.kernel.StatementKind.{StatementKind}
use Rattle.kernels.specs.declared.kernel.StatementKind.TheVariants.{Skip, Assign, If, While, Break, Call, Return}
use Rattle.kernels.specs.Rows.{statement_number, statement_kind}
use Rattle.kernels.proofs.Numbers.{kind_is, no_statement}
use Rattle.machine.specs.declared.stack.StackEntry.{StackEntry}
use Rattle.machine.specs.declared.stack.StackEntry.TheVariants.{Row, Again, Token}
use Rattle.machine.specs.Needs.{meant}
use Rattle.kernels.specs.Rows.{kind_of, x_of, y_of}
use Rattle.values.specs.Expressions.{expression}
use Rattle.machine.specs.Entries.{Entry, token, entry_of, stack_in, from_token, list_over}
use Rattle.machine.specs.Step.{Warp, parted, looping, repeating, obey, advance}
use Rattle.machine.proofs.Held.{held_top}

abbrev warp : List Entry → Lanes → Mem → Warp
warp W L μ = record { stack = W; lanes = L; cells = μ }

same : {W₁ W₂ : List Entry} {L₁ L₂ : Lanes} {μ₁ μ₂ : Mem} → W₁ ≡ W₂ → L₁ ≡ L₂ → μ₁ ≡ μ₂ → warp W₁ L₁ μ₁ ≡ warp W₂ L₂ μ₂
same p q r = λ j. record { stack = p j; lanes = q j; cells = r j }

-- ---- a statement, by its kind: as the code comes to it, a number past the kinds is a return
module _ (s e : List ℕ) (i : ℕ) (r : Option StatementKind) (k : StatementKind) (er : r ≡ statement_kind (kind_of s i)) (ek : k ≡ unwrap_or r Return) where
  kind_number : (m : StatementKind) → k ≡ m → (m ≡ Return → ⊥) → kind_of s i ≡ statement_number m
  kind_number m q n = go r er (sym ek ∙ q)
    where
      go : (r : Option StatementKind) → r ≡ statement_kind (kind_of s i) → unwrap_or r Return ≡ m → kind_of s i ≡ statement_number m
      go None u v = absurd (n (sym v))
      go (Some j) u v = kind_is _ j (sym u) ∙ ap statement_number v

  last_kind : k ≡ Return → 5 < kind_of s i
  last_kind q = go r er (sym ek ∙ q)
    where
      go : (r : Option StatementKind) → r ≡ statement_kind (kind_of s i) → unwrap_or r Return ≡ Return → 5 < kind_of s i
      go None u v = omega (arith, no_statement _ (sym u))
      go (Some j) u v = let z : kind_of s i ≡ 6 = kind_is _ j (sym u) ∙ ap statement_number v in omega arith

  module _ (W : List Entry) (L : Lanes) (μ : Mem) where
    pub by_skip : k ≡ Skip → warp W L μ ≡ obey s e i W L μ
    unfolding obey
    by_skip p = let z : kind_of s i ≡ 0 = kind_number Skip p (λ q. cc) in sym (rw z)

    pub by_assign : (μ' : Mem) → k ≡ Assign → μ' ≡ set μ (x_of s i) (eval (expression e (y_of s i)) (highest_of 32 L.active) μ) → warp W L μ' ≡ obey s e i W L μ
    unfolding obey
    by_assign μ' p m = let z : kind_of s i ≡ 1 = kind_number Assign p (λ q. cc) in same refl refl m ∙ sym (rw z)

    pub by_if : (w : Warp) → k ≡ If → w ≡ parted s e i W L μ → w ≡ obey s e i W L μ
    unfolding obey
    by_if w p q = let z : kind_of s i ≡ 2 = kind_number If p (λ q. cc) in q ∙ sym (rw z)

    pub by_while : (w : Warp) → k ≡ While → w ≡ looping s e i W L μ → w ≡ obey s e i W L μ
    unfolding obey
    by_while w p q = let z : kind_of s i ≡ 3 = kind_number While p (λ q. cc) in q ∙ sym (rw z)

    pub by_break : (W' : List Entry) (L' : Lanes) → k ≡ Break → W' ≡ from_token W → L' ≡ broken_by L → warp W' L' μ ≡ obey s e i W L μ
    unfolding obey
    by_break W' L' p w l = let z : kind_of s i ≡ 4 = kind_number Break p (λ q. cc) in same w l refl ∙ sym (rw z)

    pub by_call : (x : ℕ) (W' : List Entry) → k ≡ Call → x ≡ x_of s i → W' ≡ list_over s x (token call_token L.active ∷ W) → warp W' L μ ≡ obey s e i W L μ
    unfolding obey
    by_call x W' p ex w =
        let z : kind_of s i ≡ 5 = kind_number Call p (λ q. cc) in
        same (w ∙ ap (λ (x : ℕ). list_over s x (token call_token L.active ∷ W)) ex) refl refl ∙ sym (rw z)

    pub by_return : (W' : List Entry) (L' : Lanes) → k ≡ Return → W' ≡ from_token W → L' ≡ returned_by L → warp W' L' μ ≡ obey s e i W L μ
    unfolding obey
    by_return W' L' p w l =
        let z : 5 < kind_of s i = last_kind p in
        let n : (j : ℕ) → j ≤ 5 → eqb (kind_of s i) j ≡ false = λ j h. ne_eqb (kind_of s i) j (λ q. omega arith) in
        same w l refl ∙ sym (rw (n 0 (omega arith), n 1 (omega arith), n 2 (omega arith), n 3 (omega arith), n 4 (omega arith), n 5 (omega arith)))

-- ---- the whole step, by the topmost entry
pub step_none : (s e a : List ℕ) (n : ℕ) (L : Lanes) (μ : Mem) → n ≡ 0 → warp (stack_in a n) L μ ≡ advance s e (stack_in a n) L μ
unfolding advance stack_in
step_none s e a n L μ h = rw h

module _ (s e a : List ℕ) (n : ℕ) (L : Lanes) (μ : Mem) (h : n ≢ 0) where
  -- the entry on top, as the code reads it
  module _ (x : StackEntry) (ex : meant x ≡ entry_of (get_or a (n - 1) 0)) where
    abbrev under : List Entry
    under = stack_in a (n - 1)

    on_top : {y : StackEntry} → x ≡ y → stack_in a n ≡ meant y ∷ under
    on_top q = held_top a n (omega arith) ∙ ap (λ (x : Entry). x ∷ under) (sym ex ∙ ap meant q)

    advancing : {y : StackEntry} → x ≡ y → advance s e (meant y ∷ under) L μ ≡ advance s e (stack_in a n) L μ
    advancing q = sym (ap (λ (W : List Entry). advance s e W L μ) (on_top q))

    pub step_token : (kind mask : ℕ) (L' : Lanes) → x ≡ Token kind mask → L' ≡ woken_by L kind mask → warp under L' μ ≡ advance s e (stack_in a n) L μ
    unfolding advance
    step_token kind mask L' p q = same refl q refl ∙ advancing p

    pub step_inact : (W' : List Entry) → ((kind mask : ℕ) → x ≡ Token kind mask → ⊥) → L.active ≡ 0 → W' ≡ from_token under → warp W' L μ ≡ advance s e (stack_in a n) L μ
    unfolding advance
    step_inact W' o z q = go x refl
      where
        go : (y : StackEntry) → x ≡ y → warp W' L μ ≡ advance s e (stack_in a n) L μ
        go (Row i) p = same q refl refl ∙ sym (rw (eq-eqb L.active 0 z)) ∙ advancing p
        go (Again i) p = same q refl refl ∙ sym (rw (eq-eqb L.active 0 z)) ∙ advancing p
        go (Token kind mask) p = absurd (o kind mask p)

    pub step_row : (i : ℕ) (w : Warp) → x ≡ Row i → L.active ≢ 0 → w ≡ obey s e i under L μ → w ≡ advance s e (stack_in a n) L μ
    unfolding advance
    step_row i w p z q = q ∙ sym (rw (ne_eqb L.active 0 z)) ∙ advancing p

    pub step_again : (i : ℕ) (w : Warp) → x ≡ Again i → L.active ≢ 0 → w ≡ repeating s e i (stack_in a n) L μ → w ≡ advance s e (stack_in a n) L μ
    unfolding advance
    step_again i w p z q =
        q ∙ same (ap (list_over s (y_of s i)) (on_top p)) refl refl ∙ sym (rw (ne_eqb L.active 0 z)) ∙ advancing p
