-- Which schedules stand where in the room, and that tables of what reaches what that are alike write the same. Assumes nothing.
use mathlib.Core.Path.{◌≡◌, refl, sym, ap, ap₂, ◌∙◌}
use mathlib.Core.Logic.{⊎_elim}
use mathlib.Core.Bool.{Bool, true, false}
use mathlib.Core.List.{List, [], ◌∷◌, ◌++◌, append_assoc}
use Prim.Native.Nat.{ℕ, zero, suc, ◌+◌, ◌*◌, ◌<◌}
use native.Mathlib.Nat.{suc-mul}
use native.Mathlib.Omega.{arith}
use lib.Dec.{eqb}
use lib.ListN.{length, get_or, take, drop, length-append}
use lib.Seq.{take_at, drop-append-add}
use borrow.Author.Tests.{eqb-true, ne_eqb}
use Rattle.tables.specs.Rows.{rows}
use Rattle.rules.specs.Rules.{Keeps}
use Rattle.verdicts.specs.Numbers.{has_pairs}
use Rattle.verdicts.proofs.Numbers.{no_pairs}
use Rattle.relation.proofs.Truth.{split}
use Rattle.sheet.specs.declared.Pair.{Pair}
use Rattle.sheet.specs.declared.Sheet.{Sheet}
use Rattle.sheet.specs.Sheet.{pair, kept_pairs, first_kept}
use Rattle.replay.proofs.Picking.{apart_alike}
use Rattle.evidence.specs.Evidence.{first_first, second_first, both_ways, evidence_of}
use Rattle.evidence.specs.Doors.{schedule_at}

-- ---- one after the other, all of m entries

module _ (commands lengths : List ℕ) (ρ : ℕ → ℕ → Bool) (m : ℕ) where
  abbrev pub Full : List Pair → Type 0
  Full ps =
      (k : ℕ) → k < length ps
      → (length (first_first commands lengths ρ (get_or ps k (pair 0 0))) ≡ m) × (length (second_first commands lengths ρ (get_or ps k (pair 0 0))) ≡ m)

  fewer : (p : Pair) (ps : List Pair) → Full (p ∷ ps) → Full ps
  fewer p ps F k l = F (suc k) (omega arith)

  pub both_long : (ps : List Pair) → Full ps → length (both_ways commands lengths ρ ps) ≡ length ps * m * 2
  unfolding both_ways
  both_long [] F = omega arith
  both_long (p ∷ ps) F =
      let a = first_first commands lengths ρ p in
      let b = second_first commands lengths ρ p in
      let rest = both_ways commands lengths ρ ps in
      let (la, lb) = F 0 (omega arith) in
      omega (arith, length-append a (b ++ rest), length-append b rest, la, lb, both_long ps (fewer p ps F), suc-mul (length ps) m)

  module _ (rest : List ℕ) where
    -- past one pair
    past_pair : (p : Pair) (ps : List Pair) → Full (p ∷ ps) → (k n : ℕ)
        → drop ((suc k * 2 + n) * m) (both_ways commands lengths ρ (p ∷ ps) ++ rest) ≡ drop ((k * 2 + n) * m) (both_ways commands lengths ρ ps ++ rest)
    unfolding both_ways
    past_pair p ps F k n =
        let a = first_first commands lengths ρ p in
        let b = second_first commands lengths ρ p in
        let left = both_ways commands lengths ρ ps in
        let (la, lb) = F 0 (omega arith) in
        let i = (k * 2 + n) * m in
        let e : (suc k * 2 + n) * m ≡ length a + (length b + i) = ap (λ (j : ℕ). j * m) (let e : suc k * 2 + n ≡ suc (suc (k * 2 + n)) = omega arith in e)
        ∙ omega (arith, suc-mul (suc (k * 2 + n)) m, suc-mul (k * 2 + n) m, la, lb) in
        ap₂ drop e (append_assoc a (b ++ left) rest ∙ ap (λ (l : List ℕ). a ++ l) (append_assoc b left rest))
        ∙ drop-append-add a (b ++ (left ++ rest)) (length b + i) ∙ drop-append-add b (left ++ rest) i

    pub x_at : (ps : List Pair) → Full ps → (k : ℕ) → k < length ps
        → schedule_at m (k * 2) (both_ways commands lengths ρ ps ++ rest) ≡ first_first commands lengths ρ (get_or ps k (pair 0 0))
    unfolding both_ways
    x_at [] F k l = absurd (omega arith)
    x_at (p ∷ ps) F zero l =
        let a = first_first commands lengths ρ p in
        let b = second_first commands lengths ρ p in
        let left = both_ways commands lengths ρ ps in
        let z : 0 * 2 * m ≡ 0 = omega arith in
        ap (λ (i : ℕ). take m (drop i ((a ++ (b ++ left)) ++ rest))) z ∙ ap (take m) (append_assoc a (b ++ left) rest) ∙ take_at a ((b ++ left) ++ rest) m (F 0 (omega arith)).0
    x_at (p ∷ ps) F (suc k) l =
        let e : (suc k * 2 + 0) * m ≡ suc k * 2 * m = ap (λ (j : ℕ). j * m) (let e : suc k * 2 + 0 ≡ suc k * 2 = omega arith in e) in
        let f : (k * 2 + 0) * m ≡ k * 2 * m = ap (λ (j : ℕ). j * m) (let e : k * 2 + 0 ≡ k * 2 = omega arith in e) in
        ap (λ (i : ℕ). take m (drop i (both_ways commands lengths ρ (p ∷ ps) ++ rest))) (sym e) ∙ ap (take m) (past_pair p ps F k 0)
        ∙ ap (λ (i : ℕ). take m (drop i (both_ways commands lengths ρ ps ++ rest))) f ∙ x_at ps (fewer p ps F) k (omega arith)

    pub y_at : (ps : List Pair) → Full ps → (k : ℕ) → k < length ps
        → schedule_at m (k * 2 + 1) (both_ways commands lengths ρ ps ++ rest) ≡ second_first commands lengths ρ (get_or ps k (pair 0 0))
    unfolding both_ways
    y_at [] F k l = absurd (omega arith)
    y_at (p ∷ ps) F zero l =
        let a = first_first commands lengths ρ p in
        let b = second_first commands lengths ρ p in
        let left = both_ways commands lengths ρ ps in
        let (la, lb) = F 0 (omega arith) in
        let z : (0 * 2 + 1) * m ≡ length a + 0 = omega arith in
        ap (take m)
        (ap₂ drop z (append_assoc a (b ++ left) rest) ∙ drop-append-add a ((b ++ left) ++ rest) 0 ∙ append_assoc b left rest)
        ∙ take_at b (left ++ rest) m lb
    y_at (p ∷ ps) F (suc k) l = ap (take m) (past_pair p ps F k 1) ∙ y_at ps (fewer p ps F) k (omega arith)

-- ---- other verdicts write nothing

pub nothing_of : (commands lengths : List ℕ) (ρ : ℕ → ℕ → Bool) (n : ℕ) (s : Sheet) → has_pairs n ≡ false → evidence_of commands lengths ρ n s ≡ []
unfolding evidence_of
nothing_of commands lengths ρ n s f = let (a, b) = no_pairs n f in rw (ne_eqb n 10 a, ne_eqb n 11 b)

-- ---- what reaches what, alike on commands

-- both numbers of a pair are commands
abbrev pub AreCommands : List ℕ → Pair → Type 0
AreCommands commands p = (p.first < rows commands) × (p.second < rows commands)

module _ {commands lengths : List ℕ} (K : Keeps commands lengths) {ρ ρ' : ℕ → ℕ → Bool} (same : (c x : ℕ) → c < rows commands → x < rows commands → ρ c x ≡ ρ' c x) where
  pub pair_alike : (p : Pair) → AreCommands commands p
      → (first_first commands lengths ρ p ≡ first_first commands lengths ρ' p) × (second_first commands lengths ρ p ≡ second_first commands lengths ρ' p)
  pair_alike p (a, b) =
      (apart_alike K ρ ρ' p.second p.first (λ x l. same p.second x b l), apart_alike K ρ ρ' p.first p.second (λ x l. same p.first x a l))

  both_alike : (ps : List Pair) → ((k : ℕ) → k < length ps → AreCommands commands (get_or ps k (pair 0 0)))
      → both_ways commands lengths ρ ps ≡ both_ways commands lengths ρ' ps
  unfolding both_ways
  both_alike [] low = refl
  both_alike (p ∷ ps) low =
      let (e, f) = pair_alike p (low 0 (omega arith)) in
      rw (e, f, both_alike ps (λ k l. low (suc k) (omega arith)))

  pub evidence_alike : (n : ℕ) (s : Sheet) → (n ≡ 10 → AreCommands commands (first_kept s))
      → (n ≡ 11 → (k : ℕ) → k < length (kept_pairs s) → AreCommands commands (get_or (kept_pairs s) k (pair 0 0)))
      → evidence_of commands lengths ρ n s ≡ evidence_of commands lengths ρ' n s
  unfolding evidence_of
  evidence_alike n s reuse races =
      ⊎_elim (λ (t : eqb n 10 ≡ true). rw t (pair_alike (first_kept s) (reuse (eqb-true n 10 t))).1)
      (λ (f : eqb n 10 ≡ false). rw f
      (⊎_elim (λ (t : eqb n 11 ≡ true). rw t (both_alike (kept_pairs s) (races (eqb-true n 11 t)))) (λ (g : eqb n 11 ≡ false). rw g) (split (eqb n 11))))
      (split (eqb n 10))
