-- The exhibits ask no more of generations, and of what reaches what, than what is said of rows. Assumes nothing.
use mathlib.Core.Path.{◌≡◌, refl, sym, ap, ap₂, ◌∙◌}
use mathlib.Core.Logic.{by_cases, ⊎_elim, ◌≢◌}
use mathlib.Core.Bool.{Bool, not}
use mathlib.Core.List.{List, [], ◌∷◌, ◌++◌}
use Prim.Native.Nat.{ℕ, suc, ◌<◌}
use native.Mathlib.Decide.{ℕ_discrete}
use native.Mathlib.Omega.{arith}
use lib.Dec.{eqb, ltb}
use lib.ListN.{length, get_or}
use borrow.Author.Tests.{ltb-true}
use Rattle.tables.specs.Lowest.{lowest}
use Rattle.tables.specs.Rows.{rows}
use Rattle.rules.specs.Rules.{Keeps}
use Rattle.relation.proofs.Truth.{split}
use Rattle.sheet.specs.declared.Pair.{Pair}
use Rattle.sheet.specs.declared.Sheet.{Sheet}
use Rattle.sheet.specs.Sheet.{pair, kept_pairs, first_kept}
use Rattle.steps.specs.Ending.{judged}
use Rattle.steps.specs.Going.{played, generation}
use Rattle.replay.specs.Writer.{apart_schedule}
use Rattle.replay.proofs.Picking.{lowest_alike, apart_alike}
use Rattle.wording.specs.declared.Shown.{Shown}
use Rattle.wording.specs.declared.Shown.TheVariants.{First}
use Rattle.exhibits.specs.Shown.{differs, generation_of, other_generation_of, shown_as, what_is_shown}
use Rattle.exhibits.specs.Exhibits.{exhibit, reuse_exhibit, order_exhibit, race_exhibits, exhibits}
use Rattle.exhibits.proofs.Doors.{exhibits_ten, exhibits_eleven, exhibits_none}

-- ---- what is asked of the pairs

-- both numbers of a pair are commands
abbrev pub BothCommands : List ℕ → Pair → Type 0
BothCommands commands p = (p.first < rows commands) × (p.second < rows commands)

-- the pairs that a verdict's exhibits are of are commands
pub record Named (commands : List ℕ) (n : ℕ) (s : Sheet) : Type 0 where
  pub reuse : n ≡ 10 → BothCommands commands (first_kept s)
  pub races : n ≡ 11 → (k : ℕ) → k < length (kept_pairs s) → BothCommands commands (get_or (kept_pairs s) k (pair 0 0))

-- ---- what is shown

module _ (f : ℕ → ℕ) {g g' : ℕ → ℕ} (m : ℕ) (same : (c : ℕ) → c < m → g c ≡ g' c) where
  generation_alike : (c : ℕ) → generation_of f g m c ≡ generation_of f g' m c
  generation_alike c = ⊎_elim (λ e. rw (e, same c (ltb-true c m e))) (λ e. rw e) (split (ltb c m))

  other_alike : other_generation_of f g m ≡ other_generation_of f g' m
  unfolding other_generation_of
  other_alike =
      ap (generation_of f g m) (lowest_alike (differs f g) (differs f g') m (λ c l. ap (λ (h : ℕ). not (eqb (f c) h)) (same c l))) ∙ generation_alike (lowest (differs f g') m)

-- ---- the exhibits

module _ {commands lengths : List ℕ} (K : Keeps commands lengths) (g g' : ℕ → ℕ) (ρ ρ' : ℕ → ℕ → Bool) (same_g : (c : ℕ) → c < rows commands → g c ≡ g' c)
    (same-ρ : (c x : ℕ) → c < rows commands → x < rows commands → ρ c x ≡ ρ' c x) where
  shown_alike : (τ : List ℕ) → what_is_shown commands lengths g τ ≡ what_is_shown commands lengths g' τ
  unfolding what_is_shown
  shown_alike τ = ap (shown_as (judged lengths (played commands lengths τ))) (other_alike (generation (played commands lengths τ)) (rows commands) same_g)

  apart : (c d : ℕ) → c < rows commands → apart_schedule commands lengths ρ c d ≡ apart_schedule commands lengths ρ' c d
  apart c d l = apart_alike K ρ ρ' c d (λ x h. same-ρ c x l h)

  reuse_alike : (p : Pair) → p.first < rows commands → reuse_exhibit commands lengths ρ g p ≡ reuse_exhibit commands lengths ρ' g' p
  unfolding reuse_exhibit
  reuse_alike p l =
      let e = apart p.first p.second l in
      ap₂ (λ (s : Shown) (τ : List ℕ). exhibit s τ) (ap (what_is_shown commands lengths g) e ∙ shown_alike (apart_schedule commands lengths ρ' p.first p.second)) e

  order_alike : (x y : ℕ) → y < rows commands → order_exhibit commands lengths ρ x y ≡ order_exhibit commands lengths ρ' x y
  unfolding order_exhibit
  order_alike x y l = ap (exhibit (First x y)) (apart y x l)

  races_alike : (ps : List Pair) → ((k : ℕ) → k < length ps → BothCommands commands (get_or ps k (pair 0 0))) → race_exhibits commands lengths ρ ps ≡ race_exhibits commands lengths ρ' ps
  unfolding race_exhibits
  races_alike [] h = refl
  races_alike (p ∷ ps) h =
      let (a, b) = h 0 (omega arith) in
      ap₂ (λ (u v : List ℕ). u ++ v)
      (ap₂ (λ (u v : List ℕ). u ++ v) (order_alike p.first p.second b) (order_alike p.second p.first a))
      (races_alike ps (λ k l. h (suc k) (omega arith)))

  pub exhibits_alike : (n : ℕ) (s : Sheet) → Named commands n s → exhibits commands lengths g ρ n s ≡ exhibits commands lengths g' ρ' n s
  exhibits_alike n s N =
      by_cases (ℕ_discrete n 10)
      (λ (e : n ≡ 10). exhibits_ten commands lengths g ρ n s e ∙ reuse_alike (first_kept s) (N.reuse e).0 ∙ sym (exhibits_ten commands lengths g' ρ' n s e))
      (λ (a : n ≢ 10).
      by_cases (ℕ_discrete n 11)
      (λ (e : n ≡ 11).
      exhibits_eleven commands lengths g ρ n s e ∙ races_alike (kept_pairs s) (N.races e) ∙ sym (exhibits_eleven commands lengths g' ρ' n s e))
      (λ (b : n ≢ 11). exhibits_none commands lengths g ρ n s a b ∙ sym (exhibits_none commands lengths g' ρ' n s a b)))
