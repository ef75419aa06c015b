-- The exhibits of a verdict, by its number, where tables and rooms are admitted. Assumes nothing.
use mathlib.Core.Path.{◌≡◌, sym, ◌∙◌}
use mathlib.Core.Logic.{◌≢◌}
use mathlib.Core.Bool.{Bool, true, false}
use mathlib.Core.List.{List, []}
use Prim.Native.Nat.{ℕ}
use lib.Dec.{eqb}
use lib.ListN.{length}
use borrow.Author.Tests.{eq-eqb, ne_eqb, eqb-true, eqb-false}
use Rattle.tables.specs.Rows.{rows}
use Rattle.relation.specs.Table.{related}
use Rattle.sheet.specs.declared.Sheet.{Sheet}
use Rattle.sheet.specs.Sheet.{kept_pairs, first_kept}
use Rattle.rooms.specs.Refusals.{review_refusal}
use Rattle.rooms.specs.Rooms.{number_at}
use Rattle.rooms.specs.Needs.{Roomy}
use Rattle.rooms.proofs.Refusals.{admitted}
use Rattle.exhibits.specs.Exhibits.{reuse_exhibit, race_exhibits, exhibits, exhibited}

-- what `admits` said of the number of a refusal
module _ {r : Bool} {x : ℕ} (A : r ≡ eqb x 0) where
  pub said_admitted : r ≡ true → x ≡ 0
  said_admitted e = eqb-true x 0 (sym A ∙ e)

  pub said_refused : r ≡ false → x ≢ 0
  said_refused e = eqb-false x 0 (sym A ∙ e)

module _ (commands lengths generations relation : List ℕ) where
  pub exhibited_none : (review_refusal commands lengths (length relation) (length generations)).number ≢ 0 → (n : ℕ) (s : Sheet) → exhibited commands lengths generations relation n s ≡ []
  unfolding exhibited
  exhibited_none e n s = rw (ne_eqb _ 0 e)

  module _ (z : (review_refusal commands lengths (length relation) (length generations)).number ≡ 0) where
    pub roomy : Roomy commands lengths generations relation
    roomy =
        let a = admitted commands lengths (length relation) (length generations) z in
        record { keeps = a.keeps; generations_fit = a.generations_fit; relation_fits = a.relation_fits }

    pub exhibited_all : (n : ℕ) (s : Sheet)
        → exhibited commands lengths generations relation n s ≡ exhibits commands lengths (number_at generations) (related relation (rows commands)) n s
    unfolding exhibited
    exhibited_all n s = rw (eq-eqb _ 0 z)

module _ (commands lengths : List ℕ) (g : ℕ → ℕ) (ρ : ℕ → ℕ → Bool) (n : ℕ) (s : Sheet) where
  pub exhibits_ten : n ≡ 10 → exhibits commands lengths g ρ n s ≡ reuse_exhibit commands lengths ρ g (first_kept s)
  unfolding exhibits
  exhibits_ten e = rw (eq-eqb n 10 e)

  pub exhibits_eleven : n ≡ 11 → exhibits commands lengths g ρ n s ≡ race_exhibits commands lengths ρ (kept_pairs s)
  unfolding exhibits
  exhibits_eleven e = rw e

  pub exhibits_none : n ≢ 10 → n ≢ 11 → exhibits commands lengths g ρ n s ≡ []
  unfolding exhibits
  exhibits_none a b = rw (ne_eqb n 10 a, ne_eqb n 11 b)
