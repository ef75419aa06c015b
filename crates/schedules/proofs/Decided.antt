-- There is a reuse fault, or there is none: both are found by the table.
use mathlib.Core.Path.{◌≡◌, refl, sym, subst}
use mathlib.Core.Logic.Dec
use mathlib.Core.Logic.{inl, inr, ⊎_elim, by_cases}
use mathlib.Core.Bool.{true, false, Bool-discrete}
use Prim.Native.Nat.{ℕ, zero, suc, ◌<◌}
use native.Mathlib.Nat.{suc_inj}
use native.Mathlib.Omega.{arith}
use native.Mathlib.Decide.{ℕ_discrete, dec_le, map_dec}
use Rattle.relation.proofs.Truth.{clashing, split}
use Rattle.schedules.specs.Machine.{Program}
use Rattle.schedules.specs.HappensBefore.{Reaches, reach, Succeeds, Waits, Reuse}
use Rattle.schedules.specs.Claims.{Decided}
use Rattle.schedules.proofs.Tally.{find}
use Rattle.schedules.proofs.Table.{decides}

module _ (P : Program) (g : ℕ → ℕ) where
  open P use {size, first, registers, barrier}

  waits? : (c₁ c₂ : ℕ) → Succeeds P g c₁ c₂ → Dec (Waits P g c₁ c₂)
  waits? c₁ zero r = no (λ w. omega (arith, w.is_before))
  waits? c₁ (suc y) r =
      let d = decides P g c₁ y r.low₁ (omega (arith, r.low₂)) in
      ⊎_elim (λ (t : first (suc y) ≡ true). no (λ w. clashing t w.not_first))
      (λ (f : first (suc y) ≡ false). ⊎_elim (λ (t : reach P g c₁ y ≡ true). yes (record { before = y; is_before = refl; not_first = f; reached = d.0 t }))
      (λ (n : reach P g c₁ y ≡ false). no (λ w. clashing (d.1 (subst (Reaches P g c₁) (sym (suc_inj w.is_before)) w.reached)) n))
      (split (reach P g c₁ y)))
      (split (first (suc y)))

  succeeds? : (c₁ c₂ : ℕ) → Dec (Succeeds P g c₁ c₂)
  succeeds? c₁ c₂ =
      map_dec (λ w. record { low₁ = w.0.0; low₂ = w.0.1; reg₁ = w.1.0.0; reg₂ = w.1.0.1; at = w.1.1.0; gen = w.1.1.1 })
      (λ (r : Succeeds P g c₁ c₂). ((r.low₁, r.low₂), ((r.reg₁, r.reg₂), (r.at, r.gen))))
      (Dec.and (Dec.and (dec_le (suc c₁) size) (dec_le (suc c₂) size))
      (Dec.and (Dec.and (Bool-discrete (registers c₁) true) (Bool-discrete (registers c₂) true)) (Dec.and (ℕ_discrete (barrier c₁) (barrier c₂)) (ℕ_discrete (g c₂) (suc (g c₁))))))

  reuse? : (c₁ c₂ : ℕ) → Dec (Reuse P g c₁ c₂)
  reuse? c₁ c₂ =
      by_cases (succeeds? c₁ c₂)
      (λ (r : Succeeds P g c₁ c₂). by_cases (waits? c₁ c₂ r) (λ (w : Waits P g c₁ c₂). no (λ u. u.loose w))
      (λ (n : ¬ Waits P g c₁ c₂). yes (record { succeeds = r; loose = n })))
      (λ (n : ¬ Succeeds P g c₁ c₂). no (λ u. n u.succeeds))

  of_any : (c₂ : ℕ) → Dec ((c₁ : ℕ) × (c₁ < size) × Reuse P g c₁ c₂)
  of_any c₂ = ⊎_elim yes (λ (f : (c₁ : ℕ) → c₁ < size → ¬ Reuse P g c₁ c₂). no (λ w. f w.0 w.1 w.2)) (find size (λ c₁. reuse? c₁ c₂))

pub decided : (P : Program) → Decided P
decided P g =
    ⊎_elim (λ w. inl (w.2.0, w.0, w.2.2))
    (λ (f : (c₂ : ℕ) → c₂ < P.size → ¬ ((c₁ : ℕ) × (c₁ < P.size) × Reuse P g c₁ c₂)).
    inr (λ c₁ c₂ r. by_cases (waits? P g c₁ c₂ r) (λ (w : Waits P g c₁ c₂). w)
    (λ (n : ¬ Waits P g c₁ c₂). absurd (f c₂ r.low₂ (c₁, r.low₁, record { succeeds = r; loose = n })))))
    (find P.size (of_any P g))
