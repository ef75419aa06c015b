-- What a schedule shows, from how it is judged. Assumes nothing.
use mathlib.Core.Path.{◌≡◌, refl, sym, ap, ◌∙◌}
use mathlib.Core.Logic.{◌≢◌}
use mathlib.Core.Bool.{not}
use mathlib.Core.List.{List}
use Prim.Native.Nat.{ℕ, ◌≤◌, ◌<◌}
use borrow.Author.Tests.{ne_eqb, lt-ltb, le-ltb}
use Rattle.tables.specs.Rows.{rows}
use Rattle.verdicts.specs.Verdicts.{numbered}
use Rattle.verdicts.specs.declared.Refusal.TheVariants.{BadCommands, BadLengths, BadRow, ShortRoom}
use Rattle.verdicts.specs.declared.Verdict.{Verdict}
use Rattle.verdicts.specs.declared.Verdict.TheVariants as V
use Rattle.rooms.specs.Rooms.{number_at}
use Rattle.replay.specs.declared.offered.Judged.{Judged}
use Rattle.replay.specs.Doors.{Replays}
use Rattle.tables.proofs.Scans.{Scanned, scan_found, scan_end}
use Rattle.wording.specs.declared.Shown.{Shown}
use Rattle.wording.specs.declared.Shown.TheVariants.{Generation}
use Rattle.exhibits.specs.Shown.{differs, generation_of, other_generation_of, shown_as, what_is_shown}

-- ---- the search for another generation

module _ (f g : ℕ → ℕ) {m c : ℕ} (S : Scanned (differs f g) m c) where
  pub other_found : c < m → f c ≢ g c → Generation c (f c) (g c) ≡ other_generation_of f g m
  unfolding other_generation_of
  other_found l n =
      let e : Generation c (f c) (g c) ≡ generation_of f g m c = rw (lt-ltb c m l) in
      e ∙ ap (generation_of f g m) (scan_found (differs f g) S (ap not (ne_eqb (f c) (g c) n)))

  pub other_none : m ≤ c → Generation m 0 0 ≡ other_generation_of f g m
  unfolding other_generation_of
  other_none l =
      let e : Generation m 0 0 ≡ generation_of f g m c = rw (le-ltb c m l) in
      e ∙ ap (generation_of f g m) (scan_end (differs f g) S l)

-- ---- each answer, by its verdict

none_said : (v : Verdict) → ((c : ℕ) → v ≡ V.Mismatch c → ⊥) → ((c : ℕ) → v ≡ V.Blocked c → ⊥) → ((b : ℕ) → v ≡ V.StillSet b → ⊥) → (s : Shown) → s ≡ shown_as (numbered v) s
none_said V.Clean a b d s = refl
none_said (V.Refused BadCommands) a b d s = refl
none_said (V.Refused BadLengths) a b d s = refl
none_said (V.Refused (BadRow c)) a b d s = refl
none_said (V.Refused (ShortRoom r)) a b d s = refl
none_said (V.NotAllowed n) a b d s = refl
none_said (V.Unfinished n) a b d s = refl
none_said (V.Mismatch c) a b d s = absurd (a c refl)
none_said (V.Blocked c) a b d s = absurd (b c refl)
none_said (V.StillSet c) a b d s = absurd (d c refl)
none_said (V.Reuse c k) a b d s = refl
none_said (V.Race x y) a b d s = refl

module _ {commands lengths σ : List ℕ} (g : ℕ → ℕ) {r : Judged} (R : Replays commands lengths σ r) where
  abbrev other : Shown
  other = other_generation_of (number_at r.generations) g (rows commands)

  by_verdict : shown_as (numbered r.verdict) other ≡ what_is_shown commands lengths g σ
  unfolding what_is_shown
  by_verdict = rw (R.verdict, R.generations)

  pub shows_as : {v : Verdict} → r.verdict ≡ v → shown_as (numbered v) other ≡ what_is_shown commands lengths g σ
  shows_as e = ap (λ (v : Verdict). shown_as (numbered v) other) (sym e) ∙ by_verdict

  pub shows_other : ((c : ℕ) → r.verdict ≡ V.Mismatch c → ⊥) → ((c : ℕ) → r.verdict ≡ V.Blocked c → ⊥) → ((b : ℕ) → r.verdict ≡ V.StillSet b → ⊥)
      → other ≡ what_is_shown commands lengths g σ
  shows_other a b d = none_said r.verdict a b d other ∙ by_verdict
