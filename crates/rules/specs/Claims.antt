-- What is proved of the check. Rules, in proofs/, has it, under the name `passes_exactly`.
use Rattle.std.specs.Prelude.{◌≡◌, ◌↔◌, List, ℕ}
use Rattle.verdicts.specs.Verdicts.{tell}
use Rattle.rules.specs.Rules.{checked, Keeps}

-- 0 is told exactly of tables that keep every rule (R37).
abbrev pub PassesExactly : Type 0
PassesExactly = (commands lengths : List ℕ) → (checked commands lengths ≡ tell 0 0 0) ↔ Keeps commands lengths
