-- Going on from any point with any entries; a whole schedule is that from the start (R9, R13, R20, R38).
use Rattle.std.specs.Prelude.{cond, List, [], ◌∷◌, ℕ, eqb, get_or, set, replicate}
use Rattle.tables.specs.Limits.{most_rows}
use Rattle.verdicts.specs.Verdicts.{numbered}
use Rattle.verdicts.specs.declared.Verdict.{Verdict}
use Rattle.verdicts.specs.declared.Verdict.TheVariants as verdict
use Rattle.steps.specs.declared.state.Replay.{Replay}
use Rattle.steps.specs.declared.step.How.TheVariants.{Mismatch, Ran}
use Rattle.steps.specs.declared.step.Did.{Did}
use Rattle.steps.specs.declared.step.Did.TheVariants.{NotAllowed, Took}
use Rattle.steps.specs.declared.going.Replayed.{Replayed}
use Rattle.barriers.specs.Counting.{counted}
use Rattle.steps.specs.State.{start}
use Rattle.steps.specs.Step.{stepped}

-- where a replay has come to: the state, each command's generation, the steps that ran, and 5 or 7 or, if all ran, 0
abbrev pub standing : Replay → List ℕ → ℕ → Verdict → Replayed
standing s g steps v = record { state = s; generations = g; steps = steps; verdict = v }

-- By what a step did. 5: a step that is not allowed ends the replay at once. 7: an allowed step mismatches; later entries aren't read (R20, R38).
abbrev pub went_on : Did → Replay → Replayed → Replayed
went_on NotAllowed s r = standing s r.generations r.steps (verdict.NotAllowed r.steps)
went_on (Took (Mismatch c)) s r = standing s r.generations r.steps (verdict.Mismatch c)
went_on (Took (Ran c generation)) s r = standing s (set r.generations c generation) (counted r.steps) verdict.Clean

-- One more entry. Where the replay has ended it changes nothing (R20).
unfoldable pub one_step_on : List ℕ → List ℕ → Replayed → ℕ → Replayed
one_step_on commands lengths r t =
    cond (eqb (numbered r.verdict).number 0) (went_on (stepped commands lengths r.state t).did (stepped commands lengths r.state t).after r) r

-- Any entries, one after the other (R20).
unfoldable pub go_on : List ℕ → List ℕ → List ℕ → Replayed → Replayed
go_on commands lengths [] r = r
go_on commands lengths (t ∷ σ) r = go_on commands lengths σ (one_step_on commands lengths r t)

-- nothing has run (R20)
unfoldable pub begun : Replayed
begun = standing start (replicate most_rows 0) 0 verdict.Clean

-- A schedule from the start (R20), of any length and with any numbers (R9).
unfoldable pub played : List ℕ → List ℕ → List ℕ → Replayed
played commands lengths σ = go_on commands lengths σ begun

-- the generation of command c (R13)
abbrev pub generation : Replayed → ℕ → ℕ
generation r c = get_or r.generations c 0
