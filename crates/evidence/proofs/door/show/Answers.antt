-- `show` meets its contract, by the verdict. Assumes nothing.
use mathlib.Core.Path.{ap}
use Rattle.verdicts.specs.declared.Verdict.{Verdict}
use Rattle.verdicts.specs.Verdicts.{numbered}
use Rattle.verdicts.proofs.Verdicts.{ten_reuse, eleven_race}
use Rattle.evidence.proofs.Filling.{show_all, show_ten, show_eleven, show_none}
use Rattle.evidence.proofs.door.show.Goals as goal

pub returns-in-Reuse : goal.returns-in-Reuse
returns-in-Reuse c = show_ten _ _ _ _ _ (ap (λ (v : Verdict). (numbered v).number) c.in-Reuse.is) c.write_at.ensures

pub write_races-requires : goal.write_races-requires
write_races-requires c = show_all c.requires c.kept-n.ensures

pub returns-in-Race : goal.returns-in-Race
returns-in-Race c = show_eleven _ _ _ _ _ (ap (λ (v : Verdict). (numbered v).number) c.in-Race.is) c.kept-n.ensures c.write_races.ensures

pub returns-in_default : goal.returns-in_default
returns-in_default c =
    let v = c.args.finding.verdict in
    show_none _ _ _ _ _ _ (ten_reuse v c.in_default.not-Reuse) (eleven_race v c.in_default.not-Race)
