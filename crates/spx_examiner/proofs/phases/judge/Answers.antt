use Rattle.std.proofs.Common.{subst}
use Rattle.spx_examiner.specs.declared.reading.Reading.TheVariants.{Units, Broken}
use Rattle.spx_examiner.specs.Reading.{IsRead}
use Rattle.spx_examiner.proofs.Spelled.{if_ok}
use Rattle.spx_examiner.proofs.phases.judge.Goals as goal

pub returns-in-Units : goal.returns-in-Units
returns-in-Units c =
    if_ok c.examined.result _ _
    (λ j report. (Units c.in-Units.units, subst (IsRead c.args.source.now) c.in-Units.is c.in_ok-units.ensures, report))
    c.examined.ensures

pub returns-in-Broken : goal.returns-in-Broken
returns-in-Broken c =
    if_ok c.refused.result _ _ (λ j is. (Broken c.in-Broken.finding, subst (IsRead c.args.source.now) c.in-Broken.is c.in_ok-units.ensures, is)) c.refused.ensures
