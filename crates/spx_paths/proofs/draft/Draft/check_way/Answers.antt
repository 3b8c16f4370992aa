use Rattle.spx_paths.proofs.CheckSteps.{finds_not, keeps_not, keeps_twice}
use Rattle.spx_paths.proofs.PartSets.{all_steps, next_step}
use Rattle.spx_paths.proofs.draft.Draft.check_way.Goals as goal

pub loop-step-init : goal.loop-step-init
loop-step-init c = record { keeps = keeps_not c.requires; finds = finds_not c.args.self.now }

pub loop-step-preserved : goal.loop-step-preserved
loop-step-preserved c =
    let inv = c.loop-step.invariant in
    record {
      keeps = keeps_twice inv.keeps c.in_ok-check_step.ensures.keeps;
      finds = next_step c.args.program.now c.args.way.now c.loop-step.step-index c.step-item.result c.loop-step-test.true c.step-item.is inv.finds c.in_ok-check_step.ensures.walks;
    }

pub returns-clause-walks : goal.returns-clause-walks
returns-clause-walks c = all_steps c.args.program.now c.args.way.now c.loop-step.step-index c.loop-step-test.false c.loop-step.invariant.finds
