use Rattle.std.proofs.Common.{◌∙◌, ap}
use Rattle.spx_core.specs.Places.{place_of}
use Rattle.spx_paths.proofs.CheckSteps.{keeps_not, keeps_twice}
use Rattle.spx_paths.proofs.PartSets.{index_found, no_index}
use Rattle.spx_paths.proofs.draft.Draft.check_step.Goals as goal

pub returns-in_ok-check_index-in-Index-clause-keeps : goal.returns-in_ok-check_index-in-Index-clause-keeps
returns-in_ok-check_index-in-Index-clause-keeps c = keeps_twice c.in_ok-value-in-Index.ensures.keeps c.in_ok-check_index-in-Index.ensures.keeps

pub returns-in_ok-check_index-in-Index-clause-walks : goal.returns-in_ok-check_index-in-Index-clause-walks
returns-in_ok-check_index-in-Index-clause-walks c =
    let x = c.in-Index in
    index_found c.args.step.now x.field-0 x.index x.x x.is c.get-in-Index.ensures c.get-in-Index-2.ensures (c.place-at.ensures ∙ ap place_of c.get.ensures)
    c.in_ok-value-in-Index.ensures.makes c.in_ok-check_index-in-Index.ensures.walks

pub returns-in-Field-clause-keeps : goal.returns-in-Field-clause-keeps
returns-in-Field-clause-keeps c = keeps_not c.requires

pub returns-in-Field-clause-walks : goal.returns-in-Field-clause-walks
returns-in-Field-clause-walks c = no_index c.args.program.now c.args.self.now c.args.step.now c.in-Field.field-0 c.in-Field.field-1 c.in-Field.is
