use Rattle.spx_formula.proofs.Ways.{element_there}
use Rattle.spx_formula.proofs.way.part_id.Goals as goal

pub returns-in_ok-index-in-Index : goal.returns-in_ok-index-in-Index
returns-in_ok-index-in-Index c =
    let x = c.in-Index in
    element_there c.args.program.now c.args.step.now c.element_id.result c.element_id.new.terms x.field-0 x.index x.x x.is c.requires c.get.ensures c.get-in-Index.ensures c.in_ok-index-in-Index.ensures c.element_id.ensures
