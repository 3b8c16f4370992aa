use Rattle.spx_formula.proofs.Ways.{element_put}
use Rattle.spx_formula.proofs.way.with_part_id.Goals as goal

pub returns-in_ok-index-in-Index : goal.returns-in_ok-index-in-Index
returns-in_ok-index-in-Index c =
    let x = c.in-Index in
    element_put c.args.program.now c.args.step.now c.with_element_id.result c.with_element_id.new.terms x.field-0 x.index x.x x.is c.requires.0 c.requires.1 c.get.ensures c.get-in-Index.ensures c.in_ok-index-in-Index.ensures c.with_element_id.ensures
