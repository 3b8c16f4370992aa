use Rattle.std.proofs.Common.{refl, subst}
use Rattle.spx_tree.specs.Stops.{bad_byte, bad_number, too_wide}
use Rattle.spx_lexer.specs.Faults.{IsFaultOf}
use Rattle.spx_examiner.specs.Reading.{crowded, stopped}
use Rattle.spx_examiner.proofs.Spelled.{if_ok}
use Rattle.spx_examiner.proofs.reading.read.Goals as goal

pub returns-in-Err-BadByte : goal.returns-in-Err-BadByte
returns-in-Err-BadByte c =
    let at = subst (IsFaultOf 0 c.args.source.now) c.in-Err-BadByte.field-0-is c.in-Err-BadByte.ensures.refused in
    if_ok c.stopped.result _ _ (λ reading is. stopped bad_byte c.in-Err-BadByte.at at.0 at.1 is) c.stopped.ensures

pub returns-in-Err-BadNumber : goal.returns-in-Err-BadNumber
returns-in-Err-BadNumber c =
    let at = subst (IsFaultOf 0 c.args.source.now) c.in-Err-BadNumber.field-0-is c.in-Err-BadNumber.ensures.refused in
    if_ok c.stopped-in-Err-BadNumber.result _ _ (λ reading is. stopped bad_number c.in-Err-BadNumber.at at.0 at.1 is) c.stopped-in-Err-BadNumber.ensures

pub returns-in-Err-TooWide : goal.returns-in-Err-TooWide
returns-in-Err-TooWide c =
    let at = subst (IsFaultOf 0 c.args.source.now) c.in-Err-TooWide.field-0-is c.in-Err-TooWide.ensures.refused in
    if_ok c.stopped-in-Err-TooWide.result _ _ (λ reading is. stopped too_wide c.in-Err-TooWide.at at.0 at.1 is) c.stopped-in-Err-TooWide.ensures

pub returns-in-Err-TooMany : goal.returns-in-Err-TooMany
returns-in-Err-TooMany c = crowded (subst (IsFaultOf 0 c.args.source.now) c.in-Err-TooMany.field-0-is c.in-Err-TooMany.ensures.refused) refl
