use Rattle.spx_tree.specs.Form.{forms_of}
use Rattle.spx_parse_body.proofs.Callers.Shaped.{shaped_forms}
use Rattle.spx_parse_unit.specs.Units.{file}
use Rattle.spx_parse_unit.proofs.UnitsExact.{answers}
use Rattle.spx_parse_unit.proofs.laws.some_answer.Goals as goal

pub returns : goal.returns
returns c source tokens = (file 200 (forms_of source tokens), answers 200 (forms_of source tokens) (shaped_forms source tokens))
