use Rattle.std.proofs.Common.{sym, ◌∙◌}
use Rattle.spx_tree.specs.Form.{forms_of}
use Rattle.spx_parse_body.proofs.Callers.Shaped.{shaped_forms}
use Rattle.spx_parse_unit.proofs.UnitsExact.{only_answer}
use Rattle.spx_parse_unit.proofs.laws.one_answer.Goals as goal

pub returns : goal.returns
returns c = λ source tokens a b is_a is_b.
    sym (only_answer 200 (forms_of source tokens) a (shaped_forms source tokens) is_a) ∙ only_answer 200 (forms_of source tokens) b (shaped_forms source tokens) is_b
