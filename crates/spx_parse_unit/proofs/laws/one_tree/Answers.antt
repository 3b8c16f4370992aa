use Rattle.spx_parse_unit.proofs.UnitsExact.{one_file}
use Rattle.spx_parse_unit.proofs.laws.one_tree.Goals as goal

pub returns : goal.returns
returns c = one_file
