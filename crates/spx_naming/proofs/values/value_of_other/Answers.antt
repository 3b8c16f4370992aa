use Rattle.std.proofs.Common.{ap, ◌∙◌}
use Rattle.std.proofs.lemmas.Result.{IfOk-weaker}
use Rattle.spx_naming.specs.Found.{root_of, shown}
use Rattle.spx_naming.proofs.Walks.{other_shown}
use Rattle.spx_naming.proofs.values.value_of_other.Goals as goal

pub returns : goal.returns
returns c =
    let path = c.args.path.now in
    let root = root_of c.args.denoted path in
    IfOk-weaker c.other_found.result _ _
    (λ r is. ap (shown root path c.args.parts) is ∙ other_shown c.args.scene.now root path.root path.steps c.args.parts) c.other_found.ensures
