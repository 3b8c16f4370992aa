use Rattle.std.proofs.Common.{◌∙◌}
use Rattle.std.proofs.lemmas.Result.{err_from_is_err_and}
use Rattle.spx_arena.specs.Claims.{claims_in}
use Rattle.spx_vcg.proofs.Sizes.{conditions_are}
use Rattle.spx_vcg.proofs.vcg.trees_within.Goals as goal

pub returns-clause-exact : goal.returns-clause-exact
returns-clause-exact c = c.in_ok-as_trees.ensures ∙ conditions_are c.args.program.now c.args.sub.now (claims_in c.in_ok-claims.claims) c.in_ok-claims.ensures.claims

pub returns-in_err-claims-clause-refused : goal.returns-in_err-claims-clause-refused
returns-in_err-claims-clause-refused c =
    let passed = err_from_is_err_and c.from_residual.result c.from_residual.ensures.1 in rw (passed.1, passed.2) c.in_err-claims.ensures.refused
