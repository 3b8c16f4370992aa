use Rattle.std.proofs.Common.{ap}
use Rattle.spx_arena.specs.Claims.{claims_at}
use Rattle.spx_steps.specs.Trees.{root_trees}
use Rattle.spx_steps.proofs.WalkLaws.{all_claims}
use Rattle.spx_steps.proofs.walk.claims_from.Goals as goal

pub returns-clause-claims : goal.returns-clause-claims
returns-clause-claims c = all_claims (root_trees c.args.steps.now c.args.roots.now) (ap (claims_at c.new-2.result c.new-lists.result) c.new-5.ensures) c.in_ok-walk_roots.ensures
