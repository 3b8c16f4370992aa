use Rattle.spx_scope.proofs.Lookups.{looked_up}
use Rattle.spx_scope.proofs.region.Region.get.Goals as goal

pub returns : goal.returns
returns c = let e = looked_up c.args.name.now c.self.inside.names.value.entries in cc
