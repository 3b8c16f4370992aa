use Rattle.std.proofs.lemmas.List.{take-map}
use Rattle.spx_scope.specs.Entries.{declaration}
use Rattle.spx_scope.proofs.region.Region.truncate.Goals as goal

pub returns : goal.returns
returns c = let e = take-map declaration c.args.count c.self.inside.names.value.entries in cc
