use Rattle.std.proofs.Common.{◌≡◌, Some, None}
use Rattle.spx_core.specs.Regions.{declared_in}
use Rattle.spx_scope.specs.Entries.{declarations}
use Rattle.spx_scope.proofs.Lookups.{declared_as}
use Rattle.spx_scope.proofs.region.Region.declare.Goals as goal

pub returns-clause-ok : goal.returns-clause-ok
returns-clause-ok c =
    let table = c.deref_mut.result.now.entries in
    let seen : declarations table ≡ c.args.self.now = cc (c.deref_mut.ensures.value, c.self.view_is) in
    let absent : declared_in c.args.self.now c.args.name ≡ None = cc in
    declared_as c.args.name (Some c.args.entity) table _ _ seen absent c.in_ok-insert.ensures.entries
