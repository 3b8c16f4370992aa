use Rattle.spx_arena.proofs.Ids.{id_within}
use Rattle.spx_vcg.proofs.vcg.trees.Goals as goal

pub tree_of-requires : goal.tree_of-requires
tree_of-requires c = id_within c.args.ids.now _ c.loop-id.id-index (record { 0 = 0 }) c.requires c.loop-id-test.true
