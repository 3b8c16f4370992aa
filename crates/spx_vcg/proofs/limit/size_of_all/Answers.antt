use Rattle.spx_arena.proofs.Ids.{id_within}
use Rattle.spx_vcg.proofs.limit.size_of_all.Goals as goal

pub size-requires : goal.size-requires
size-requires c = id_within c.args.ids.now _ c.loop-id.id-index (record { 0 = 0 }) c.requires c.loop-id-test.true
