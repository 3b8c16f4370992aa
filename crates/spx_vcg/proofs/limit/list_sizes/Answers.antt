use Rattle.std.proofs.Common.{length}
use Rattle.spx_arena.proofs.Ids.{last_within}
use Rattle.spx_vcg.proofs.limit.list_sizes.Goals as goal

pub size-requires : goal.size-requires
size-requires c =
    last_within _ _ c.link-link.result.fact (length c.args.terms.now) (c.requires.each (record { 0 = c.loop-at.at })) c.link-link.ensures.list
