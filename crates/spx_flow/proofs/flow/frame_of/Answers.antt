use Rattle.std.proofs.Common.{◌∙◌, ap, true}
use Rattle.spx_core.specs.Mirror.VarSets.{positions_of}
use Rattle.spx_lower.specs.Meaning.{effect_in}
use Rattle.spx_passes.specs.Positions.{exits_in}
use Rattle.spx_flow.proofs.FlowLaws.{frame_is}
use Rattle.spx_flow.proofs.flow.frame_of.Goals as goal

pub returns : goal.returns
returns c = frame_is c.in_ok-vars.vars c.have_exits-has_exits.result (positions_of c.args.sub.now.vars) (exits_in true (effect_in c.args.items.now)) (c.in_ok-vars.ensures (rw c.as_slice.ensures c.requires) ∙ ap positions_of c.as_slice.ensures) c.have_exits-has_exits.ensures
