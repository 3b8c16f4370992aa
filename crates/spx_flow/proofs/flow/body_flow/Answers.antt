use Rattle.std.proofs.Common.{◌∙◌, ap}
use Rattle.spx_core.specs.Effects.{effects}
use Rattle.spx_lower.specs.Meaning.{effect_in}
use Rattle.spx_flow.proofs.flow.body_flow.Goals as goal

pub backward_in-requires-clause-items : goal.backward_in-requires-clause-items
backward_in-requires-clause-items c = ap effect_in c.as_slice-2.ensures ∙ c.in_ok-items.ensures ∙ ap effects c.as_slice.ensures

pub returns : goal.returns
returns c = record { items = c.in_ok-items.ensures ∙ ap effects c.as_slice.ensures; back = c.in_ok-back.ensures }
