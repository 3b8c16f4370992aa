use Rattle.std.proofs.Common.{ap, cond, Some, ◌∙◌}
use Rattle.spx_steps.specs.States.{Given, given, name_eq}
use Rattle.spx_steps.proofs.ConditionStates.{name_either}
use Rattle.spx_steps.proofs.values.Values.set.Goals as goal

pub returns : goal.returns
returns c = record {
  at = λ y.
      c.in_ok-insert.ensures.updates.0 y
      ∙ ap (λ b. cond b (Some c.args.value) (given c.self.inside.ids.entries y)) (name_either c.args.name y)
      ∙ ap (λ (es : Given). cond (name_eq y c.args.name) (Some c.args.value) (given es y)) c.self.view_is;
}
