use Rattle.std.proofs.Common.{sym, ap, ◌∙◌}
use Rattle.spx_parse_body.specs.Expressions.{step_of}
use Rattle.spx_parse_body.proofs.Levels.{name_shorter, part_shorter, named_shorter}
use Rattle.spx_parse_body.proofs.expressions.+layers.Goals as goal

pub more_named-more-smaller : goal.more_named-more-smaller
more_named-more-smaller t c = named_shorter c.args.marked c.args.levels c.requires.some c.more.parts _ _ _ _ (sym c.sees.ensures ∙ c.more-test.true) c.in_ok-expect.ensures c.in_ok-name.ensures.gives

pub more_parts-more-smaller : goal.more_parts-more-smaller
more_parts-more-smaller t c = part_shorter c.args.marked c.args.levels c.requires.some c.more.parts _ _ _ _ (sym c.sees.ensures ∙ c.more-test.true) c.in_ok-expect.ensures c.in_ok-part.ensures.gives

pub name_steps-more-smaller : goal.name_steps-more-smaller
name_steps-more-smaller t c = name_shorter c.args.marked c.args.levels _ _ _ _ _ (ap step_of (sym c.peek.ensures) ∙ sym c.in-Some.ensures) c.in_ok-name.ensures.gives
