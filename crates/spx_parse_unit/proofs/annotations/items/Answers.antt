use Rattle.std.proofs.Common.{sym, ◌∙◌}
use Rattle.spx_tree.specs.declared.token.Kind.TheVariants as k
use Rattle.spx_tree.specs.Written.{annotation}
use Rattle.spx_parse_unit.specs.Units.{item}
use Rattle.spx_parse_body.proofs.Callers.Turns.{next_shorter}
use Rattle.spx_parse_unit.proofs.UnitsGood.{derives_shrinks}
use Rattle.spx_parse_unit.proofs.annotations.items.Goals as goal

pub more-smaller : goal.more-smaller
more-smaller c = next_shorter annotation k.Ampersand (item c.args.levels) (derives_shrinks c.args.levels) _ _ _ _ (sym c.sees.ensures ∙ c.more-test.true) c.in_ok-expect.ensures c.in_ok-item-2.ensures
