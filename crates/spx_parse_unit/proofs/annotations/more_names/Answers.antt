use Rattle.std.proofs.Common.{sym, ◌∙◌}
use Rattle.spx_tree.specs.declared.token.Kind.TheVariants as k
use Rattle.spx_parse_body.specs.Expressions.{name}
use Rattle.spx_parse_body.proofs.Callers.Turns.{next_shorter}
use Rattle.spx_parse_unit.proofs.UnitsGood.{names_shrinks}
use Rattle.spx_parse_unit.proofs.annotations.more_names.Goals as goal

pub more-smaller : goal.more-smaller
more-smaller c = next_shorter c.args.marked k.Comma (name c.args.marked c.args.levels) (names_shrinks c.args.marked c.args.levels) _ _ _ _ (sym c.sees.ensures ∙ c.more-test.true) c.in_ok-expect.ensures c.in_ok-name.ensures
