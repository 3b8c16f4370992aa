use Rattle.std.proofs.Common.{sym, ◌∙◌}
use Rattle.spx_tree.specs.declared.token.Kind.TheVariants as k
use Rattle.spx_cursor.specs.Reading.{identifier}
use Rattle.spx_parse_body.proofs.Callers.Turns.{next_shorter}
use Rattle.spx_parse_unit.proofs.UnitsGood.{identifiers_shrinks}
use Rattle.spx_parse_unit.proofs.annotations.more_identifiers.Goals as goal

pub more-smaller : goal.more-smaller
more-smaller c = next_shorter c.args.marked k.Comma (identifier c.args.marked) (identifiers_shrinks c.args.marked) _ _ _ _ (sym c.sees.ensures ∙ c.more-test.true) c.in_ok-expect.ensures c.in_ok-identifier.ensures
