use Rattle.std.proofs.Common.{sym, ◌∙◌}
use Rattle.spx_tree.specs.declared.token.Kind.TheVariants as k
use Rattle.spx_tree.specs.Written.{program}
use Rattle.spx_cursor.specs.Reading.{sees}
use Rattle.spx_parse_unit.specs.Units.{field}
use Rattle.spx_parse_body.proofs.Callers.Turns.{item_shorter}
use Rattle.spx_parse_unit.proofs.UnitsGood.{fields_shrinks}
use Rattle.spx_parse_unit.proofs.declarative.fields.Goals as goal

pub more-smaller : goal.more-smaller
more-smaller c = item_shorter (sees program k.Identifier) (field c.args.levels) (fields_shrinks c.args.levels) _ _ _ (sym c.sees.ensures ∙ c.more-test.true) c.in_ok-field-2.ensures
