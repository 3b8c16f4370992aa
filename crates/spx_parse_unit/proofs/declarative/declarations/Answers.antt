use Rattle.std.proofs.Common.{sym, ◌∙◌}
use Rattle.spx_parse_unit.specs.Units.{declaration, sees_declaration}
use Rattle.spx_parse_body.proofs.Callers.Turns.{item_shorter}
use Rattle.spx_parse_unit.proofs.UnitsGood.{declarations_shrinks}
use Rattle.spx_parse_unit.proofs.declarative.declarations.Goals as goal

pub more-smaller : goal.more-smaller
more-smaller c = item_shorter sees_declaration (declaration c.args.levels) (declarations_shrinks c.args.levels) _ _ _ (sym c.sees_declaration.ensures ∙ c.more-test.true) c.in_ok-declaration.ensures
