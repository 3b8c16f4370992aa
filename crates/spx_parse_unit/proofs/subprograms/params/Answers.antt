use Rattle.std.proofs.Common.{sym, ◌∙◌}
use Rattle.spx_tree.specs.declared.token.Kind.TheVariants as k
use Rattle.spx_tree.specs.Written.{program}
use Rattle.spx_parse_unit.specs.Units.{param}
use Rattle.spx_parse_body.proofs.Callers.Turns.{next_shorter}
use Rattle.spx_parse_unit.proofs.UnitsGood.{params_shrinks}
use Rattle.spx_parse_unit.proofs.subprograms.params.Goals as goal

pub more-smaller : goal.more-smaller
more-smaller c = next_shorter program k.Semicolon (param c.args.levels) (params_shrinks c.args.levels) _ _ _ _ (sym c.sees.ensures ∙ c.more-test.true) c.in_ok-expect.ensures c.in_ok-param-2.ensures
