use Rattle.std.proofs.Common.{sym, ◌∙◌}
use Rattle.spx_tree.specs.declared.token.Kind.TheVariants as k
use Rattle.spx_tree.specs.Written.{program}
use Rattle.spx_parse_body.specs.Statements.{choice}
use Rattle.spx_parse_body.proofs.Callers.Turns.{next_shorter}
use Rattle.spx_parse_body.proofs.Callers.StatementsGood.{choices_shrinks}
use Rattle.spx_parse_body.proofs.statements.some_choices.Goals as goal

pub more-smaller : goal.more-smaller
more-smaller c = next_shorter program k.Bar (choice c.args.levels) (choices_shrinks c.args.levels c.requires) _ _ _ _ (sym c.sees.ensures ∙ c.more-test.true) c.in_ok-expect.ensures c.in_ok-choice-2.ensures
