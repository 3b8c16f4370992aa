use Rattle.std.proofs.Common.{sym, ◌∙◌}
use Rattle.spx_tree.specs.declared.token.Kind.TheVariants as k
use Rattle.spx_tree.specs.Written.{program}
use Rattle.spx_cursor.specs.Reading.{sees}
use Rattle.spx_parse_body.specs.Statements.{sees_stmt, stmt, stmts_below, elsif_arm, alternative}
use Rattle.spx_parse_body.proofs.Callers.Turns.{item_shorter}
use Rattle.spx_parse_body.proofs.Callers.StatementsGood.{stmts_shrinks, arms_shrinks, alternatives_shrinks}
use Rattle.spx_parse_body.proofs.statements.+stmts.Goals as goal

pub stmts-more-smaller : goal.stmts-more-smaller
stmts-more-smaller t c = item_shorter sees_stmt (stmt (stmts_below c.args.levels) c.args.levels) (stmts_shrinks c.args.levels) _ _ _ (sym c.sees_stmt.ensures ∙ c.more-test.true) c.in_ok-stmt-2.ensures

pub elsif_arms-more-smaller : goal.elsif_arms-more-smaller
elsif_arms-more-smaller t c = item_shorter (sees program k.Elsif) (elsif_arm (stmts_below c.args.levels) c.args.levels) (arms_shrinks c.args.levels c.requires) _ _ _ (sym c.sees.ensures ∙ c.more-test.true) c.in_ok-elsif_arm.ensures

pub alternatives-more-smaller : goal.alternatives-more-smaller
alternatives-more-smaller t c = item_shorter (sees program k.When) (alternative (stmts_below c.args.levels) c.args.levels) (alternatives_shrinks c.args.levels c.requires) _ _ _ (sym c.sees.ensures ∙ c.more-test.true) c.in_ok-alternative-2.ensures
