use Rattle.spx_parse_unit.proofs.BodyExact.{expr_exactly}
use Rattle.spx_parse_unit.proofs.Indexed.{left_low, found_said, only_found, stop_low, stop_said, only_stop}
use Rattle.spx_parse_unit.proofs.parse.parse_expr.Goals as goal

pub overflow_sub-result : goal.overflow_sub-result
overflow_sub-result c = left_low c.args.end (expr_exactly c.args.source.now c.args.tokens.now c.args.from c.requires.index c.cursor_at-cursor.result c.cursor_at-cursor.ensures c.mark_at-marked.result c.mark_at-marked.ensures) c.in-Ok.expr _ c.in-Ok.ensures c.left.result c.left.ensures

pub returns-in-Ok-clause-answers : goal.returns-in-Ok-clause-answers
returns-in-Ok-clause-answers c = found_said c.args.end (expr_exactly c.args.source.now c.args.tokens.now c.args.from c.requires.index c.cursor_at-cursor.result c.cursor_at-cursor.ensures c.mark_at-marked.result c.mark_at-marked.ensures) c.in-Ok.expr _ c.in-Ok.ensures c.left.result c.left.ensures

pub returns-in-Ok-clause-only : goal.returns-in-Ok-clause-only
returns-in-Ok-clause-only c = only_found c.args.end (expr_exactly c.args.source.now c.args.tokens.now c.args.from c.requires.index c.cursor_at-cursor.result c.cursor_at-cursor.ensures c.mark_at-marked.result c.mark_at-marked.ensures) c.in-Ok.expr _ c.in-Ok.ensures c.left.result c.left.ensures

pub fault_of-requires : goal.fault_of-requires
fault_of-requires c = stop_low c.args.end (expr_exactly c.args.source.now c.args.tokens.now c.args.from c.requires.index c.cursor_at-cursor.result c.cursor_at-cursor.ensures c.mark_at-marked.result c.mark_at-marked.ensures) c.in-Err.stop c.in-Err.ensures

pub returns-in-Err-clause-answers : goal.returns-in-Err-clause-answers
returns-in-Err-clause-answers c = stop_said c.args.end (expr_exactly c.args.source.now c.args.tokens.now c.args.from c.requires.index c.cursor_at-cursor.result c.cursor_at-cursor.ensures c.mark_at-marked.result c.mark_at-marked.ensures) c.in-Err.stop c.in-Err.ensures c.fault_of.result c.fault_of.ensures

pub returns-in-Err-clause-only : goal.returns-in-Err-clause-only
returns-in-Err-clause-only c = only_stop c.args.end (expr_exactly c.args.source.now c.args.tokens.now c.args.from c.requires.index c.cursor_at-cursor.result c.cursor_at-cursor.ensures c.mark_at-marked.result c.mark_at-marked.ensures) c.in-Err.stop c.in-Err.ensures c.fault_of.result c.fault_of.ensures
