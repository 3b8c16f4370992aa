use Rattle.spx_parse_unit.proofs.Parsed.{left_low, all_read, only_read, more_stand, only_more_stand, stop_low, stop_said, only_stop_said}
use Rattle.spx_parse_unit.proofs.parse.parse_units.Goals as goal

pub place_of-requires : goal.place_of-requires
place_of-requires c = left_low c.args.tokens.now.end c.args.tokens.now.source.now c.args.tokens.now.list.items _ _ c.as_slice-list.ensures.value c.new-cursor.ensures _ _ c.in-Ok.ensures _ c.left-left.ensures

pub fault_of-requires : goal.fault_of-requires
fault_of-requires c = stop_low c.args.tokens.now.end c.args.tokens.now.source.now c.args.tokens.now.list.items _ _ c.as_slice-list.ensures.value c.new-cursor.ensures c.in-Err.stop c.in-Err.ensures

pub returns-in-Err-clause-answers : goal.returns-in-Err-clause-answers
returns-in-Err-clause-answers c = stop_said c.args.tokens.now.end c.args.tokens.now.source.now c.args.tokens.now.list.items _ _ c.as_slice-list.ensures.value c.new-cursor.ensures c.in-Err.stop c.in-Err.ensures c.fault_of.result c.fault_of.ensures

pub returns-in-Err-clause-only : goal.returns-in-Err-clause-only
returns-in-Err-clause-only c = only_stop_said c.args.tokens.now.end c.args.tokens.now.source.now c.args.tokens.now.list.items _ _ c.as_slice-list.ensures.value c.new-cursor.ensures c.in-Err.stop c.in-Err.ensures c.fault_of.result c.fault_of.ensures

pub returns-then-left-eq0-clause-answers : goal.returns-then-left-eq0-clause-answers
returns-then-left-eq0-clause-answers c = all_read c.args.tokens.now.end c.args.tokens.now.source.now c.args.tokens.now.list.items _ _ c.as_slice-list.ensures.value c.new-cursor.ensures _ _ c.in-Ok.ensures _ c.left-left.ensures c.if-left-eq0.true

pub returns-then-left-eq0-clause-only : goal.returns-then-left-eq0-clause-only
returns-then-left-eq0-clause-only c = only_read c.args.tokens.now.end c.args.tokens.now.source.now c.args.tokens.now.list.items _ _ c.as_slice-list.ensures.value c.new-cursor.ensures _ _ c.in-Ok.ensures _ c.left-left.ensures c.if-left-eq0.true

pub returns-else-left-eq0-clause-answers : goal.returns-else-left-eq0-clause-answers
returns-else-left-eq0-clause-answers c = more_stand c.args.tokens.now.end c.args.tokens.now.source.now c.args.tokens.now.list.items _ _ c.as_slice-list.ensures.value c.new-cursor.ensures _ _ c.in-Ok.ensures _ c.left-left.ensures c.if-left-eq0.false c.place_of.result c.place_of.ensures

pub returns-else-left-eq0-clause-only : goal.returns-else-left-eq0-clause-only
returns-else-left-eq0-clause-only c = only_more_stand c.args.tokens.now.end c.args.tokens.now.source.now c.args.tokens.now.list.items _ _ c.as_slice-list.ensures.value c.new-cursor.ensures _ _ c.in-Ok.ensures _ c.left-left.ensures c.if-left-eq0.false c.place_of.result c.place_of.ensures
