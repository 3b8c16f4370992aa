use Rattle.std.proofs.Common.{◌≡◌, drop, length}
use Rattle.spx_core.specs.Commands.{commands, loop_of}
use Rattle.spx_interp.specs.Results.{IsWay, frame_of, ran, ran_count}
use Rattle.spx_interp.specs.Rooms.{HasRoom}
use Rattle.spx_interp.proofs.statements.+run.Given as goal

abbrev pub invariant-run_stmts-loop-stmt : goal.invariant-run_stmts-loop-stmt
invariant-run_stmts-loop-stmt l =
    HasRoom (length l.store) (commands (drop l.stmt-index l.stmts))
    × (ran (frame_of l.body) l.turns l.initial.store (commands l.stmts) ≡ ran (frame_of l.body) l.turns l.store (commands (drop l.stmt-index l.stmts)))

-- the whole loop from the store before it is what is left of it from here
abbrev pub invariant-run_turns-loop-stop : goal.invariant-run_turns-loop-stop
invariant-run_turns-loop-stop l =
    HasRoom (length l.store) (commands l.stmts)
    × (ran (frame_of l.body) l.turns l.initial.store (loop_of l.scheme (commands l.stmts)) ≡ ran (frame_of l.body) l.left l.store (loop_of l.scheme (commands l.stmts)))

abbrev pub decreases-run_turns-loop-stop : goal.decreases-run_turns-loop-stop
decreases-run_turns-loop-stop l = l.left

abbrev pub invariant-run_count-loop-left : goal.invariant-run_count-loop-left
invariant-run_count-loop-left l =
    IsWay l.count l.value l.way.last
    × (ran_count (frame_of l.body) l.count (commands l.stmts) l.way.last l.turns l.way.first l.initial.store
    ≡ ran_count (frame_of l.body) l.count (commands l.stmts) l.way.last l.left l.value l.store)

abbrev pub decreases-run_count-loop-left : goal.decreases-run_count-loop-left
decreases-run_count-loop-left l = l.left
