use Rattle.spx_steps.specs.Memos.{IsNew}
use Rattle.spx_steps.proofs.memo.Memo.new.Given as goal

abbrev pub invariant-loop-at : goal.invariant-loop-at
invariant-loop-at l = IsNew l.at l.entries
