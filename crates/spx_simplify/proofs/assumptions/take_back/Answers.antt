use Rattle.std.proofs.Common.{length}
use Rattle.spx_simplify.proofs.Tables.{change_popped, back_once, back_whole}
use Rattle.spx_simplify.proofs.assumptions.take_back.Goals as goal

pub undo-requires-clause-within : goal.undo-requires-clause-within
undo-requires-clause-within c = (change_popped (length c.args.terms.now) c.back.changes c.pop.new.self c.in-Some.change c.back.invariant.changes c.in-Some.ensures).0

pub back-preserved : goal.back-preserved
back-preserved c = record {
  sized = c.undo.ensures.sized;
  changes = (change_popped (length c.args.terms.now) c.back.changes c.pop.new.self c.in-Some.change c.back.invariant.changes c.in-Some.ensures).1;
  leads = λ hyps back. back_once c.args.terms.now hyps c.back.known c.undo.new.self c.back.changes c.pop.new.self c.in-Some.change (c.back.invariant.leads hyps back) c.in-Some.ensures c.undo.ensures.knows;
}

pub returns-clause-knows : goal.returns-clause-knows
returns-clause-knows c = λ hyps back. back_whole c.args.terms.now hyps c.back.known c.back.changes (c.back.invariant.leads hyps back) c.in_default.ensures.0
