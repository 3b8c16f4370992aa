use Rattle.std.proofs.Common.{◌∙◌, ap, arith, sym}
use Rattle.spx_core.specs.Commands.{commands, has_own_cut}
use Rattle.spx_formula.proofs.OwnCuts.{own_here, own_more}
use Rattle.spx_formula.proofs.cut.own_cut.Goals as goal

pub loop-i-preserved : goal.loop-i-preserved
loop-i-preserved c = own_more c.args.stmts.now c.loop-i.i c.index-stmts-i.result (omega (arith, c.loop-i-test.true)) c.index-stmts-i.is c.loop-i.invariant (ap (λ xs. has_own_cut (commands xs)) (sym c.one.ensures) ∙ sym c.has_own_cut.ensures ∙ c.if-has_own_cut.false)

pub returns-then-has_own_cut : goal.returns-then-has_own_cut
returns-then-has_own_cut c = own_here c.args.stmts.now c.loop-i.i c.index-stmts-i.result (omega (arith, c.loop-i-test.true)) c.index-stmts-i.is c.loop-i.invariant (ap (λ xs. has_own_cut (commands xs)) (sym c.one.ensures) ∙ sym c.has_own_cut.ensures ∙ c.if-has_own_cut.true)
