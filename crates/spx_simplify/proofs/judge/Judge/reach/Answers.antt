use Rattle.std.proofs.Common.{List, subst, sym, arith}
use Rattle.spx_arena.specs.declared.facts.FactsId.{FactsId}
use Rattle.spx_simplify.specs.declared.judge.Step.{Step}
use Rattle.spx_simplify.specs.Questions.{Leads}
use Rattle.spx_simplify.proofs.Judging.{leads_more, leads_less}
use Rattle.spx_simplify.proofs.judge.Judge.reach.Goals as goal

pub meet-preserved : goal.meet-preserved
meet-preserved c =
    let i = c.meet.invariant in
    let w = i.within in
    let l = c.link-link.ensures.before in
    record {
      judges = i.judges;
      leads = subst (λ ss. Leads c.args.facts.now ss c.link-link.result.before c.args.target) (sym c.in_ok-push.ensures.ok)
          (leads_more c.args.facts.now c.meet.steps c.meet.to c.args.target c.link-link.result.before c.link-link.result.fact i.leads i.within c.link-link.ensures.list);
      within = omega arith;
    }

pub forth-requires-clause-within : goal.forth-requires-clause-within
forth-requires-clause-within c =
    (leads_less c.args.facts.now c.pop.new.self c.more.self.at c.args.target c.in-Some.step (subst (λ (ss : List Step). Leads c.args.facts.now ss c.more.self.at c.args.target) c.in-Some.ensures c.more.invariant.leads)).0

pub forth-requires-clause-next : goal.forth-requires-clause-next
forth-requires-clause-next c =
    (leads_less c.args.facts.now c.pop.new.self c.more.self.at c.args.target c.in-Some.step (subst (λ (ss : List Step). Leads c.args.facts.now ss c.more.self.at c.args.target) c.in-Some.ensures c.more.invariant.leads)).1.0

pub more-preserved : goal.more-preserved
more-preserved c = record {
  judges = c.in_ok-forth.ensures.judges;
  leads = subst (λ (x : FactsId). Leads c.args.facts.now c.pop.new.self x c.args.target) (sym c.in_ok-forth.ensures.at)
      (leads_less c.args.facts.now c.pop.new.self c.more.self.at c.args.target c.in-Some.step (subst (λ (ss : List Step). Leads c.args.facts.now ss c.more.self.at c.args.target) c.in-Some.ensures c.more.invariant.leads)).1.1;
}
