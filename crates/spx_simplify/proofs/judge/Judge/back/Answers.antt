use Rattle.std.proofs.Common.{refl}
use Rattle.spx_simplify.proofs.Judging.{some_change, change_within, judges_back}
use Rattle.spx_simplify.proofs.judge.Judge.back.Goals as goal

pub undo-requires-clause-within : goal.undo-requires-clause-within
undo-requires-clause-within c =
    change_within c.args.terms.now c.args.facts.now c.args.self.now c.link-link.result c.requires.judges c.link-link.ensures.list c.pop.new.self c.in-Some.change c.in-Some.ensures

pub returns-in-Some-clause-judges : goal.returns-in-Some-clause-judges
returns-in-Some-clause-judges c =
    judges_back c.args.terms.now c.args.facts.now c.args.self.now c.link-link.result c.requires.judges c.link-link.ensures.list c.pop.new.self c.in-Some.change c.in-Some.ensures
    _ refl refl c.link-link.ensures.before c.undo.ensures.sized c.undo.ensures.knows

pub returns-in-None-clause-back : goal.returns-in-None-clause-back
returns-in-None-clause-back c = absurd (some_change c.args.terms.now c.args.facts.now c.args.self.now c.link-link.result c.requires.judges c.link-link.ensures.list c.in-None.ensures.0)
