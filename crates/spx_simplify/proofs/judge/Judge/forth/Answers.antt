use Rattle.std.proofs.Common.{refl}
use Rattle.spx_simplify.proofs.Judging.{fact_within, fold_within, judges_forth}
use Rattle.spx_simplify.proofs.judge.Judge.forth.Goals as goal

pub fold_at-folded-requires : goal.fold_at-folded-requires
fold_at-folded-requires c = fact_within c.args.facts.now _ c.args.step.to c.args.self.now.at c.args.step.fact c.requires.facts c.requires.next

pub saved-change-requires-clause-within : goal.saved-change-requires-clause-within
saved-change-requires-clause-within c =
    (fold_within c.args.terms.now c.args.folds.now c.args.step.fact c.fold_at-folded.result c.requires.folds (fact_within c.args.facts.now _ c.args.step.to c.args.self.now.at c.args.step.fact c.requires.facts c.requires.next) c.fold_at-folded.ensures).within

pub returns-clause-judges : goal.returns-clause-judges
returns-clause-judges c =
    judges_forth c.args.terms.now c.args.facts.now c.args.folds.now c.args.self.now _ c.args.step c.fold_at-folded.result c.saved-change.result c.requires.folds (fact_within c.args.facts.now _ c.args.step.to c.args.self.now.at c.args.step.fact c.requires.facts c.requires.next) c.fold_at-folded.ensures c.requires.within c.requires.next c.requires.judges c.saved-change.ensures.fact c.saved-change.ensures.restores
    c.in_ok-push.ensures.ok refl c.add.ensures.sized c.add.ensures.knows
