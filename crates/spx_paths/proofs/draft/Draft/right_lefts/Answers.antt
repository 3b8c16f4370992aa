use Rattle.std.proofs.Common.{List, [], ◌∷◌, ◌++◌, ap, subst, sym, ◌∙◌}
use Rattle.spx_arena.specs.declared.terms.TermId.{TermId}
use Rattle.spx_arena.specs.Claims.{AreIds}
use Rattle.spx_arena.proofs.Ids.{ids_push}
use Rattle.std.specs.Prelude.{length}
use Rattle.spx_paths.proofs.CheckSteps.{and_lefts, finds_not, ids_kept, keeps_not, only_finds, only_keeps, or_lefts, other_lefts}
use Rattle.spx_paths.proofs.draft.Draft.right_lefts.Goals as goal

pub returns-in_ok-push-in-AndThen-clause-keeps : goal.returns-in_ok-push-in-AndThen-clause-keeps
returns-in_ok-push-in-AndThen-clause-keeps c = keeps_not c.requires.whole

pub returns-in_ok-push-in-AndThen-clause-walks : goal.returns-in_ok-push-in-AndThen-clause-walks
returns-in_ok-push-in-AndThen-clause-walks c = finds_not c.args.self.now

pub returns-in_ok-push-in-AndThen-clause-within : goal.returns-in_ok-push-in-AndThen-clause-within
returns-in_ok-push-in-AndThen-clause-within c =
    subst (AreIds (length c.args.self.now.steps.terms)) (sym (c.in_ok-push-in-AndThen.ensures.ok ∙ ap (λ (ids : List TermId). ids ++ c.args.left ∷ []) c.in_ok-all.ensures)) (ids_push c.args.lefts.now c.args.left _ c.requires.lefts c.requires.within)

pub returns-in_ok-push-in-AndThen-clause-lefts : goal.returns-in_ok-push-in-AndThen-clause-lefts
returns-in_ok-push-in-AndThen-clause-lefts c = and_lefts c.args.op c.in-AndThen.is (c.in_ok-push-in-AndThen.ensures.ok ∙ ap (λ (ids : List TermId). ids ++ c.args.left ∷ []) c.in_ok-all.ensures)

pub returns-in_ok-push-in-OrElse-clause-keeps : goal.returns-in_ok-push-in-OrElse-clause-keeps
returns-in_ok-push-in-OrElse-clause-keeps c = only_keeps c.requires.whole c.in_ok-negation-in-OrElse.ensures.grown

pub returns-in_ok-push-in-OrElse-clause-walks : goal.returns-in_ok-push-in-OrElse-clause-walks
returns-in_ok-push-in-OrElse-clause-walks c = only_finds c.requires.whole c.in_ok-negation-in-OrElse.ensures.grown

pub returns-in_ok-push-in-OrElse-clause-within : goal.returns-in_ok-push-in-OrElse-clause-within
returns-in_ok-push-in-OrElse-clause-within c =
    let negation = c.in_ok-negation-in-OrElse.negation in
    subst (AreIds (length c.negated_id.new.terms)) (sym (c.in_ok-push-in-OrElse.ensures.ok ∙ ap (λ (ids : List TermId). ids ++ negation ∷ []) c.in_ok-all.ensures))
    (ids_push c.args.lefts.now negation _ (ids_kept (only_keeps c.requires.whole c.in_ok-negation-in-OrElse.ensures.grown) _ c.requires.lefts) c.in_ok-negation-in-OrElse.ensures.made.within)

pub returns-in_ok-push-in-OrElse-clause-lefts : goal.returns-in_ok-push-in-OrElse-clause-lefts
returns-in_ok-push-in-OrElse-clause-lefts c =
    let negation = c.in_ok-negation-in-OrElse.negation in
    or_lefts c.args.op c.requires.whole c.requires.lefts c.in_ok-negation-in-OrElse.ensures c.in-OrElse.is (c.in_ok-push-in-OrElse.ensures.ok ∙ ap (λ (ids : List TermId). ids ++ negation ∷ []) c.in_ok-all.ensures)

pub returns-in_default-clause-keeps : goal.returns-in_default-clause-keeps
returns-in_default-clause-keeps c = keeps_not c.requires.whole

pub returns-in_default-clause-walks : goal.returns-in_default-clause-walks
returns-in_default-clause-walks c = finds_not c.args.self.now

pub returns-in_default-clause-within : goal.returns-in_default-clause-within
returns-in_default-clause-within c = subst (AreIds (length c.args.self.now.steps.terms)) (sym c.in_ok-all.ensures) c.requires.lefts

pub returns-in_default-clause-lefts : goal.returns-in_default-clause-lefts
returns-in_default-clause-lefts c = λ ls a ml m. other_lefts c.args.op c.in_default.not-AndThen c.in_default.not-OrElse c.in_ok-all.ensures ls a ml
