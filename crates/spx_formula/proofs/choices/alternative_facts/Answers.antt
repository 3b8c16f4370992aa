use Rattle.std.proofs.Common.{List, [], ◌∷◌, ◌++◌, ap, map, sym, ◌∙◌}
use Rattle.spx_core.specs.declared.statement.CoreChoice.{CoreChoice}
use Rattle.spx_term.specs.declared.term.Term.TheVariants.{Prefix}
use Rattle.spx_term.specs.declared.term.TermPrefix.TheVariants.{Not}
use Rattle.spx_term.specs.Conjuncts.{conjuncts}
use Rattle.spx_formula.specs.Choices.{alternative_facts, and_these, choices_term}
use Rattle.spx_arena.specs.declared.terms.TermId.{TermId}
use Rattle.spx_arena.specs.Claims.{trees_at}
use Rattle.spx_arena.specs.Sharing.{tree_at}
use Rattle.spx_formula.proofs.ChoiceIds.{all_parts, all_push, all_stay}
use Rattle.spx_formula.proofs.GoalSteps.{all_along}
use Rattle.spx_formula.proofs.choices.alternative_facts.Goals as goal

pub returns-in_ok-facts-in-None-clause-facts : goal.returns-in_ok-facts-in-None-clause-facts
returns-in_ok-facts-in-None-clause-facts c =
    let terms = c.args.terms.now in
    all_along c.in_ok-facts-in-None.ensures
    (ap (λ (ids : List TermId). map (Prefix Not) (trees_at terms ids)) c.as_slice.ensures ∙ ap (alternative_facts (tree_at terms c.args.value) (trees_at terms c.args.earlier.now)) (sym c.in-None.is))

pub returns-in_ok-facts-in-None-clause-earlier : goal.returns-in_ok-facts-in-None-clause-earlier
returns-in_ok-facts-in-None-clause-earlier c =
    let terms = c.args.terms.now in
    all_along (all_stay c.args.earlier.now c.in_ok-facts-in-None.ensures.grown c.requires.earlier) (ap (and_these (tree_at terms c.args.value) (trees_at terms c.args.earlier.now)) (sym c.in-None.is))

pub returns-in_ok-facts-in-Some-clause-facts : goal.returns-in_ok-facts-in-Some-clause-facts
returns-in_ok-facts-in-Some-clause-facts c =
    let terms = c.args.terms.now in
    let t = tree_at terms c.args.value in
    all_along (all_parts c.in_ok-chosen-in-Some.ensures c.in_ok-facts-in-Some.ensures.ids c.in_ok-facts-in-Some.ensures.trees)
    (ap (λ (choices : List CoreChoice). conjuncts (choices_term t choices)) c.as_slice-in-Some.ensures ∙ ap (alternative_facts t (trees_at terms c.args.earlier.now)) (sym c.in-Some.is))

pub returns-in_ok-facts-in-Some-clause-earlier : goal.returns-in_ok-facts-in-Some-clause-earlier
returns-in_ok-facts-in-Some-clause-earlier c =
    let terms = c.args.terms.now in
    let t = tree_at terms c.args.value in
    let earlier = trees_at terms c.args.earlier.now in
    all_along (all_push c.args.earlier.now c.in_ok-chosen-in-Some.ensures c.requires.earlier c.in_ok-push-in-Some.ensures.ok)
    (ap (λ (choices : List CoreChoice). earlier ++ choices_term t choices ∷ []) c.as_slice-in-Some.ensures ∙ ap (and_these t earlier) (sym c.in-Some.is))
