use Rattle.std.proofs.Common.{◌++◌, ◌∷◌, [], sym, ap, ap₂, ◌∙◌}
use Rattle.std.proofs.lemmas.List.{map_more}
use Rattle.spx_core.specs.ResolvedStatements.{resolved_choice}
use Rattle.spx_scope.specs.Seen.{seen}
use Rattle.spx_naming.proofs.choices.resolve_choices.Goals as goal

pub loop-choice-preserved : goal.loop-choice-preserved
loop-choice-preserved c =
    let each = resolved_choice c.args.scene.now (seen c.args.scope.now) in
    let made = c.in_ok-resolve_choice.ensures ∙ ap each c.choice-item.is in
    c.in_ok-push.ensures.ok ∙ ap₂ (λ done one. done ++ one ∷ []) c.loop-choice.invariant made
    ∙ sym (map_more each c.args.choices.now c.loop-choice.choice-index c.choice-item.result c.loop-choice-test.true)
