use Rattle.std.proofs.Common.{◌∷◌, List, ap, sym, ◌∙◌}
use Rattle.std.proofs.lemmas.List.{take_rest}
use Rattle.std.proofs.lemmas.Result.{IfOk-weaker}
use Rattle.spx_core.specs.declared.statement.CoreChoice.{CoreChoice}
use Rattle.spx_formula.proofs.ChoiceIds.{adds_choices, first_stands}
use Rattle.spx_formula.proofs.choices.choices_id.Goals as goal

pub returns-in_ok-first-in-len1-up : goal.returns-in_ok-first-in-len1-up
returns-in_ok-first-in-len1-up c =
    IfOk-weaker c.one_of.result _ _ (λ id a. adds_choices c.args.choices.now c.choice-item.result _ c.requires c.in_ok-first-in-len1-up.ensures a
    (first_stands c.args.choices.now c.choice-item.result c.in-len1-up.len_at_least c.choice-item.is ∙ ap (λ (more : List CoreChoice). c.choice-item.result ∷ more) (sym (take_rest c.args.choices.now 1)))) c.one_of.ensures
