use Rattle.std.proofs.Common.{[], ◌∙◌, ◌&&◌, Bool, true, false, ◌≡◌, refl, ap, sym}
use Rattle.std.proofs.lemmas.List.{append-nil}
use Rattle.std.proofs.lemmas.Result.{IfOk-weaker}
use Rattle.spx_core.specs.Mirror.VarSets.{holds}
use Rattle.spx_rules.specs.NamedOnce.{all_new}
use Rattle.spx_rules.proofs.NamedOnceLaws.{new_once}
use Rattle.spx_rules.proofs.relation.names_once.Goals as goal

and_true : (b : Bool) → (b && true) ≡ b
and_true true = refl
and_true false = refl

pub returns : goal.returns
returns c =
    let names = c.args.names.now in
    let empty = ap (λ set. all_new (holds set) names) c.in_ok-seen.ensures in
    IfOk-weaker c.insert_new.result _ _
    (λ once all. sym (and_true once) ∙ sym (all []) ∙ ap (λ l. all_new (holds c.in_ok-seen.seen) l) (append-nil names) ∙ empty ∙ new_once names)
    c.insert_new.ensures
