use Rattle.std.proofs.Common.{◌≡◌, ◌∙◌, ap, subst, sym}
use Rattle.std.specs.Prelude.{IfOk}
use Rattle.spx_term.specs.declared.value.Value.{Value}
use Rattle.spx_meaning.specs.Stores.{types_of}
use Rattle.spx_meaning.proofs.FirstValues.{first_component}
use Rattle.spx_interp.specs.Ways.{absent_part}
use Rattle.spx_interp.proofs.parts.first_part.Goals as goal

pub returns-in-Element : goal.returns-in-Element
returns-in-Element c =
    let types = types_of c.args.program.now in
    subst (λ (x : Value). IfOk c.first_value.result (λ value. value ≡ x)) (sym (ap (absent_part types) c.in-Element.is ∙ first_component types c.in-Element.x.element)) c.first_value.ensures

pub returns-in-Field : goal.returns-in-Field
returns-in-Field c =
    let types = types_of c.args.program.now in
    subst (λ (x : Value). IfOk c.first_value-in-Field.result (λ value. value ≡ x)) (sym (ap (absent_part types) c.in-Field.is ∙ first_component types c.in-Field.x.field)) c.first_value-in-Field.ensures
