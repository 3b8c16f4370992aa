use Rattle.std.proofs.Common.{ℕ, List, Ok, sym, ap, ◌∙◌}
use Rattle.spx_tree.specs.declared.token.Kind.TheVariants as k
use Rattle.spx_tree.specs.Form.{forms_of}
use Rattle.spx_cursor.specs.Reading.{name_in, taking}
use Rattle.spx_cursor.proofs.Taking.{taking_there, refused, within_rest}
use Rattle.spx_cursor.proofs.cursor.Cursor.identifier.Goals as goal

pub returns-in_default : goal.returns-in_default
returns-in_default c = refused _ _ _ _ _ c.self.view_is (c.in_default.ensures.seen c.self.inside.source.now) _ c.expected.ensures

pub invariant_of-self : goal.invariant_of-self
invariant_of-self c = within_rest _ _ _ c.in-Some.token c.in-Some.ensures.parts c.self.invariant

pub returns : goal.returns
returns c =
    let source = c.self.inside.source.now in
    ap (taking name_in c.args.marked k.Identifier) (sym c.self.view_is)
    ∙ taking_there name_in c.args.marked k.Identifier source c.self.inside.rest.now c.in-Some.rest.now c.in-Some.token c.in-Some.ensures.parts c.in-Some.ensures.same (c.in-Some.ensures.seen source)
    ∙ ap (λ (text : List ℕ). Ok (record { text = text; place = c.in-Some.token.place }, forms_of source c.in-Some.rest.now)) (sym c.in_ok-text.ensures)
