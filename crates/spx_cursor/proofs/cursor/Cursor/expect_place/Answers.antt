use Rattle.std.proofs.Common.{sym, ap, ◌∙◌}
use Rattle.spx_tree.specs.Form.{Keeps, forms_of, kept_as}
use Rattle.spx_cursor.specs.Reading.{place_in, taking, kept_or}
use Rattle.spx_cursor.proofs.Taking.{taking_there, refused, within_rest}
use Rattle.spx_cursor.proofs.cursor.Cursor.expect_place.Goals as goal

pub returns-in_default : goal.returns-in_default
returns-in_default c = refused _ _ _ _ _ c.self.view_is (c.in_default.ensures.seen c.self.inside.source.now) _ c.expected.ensures

pub invariant_of-self : goal.invariant_of-self
invariant_of-self c = within_rest _ _ _ c.in-Some.token c.in-Some.ensures.parts c.self.invariant

pub returns : goal.returns
returns c =
    let source = c.self.inside.source.now in
    ap (taking place_in c.args.marked c.args.kind) (sym c.self.view_is)
    ∙ taking_there place_in c.args.marked c.args.kind source c.self.inside.rest.now c.in-Some.rest.now c.in-Some.token c.in-Some.ensures.parts c.in-Some.ensures.same (c.in-Some.ensures.seen source)
    ∙ ap (λ (part : Keeps). kept_or (place_in (kept_as part source c.in-Some.token)) (forms_of source c.in-Some.rest.now) (forms_of source c.self.inside.rest.now)) c.requires
