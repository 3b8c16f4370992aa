-- What written expressions are resolved to, and what becomes of expressions that meet a type, as recursions that compute where their arguments do.
use Rattle.std.proofs.Common.{◌≡◌, false, if◌then◌else◌, List, [], ◌∷◌, map, Option, Some, None, refl, ap, ap₂, ◌∙◌}
use denote.Hole.Carrier.{roll, hidden}
use Rattle.spx_text.specs.declared.place.Place.{Place}
use Rattle.spx_tree.specs.declared.expression.Expr.{Expr, Expr-F, Row_of-Expr, end_of-Expr, more_of-Expr, items-the_row-Expr, items_shown-the_row-Expr-0, out-Expr, roll-Expr, map-Expr, fold-roll-Expr, fold_out-Expr}
use Rattle.spx_tree.specs.declared.expression.Expr.TheBlock.{hidden-the_row-Expr-0, hidden-the_row-Expr-1}
use Rattle.spx_tree.specs.declared.expression.Expr.TheVariants as written_expr
use Rattle.spx_tree.specs.declared.expression.Expr.TheVariants.{Name', InType', outs-Name'}
use Rattle.spx_core.specs.declared.entity.BaseType.{BaseType}
use Rattle.spx_core.specs.declared.expression.CoreExpr.{CoreExpr}
use Rattle.spx_core.specs.declared.expression.CoreExpr.TheBlock.{hidden-the_row-CoreExpr-0}
use Rattle.spx_core.specs.declared.expression.CoreExpr.TheVariants as expr
use Rattle.spx_core.specs.declared.rule.ExprType.{ExprType}
use Rattle.spx_core.specs.declared.rule.ExprType.TheVariants.{Of}
use Rattle.spx_core.specs.declared.rule.Typing.{Typing}
use Rattle.spx_core.specs.Contexts.{converted, in_context, is_open, is_static, left_takes, met_by_operand, met_in_range, right_takes, taken, taking, taking-Number, taking-Name, taking-Entry, taking-Attribute, taking-Applied, taking-Parenthesized, taking-Implicit, taking-Prefix, taking-Infix, taking-InType, taking-InRange, taking-Element, taking-Selected, taking-ArrayAttribute, taking-Faulty, type_given}
use Rattle.spx_core.specs.Judged.{Judged, judged}
use Rattle.spx_core.specs.Regions.{Regions}
use Rattle.spx_core.specs.ResolvedExpressions.{Scene, expr_step, resolved_in, resolved_value}
use Rattle.spx_core.specs.Shapes.{applied_of, array_attribute_of, element_of, implicit_of, in_range_of, in_type_of, infix_of, parenthesized_of, prefix_of, selected_of}
use Rattle.spx_context.proofs.Unchanged.{takes_none}
use Rattle.spx_examples.specs.Names.{parenthesized, signed, operation, in_range}
use Rattle.spx_examples.proofs.Computing.{judged_is, judged_now, place_is, place_now}

-- ---- what is resolved

module _ (scene : Scene) (around : Regions) where
  -- a membership test in a type stays as it is
  abbrev mutual
    pub resolved_now : Expr → CoreExpr
    resolved_now (written_expr.Number n place) = expr.Number n place
    resolved_now (Name' path shape parts) = resolved_value scene around path (parts_now parts)
    resolved_now (parenthesized place a) = parenthesized_of place (resolved_now a)
    resolved_now (signed op place a) = prefix_of op place (resolved_now a)
    resolved_now (operation op place a b) = infix_of op place (resolved_now a) (resolved_now b)
    resolved_now (InType' op place one tested path shape parts) = resolved_in scene around (InType' op place one tested path shape parts)
    resolved_now (in_range op place a low high) = in_range_of op place (resolved_now a) (resolved_now low) (resolved_now high)

    -- the expressions of a name
    parts_now : {n : _} → Row_of-Expr n → List CoreExpr
    parts_now end_of-Expr = []
    parts_now (more_of-Expr e parts) = resolved_now e ∷ parts_now parts

  at_layer : (y : Expr-F Expr) → resolved_in scene around (roll-Expr y) ≡ expr_step scene around (map-Expr Expr CoreExpr (resolved_in scene around) y)
  at_layer y = fold-roll-Expr CoreExpr (expr_step scene around) y

  -- one whose last level is known
  at_level : (e : Expr) → resolved_in scene around e ≡ expr_step scene around (map-Expr Expr CoreExpr (resolved_in scene around) (out-Expr e))
  at_level e = fold_out-Expr CoreExpr (expr_step scene around) e

  pub resolved_at : (e : Expr) (y : Expr-F Expr) → out-Expr e ≡ y → resolved_in scene around e ≡ expr_step scene around (map-Expr Expr CoreExpr (resolved_in scene around) y)
  resolved_at e y is = at_level e ∙ ap (λ z. expr_step scene around (map-Expr Expr CoreExpr (resolved_in scene around) z)) is

  mutual
    unfolding roll-Expr roll hidden-the_row-Expr-0 hidden-the_row-Expr-1 hidden-the_row-CoreExpr-0 hidden

    pub resolution_is : (e : Expr) → resolved_in scene around e ≡ resolved_now e
    resolution_is (written_expr.Number n place) = at_layer (Expr-F.Number n place)
    resolution_is (Name' path shape parts) = resolved_at (Name' path shape parts) _ (outs-Name' path shape parts) ∙ ap (resolved_value scene around path) (ap (map (resolved_in scene around)) (items_shown-the_row-Expr-0 shape parts) ∙ parts_are _ parts)
    resolution_is (parenthesized place a) = at_layer (Expr-F.Parenthesized place a) ∙ ap (parenthesized_of place) (resolution_is a)
    resolution_is (signed op place a) = at_layer (Expr-F.Prefix op place a) ∙ ap (prefix_of op place) (resolution_is a)
    resolution_is (operation op place a b) = at_layer (Expr-F.Infix op place a b) ∙ ap₂ (infix_of op place) (resolution_is a) (resolution_is b)
    resolution_is (InType' op place one tested path shape parts) = refl
    resolution_is (in_range op place a low high) =
        at_layer (Expr-F.InRange op place a low high)
        ∙ ap₂ (λ x y. in_range_of op place x y (resolved_in scene around high)) (resolution_is a) (resolution_is low)
        ∙ ap (in_range_of op place (resolved_now a) (resolved_now low)) (resolution_is high)

    parts_are : (n : _) (parts : Row_of-Expr n) → map (resolved_in scene around) (items-the_row-Expr n parts) ≡ parts_now parts
    parts_are n end_of-Expr = refl
    parts_are n (more_of-Expr e parts) = ap₂ (λ (x : CoreExpr) (xs : List CoreExpr). x ∷ xs) (resolution_is e) (parts_are _ parts)

-- ---- what meets a type

abbrev converted_now : Option BaseType → CoreExpr → CoreExpr → CoreExpr
converted_now (Some base) e inside = if is_static (judged_now e) then implicit_of base (place_now e) e else inside
converted_now None e inside = inside

converted_is : (given : Option BaseType) (e inside : CoreExpr) → converted given e inside ≡ converted_now given e inside
unfolding hidden-the_row-CoreExpr-0 hidden
converted_is (Some base) e inside = ap₂ (λ (j : Judged Typing) (at : Place). if is_static j then implicit_of base at e else inside) (judged_is e) (place_is e)
converted_is None e inside = refl

abbrev pub taking_now : Option BaseType → CoreExpr → CoreExpr
taking_now given (expr.Number n place) = converted_now given (expr.Number n place) (expr.Number n place)
taking_now given (expr.Name name) = converted_now given (expr.Name name) (expr.Name name)
taking_now given (expr.Entry name allowed) = converted_now given (expr.Entry name allowed) (expr.Entry name allowed)
taking_now given (expr.Attribute prefix designator) = converted_now given (expr.Attribute prefix designator) (expr.Attribute prefix designator)
taking_now given (applied_of function place a) =
    converted_now given (applied_of function place a) (applied_of function place (taking_now (taken (met_by_operand function.form function.name.entity) (judged_now a)) a))
taking_now given (parenthesized_of place a) = converted_now given (parenthesized_of place a) (parenthesized_of place (taking_now given a))
taking_now given (implicit_of base place a) = converted_now given (implicit_of base place a) (implicit_of base place a)
taking_now given (prefix_of o place a) = converted_now given (prefix_of o place a) (prefix_of o place (taking_now given a))
taking_now given (infix_of o place a b) =
    converted_now given (infix_of o place a b)
    (infix_of o place (taking_now (left_takes given o (judged_now a) (judged_now b)) a) (taking_now (right_takes given o (judged_now a) (judged_now b)) b))
taking_now given (in_type_of o place a name) = converted_now given (in_type_of o place a name) (in_type_of o place (taking_now (taken (type_given name.root.entity) (judged_now a)) a) name)
taking_now given (in_range_of o place a low high) =
    converted_now given (in_range_of o place a low high)
    (in_range_of o place
    (taking_now (taken (met_in_range (judged_now a) (judged_now low) (judged_now high)) (judged_now a)) a)
    (taking_now (taken (met_in_range (judged_now a) (judged_now low) (judged_now high)) (judged_now low)) low)
    (taking_now (taken (met_in_range (judged_now a) (judged_now low) (judged_now high)) (judged_now high)) high))
taking_now given (element_of a place i x) = converted_now given (element_of a place i x) (element_of (taking_now None a) place (taking_now (taken (Of x.index.base) (judged_now i)) i) x)
taking_now given (selected_of a field x) = converted_now given (selected_of a field x) (selected_of (taking_now None a) field x)
taking_now given (array_attribute_of a designator x) = converted_now given (array_attribute_of a designator x) (array_attribute_of (taking_now None a) designator x)
taking_now given (expr.Faulty faulty) = converted_now given (expr.Faulty faulty) (expr.Faulty faulty)

-- parts that take types that are met: first what they are judged to be computes, then what becomes of them
of_one : (f : CoreExpr → CoreExpr) (g : Judged Typing → Option BaseType) (a : CoreExpr) → taking (g (judged_now a)) a ≡ taking_now (g (judged_now a)) a → f (taking (g (judged a)) a) ≡ f (taking_now (g (judged_now a)) a)
of_one f g a is = ap (λ j. f (taking (g j) a)) (judged_is a) ∙ ap f is

taking_is : (given : Option BaseType) (e : CoreExpr) → taking given e ≡ taking_now given e
unfolding hidden-the_row-CoreExpr-0 hidden
taking_is given (expr.Number n place) = taking-Number given n place ∙ converted_is given _ _
taking_is given (expr.Name name) = taking-Name given name ∙ converted_is given _ _
taking_is given (expr.Entry name allowed) = taking-Entry given name allowed ∙ converted_is given _ _
taking_is given (expr.Attribute prefix designator) = taking-Attribute given prefix designator ∙ converted_is given _ _
taking_is given (applied_of function place a) =
    let whole : CoreExpr = applied_of function place a in
    let met : Judged Typing → Option BaseType = taken (met_by_operand function.form function.name.entity) in
    taking-Applied given function place a
    ∙ of_one (λ x. converted given whole (applied_of function place x)) met a (taking_is (met (judged_now a)) a)
    ∙ converted_is given whole _
taking_is given (parenthesized_of place a) =
    taking-Parenthesized given place a ∙ ap (λ x. converted given (parenthesized_of place a) (parenthesized_of place x)) (taking_is given a) ∙ converted_is given (parenthesized_of place a) _
taking_is given (implicit_of base place a) = taking-Implicit given base place a ∙ converted_is given _ _
taking_is given (prefix_of o place a) = taking-Prefix given o place a ∙ ap (λ x. converted given (prefix_of o place a) (prefix_of o place x)) (taking_is given a) ∙ converted_is given (prefix_of o place a) _
taking_is given (infix_of o place a b) =
    let whole : CoreExpr = infix_of o place a b in
    taking-Infix given o place a b
    ∙ ap₂ (λ (j k : Judged Typing). converted given whole (infix_of o place (taking (left_takes given o j k) a) (taking (right_takes given o j k) b))) (judged_is a) (judged_is b)
    ∙ ap₂ (λ x y. converted given whole (infix_of o place x y)) (taking_is (left_takes given o (judged_now a) (judged_now b)) a) (taking_is (right_takes given o (judged_now a) (judged_now b)) b)
    ∙ converted_is given whole _
taking_is given (in_type_of o place a name) =
    let whole : CoreExpr = in_type_of o place a name in
    let met : Judged Typing → Option BaseType = taken (type_given name.root.entity) in
    taking-InType given o place a name
    ∙ of_one (λ x. converted given whole (in_type_of o place x name)) met a (taking_is (met (judged_now a)) a)
    ∙ converted_is given whole _
taking_is given (in_range_of o place a low high) =
    let whole : CoreExpr = in_range_of o place a low high in
    let made : CoreExpr → CoreExpr → CoreExpr → CoreExpr = λ x y z. converted given whole (in_range_of o place x y z) in
    let of : ExprType = met_in_range (judged_now a) (judged_now low) (judged_now high) in
    taking-InRange given o place a low high
    ∙ ap₂ (λ (j k : Judged Typing). made (in_context (met_in_range j k (judged high)) a) (in_context (met_in_range j k (judged high)) low) (in_context (met_in_range j k (judged high)) high)) (judged_is a) (judged_is low)
    ∙ ap (λ (l : Judged Typing). made (in_context (met_in_range (judged_now a) (judged_now low) l) a) (in_context (met_in_range (judged_now a) (judged_now low) l) low) (in_context (met_in_range (judged_now a) (judged_now low) l) high)) (judged_is high)
    ∙ of_one (λ x. made x (in_context of low) (in_context of high)) (taken of) a (taking_is (taken of (judged_now a)) a)
    ∙ of_one (λ x. made (taking_now (taken of (judged_now a)) a) x (in_context of high)) (taken of) low (taking_is (taken of (judged_now low)) low)
    ∙ of_one (λ x. made (taking_now (taken of (judged_now a)) a) (taking_now (taken of (judged_now low)) low) x) (taken of) high (taking_is (taken of (judged_now high)) high)
    ∙ converted_is given whole _
taking_is given (element_of a place i x) =
    let whole : CoreExpr = element_of a place i x in
    let met : Judged Typing → Option BaseType = taken (Of x.index.base) in
    taking-Element given a place i x
    ∙ of_one (λ z. converted given whole (element_of (taking None a) place z x)) met i (taking_is (met (judged_now i)) i)
    ∙ ap (λ z. converted given whole (element_of z place (taking_now (met (judged_now i)) i) x)) (taking_is None a)
    ∙ converted_is given whole _
taking_is given (selected_of a field x) =
    taking-Selected given a field x ∙ ap (λ z. converted given (selected_of a field x) (selected_of z field x)) (taking_is None a) ∙ converted_is given (selected_of a field x) _
taking_is given (array_attribute_of a designator x) =
    taking-ArrayAttribute given a designator x
    ∙ ap (λ z. converted given (array_attribute_of a designator x) (array_attribute_of z designator x)) (taking_is None a)
    ∙ converted_is given (array_attribute_of a designator x) _
taking_is given (expr.Faulty faulty) = taking-Faulty given faulty ∙ converted_is given _ _

abbrev pub context_now : ExprType → CoreExpr → CoreExpr
context_now of e = taking_now (taken of (judged_now e)) e

pub context_is : (of : ExprType) (e : CoreExpr) → in_context of e ≡ context_now of e
context_is of e = of_one (λ x. x) (taken of) e (taking_is (taken of (judged_now e)) e)

-- what takes no type becomes the same in every context
pub becomes : (e : CoreExpr) → is_open (judged_now e) ≡ false → (of : ExprType) → in_context of e ≡ taking_now None e
becomes e closed of = ap (λ j. taking (taken of j) e) (judged_is e) ∙ ap (λ given. taking given e) (takes_none of (judged_now e) closed) ∙ taking_is None e

-- a written expression where it meets a type
module _ (scene : Scene) (around : Regions) (of : ExprType) (e : Expr) where
  abbrev pub met_now : CoreExpr
  met_now = context_now of (resolved_now scene around e)

  pub met_is : in_context of (resolved_in scene around e) ≡ met_now
  met_is = ap (in_context of) (resolution_is scene around e) ∙ context_is of (resolved_now scene around e)
