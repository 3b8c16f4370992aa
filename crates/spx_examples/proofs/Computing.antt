-- Folds over expressions and terms, as recursions that compute where their arguments do: what expressions are judged to be, the terms and checks of names,
-- numbers, conversions that are not written and operations, and the conditions of trees.
use Rattle.std.proofs.Common.{◌≡◌, pos, Bool, if◌then◌else◌, List, [], ◌∷◌, ◌++◌, map, refl, ap, ap₂, ◌∙◌}
use Rattle.std.proofs.Math.Path.{fun_ext}
use Rattle.std.specs.List.{filter_map, list_all}
use denote.Hole.Carrier.{hidden}
use Rattle.spx_text.specs.declared.place.Place.{Place}
use Rattle.spx_core.specs.declared.entity.VarId.{VarId}
use Rattle.spx_core.specs.declared.expression.CoreExpr.{CoreExpr, CoreExpr-F}
use Rattle.spx_core.specs.declared.expression.CoreExpr.TheBlock.{hidden-the_row-CoreExpr-0}
use Rattle.spx_core.specs.declared.expression.CoreExpr.TheVariants as expr
use Rattle.spx_core.specs.declared.name.CoreName.{CoreName}
use Rattle.spx_core.specs.declared.program.Program.{Program}
use Rattle.spx_core.specs.declared.rule.Typing.{Typing}
use Rattle.spx_core.specs.declared.subprogram.Sub.{Sub}
use Rattle.spx_core.specs.Effects.{read_of}
use Rattle.spx_core.specs.Judged.{Judged, expr_step, judged}
use Rattle.spx_core.specs.Places.{place_in, place_of}
use Rattle.spx_core.specs.Reads.{names_read, names_step}
use Rattle.spx_core.specs.Shapes as shape
use Rattle.spx_core.specs.Uses.{variable_of}
use Rattle.spx_core.proofs.Callers.Expressions.{fold-Applied, fold-ArrayAttribute, fold-Attribute, fold-Element, fold-Entry, fold-Faulty, fold-Implicit, fold-InRange, fold-InType, fold-Infix, fold-Name, fold-Number, fold-Parenthesized, fold-Prefix, fold-Selected}
use Rattle.spx_term.specs.declared.term.Name.{Name}
use Rattle.spx_term.specs.declared.term.Term.{Term}
use Rattle.spx_term.specs.declared.term.Term.TheBlock.{hidden-the_row-Term-0}
use Rattle.spx_term.specs.declared.term.Term.TheVariants as term
use Rattle.spx_term.specs.Shapes.{infix_of, prefix_of}
use Rattle.spx_term.specs.Steps.{Tree, Cut, Assume, Assign, Fresh, Prove, Split, Claim, claims_of, substituted, substituted_step, with_fact}
use Rattle.spx_term.specs.Equality.{same_name}
use Rattle.spx_term.proofs.Terms as terms
use Rattle.spx_meaning.specs.Evaluation.{term_op}
use Rattle.spx_meaning.specs.Literals.{base_judged, literal_in}
use Rattle.spx_paths.specs.Checks.{checks, checks-ArrayAttribute, checks-Element, checks-Faulty, checks-Implicit, checks-Infix, checks-Name, checks-Number, checks-Selected, index_check, operation_check, right_lefts, unless_static}
use Rattle.spx_formula.specs.Terms.{element_term, end_term, field_term, literal_or, named, now_term, term_of, term_with, term_with-ArrayAttribute, term_with-Element, term_with-Faulty, term_with-Implicit, term_with-Infix, term_with-Name, term_with-Number, term_with-Selected}
use Rattle.spx_paths.specs.Walks.{is_fixed, keeps_value}

-- ---- expressions

abbrev pub judged_now : CoreExpr → Judged Typing
judged_now (expr.Number n place) = expr_step (CoreExpr-F.Number n place)
judged_now (expr.Name name) = expr_step (CoreExpr-F.Name name)
judged_now (expr.Entry name allowed) = expr_step (CoreExpr-F.Entry name allowed)
judged_now (expr.Attribute prefix designator) = expr_step (CoreExpr-F.Attribute prefix designator)
judged_now (shape.applied_of function place a) = expr_step (CoreExpr-F.Applied function place (judged_now a))
judged_now (shape.parenthesized_of place a) = expr_step (CoreExpr-F.Parenthesized place (judged_now a))
judged_now (shape.implicit_of base place a) = expr_step (CoreExpr-F.Implicit base place (judged_now a))
judged_now (shape.prefix_of op place a) = expr_step (CoreExpr-F.Prefix op place (judged_now a))
judged_now (shape.infix_of op place a b) = expr_step (CoreExpr-F.Infix op place (judged_now a) (judged_now b))
judged_now (shape.in_type_of op place a name) = expr_step (CoreExpr-F.InType op place (judged_now a) name)
judged_now (shape.in_range_of op place a low high) = expr_step (CoreExpr-F.InRange op place (judged_now a) (judged_now low) (judged_now high))
judged_now (shape.element_of a place i x) = expr_step (CoreExpr-F.Element (judged_now a) place (judged_now i) x)
judged_now (shape.selected_of a field x) = expr_step (CoreExpr-F.Selected (judged_now a) field x)
judged_now (shape.array_attribute_of a designator x) = expr_step (CoreExpr-F.ArrayAttribute (judged_now a) designator x)
judged_now (expr.Faulty faulty) = expr_step (CoreExpr-F.Faulty faulty)

pub judged_is : (e : CoreExpr) → judged e ≡ judged_now e
unfolding hidden-the_row-CoreExpr-0 hidden
judged_is (expr.Number n place) = fold-Number expr_step n place
judged_is (expr.Name name) = fold-Name expr_step name
judged_is (expr.Entry name allowed) = fold-Entry expr_step name allowed
judged_is (expr.Attribute prefix designator) = fold-Attribute expr_step prefix designator
judged_is (shape.applied_of function place a) = fold-Applied expr_step function place a ∙ ap (λ j. expr_step (CoreExpr-F.Applied function place j)) (judged_is a)
judged_is (shape.parenthesized_of place a) = fold-Parenthesized expr_step place a ∙ ap (λ j. expr_step (CoreExpr-F.Parenthesized place j)) (judged_is a)
judged_is (shape.implicit_of base place a) = fold-Implicit expr_step base place a ∙ ap (λ j. expr_step (CoreExpr-F.Implicit base place j)) (judged_is a)
judged_is (shape.prefix_of op place a) = fold-Prefix expr_step op place a ∙ ap (λ j. expr_step (CoreExpr-F.Prefix op place j)) (judged_is a)
judged_is (shape.infix_of op place a b) = fold-Infix expr_step op place a b ∙ ap₂ (λ j k. expr_step (CoreExpr-F.Infix op place j k)) (judged_is a) (judged_is b)
judged_is (shape.in_type_of op place a name) = fold-InType expr_step op place a name ∙ ap (λ j. expr_step (CoreExpr-F.InType op place j name)) (judged_is a)
judged_is (shape.in_range_of op place a low high) =
    fold-InRange expr_step op place a low high
    ∙ ap₂ (λ j k. expr_step (CoreExpr-F.InRange op place j k (judged high))) (judged_is a) (judged_is low)
    ∙ ap (λ l. expr_step (CoreExpr-F.InRange op place (judged_now a) (judged_now low) l)) (judged_is high)
judged_is (shape.element_of a place i x) = fold-Element expr_step a place i x ∙ ap₂ (λ j k. expr_step (CoreExpr-F.Element j place k x)) (judged_is a) (judged_is i)
judged_is (shape.selected_of a field x) = fold-Selected expr_step a field x ∙ ap (λ j. expr_step (CoreExpr-F.Selected j field x)) (judged_is a)
judged_is (shape.array_attribute_of a designator x) = fold-ArrayAttribute expr_step a designator x ∙ ap (λ j. expr_step (CoreExpr-F.ArrayAttribute j designator x)) (judged_is a)
judged_is (expr.Faulty faulty) = fold-Faulty expr_step faulty

-- where an expression stands
abbrev pub place_now : CoreExpr → Place
place_now (expr.Number n place) = place
place_now (expr.Name name) = name.name.place
place_now (expr.Entry name allowed) = name.name.place
place_now (expr.Attribute prefix designator) = prefix.name.place
place_now (shape.applied_of function place a) = function.name.name.place
place_now (shape.parenthesized_of place a) = place
place_now (shape.implicit_of base place a) = place
place_now (shape.prefix_of op place a) = place
place_now (shape.infix_of op place a b) = place
place_now (shape.in_type_of op place a name) = place
place_now (shape.in_range_of op place a low high) = place
place_now (shape.element_of a place i x) = place_now a
place_now (shape.selected_of a field x) = place_now a
place_now (shape.array_attribute_of a designator x) = place_now a
place_now (expr.Faulty faulty) = faulty.name.path.root.place

pub place_is : (e : CoreExpr) → place_of e ≡ place_now e
unfolding hidden-the_row-CoreExpr-0 hidden
place_is (expr.Number n place) = fold-Number place_in n place
place_is (expr.Name name) = fold-Name place_in name
place_is (expr.Entry name allowed) = fold-Entry place_in name allowed
place_is (expr.Attribute prefix designator) = fold-Attribute place_in prefix designator
place_is (shape.applied_of function place a) = fold-Applied place_in function place a
place_is (shape.parenthesized_of place a) = fold-Parenthesized place_in place a
place_is (shape.implicit_of base place a) = fold-Implicit place_in base place a
place_is (shape.prefix_of op place a) = fold-Prefix place_in op place a
place_is (shape.infix_of op place a b) = fold-Infix place_in op place a b
place_is (shape.in_type_of op place a name) = fold-InType place_in op place a name
place_is (shape.in_range_of op place a low high) = fold-InRange place_in op place a low high
place_is (shape.element_of a place i x) = fold-Element place_in a place i x ∙ place_is a
place_is (shape.selected_of a field x) = fold-Selected place_in a field x ∙ place_is a
place_is (shape.array_attribute_of a designator x) = fold-ArrayAttribute place_in a designator x ∙ place_is a
place_is (expr.Faulty faulty) = fold-Faulty place_in faulty

-- the names that it reads
abbrev pub names_now : CoreExpr → List CoreName
names_now (expr.Number n place) = []
names_now (expr.Name name) = name ∷ []
names_now (shape.infix_of op place a b) = names_now a ++ names_now b
names_now (shape.element_of a place i x) = names_now a ++ names_now i
names_now (shape.selected_of a field x) = names_now a
names_now (shape.array_attribute_of a designator x) = []
names_now (expr.Faulty faulty) = []
names_now e = names_read e

pub names_are : (e : CoreExpr) → names_read e ≡ names_now e
unfolding hidden-the_row-CoreExpr-0 hidden
names_are (expr.Number n place) = fold-Number names_step n place
names_are (expr.Name name) = fold-Name names_step name
names_are (shape.infix_of op place a b) = fold-Infix names_step op place a b ∙ ap₂ (λ (x y : List CoreName). x ++ y) (names_are a) (names_are b)
names_are (expr.Entry name allowed) = refl
names_are (expr.Attribute prefix designator) = refl
names_are (shape.applied_of function place a) = refl
names_are (shape.parenthesized_of place a) = refl
names_are (shape.implicit_of base place a) = refl
names_are (shape.prefix_of op place a) = refl
names_are (shape.in_type_of op place a name) = refl
names_are (shape.in_range_of op place a low high) = refl
names_are (shape.element_of a place i x) = fold-Element names_step a place i x ∙ ap₂ (λ (x y : List CoreName). x ++ y) (names_are a) (names_are i)
names_are (shape.selected_of a field x) = fold-Selected names_step a field x ∙ names_are a
names_are (shape.array_attribute_of a designator x) = fold-ArrayAttribute names_step a designator x
names_are (expr.Faulty faulty) = fold-Faulty names_step faulty

abbrev pub fixed_now : Sub → CoreExpr → Bool
fixed_now sub e = list_all (λ r. keeps_value sub r.1) (filter_map read_of (names_now e))

pub fixed_is : (sub : Sub) (e : CoreExpr) → is_fixed sub e ≡ fixed_now sub e
fixed_is sub e = ap (λ names. list_all (λ r. keeps_value sub r.1) (filter_map read_of names)) (names_are e)

-- ---- the terms of expressions

module _ (present entered : VarId → Term) where
  abbrev pub term_now : CoreExpr → Term
  term_now (expr.Number n place) = term.Number n
  term_now (expr.Name name) = literal_or (literal_in (judged_now (expr.Name name))) (named present (variable_of name.entity))
  term_now (shape.infix_of op place a b) = literal_or (literal_in (judged_now (shape.infix_of op place a b))) (term.Infix (term_op op) (term_now a) (term_now b))
  term_now (shape.implicit_of base place a) = term_now a
  term_now (shape.element_of a place i x) = element_term x (term_now a) (term_now i)
  term_now (shape.selected_of a field x) = field_term x (term_now a)
  term_now (shape.array_attribute_of a designator x) = end_term x designator
  term_now (expr.Faulty faulty) = term.Number (pos 0)
  term_now e = term_with present entered e

  pub term_is : (e : CoreExpr) → term_with present entered e ≡ term_now e
  unfolding hidden-the_row-CoreExpr-0 hidden
  term_is (expr.Number n place) = term_with-Number present entered n place
  term_is (expr.Name name) = term_with-Name present entered name ∙ ap (λ j. literal_or (literal_in j) (named present (variable_of name.entity))) (judged_is (expr.Name name))
  term_is (shape.infix_of op place a b) =
      term_with-Infix present entered op place a b
      ∙ ap₂ (λ j t. literal_or (literal_in j) t) (judged_is (shape.infix_of op place a b)) (ap₂ (term.Infix (term_op op)) (term_is a) (term_is b))
  term_is (expr.Entry name allowed) = refl
  term_is (expr.Attribute prefix designator) = refl
  term_is (shape.applied_of function place a) = refl
  term_is (shape.parenthesized_of place a) = refl
  term_is (shape.implicit_of base place a) = term_with-Implicit present entered base place a ∙ term_is a
  term_is (shape.prefix_of op place a) = refl
  term_is (shape.in_type_of op place a name) = refl
  term_is (shape.in_range_of op place a low high) = refl
  term_is (shape.element_of a place i x) = term_with-Element present entered a place i x ∙ ap₂ (element_term x) (term_is a) (term_is i)
  term_is (shape.selected_of a field x) = term_with-Selected present entered a field x ∙ ap (field_term x) (term_is a)
  term_is (shape.array_attribute_of a designator x) = term_with-ArrayAttribute present entered a designator x
  term_is (expr.Faulty faulty) = term_with-Faulty present entered faulty

-- ---- their checks

module _ (p : Program) (entered : VarId → Term) where
  abbrev now : CoreExpr → Term
  now = term_now (now_term p) entered

  abbrev pub checks_now : List Term → CoreExpr → Tree → Tree
  checks_now lefts (expr.Number n place) rest = rest
  checks_now lefts (expr.Name name) rest = rest
  checks_now lefts (shape.infix_of op place a b) rest =
      unless_static (literal_in (judged_now (shape.infix_of op place a b))) rest
      (checks_now lefts a (checks_now (right_lefts op lefts (now a)) b
      (operation_check lefts op (base_judged (judged_now (shape.infix_of op place a b))) place (place_now b) (now b) (now (shape.infix_of op place a b)) rest)))
  checks_now lefts (shape.implicit_of base place a) rest = checks_now lefts a rest
  checks_now lefts (shape.element_of a place i x) rest = checks_now lefts a (checks_now lefts i (index_check lefts x (place_now i) (now i) rest))
  checks_now lefts (shape.selected_of a field x) rest = checks_now lefts a rest
  checks_now lefts (shape.array_attribute_of a designator x) rest = rest
  checks_now lefts (expr.Faulty faulty) rest = rest
  checks_now lefts e rest = checks p entered lefts e rest

  pub checks_are : (lefts : List Term) (e : CoreExpr) (rest : Tree) → checks p entered lefts e rest ≡ checks_now lefts e rest
  unfolding hidden-the_row-CoreExpr-0 hidden
  checks_are lefts (expr.Number n place) rest = checks-Number p entered lefts n place rest
  checks_are lefts (expr.Name name) rest = checks-Name p entered lefts name rest
  checks_are lefts (shape.infix_of op place a b) rest =
      let whole : CoreExpr = shape.infix_of op place a b in
      let last : Judged Typing → Place → Term → Term → Tree = λ j at t u. operation_check lefts op (base_judged j) place at t u rest in
      checks-Infix p entered lefts op place a b rest
      ∙ ap₂ (λ (j : Judged Typing) (at : Place). unless_static (literal_in j) rest (checks p entered lefts a (checks p entered (right_lefts op lefts (term_of p entered a)) b (last j at (term_of p entered b) (term_of p entered whole)))))
      (judged_is whole) (place_is b)
      ∙ ap₂ (λ (t u : Term). unless_static (literal_in (judged_now whole)) rest (checks p entered lefts a (checks p entered (right_lefts op lefts (term_of p entered a)) b (last (judged_now whole) (place_now b) t u))))
      (term_is (now_term p) entered b) (term_is (now_term p) entered whole)
      ∙ ap (λ t. unless_static (literal_in (judged_now whole)) rest (checks p entered lefts a (checks p entered (right_lefts op lefts t) b (last (judged_now whole) (place_now b) (now b) (now whole)))))
      (term_is (now_term p) entered a)
      ∙ ap (λ tree. unless_static (literal_in (judged_now whole)) rest tree)
      (checks_are lefts a _ ∙ ap (checks_now lefts a) (checks_are (right_lefts op lefts (now a)) b _))
  checks_are lefts (expr.Entry name allowed) rest = refl
  checks_are lefts (expr.Attribute prefix designator) rest = refl
  checks_are lefts (shape.applied_of function place a) rest = refl
  checks_are lefts (shape.parenthesized_of place a) rest = refl
  checks_are lefts (shape.implicit_of base place a) rest = checks-Implicit p entered lefts base place a rest ∙ checks_are lefts a rest
  checks_are lefts (shape.prefix_of op place a) rest = refl
  checks_are lefts (shape.in_type_of op place a name) rest = refl
  checks_are lefts (shape.in_range_of op place a low high) rest = refl
  checks_are lefts (shape.element_of a place i x) rest =
      checks-Element p entered lefts a place i x rest
      ∙ ap₂ (λ (at : Place) (t : Term). checks p entered lefts a (checks p entered lefts i (index_check lefts x at t rest))) (place_is i) (term_is (now_term p) entered i)
      ∙ checks_are lefts a _
      ∙ ap (checks_now lefts a) (checks_are lefts i _)
  checks_are lefts (shape.selected_of a field x) rest = checks-Selected p entered lefts a field x rest ∙ checks_are lefts a rest
  checks_are lefts (shape.array_attribute_of a designator x) rest = checks-ArrayAttribute p entered lefts a designator x rest
  checks_are lefts (expr.Faulty faulty) rest = checks-Faulty p entered lefts faulty rest

-- ---- the conditions of trees

-- a term with t in the place of x
abbrev pub put : Name → Term → Term → Term
put x t (term.Number n) = term.Number n
put x t (term.Truth b) = term.Truth b
put x t (term.Variable y) = if same_name x y then t else term.Variable y
put x t (prefix_of op a) = term.Prefix op (put x t a)
put x t (infix_of op a b) = term.Infix op (put x t a) (put x t b)
put x t u = substituted x t u

put_is : (x : Name) (t u : Term) → substituted x t u ≡ put x t u
unfolding hidden-the_row-Term-0 hidden
put_is x t (term.Number n) = terms.fold-Number (substituted_step x t) n
put_is x t (term.Truth b) = terms.fold-Truth (substituted_step x t) b
put_is x t (term.Variable y) = terms.fold-Variable (substituted_step x t) y
put_is x t (prefix_of op a) = terms.fold-Prefix (substituted_step x t) op a ∙ ap (term.Prefix op) (put_is x t a)
put_is x t (infix_of op a b) = terms.fold-Infix (substituted_step x t) op a b ∙ ap₂ (term.Infix op) (put_is x t a) (put_is x t b)
put_is x t _ = refl

abbrev with_value_now : Name → Term → Claim → Claim
with_value_now x t c = record c { hyps = map (put x t) c.hyps; goals = map (put x t) c.goals }

abbrev pub claims_now : Tree → List Claim
claims_now Cut = []
claims_now (Assume t rest) = map (with_fact t) (claims_now rest)
claims_now (Assign x t rest) = map (with_value_now x t) (claims_now rest)
claims_now (Fresh x rest) = claims_now rest
claims_now (Prove kind place goals rest) = record { kind = kind; place = place; hyps = []; goals = goals } ∷ claims_now rest
claims_now (Split first second) = claims_now first ++ claims_now second

pub claims_are : (tree : Tree) → claims_of tree ≡ claims_now tree
claims_are Cut = refl
claims_are (Assume t rest) = ap (map (with_fact t)) (claims_are rest)
claims_are (Assign x t rest) =
    ap (λ (f : Term → Term). map (λ (c : Claim). record c { hyps = map f c.hyps; goals = map f c.goals }) (claims_of rest)) (fun_ext (put_is x t))
    ∙ ap (map (with_value_now x t)) (claims_are rest)
claims_are (Fresh x rest) = claims_are rest
claims_are (Prove kind place goals rest) = ap (λ (cs : List Claim). record { kind = kind; place = place; hyps = []; goals = goals } ∷ cs) (claims_are rest)
claims_are (Split first second) = ap₂ (λ (cs ds : List Claim). cs ++ ds) (claims_are first) (claims_are second)
