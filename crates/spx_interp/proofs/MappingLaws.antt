-- What functions without bounds do.
use Rattle.std.proofs.Common.{◌≡◌, ℕ, Bool, true, false, List, Option, Some, None, Ok, Err, refl, sym, ap, subst, ◌∙◌}
use Rattle.std.specs.Prelude.{codes, if◌then◌else◌}
use Rattle.spx_text.specs.declared.place.Place.{Place}
use Rattle.spx_core.specs.declared.function.FunctionForm.{FunctionForm}
use Rattle.spx_core.specs.declared.function.FunctionForm.TheVariants as form
use Rattle.spx_core.specs.declared.entity.TheConstants.{INTEGER}
use Rattle.spx_core.specs.declared.entity.BaseType.{BaseType}
use Rattle.spx_core.specs.declared.entity.Subtype.{Subtype}
use Rattle.spx_core.specs.declared.function.CoreFunction.{CoreFunction}
use Rattle.spx_core.specs.declared.function.Mapping.{Mapping}
use Rattle.spx_core.specs.declared.function.OperandType.TheVariants.{AnyNumber, ValueOf}
use Rattle.spx_core.specs.declared.function.Shift.TheVariants as shift
use Rattle.spx_core.specs.declared.function.Span.{Span}
use Rattle.spx_core.specs.declared.rule.ExprType.TheVariants.{Of}
use Rattle.spx_core.specs.Types.{span_of_type}
use Rattle.spx_core.specs.Judged.{Judged, ◌>>=◌, application, applied_form, attribute_function, conversion, function_at, is_word, qualification}
use Rattle.spx_term.specs.declared.value.Value.{Value}
use Rattle.spx_meaning.specs.Evaluation.{Gives, mapping_checked, moved, within_bounds}

-- a function without bounds gives its operand
abbrev Keeps : Mapping → Type 0
Keeps m = m.bounds ≡ None → m.shift ≡ shift.Same

-- so do all that a judgement may give
abbrev AllKeep : Judged Mapping → Type 0
AllKeep j = (m : Mapping) → j ≡ Ok m → Keeps m

ok_keeps : (m : Mapping) → Keeps m → AllKeep (Ok m)
ok_keeps m keeps n is = let same : m ≡ n = cc in subst Keeps same keeps

bind_keeps : {A : Type 0} (j : Judged A) (go : A → Judged Mapping) → ((x : A) → AllKeep (go x)) → AllKeep (j >>= go)
bind_keeps (Ok x) go each = each x
bind_keeps (Err breach) go each = λ m is. absurd cc

-- where there are bounds nothing is to be shown
bounded_keeps : (m : Mapping) (span : Span) → m.bounds ≡ Some span → Keeps m
bounded_keeps m span is none = absurd (let never : Some span ≡ None = sym is ∙ none in cc)

none_keeps : (place : Place) → AllKeep (function_at place None)
none_keeps place m is = absurd cc

-- the functions that attributes are
abbrev position_of : BaseType → Mapping
position_of base = record { operand = ValueOf base; shift = shift.Same; bounds = None; result = INTEGER.base }

abbrev value_at : BaseType → Mapping
value_at base = record { operand = AnyNumber; shift = shift.Same; bounds = Some (span_of_type (Of base)); result = base }

abbrev next_of : BaseType → Mapping
next_of base = record { operand = ValueOf base; shift = shift.Next; bounds = Some (span_of_type (Of base)); result = base }

abbrev previous_of : BaseType → Mapping
previous_of base = record { operand = ValueOf base; shift = shift.Previous; bounds = Some (span_of_type (Of base)); result = base }

attribute_keeps : (place : Place) (base : BaseType) (designator : List ℕ) → AllKeep (function_at place (attribute_function base designator))
attribute_keeps place base designator = by_words (is_word designator (codes "pos")) (is_word designator (codes "val")) (is_word designator (codes "succ")) (is_word designator (codes "pred"))
  where
    by_words : (a b c d : Bool)
        → AllKeep (function_at place (if a then Some (position_of base) else if b then Some (value_at base) else if c then Some (next_of base) else if d then Some (previous_of base) else None))
    by_words true b c d = ok_keeps (position_of base) (λ none. refl)
    by_words false true c d = ok_keeps (value_at base) (λ none. refl)
    by_words false false true d = ok_keeps (next_of base) (bounded_keeps (next_of base) (span_of_type (Of base)) refl)
    by_words false false false true = ok_keeps (previous_of base) (bounded_keeps (previous_of base) (span_of_type (Of base)) refl)
    by_words false false false false = none_keeps place

form_keeps : (place : Place) (subtype : Subtype) (f : FunctionForm) → AllKeep (applied_form place subtype f)
form_keeps place subtype form.Simple = bind_keeps _ _ (λ x. ok_keeps (conversion subtype) (λ none. refl))
form_keeps place subtype (form.Attribute designator) = bind_keeps _ _ (λ x. attribute_keeps place subtype.base designator.text)
form_keeps place subtype form.Qualified = ok_keeps (qualification subtype) (λ none. refl)

application_keeps : (function : CoreFunction) → AllKeep (application function)
application_keeps function = bind_keeps _ _ (λ subtype. form_keeps function.name.name.place subtype function.form)

pub unbounded : (function : CoreFunction) (m : Mapping) (place : Place) (x : Value) → Ok m ≡ application function → m.bounds ≡ None → Gives x ≡ mapping_checked (application function) place x
unbounded function m place x is none =
    ap (λ s. Gives (moved s x)) (sym (application_keeps function m (sym is) none))
    ∙ ap (λ (b : Option Span). within_bounds b place (moved m.shift x)) (sym none)
    ∙ ap (λ (j : Judged Mapping). mapping_checked j place x) is
