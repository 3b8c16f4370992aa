-- An implicit conversion of a static expression has its value.
use Rattle.std.proofs.Common.{◌≡◌, ℤ, Bool, true, false, if◌then◌else◌, Option, Some, None, option_map, Ok, Err, refl, sym, ap, ap₂, ◌∙◌}
use Rattle.std.proofs.lemmas.Bool.{and_parts}
use Rattle.spx_text.specs.declared.place.Place.{Place}
use Rattle.spx_core.specs.declared.entity.BaseType.{BaseType}
use Rattle.spx_core.specs.declared.entity.Class.{Class}
use Rattle.spx_core.specs.declared.entity.Class.TheVariants.{Integer, Boolean, Enumeration, Composite}
use Rattle.spx_core.specs.declared.expression.CoreExpr.{CoreExpr}
use Rattle.spx_core.specs.declared.expression.CoreExpr.TheVariants.{ArrayAttribute, Implicit}
use Rattle.spx_core.specs.declared.part.ArrayEnds.{ArrayEnds}
use Rattle.spx_tree.specs.declared.expression.Identifier.{Identifier}
use Rattle.spx_core.specs.declared.rule.ExprType.{ExprType}
use Rattle.spx_core.specs.declared.rule.ExprType.TheVariants.{Universal, Of}
use Rattle.spx_core.specs.declared.rule.RuleName.TheVariants.{N3, N10, N12}
use Rattle.spx_core.specs.declared.rule.Typing.{Typing}
use Rattle.spx_core.specs.Judged.{Judged, ◌>>=◌, array_attribute, attribute_of, expr_step, has_end, implicit, judged, keeps, typing}
use Rattle.spx_core.specs.Types.{has_numbers, has_parts, has_truths, is_boolean, is_numeric, is_of, is_parted, is_true, is_typed_at, lies_in, same_class}
use Rattle.spx_core.proofs.Callers.Expressions.{fold-ArrayAttribute, fold-Implicit}
use Rattle.spx_term.specs.declared.value.Value.{Value}
use Rattle.spx_term.specs.declared.value.Value.TheVariants.{Number, Truth}
use Rattle.spx_meaning.specs.Literals.{literal, literal_in, static_in}

numbers_are_no_truths : (c : Class) → is_numeric c ≡ true → (false ≡ has_truths c) × (false ≡ has_parts c)
numbers_are_no_truths Integer is = (refl, refl)
numbers_are_no_truths Boolean is = absurd cc
numbers_are_no_truths Enumeration is = absurd cc
numbers_are_no_truths Composite is = absurd cc

one_class : (c d : Class) → same_class c d ≡ true → (has_truths d ≡ has_truths c) × (has_parts d ≡ has_parts c)
one_class Integer Integer is = (refl, refl)
one_class Integer Boolean is = absurd cc
one_class Integer Enumeration is = absurd cc
one_class Integer Composite is = absurd cc
one_class Boolean Integer is = absurd cc
one_class Boolean Boolean is = (refl, refl)
one_class Boolean Enumeration is = absurd cc
one_class Boolean Composite is = absurd cc
one_class Enumeration Integer is = absurd cc
one_class Enumeration Boolean is = absurd cc
one_class Enumeration Enumeration is = (refl, refl)
one_class Enumeration Composite is = absurd cc
one_class Composite Integer is = absurd cc
one_class Composite Boolean is = absurd cc
one_class Composite Enumeration is = absurd cc
one_class Composite Composite is = (refl, refl)

both_alike : (base : BaseType) (of : ExprType) → is_of base of ≡ true → (is_boolean of ≡ is_boolean (Of base)) × (is_parted of ≡ is_parted (Of base))
both_alike base Universal is = numbers_are_no_truths base.class is
both_alike base (Of other) is = one_class base.class other.class (and_parts _ _ is).1

implicit_in : (base : BaseType) (place : Place) (j : Judged Typing) (s : Value) → literal_in (j >>= λ o. implicit base place o) ≡ Some s → literal_in j ≡ Some s
implicit_in base place (Err breach) s h = absurd cc
implicit_in base place (Ok t) s h = kept (is_of base t.of) (lies_in (Of base) t.value) refl h
  where
    kept : (fits lies : Bool) → is_of base t.of ≡ fits → literal_in (keeps N10 place fits >>= λ _. keeps N12 place lies >>= λ _. Ok (typing (Of base) t.value place)) ≡ Some s → literal_in (Ok t) ≡ Some s
    kept false lies is h = absurd cc
    kept true false is h = absurd cc
    kept true true is h =
        let alike = both_alike base t.of is in
        ap₂ (λ parted b. if parted then None else option_map (λ (n : ℤ). if b then Truth (is_true n) else Number n) t.value) alike.1 alike.0 ∙ h

pub implicit_literal : (base : BaseType) (place : Place) (a : CoreExpr) (s : Value) → literal (Implicit base place a) ≡ Some s → literal a ≡ Some s
implicit_literal base place a s h = implicit_in base place (judged a) s (sym (ap literal_in (fold-Implicit expr_step base place a)) ∙ h)

-- the index of an array has numbers for its values, so that a static end is one
numbers_alone : (c : Class) → has_numbers c ≡ true → (has_truths c ≡ false) × (has_parts c ≡ false)
numbers_alone Integer is = (refl, refl)
numbers_alone Boolean is = absurd cc
numbers_alone Enumeration is = (refl, refl)
numbers_alone Composite is = absurd cc

only_if : (b : Bool) (n : ℤ) (s : Value) → option_map (λ (m : ℤ). Number m) (if b then Some n else None) ≡ Some s → s ≡ Number n
only_if true n s e = let is : Some (Number n) ≡ Some s = e in cc
only_if false n s e = absurd cc

end_number : (base : BaseType) (b : Bool) (n : ℤ) (s : Value) → has_numbers base.class ≡ true → static_in (Of base) (if b then Some n else None) ≡ Some s → s ≡ Number n
end_number base b n s is e =
    let alone = numbers_alone base.class is in
    only_if b n s (sym (ap₂ (λ truths parted. if parted then None else option_map (λ (m : ℤ). if truths then Truth (is_true m) else Number m) (if b then Some n else None)) alone.0 alone.1) ∙ e)

end_in : (x : ArrayEnds) (designator : Identifier) (j : Judged Typing) (s : Value) → literal_in (j >>= λ t. array_attribute x designator t) ≡ Some s → s ≡ Number (attribute_of x.index designator.text)
end_in x designator (Err breach) s h = absurd cc
end_in x designator (Ok t) s h = kept (is_typed_at x.array t.of) (has_end x.index designator.text) refl h
  where
    kept : (typed has : Bool) → has_end x.index designator.text ≡ has
        → literal_in (keeps N10 t.place typed >>= λ _. keeps N3 t.place has >>= λ _. Ok (typing (Of x.index.base) (if x.is_static then Some (attribute_of x.index designator.text) else None) t.place)) ≡ Some s
        → s ≡ Number (attribute_of x.index designator.text)
    kept false has is h = absurd cc
    kept true false is h = absurd cc
    kept true true is h = end_number x.index.base x.is_static (attribute_of x.index designator.text) s (and_parts _ _ is).0 h

-- a static attribute of an array is the bound of its index
pub end_literal : (a : CoreExpr) (designator : Identifier) (x : ArrayEnds) (s : Value) → literal (ArrayAttribute a designator x) ≡ Some s → s ≡ Number (attribute_of x.index designator.text)
end_literal a designator x s is = end_in x designator (judged a) s (sym (ap literal_in (fold-ArrayAttribute expr_step a designator x)) ∙ is)
