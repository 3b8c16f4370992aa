-- Written expressions of names, numbers and operators: that they are of the grammar, and with which forms they are written.
use Rattle.std.proofs.Common.{◌≡◌, ℕ, suc, ℤ, ◌≤◌, Bool, [], List, sym, subst, ap, ap₂, ◌∙◌, arith}
use Rattle.spx_text.specs.declared.place.Place.{Place}
use Rattle.spx_tree.specs.declared.expression.Expr.{Expr, Expr-F, out-Expr}
use Rattle.spx_tree.specs.declared.expression.Expr.TheVariants.{Infix, Number, Parenthesized, outs-Infix, outs-Name, outs-Number, outs-Parenthesized}
use Rattle.spx_tree.specs.declared.expression.Identifier.{Identifier}
use Rattle.spx_tree.specs.declared.expression.InfixOp.{InfixOp}
use Rattle.spx_tree.specs.declared.expression.Layer.{Layer}
use Rattle.spx_tree.specs.declared.expression.Layer.TheVariants as layer
use Rattle.spx_tree.specs.declared.expression.Name.{Name}
use Rattle.spx_tree.specs.Form.{Form}
use Rattle.spx_tree.specs.Grammar.{IsNode, IsPath, LayerWithin, LeftFits, OfLayer, layer_at, layer_of, rank, right_layer}
use Rattle.spx_tree.specs.Written.{expr_step, written_expr}
use Rattle.spx_tree.proofs.WrittenLevels.{spelled_expr, written_expr_level}
use Rattle.spx_examples.specs.Names.{attribute, entry_named, simple, value_named}

-- an expression whose last level is this
fits : (l : Layer) (n : ℕ) (e : Expr) (y : Expr-F Expr) → out-Expr e ≡ y → rank (layer_at y) ≤ rank l → IsNode (LayerWithin n) y → OfLayer l n e
fits l n e y is low node = (subst (λ (z : Expr-F Expr). rank (layer_at z) ≤ rank l) (sym is) low, subst (IsNode (LayerWithin n)) (sym is) node)

module _ (l : Layer) (n : ℕ) where
  pub number_fits : (value : ℤ) (place : Place) → OfLayer l n (Number value place)
  number_fits value place = fits l n (Number value place) (Expr-F.Number value place) (outs-Number value place) (omega arith) tt

  name_fits : (name : Name) → IsPath (LayerWithin n) name.path name.parts → OfLayer l n (value_named name)
  name_fits name is = fits l n (value_named name) (Expr-F.Name name.path name.parts) (outs-Name name.path name.parts) (omega arith) is

  pub simple_fits : (root : Identifier) → OfLayer l n (value_named (simple root))
  simple_fits root = name_fits (simple root) (tt, tt)

  pub attribute_fits : (prefix designator : Identifier) → OfLayer l n (value_named (attribute prefix designator))
  attribute_fits prefix designator = name_fits (attribute prefix designator) ((tt, tt), tt)

  pub entry_fits : (root : Identifier) → OfLayer l n (entry_named root)
  entry_fits root = fits l n (entry_named root) (Expr-F.Name _ []) (outs-Name _ []) (omega arith) ((tt, tt), tt)

  -- operators and parentheses are a level each
  pub infix_fits : (op : InfixOp) (place : Place) (a b : Expr) → rank (layer_of op) ≤ rank l → OfLayer layer.Predicate n a → LeftFits op a → OfLayer (right_layer (layer_of op)) n b → OfLayer l (suc n) (Infix op place a b)
  infix_fits op place a b low of_a left of_b = fits l (suc n) (Infix op place a b) (Expr-F.Infix op place a b) (outs-Infix op place a b) low (of_a, left, of_b)

  pub parenthesized_fits : (place : Place) (a : Expr) → OfLayer layer.Predicate n a → OfLayer l (suc n) (Parenthesized place a)
  parenthesized_fits place a of_a = fits l (suc n) (Parenthesized place a) (Expr-F.Parenthesized place a) (outs-Parenthesized place a) (omega arith) of_a

-- the forms, by the last level
module _ (marked : Bool) where
  pub number_written : (value : ℤ) (place : Place) → written_expr marked (Number value place) ≡ written_expr_level marked (Expr-F.Number value place)
  number_written value place = spelled_expr marked (Number value place) ∙ ap (written_expr_level marked) (outs-Number value place)

  pub name_written : (name : Name) → written_expr marked (value_named name) ≡ written_expr_level marked (Expr-F.Name name.path name.parts)
  name_written name = spelled_expr marked (value_named name) ∙ ap (written_expr_level marked) (outs-Name name.path name.parts)

  pub infix_written : (op : InfixOp) (place : Place) (a b : Expr) → written_expr marked (Infix op place a b) ≡ written_expr_level marked (Expr-F.Infix op place a b)
  infix_written op place a b = spelled_expr marked (Infix op place a b) ∙ ap (written_expr_level marked) (outs-Infix op place a b)

  -- an operation on a name and a number
  abbrev pub on_number : InfixOp → Place → Name → ℤ → Place → List Form
  on_number op place name value at = expr_step marked (Expr-F.Infix op place (written_expr_level marked (Expr-F.Name name.path name.parts)) (written_expr_level marked (Expr-F.Number value at)))

  pub number_right : (op : InfixOp) (place : Place) (name : Name) (value : ℤ) (at : Place)
      → written_expr marked (Infix op place (value_named name) (Number value at)) ≡ on_number op place name value at
  number_right op place name value at = infix_written op place (value_named name) (Number value at) ∙ ap₂ (λ (a b : List Form). expr_step marked (Expr-F.Infix op place a b)) (name_written name) (number_written value at)
