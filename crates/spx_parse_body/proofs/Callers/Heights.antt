-- The height of an expression: how many parentheses, operators and membership tests lie on the longest way down. An expression of a layer within
-- so many levels is one that is no higher.
use Rattle.std.specs.Prelude.{⊤}
use Rattle.std.proofs.Common.{◌≡◌, ℕ, ℤ, zero, suc, ◌+◌, ◌≤◌, ◌<◌, max, List, [], ◌∷◌, map, refl, sym, ap, subst, ◌∙◌, arith}
use Rattle.spx_text.specs.declared.place.Place.{Place}
use Rattle.spx_tree.specs.declared.expression.InfixOp.{InfixOp}
use Rattle.spx_tree.specs.declared.expression.PrefixOp.{PrefixOp}
use Rattle.spx_tree.specs.declared.expression.MemberOp.{MemberOp}
use Rattle.spx_tree.specs.declared.expression.Layer.{Layer}
use Rattle.spx_tree.specs.declared.expression.Layer.TheVariants as layer
use Rattle.spx_tree.specs.declared.expression.Path.{Path}
use Rattle.spx_tree.specs.declared.expression.Expr.{Expr, Expr-F, out-Expr, roll-Expr, roll-out-Expr, map-Expr, fold-Expr, fold_out-Expr}
use Rattle.spx_tree.specs.declared.expression.Expr.TheVariants as expr
use Rattle.spx_tree.specs.declared.expression.Expr.TheVariants.{outs-Number, outs-Name, outs-Parenthesized, outs-Prefix, outs-Infix, outs-InType, outs-InRange}
use Rattle.spx_tree.specs.Grammar.{Each, rank, layer_of, layer_before, layer_at, layer_in, right_layer, operand_layer, LeftFits, HasOperator, IsOperation, IsStep, layers_of, AreOf, IsPath, IsNode, LayerWithin, OfLayer}
use Rattle.spx_tree.proofs.MoreLevels.{layer_more}

-- ---- heights

-- of the expressions of a name: each stands in parentheses
abbrev pub tops : List ℕ → ℕ
tops [] = 0
tops (h ∷ hs) = max (h + 1) (tops hs)

abbrev pub height_step : Expr-F ℕ → ℕ
height_step (Expr-F.Number value place) = 0
height_step (Expr-F.Name path parts) = tops parts
height_step (Expr-F.Parenthesized place inner) = inner + 1
height_step (Expr-F.Prefix op place operand) = operand + 1
height_step (Expr-F.Infix op place left right) = max left right + 1
height_step (Expr-F.InType op place tested path parts) = max tested (tops parts) + 1
height_step (Expr-F.InRange op place tested low high) = max tested (max low high) + 1

abbrev pub height : Expr → ℕ
height = fold-Expr ℕ height_step

abbrev pub height_at : Expr-F Expr → ℕ
height_at y = height_step (map-Expr Expr ℕ height y)

pub height_out : (x : Expr) → height x ≡ height_at (out-Expr x)
height_out x = fold_out-Expr ℕ height_step x

pub height_of : (x : Expr) (y : Expr-F Expr) → out-Expr x ≡ y → height x ≡ height_at y
height_of x y e = height_out x ∙ ap height_at e

pub name_height : (path : Path) (parts : List Expr) → height (expr.Name path parts) ≡ tops (map height parts)
name_height path parts = height_of (expr.Name path parts) (Expr-F.Name path parts) (outs-Name path parts)

pub number_height : (value : ℤ) (place : Place) → height (expr.Number value place) ≡ 0
number_height value place = height_of (expr.Number value place) (Expr-F.Number value place) (outs-Number value place)

pub infix_height : (o : InfixOp) (place : Place) (left right : Expr) → height (expr.Infix o place left right) ≡ max (height left) (height right) + 1
infix_height o place left right = height_of (expr.Infix o place left right) (Expr-F.Infix o place left right) (outs-Infix o place left right)

pub prefix_height : (o : PrefixOp) (place : Place) (operand : Expr) → height (expr.Prefix o place operand) ≡ height operand + 1
prefix_height o place operand = height_of (expr.Prefix o place operand) (Expr-F.Prefix o place operand) (outs-Prefix o place operand)

pub parenthesized_height : (place : Place) (inner : Expr) → height (expr.Parenthesized place inner) ≡ height inner + 1
parenthesized_height place inner = height_of (expr.Parenthesized place inner) (Expr-F.Parenthesized place inner) (outs-Parenthesized place inner)

pub in_type_height : (o : MemberOp) (place : Place) (tested : Expr) (path : Path) (parts : List Expr) → height (expr.InType o place tested path parts) ≡ max (height tested) (tops (map height parts)) + 1
in_type_height o place tested path parts = height_of (expr.InType o place tested path parts) (Expr-F.InType o place tested path parts) (outs-InType o place tested path parts)

pub in_range_height : (o : MemberOp) (place : Place) (tested low high : Expr) → height (expr.InRange o place tested low high) ≡ max (height tested) (max (height low) (height high)) + 1
in_range_height o place tested low high = height_of (expr.InRange o place tested low high) (Expr-F.InRange o place tested low high) (outs-InRange o place tested low high)

-- ---- layers

pub rank_low : (a : Layer) → rank a ≤ 6
rank_low layer.Primary = omega arith
rank_low _ = omega arith

-- of this layer, or of one before it
abbrev pub IsUpTo : Layer → Expr → Type 0
IsUpTo layer e = rank (layer_in e) ≤ rank layer

-- each operand is of a layer that its operator has there
abbrev pub Layered : Expr → Type 0
Layered e = OfLayer layer.Predicate (height e) e

-- an operand or a part
abbrev pub IsPart : Layer → Expr → Type 0
IsPart layer e = Layered e × IsUpTo layer e

module _ (Inner : Layer → Expr → Type 0) (n : ℕ) (low : (l : Layer) (x : Expr) → Inner l x → height x < n) where
  are_low : (layers : List Layer) (parts : List Expr) → AreOf Inner layers parts → tops (map height parts) ≤ n
  are_low [] [] f = omega arith
  are_low [] (x ∷ parts) f = absurd f
  are_low (l ∷ layers) [] f = absurd f
  are_low (l ∷ layers) (x ∷ parts) f = let a = low l x f.0 in let b = are_low layers parts f.1 in omega arith

  node_low : (y : Expr-F Expr) → IsNode Inner y → height_at y ≤ n
  node_low (Expr-F.Number value place) f = omega arith
  node_low (Expr-F.Name path parts) f = are_low (layers_of path.steps) parts f.1
  node_low (Expr-F.Parenthesized place inner) f = let a = low layer.Predicate inner f in omega arith
  node_low (Expr-F.Prefix op place operand) f = let a = low (operand_layer op) operand f in omega arith
  node_low (Expr-F.Infix op place left right) f = let a = low layer.Predicate left f.0 in let b = low (right_layer (layer_of op)) right f.2 in omega arith
  node_low (Expr-F.InType op place tested path parts) f = let a = low layer.Sum tested f.0 in let b = low layer.Primary (expr.Name path parts) f.1 in let e = name_height path parts in omega arith
  node_low (Expr-F.InRange op place tested low' high) f = let a = low layer.Sum tested f.0 in let b = low layer.Sum low' f.1 in let c = low layer.Sum high f.2 in omega arith

within_low : (n : ℕ) (l : Layer) (e : Expr) → LayerWithin n l e → height e < n
within_low zero l e f = absurd f
within_low (suc n) l e f = let a = node_low (LayerWithin n) n (within_low n) (out-Expr e) f.1 in let h = height_out e in omega arith

pub of_layer_low : (n : ℕ) (layer : Layer) (e : Expr) → OfLayer layer n e → height e ≤ n
of_layer_low n layer e f = let a = node_low (LayerWithin n) n (within_low n) (out-Expr e) f.1 in let h = height_out e in omega arith

module _ (Inner Inner' : Layer → Expr → Type 0) (n : ℕ) (less : (l : Layer) (x : Expr) → Inner l x → height x < n → Inner' l x) where
  are_less : (layers : List Layer) (parts : List Expr) → AreOf Inner layers parts → tops (map height parts) ≤ n → AreOf Inner' layers parts
  are_less [] [] f h = tt
  are_less [] (x ∷ parts) f h = absurd f
  are_less (l ∷ layers) [] f h = absurd f
  are_less (l ∷ layers) (x ∷ parts) f h = (less l x f.0 (omega arith), are_less layers parts f.1 (omega arith))

  node_less : (y : Expr-F Expr) → IsNode Inner y → height_at y ≤ n → IsNode Inner' y
  node_less (Expr-F.Number value place) f h = tt
  node_less (Expr-F.Name path parts) f h = (f.0, are_less (layers_of path.steps) parts f.1 h)
  node_less (Expr-F.Parenthesized place inner) f h = less layer.Predicate inner f (omega arith)
  node_less (Expr-F.Prefix op place operand) f h = less (operand_layer op) operand f (omega arith)
  node_less (Expr-F.Infix op place left right) f h = (less layer.Predicate left f.0 (omega arith), f.1, less (right_layer (layer_of op)) right f.2 (omega arith))
  node_less (Expr-F.InType op place tested path parts) f h = let e = name_height path parts in (less layer.Sum tested f.0 (omega arith), less layer.Primary (expr.Name path parts) f.1 (omega arith))
  node_less (Expr-F.InRange op place tested low high) f h = (less layer.Sum tested f.0 (omega arith), less layer.Sum low f.1 (omega arith), less layer.Sum high f.2 (omega arith))

within_less : (m n : ℕ) (l : Layer) (e : Expr) → LayerWithin m l e → height e < n → LayerWithin n l e
within_less zero n l e f h = absurd f
within_less (suc m) zero l e f h = absurd (omega arith)
within_less (suc m) (suc n) l e f h = let same = height_out e in (f.0, node_less (LayerWithin m) (LayerWithin n) n (within_less m n) (out-Expr e) f.1 (omega arith))

pub layered_of : (m : ℕ) (layer : Layer) (e : Expr) → OfLayer layer m e → Layered e
layered_of m layer e f =
    let same = height_out e in (rank_low (layer_in e), node_less (LayerWithin m) (LayerWithin (height e)) (height e) (within_less m (height e)) (out-Expr e) f.1 (omega arith))

pub of_layered : (m : ℕ) (a : Layer) (e : Expr) → height e ≤ m → Layered e → IsUpTo a e → OfLayer a m e
of_layered m a e h f r = (r, (layer_more (height e) m h layer.Predicate e f).1)

pub within_of : (n : ℕ) (l : Layer) (e : Expr) → height e < n → IsPart l e → LayerWithin n l e
within_of zero l e h f = absurd (omega arith)
within_of (suc n) l e h f = of_layered n l e (omega arith) f.0 f.1

pub part_of : (n : ℕ) (l : Layer) (e : Expr) → LayerWithin n l e → IsPart l e
part_of zero l e f = absurd f
part_of (suc n) l e f = (layered_of n l e f, f.0)

pub part_low : (n : ℕ) (l : Layer) (e : Expr) → LayerWithin n l e → height e < n
part_low n l e f = within_low n l e f

pub parts_within : (n : ℕ) (layers : List Layer) (parts : List Expr) → tops (map height parts) ≤ n → AreOf IsPart layers parts → AreOf (LayerWithin n) layers parts
parts_within n layers parts h f = are_less IsPart (LayerWithin n) n (λ l x g lt. within_of n l x lt g) layers parts f h

pub parts_of : (n : ℕ) (layers : List Layer) (parts : List Expr) → AreOf (LayerWithin n) layers parts → AreOf IsPart layers parts
parts_of n layers parts f = are_less (LayerWithin n) IsPart n (λ l x g lt. part_of n l x g) layers parts f (are_low (LayerWithin n) n (within_low n) layers parts f)

pub parts_low : (n : ℕ) (layers : List Layer) (parts : List Expr) → AreOf (LayerWithin n) layers parts → tops (map height parts) ≤ n
parts_low n layers parts f = are_low (LayerWithin n) n (within_low n) layers parts f

-- ---- what nodes are

-- an expression of this layer, with its height
pub record Is (e : Expr) (high : ℕ) (layer : Layer) : Type 0 where
  pub measured : high ≡ height e
  pub layered : Layered e
  pub layer_is : layer_in e ≡ layer

is_by : (x : Expr) (y : Expr-F Expr) → out-Expr x ≡ y → IsNode (LayerWithin (height_at y)) y → Is x (height_at y) (layer_at y)
is_by x y e f =
    let h = height_of x y e in
    record {
      measured = sym h;
      layered = (rank_low (layer_in x), subst (λ (n : ℕ). IsNode (LayerWithin n) (out-Expr x)) (sym h) (subst (λ (z : Expr-F Expr). IsNode (LayerWithin (height_at y)) z) (sym e) f));
      layer_is = ap layer_at e;
    }

pub enclosed_is : (place : Place) (inner : Expr) → Layered inner → Is (expr.Parenthesized place inner) (height inner + 1) layer.Primary
enclosed_is place inner l = is_by (expr.Parenthesized place inner) (Expr-F.Parenthesized place inner) (outs-Parenthesized place inner) (within_of (height inner + 1) layer.Predicate inner (omega arith) (l, rank_low (layer_in inner)))

pub prefixed_is : (o : PrefixOp) (place : Place) (operand : Expr) → Layered operand → IsUpTo (operand_layer o) operand → Is (expr.Prefix o place operand) (height operand + 1) (layer_before o)
prefixed_is o place operand l r = is_by (expr.Prefix o place operand) (Expr-F.Prefix o place operand) (outs-Prefix o place operand) (within_of (height operand + 1) (operand_layer o) operand (omega arith) (l, r))

pub infix_is : (o : InfixOp) (place : Place) (left right : Expr) → Layered left → Layered right → LeftFits o left → IsUpTo (right_layer (layer_of o)) right → Is (expr.Infix o place left right) (max (height left) (height right) + 1) (layer_of o)
infix_is o place left right l r f g =
    let n = max (height left) (height right) + 1 in
    is_by (expr.Infix o place left right) (Expr-F.Infix o place left right) (outs-Infix o place left right) (within_of n layer.Predicate left (omega arith) (l, rank_low (layer_in left)), f, within_of n (right_layer (layer_of o)) right (omega arith) (r, g))

pub in_type_is : (o : MemberOp) (place : Place) (tested : Expr) (path : Path) (parts : List Expr) → Layered tested → IsUpTo layer.Sum tested → Layered (expr.Name path parts)
    → Is (expr.InType o place tested path parts) (max (height tested) (tops (map height parts)) + 1) layer.Relation
in_type_is o place tested path parts l r m =
    let n = max (height tested) (tops (map height parts)) + 1 in
    let same = name_height path parts in
    let primary = ap (λ (y : Expr-F Expr). rank (layer_at y)) (outs-Name path parts) in
    is_by (expr.InType o place tested path parts) (Expr-F.InType o place tested path parts) (outs-InType o place tested path parts)
    (within_of n layer.Sum tested (omega arith) (l, r), within_of n layer.Primary (expr.Name path parts) (omega arith) (m, omega arith))

pub in_range_is : (o : MemberOp) (place : Place) (tested low high : Expr) → Layered tested → IsUpTo layer.Sum tested → Layered low → IsUpTo layer.Sum low → Layered high → IsUpTo layer.Sum high
    → Is (expr.InRange o place tested low high) (max (height tested) (max (height low) (height high)) + 1) layer.Relation
in_range_is o place tested low high a b c d e f =
    let n = max (height tested) (max (height low) (height high)) + 1 in
    is_by (expr.InRange o place tested low high) (Expr-F.InRange o place tested low high) (outs-InRange o place tested low high)
    (within_of n layer.Sum tested (omega arith) (a, b), within_of n layer.Sum low (omega arith) (c, d), within_of n layer.Sum high (omega arith) (e, f))

pub number_is : (value : ℤ) (place : Place) → Is (expr.Number value place) 0 layer.Primary
number_is value place = is_by (expr.Number value place) (Expr-F.Number value place) (outs-Number value place) tt

pub name_is : (path : Path) (parts : List Expr) → Each IsStep path.steps → AreOf IsPart (layers_of path.steps) parts → Is (expr.Name path parts) (tops (map height parts)) layer.Primary
name_is path parts s f = is_by (expr.Name path parts) (Expr-F.Name path parts) (outs-Name path parts) (s, parts_within (tops (map height parts)) (layers_of path.steps) parts (omega arith) f)

pub infix_has : (o : InfixOp) (place : Place) (left right : Expr) → HasOperator o (expr.Infix o place left right)
infix_has o place left right = subst (IsOperation o) (sym (outs-Infix o place left right)) refl

-- ---- what the parts of nodes are

node_of : (x : Expr) (y : Expr-F Expr) → out-Expr x ≡ y → Layered x → IsNode (LayerWithin (height x)) y
node_of x y e f = subst (IsNode (LayerWithin (height x))) e f.1

-- the operands of an operation
abbrev pub Operands : InfixOp → Expr → Expr → Type 0
Operands o left right = Layered left × Layered right × LeftFits o left × IsUpTo (right_layer (layer_of o)) right

pub infix_parts : (o : InfixOp) (place : Place) (left right : Expr) → Layered (expr.Infix o place left right) → Operands o left right
infix_parts o place left right f =
    let n = height (expr.Infix o place left right) in
    let g = node_of (expr.Infix o place left right) (Expr-F.Infix o place left right) (outs-Infix o place left right) f in
    let b = part_of n (right_layer (layer_of o)) right g.2 in
    ((part_of n layer.Predicate left g.0).0, b.0, g.1, b.1)

pub prefix_parts : (o : PrefixOp) (place : Place) (operand : Expr) → Layered (expr.Prefix o place operand) → IsPart (operand_layer o) operand
prefix_parts o place operand f = part_of (height (expr.Prefix o place operand)) (operand_layer o) operand (node_of (expr.Prefix o place operand) (Expr-F.Prefix o place operand) (outs-Prefix o place operand) f)

pub enclosed_parts : (place : Place) (inner : Expr) → Layered (expr.Parenthesized place inner) → Layered inner
enclosed_parts place inner f = (part_of (height (expr.Parenthesized place inner)) layer.Predicate inner (node_of (expr.Parenthesized place inner) (Expr-F.Parenthesized place inner) (outs-Parenthesized place inner) f)).0

pub in_type_parts : (o : MemberOp) (place : Place) (tested : Expr) (path : Path) (parts : List Expr) → Layered (expr.InType o place tested path parts) → IsPart layer.Sum tested × IsPart layer.Primary (expr.Name path parts)
in_type_parts o place tested path parts f =
    let n = height (expr.InType o place tested path parts) in
    let g = node_of (expr.InType o place tested path parts) (Expr-F.InType o place tested path parts) (outs-InType o place tested path parts) f in
    (part_of n layer.Sum tested g.0, part_of n layer.Primary (expr.Name path parts) g.1)

pub in_range_parts : (o : MemberOp) (place : Place) (tested low high : Expr) → Layered (expr.InRange o place tested low high) → IsPart layer.Sum tested × IsPart layer.Sum low × IsPart layer.Sum high
in_range_parts o place tested low high f =
    let n = height (expr.InRange o place tested low high) in
    let g = node_of (expr.InRange o place tested low high) (Expr-F.InRange o place tested low high) (outs-InRange o place tested low high) f in
    (part_of n layer.Sum tested g.0, part_of n layer.Sum low g.1, part_of n layer.Sum high g.2)

pub name_parts : (path : Path) (parts : List Expr) → Layered (expr.Name path parts) → Each IsStep path.steps × AreOf IsPart (layers_of path.steps) parts
name_parts path parts f =
    let g = node_of (expr.Name path parts) (Expr-F.Name path parts) (outs-Name path parts) f in
    (g.0, parts_of (height (expr.Name path parts)) (layers_of path.steps) parts g.1)

-- ---- by the last level

-- expressions with the same last level are the same
same_out : (x z : Expr) (y : Expr-F Expr) → out-Expr x ≡ y → out-Expr z ≡ y → z ≡ x
same_out x z y e f = sym (roll-out-Expr z) ∙ ap roll-Expr (f ∙ sym e) ∙ roll-out-Expr x

-- what holds of each form holds of each expression
module _ (Q : Expr → Type 0)
    (number : (value : ℤ) (place : Place) → Q (expr.Number value place)) (name : (path : Path) (parts : List Expr) → Q (expr.Name path parts)) (enclosed : (place : Place) (inner : Expr) → Q (expr.Parenthesized place inner))
    (prefixed : (o : PrefixOp) (place : Place) (operand : Expr) → Q (expr.Prefix o place operand)) (joined : (o : InfixOp) (place : Place) (left right : Expr) → Q (expr.Infix o place left right))
    (in_type : (o : MemberOp) (place : Place) (tested : Expr) (path : Path) (parts : List Expr) → Q (expr.InType o place tested path parts)) (in_range : (o : MemberOp) (place : Place) (tested low high : Expr) → Q (expr.InRange o place tested low high)) where
  by_level : (x : Expr) (y : Expr-F Expr) → out-Expr x ≡ y → Q x
  by_level x (Expr-F.Number value place) e = subst Q (same_out x (expr.Number value place) (Expr-F.Number value place) e (outs-Number value place)) (number value place)
  by_level x (Expr-F.Name path parts) e = subst Q (same_out x (expr.Name path parts) (Expr-F.Name path parts) e (outs-Name path parts)) (name path parts)
  by_level x (Expr-F.Parenthesized place inner) e = subst Q (same_out x (expr.Parenthesized place inner) (Expr-F.Parenthesized place inner) e (outs-Parenthesized place inner)) (enclosed place inner)
  by_level x (Expr-F.Prefix o place operand) e = subst Q (same_out x (expr.Prefix o place operand) (Expr-F.Prefix o place operand) e (outs-Prefix o place operand)) (prefixed o place operand)
  by_level x (Expr-F.Infix o place left right) e = subst Q (same_out x (expr.Infix o place left right) (Expr-F.Infix o place left right) e (outs-Infix o place left right)) (joined o place left right)
  by_level x (Expr-F.InType o place tested path parts) e = subst Q (same_out x (expr.InType o place tested path parts) (Expr-F.InType o place tested path parts) e (outs-InType o place tested path parts)) (in_type o place tested path parts)
  by_level x (Expr-F.InRange o place tested low high) e = subst Q (same_out x (expr.InRange o place tested low high) (Expr-F.InRange o place tested low high) e (outs-InRange o place tested low high)) (in_range o place tested low high)

  pub by_form : (x : Expr) → Q x
  by_form x = by_level x (out-Expr x) refl

-- the layer of each form
module _ (x : Expr) (y : Expr-F Expr) (e : out-Expr x ≡ y) where
  pub layer_is_at : layer_in x ≡ layer_at y
  layer_is_at = ap layer_at e

pub prefix_layer : (o : PrefixOp) (place : Place) (operand : Expr) → layer_in (expr.Prefix o place operand) ≡ layer_before o
prefix_layer o place operand = layer_is_at (expr.Prefix o place operand) (Expr-F.Prefix o place operand) (outs-Prefix o place operand)

pub infix_layer : (o : InfixOp) (place : Place) (left right : Expr) → layer_in (expr.Infix o place left right) ≡ layer_of o
infix_layer o place left right = layer_is_at (expr.Infix o place left right) (Expr-F.Infix o place left right) (outs-Infix o place left right)

pub in_type_layer : (o : MemberOp) (place : Place) (tested : Expr) (path : Path) (parts : List Expr) → layer_in (expr.InType o place tested path parts) ≡ layer.Relation
in_type_layer o place tested path parts = layer_is_at (expr.InType o place tested path parts) (Expr-F.InType o place tested path parts) (outs-InType o place tested path parts)

pub in_range_layer : (o : MemberOp) (place : Place) (tested low high : Expr) → layer_in (expr.InRange o place tested low high) ≡ layer.Relation
in_range_layer o place tested low high = layer_is_at (expr.InRange o place tested low high) (Expr-F.InRange o place tested low high) (outs-InRange o place tested low high)

pub number_layer : (value : ℤ) (place : Place) → layer_in (expr.Number value place) ≡ layer.Primary
number_layer value place = layer_is_at (expr.Number value place) (Expr-F.Number value place) (outs-Number value place)

pub name_layer : (path : Path) (parts : List Expr) → layer_in (expr.Name path parts) ≡ layer.Primary
name_layer path parts = layer_is_at (expr.Name path parts) (Expr-F.Name path parts) (outs-Name path parts)

pub enclosed_layer : (place : Place) (inner : Expr) → layer_in (expr.Parenthesized place inner) ≡ layer.Primary
enclosed_layer place inner = layer_is_at (expr.Parenthesized place inner) (Expr-F.Parenthesized place inner) (outs-Parenthesized place inner)

-- what holds of primaries and of each other form holds of each expression
module _ (Q : Expr → Type 0)
    (primary : (x : Expr) → rank (layer_in x) ≡ 0 → Q x) (prefixed : (o : PrefixOp) (place : Place) (operand : Expr) → Q (expr.Prefix o place operand)) (joined : (o : InfixOp) (place : Place) (left right : Expr) → Q (expr.Infix o place left right))
    (in_type : (o : MemberOp) (place : Place) (tested : Expr) (path : Path) (parts : List Expr) → Q (expr.InType o place tested path parts)) (in_range : (o : MemberOp) (place : Place) (tested low high : Expr) → Q (expr.InRange o place tested low high)) where
  pub by_kind : (x : Expr) → Q x
  by_kind = by_form Q (λ value place. primary (expr.Number value place) (ap rank (number_layer value place))) (λ path parts. primary (expr.Name path parts) (ap rank (name_layer path parts)))
      (λ place inner. primary (expr.Parenthesized place inner) (ap rank (enclosed_layer place inner))) prefixed joined in_type in_range

-- what holds of an expression where it holds of all that are less high
module _ (Q : Expr → Type 0) (go : (x : Expr) → ((z : Expr) → height z < height x → Q z) → Q x) where
  below_height : (n : ℕ) (x : Expr) → height x < n → Q x
  below_height zero x h = absurd (omega arith)
  below_height (suc n) x h = go x (λ z lt. below_height n z (omega arith))

  pub by_height : (x : Expr) → Q x
  by_height x = below_height (suc (height x)) x (omega arith)
