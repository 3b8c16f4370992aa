-- Entries and their trees.
use Rattle.std.proofs.Common.{◌≡◌, ℕ, ◌+◌, ◌<◌, ◌≤◌, Bool, true, false, List, [], ◌∷◌, ◌++◌, length, take, drop, fold, refl, sym, ap, ◌∙◌, rules, subst, arith, length-append, below_more, inl, inr, ◌⊎◌, cond, slice_get, Some, Decides, true≢false}
use Rattle.std.proofs.lemmas.Bool.{and_parts}
use Rattle.std.proofs.Common.{◌==◌, ◌&&◌}
use Rattle.std.proofs.lemmas.Option.{get_or_from_slice_get}
use Rattle.std.proofs.lemmas.List.{length-take-le, take-append-drop}
use Rattle.std.proofs.lemmas.List.Folds.{list_any_at}
use Rattle.std.specs.List.{list_any}
use Rattle.indexmap.specs.IndexSet.{insert_key}
use Rattle.std.proofs.lemmas.List.Sums.{fold-append}
use Rattle.std.proofs.Math.ListN.{get_or-append}
use Rattle.std.proofs.Math.Seq.{get_or-append_seam, take-append_seam}
use denote.Enum.Bare.{sameb, same_true, true_same}
use Rattle.spx_term.specs.declared.term.TermOp.{TermOp}
use Rattle.spx_term.specs.contracts.term.TermOp.{the_type}
use Rattle.std.specs.contracts.prelude.I128PartialEq.TheImpl as int_impl
use Rattle.spx_term.specs.declared.term.Component.{Component}
use Rattle.spx_term.specs.declared.term.Component.TheVariants as component
use Rattle.spx_term.specs.contracts.term.ComponentPartialEq.TheImpl as component_impl
use Rattle.spx_term.specs.declared.term.FieldName.{FieldName}
use Rattle.spx_term.specs.contracts.term.FieldNamePartialEq.TheImpl as field_impl
use Rattle.spx_term.specs.declared.term.ArrayType.{ArrayType}
use Rattle.spx_term.specs.contracts.term.ArrayTypePartialEq.TheImpl as array_impl
use Rattle.spx_term.specs.declared.term.UnaryOp.{UnaryOp}
use Rattle.spx_term.specs.declared.term.UnaryOp.TheVariants as unary
use Rattle.spx_term.specs.contracts.term.UnaryOpPartialEq.TheImpl as unary_impl
use Rattle.spx_term.specs.declared.term.BinaryOp.{BinaryOp}
use Rattle.spx_term.specs.declared.term.BinaryOp.TheVariants as binary
use Rattle.spx_term.specs.contracts.term.BinaryOpPartialEq.TheImpl as binary_impl
use Rattle.spx_term.specs.declared.term.TernaryOp.{TernaryOp}
use Rattle.spx_term.specs.declared.term.TernaryOp.TheVariants as ternary
use Rattle.spx_term.specs.contracts.term.TernaryOpPartialEq.TheImpl as ternary_impl
use Rattle.spx_term.specs.declared.term.BoundVariable.{BoundVariable}
use Rattle.spx_term.specs.contracts.term.BoundVariablePartialEq.TheImpl as bound_impl
use Rattle.spx_term.specs.declared.term.Quantifier.{Quantifier}
use Rattle.spx_term.specs.declared.term.Quantifier.TheVariants as quantifier
use Rattle.spx_term.specs.contracts.term.QuantifierPartialEq.TheImpl as quantifier_impl
use Rattle.spx_term.specs.declared.term.Term.{Term, Term-F, out-Term}
use Rattle.spx_term.specs.declared.term.Term.TheVariants.{outs-Number, outs-Truth, outs-Variable, outs-Prefix, outs-Infix, outs-Blank, outs-Unary, outs-Binary, outs-Ternary}
use Rattle.spx_term.specs.declared.term.Term.TheVariants as term
use Rattle.spx_term.specs.Sizes.{size_of}
use Rattle.spx_arena.specs.contracts.terms.EntryPartialEq.TheImpl as entry_impl
use Rattle.spx_arena.specs.contracts.terms.NodePartialEq.TheImpl as node_impl
use Rattle.spx_arena.specs.declared.terms.TermId.{TermId}
use Rattle.spx_arena.specs.declared.terms.Entry.{Entry}
use Rattle.spx_arena.specs.declared.terms.Node.{Node}
use Rattle.spx_arena.specs.declared.terms.Node.TheVariants.{Number, Truth, Variable, Blank, Prefix, Infix, Unary, Binary, Ternary}
use Rattle.spx_arena.specs.Counts.{counted}
use Rattle.spx_arena.specs.Trees.{tree_at, tree_in, Below, Distinct}
use Rattle.spx_arena.specs.Entries.{with_tree, trees_of, entry_at, Sound}
use Rattle.spx_arena.specs.Sharing.{Extends, Grows, IsId, Closed}
use Rattle.spx_arena.proofs.Growth.{grows_not, extends_not, extends_twice}

abbrev pub entry_eq : Entry → Entry → Bool
entry_eq = (entry_impl.ghosts).eq

op_true : (a b : TermOp) → sameb the_type a b ≡ true → a ≡ b
op_true a b e = same_true the_type (search rules) a b e

op_same : (a : TermOp) → sameb the_type a a ≡ true
op_same a = true_same the_type a a refl

abbrev node_eq : Node → Node → Bool
node_eq = (node_impl.ghosts).eq

-- the derived equality of the operators of terms
component_eq-Decides : (x y : Component) → Decides ((component_impl.ghosts).eq x y) (x ≡ y)
component_eq-Decides (component.Integer a b) (component.Integer c d) = search rules
component_eq-Decides component.Boolean component.Boolean = search rules
component_eq-Decides (component.Composite m) (component.Composite n) = search rules
component_eq-Decides _ _ = search rules

component_true : (x y : Component) → (component_impl.ghosts).eq x y ≡ true → x ≡ y
component_true x y = (component_eq-Decides x y).0

component_same : (x : Component) → (component_impl.ghosts).eq x x ≡ true
component_same x = (component_eq-Decides x x).1 refl

field_eq-Decides : (x y : FieldName) → Decides ((field_impl.ghosts).eq x y) (x ≡ y)
field_eq-Decides x y = search rules

array_eq-Decides : (x y : ArrayType) → Decides ((array_impl.ghosts).eq x y) (x ≡ y)
array_eq-Decides x y = (
  λ h.
      let firsts_eq = (int_impl.ghosts).eq x.first y.first in
      let lasts_eq = (int_impl.ghosts).eq x.last y.last in
      let elements_eq = (component_impl.ghosts).eq x.element y.element in
      let first = and_parts (x.position == y.position) (firsts_eq && (lasts_eq && elements_eq)) h in
      let second = and_parts firsts_eq (lasts_eq && elements_eq) first.1 in
      let third = and_parts lasts_eq elements_eq second.1 in
      let elements : x.element ≡ y.element = component_true x.element y.element third.1 in
      let positions : x.position ≡ y.position = search (rules, first.0) in
      let firsts : x.first ≡ y.first = search (rules, second.0) in
      let lasts : x.last ≡ y.last = search (rules, third.0) in
      λ i. record { position = positions i; first = firsts i; last = lasts i; element = elements i },
  λ e. subst (λ z. (array_impl.ghosts).eq x z ≡ true) e (search (rules, component_same)),
)

unary_eq-Decides : (x y : UnaryOp) → Decides ((unary_impl.ghosts).eq x y) (x ≡ y)
unary_eq-Decides (unary.Field f c) (unary.Field g d) = search (rules, field_eq-Decides, component_eq-Decides)
unary_eq-Decides (unary.In m) (unary.In n) = search rules
unary_eq-Decides (unary.Others m) (unary.Others n) = search rules
unary_eq-Decides _ _ = search rules

unary_true : (x y : UnaryOp) → (unary_impl.ghosts).eq x y ≡ true → x ≡ y
unary_true x y = (unary_eq-Decides x y).0

unary_same : (x : UnaryOp) → (unary_impl.ghosts).eq x x ≡ true
unary_same x = (unary_eq-Decides x x).1 refl

binary_eq-Decides : (x y : BinaryOp) → Decides ((binary_impl.ghosts).eq x y) (x ≡ y)
binary_eq-Decides (binary.Element t) (binary.Element u) = search (rules, array_eq-Decides)
binary_eq-Decides (binary.Update f) (binary.Update g) = search (rules, field_eq-Decides)
binary_eq-Decides (binary.Elements m a b) (binary.Elements n c d) = search rules
binary_eq-Decides (binary.Field f) (binary.Field g) = search (rules, field_eq-Decides)
binary_eq-Decides _ _ = search rules

binary_true : (x y : BinaryOp) → (binary_impl.ghosts).eq x y ≡ true → x ≡ y
binary_true x y = (binary_eq-Decides x y).0

binary_same : (x : BinaryOp) → (binary_impl.ghosts).eq x x ≡ true
binary_same x = (binary_eq-Decides x x).1 refl

quantifier_eq-Decides : (x y : Quantifier) → Decides ((quantifier_impl.ghosts).eq x y) (x ≡ y)
quantifier_eq-Decides quantifier.All quantifier.All = search rules
quantifier_eq-Decides quantifier.Some quantifier.Some = search rules
quantifier_eq-Decides _ _ = search rules

bound_eq-Decides : (x y : BoundVariable) → Decides ((bound_impl.ghosts).eq x y) (x ≡ y)
bound_eq-Decides x y = search rules

ternary_eq-Decides : (x y : TernaryOp) → Decides ((ternary_impl.ghosts).eq x y) (x ≡ y)
ternary_eq-Decides (ternary.Update m) (ternary.Update n) = search rules
ternary_eq-Decides (ternary.Quantified q d) (ternary.Quantified r e) = search (rules, quantifier_eq-Decides, bound_eq-Decides)
ternary_eq-Decides _ _ = search rules

ternary_true : (x y : TernaryOp) → (ternary_impl.ghosts).eq x y ≡ true → x ≡ y
ternary_true x y = (ternary_eq-Decides x y).0

ternary_same : (x : TernaryOp) → (ternary_impl.ghosts).eq x x ≡ true
ternary_same x = (ternary_eq-Decides x x).1 refl

node_eq-Decides : (x y : Node) → Decides (node_eq x y) (x ≡ y)
node_eq-Decides (Number m) (Number n) = search rules
node_eq-Decides (Truth b) (Truth c) = search rules
node_eq-Decides (Variable x) (Variable y) = search rules
node_eq-Decides (Prefix o a) (Prefix p b) = search rules
node_eq-Decides (Infix o a b) (Infix p c d) = search (rules, op_true, op_same)
node_eq-Decides (Blank m) (Blank n) = search rules
node_eq-Decides (Unary o a) (Unary p b) = (
  λ h.
      let parts = and_parts ((unary_impl.ghosts).eq o p) _ h in
      let ops : o ≡ p = unary_true o p parts.0 in
      let id_0 : a ≡ b = search (rules, parts.1) in
      λ i. Unary (ops i) (id_0 i),
  λ s. subst (λ z. node_eq (Unary o a) z ≡ true) s (search (rules, unary_same)),
)
node_eq-Decides (Binary o a b) (Binary p c d) = (
  λ h.
      let parts = and_parts ((binary_impl.ghosts).eq o p) _ h in
      let ops : o ≡ p = binary_true o p parts.0 in
      let id_0 : a ≡ c = search (rules, parts.1) in
      let id_1 : b ≡ d = search (rules, parts.1) in
      λ i. Binary (ops i) (id_0 i) (id_1 i),
  λ s. subst (λ z. node_eq (Binary o a b) z ≡ true) s (search (rules, binary_same)),
)
node_eq-Decides (Ternary o a b c) (Ternary p d e f) = (
  λ h.
      let parts = and_parts ((ternary_impl.ghosts).eq o p) _ h in
      let ops : o ≡ p = ternary_true o p parts.0 in
      let id_0 : a ≡ d = search (rules, parts.1) in
      let id_1 : b ≡ e = search (rules, parts.1) in
      let id_2 : c ≡ f = search (rules, parts.1) in
      λ i. Ternary (ops i) (id_0 i) (id_1 i) (id_2 i),
  λ s. subst (λ z. node_eq (Ternary o a b c) z ≡ true) s (search (rules, ternary_same)),
)
node_eq-Decides _ _ = search rules

node_same : (n : Node) → node_eq n n ≡ true
node_same n = (node_eq-Decides n n).1 refl

pub entry_eq-Decides : (x y : Entry) → Decides (entry_eq x y) (x ≡ y)
entry_eq-Decides x y = (
  λ h.
      let parts = and_parts (node_eq x.node y.node) (x.size == y.size) h in
      let nodes : x.node ≡ y.node = (node_eq-Decides x.node y.node).0 parts.0 in
      let sizes : x.size ≡ y.size = search (rules, parts.1) in
      λ i. record { node = nodes i; size = sizes i },
  λ e. subst (λ z. entry_eq x z ≡ true) e (search (rules, node_same)),
)

-- one level of the tree of a node
abbrev layer_in : List Term → Node → Term-F Term
layer_in ts (Number n) = Term-F.Number n
layer_in ts (Truth b) = Term-F.Truth b
layer_in ts (Variable name) = Term-F.Variable name
layer_in ts (Prefix op a) = Term-F.Prefix op (tree_at ts a)
layer_in ts (Infix op a b) = Term-F.Infix op (tree_at ts a) (tree_at ts b)
layer_in ts (Blank id) = Term-F.Blank id
layer_in ts (Unary op a) = Term-F.Unary op (tree_at ts a)
layer_in ts (Binary op a b) = Term-F.Binary op (tree_at ts a) (tree_at ts b)
layer_in ts (Ternary op a b c) = Term-F.Ternary op (tree_at ts a) (tree_at ts b) (tree_at ts c)

out_in : (ts : List Term) (x : Node) → out-Term (tree_in ts x) ≡ layer_in ts x
out_in ts (Number n) = outs-Number n
out_in ts (Truth b) = outs-Truth b
out_in ts (Variable name) = outs-Variable name
out_in ts (Prefix op a) = outs-Prefix op (tree_at ts a)
out_in ts (Infix op a b) = outs-Infix op (tree_at ts a) (tree_at ts b)
out_in ts (Blank id) = outs-Blank id
out_in ts (Unary op a) = outs-Unary op (tree_at ts a)
out_in ts (Binary op a b) = outs-Binary op (tree_at ts a) (tree_at ts b)
out_in ts (Ternary op a b c) = outs-Ternary op (tree_at ts a) (tree_at ts b) (tree_at ts c)

same_layer : (ts : List Term) (x y : Node) → layer_in ts x ≡ layer_in ts y → Distinct ts → Below (length ts) x → Below (length ts) y → x ≡ y
same_layer ts (Number m) (Number n) e d p q = cc
same_layer ts (Truth b) (Truth c) e d p q = cc
same_layer ts (Variable x) (Variable y) e d p q = cc
same_layer ts (Prefix o a) (Prefix p b) e d u v =
    let parts : tree_at ts a ≡ tree_at ts b = cc in
    let ids : a.0 ≡ b.0 = d.same a b u v parts in
    let ops : o ≡ p = cc in
    λ i. Prefix (ops i) (record { 0 = ids i })
same_layer ts (Infix o a b) (Infix p c f) e d u v =
    let left : tree_at ts a ≡ tree_at ts c = cc in
    let right : tree_at ts b ≡ tree_at ts f = cc in
    let lefts : a.0 ≡ c.0 = d.same a c u.0 v.0 left in
    let rights : b.0 ≡ f.0 = d.same b f u.1 v.1 right in
    let ops : o ≡ p = cc in
    λ i. Infix (ops i) (record { 0 = lefts i }) (record { 0 = rights i })
same_layer ts (Blank m) (Blank n) e d p q = cc
same_layer ts (Unary o a) (Unary p b) e d u v =
    let parts : tree_at ts a ≡ tree_at ts b = cc in
    let ids : a.0 ≡ b.0 = d.same a b u v parts in
    let ops : o ≡ p = cc in
    λ i. Unary (ops i) (record { 0 = ids i })
same_layer ts (Binary o a b) (Binary p c f) e d u v =
    let left : tree_at ts a ≡ tree_at ts c = cc in
    let right : tree_at ts b ≡ tree_at ts f = cc in
    let lefts : a.0 ≡ c.0 = d.same a c u.0 v.0 left in
    let rights : b.0 ≡ f.0 = d.same b f u.1 v.1 right in
    let ops : o ≡ p = cc in
    λ i. Binary (ops i) (record { 0 = lefts i }) (record { 0 = rights i })
same_layer ts (Ternary o a b c) (Ternary p f g h) e d u v =
    let first : tree_at ts a ≡ tree_at ts f = cc in
    let second : tree_at ts b ≡ tree_at ts g = cc in
    let third : tree_at ts c ≡ tree_at ts h = cc in
    let firsts : a.0 ≡ f.0 = d.same a f u.0 v.0 first in
    let seconds : b.0 ≡ g.0 = d.same b g u.1 v.1 second in
    let thirds : c.0 ≡ h.0 = d.same c h u.2 v.2 third in
    let ops : o ≡ p = cc in
    λ i. Ternary (ops i) (record { 0 = firsts i }) (record { 0 = seconds i }) (record { 0 = thirds i })
same_layer ts _ _ e d p q = cc

pub same_node : (ts : List Term) (x y : Node) → tree_in ts x ≡ tree_in ts y → Distinct ts → Below (length ts) x → Below (length ts) y → x ≡ y
same_node ts x y e = same_layer ts x y (sym (out_in ts x) ∙ ap out-Term e ∙ out_in ts y)

-- ---- one tree more
kept : (ts : List Term) (t : Term) (id : TermId) → id.0 < length ts → tree_at (ts ++ t ∷ []) id ≡ tree_at ts id
kept ts t id within = get_or-append ts (t ∷ []) (term.Truth false) id.0 within

in_more : (ts : List Term) (t : Term) (n : ℕ) (x : Node) → Below n x → n ≤ length ts → tree_in (ts ++ t ∷ []) x ≡ tree_in ts x
in_more ts t n (Number m) b w = refl
in_more ts t n (Truth c) b w = refl
in_more ts t n (Variable name) b w = refl
in_more ts t n (Prefix op a) b w = ap (term.Prefix op) (kept ts t a (omega arith))
in_more ts t n (Infix op a c) b w = λ i. term.Infix op (kept ts t a (omega arith) i) (kept ts t c (omega arith) i)
in_more ts t n (Blank id) b w = refl
in_more ts t n (Unary op a) b w = ap (term.Unary op) (kept ts t a (omega arith))
in_more ts t n (Binary op a c) b w = λ i. term.Binary op (kept ts t a (omega arith) i) (kept ts t c (omega arith) i)
in_more ts t n (Ternary op a c e) b w = λ i. term.Ternary op (kept ts t a (omega arith) i) (kept ts t c (omega arith) i) (kept ts t e (omega arith) i)

wider : (x : Node) {m n : ℕ} → Below m x → m ≤ n → Below n x
wider (Number m) b w = b
wider (Truth c) b w = b
wider (Variable name) b w = b
wider (Prefix op a) b w = omega arith
wider (Infix op a c) b w = (omega arith, omega arith)
wider (Blank id) b w = b
wider (Unary op a) b w = omega arith
wider (Binary op a c) b w = (omega arith, omega arith)
wider (Ternary op a c e) b w = (omega arith, omega arith, omega arith)

lt_or_same : (i n : ℕ) → i < n + 1 → (i < n) ⊎ (i ≡ n)
lt_or_same i n = below_more (λ k. (k < n) ⊎ (k ≡ n)) n (λ k w. inl w) (inr refl) i

trees_more : (es : List Entry) (e : Entry) → trees_of (es ++ e ∷ []) ≡ trees_of es ++ tree_in (trees_of es) e.node ∷ []
unfolding trees_of
trees_more es e = fold-append with_tree [] es (e ∷ [])

module _ (es : List Entry) (e : Entry) (s : Sound es) (b : Below (length (trees_of es)) e.node) (sized : e.size ≡ counted (size_of (tree_in (trees_of es) e.node))) (new : (i : ℕ) → i < length es → (entry_at es i).node ≡ e.node → ⊥) where
  abbrev ts : List Term
  ts = trees_of es

  abbrev last : Term
  last = tree_in ts e.node

  abbrev more : List Term
  more = ts ++ last ∷ []

  abbrev all : List Entry
  all = es ++ e ∷ []

  count : length all ≡ length es + 1
  count = length-append es (e ∷ [])

  count_trees : length more ≡ length ts + 1
  count_trees = length-append ts (last ∷ [])

  at : (i : ℕ) → i < length es → entry_at all i ≡ entry_at es i
  at i within = get_or-append es (e ∷ []) _ i within

  at_end : entry_at all (length es) ≡ e
  at_end = get_or-append_seam es e [] _

  tree_end : (id : TermId) → id.0 ≡ length ts → tree_at more id ≡ last
  tree_end id is = ap (λ k. tree_at more (record { 0 = k })) is ∙ get_or-append_seam ts last [] (term.Truth false)

  part : (i : ℕ) → i < length es + 1 → Below i (entry_at all i).node
  part = below_more (λ i. Below i (entry_at all i).node) (length es)
      (λ i w. subst (λ (x : Entry). Below i x.node) (sym (at i w)) (s.parts i w))
      (subst (λ (x : Entry). Below (length es) x.node) (sym at_end) (subst (λ k. Below k e.node) s.as_many b))

  form : (i : ℕ) → i < length es + 1 → tree_at more (record { 0 = i }) ≡ tree_in more (entry_at all i).node
  form = below_more (λ i. tree_at more (record { 0 = i }) ≡ tree_in more (entry_at all i).node) (length es)
      (λ i w. let v : i < length ts = omega (arith, s.as_many) in let le : i ≤ length ts = omega arith in
      kept ts last (record { 0 = i }) v ∙ s.forms i w ∙ sym (in_more ts last i (entry_at es i).node (s.parts i w) le) ∙ ap (λ (x : Entry). tree_in more x.node) (sym (at i w)))
      (tree_end (record { 0 = length es }) (sym s.as_many) ∙ sym (in_more ts last (length ts) e.node b (omega arith)) ∙ ap (λ (x : Entry). tree_in more x.node) (sym at_end))

  size : (i : ℕ) → i < length es + 1 → (entry_at all i).size ≡ counted (size_of (tree_at more (record { 0 = i })))
  size = below_more (λ i. (entry_at all i).size ≡ counted (size_of (tree_at more (record { 0 = i })))) (length es)
      (λ i w. let v : i < length ts = omega (arith, s.as_many) in
      ap (λ (x : Entry). x.size) (at i w) ∙ s.sizes i w ∙ ap (λ t. counted (size_of t)) (sym (kept ts last (record { 0 = i }) v)))
      (ap (λ (x : Entry). x.size) at_end ∙ sized ∙ ap (λ t. counted (size_of t)) (sym (tree_end (record { 0 = length es }) (sym s.as_many))))

  absent : (a : TermId) → a.0 < length ts → tree_at ts a ≡ last → ⊥
  absent a w is =
      let within : a.0 < length es = omega (arith, s.as_many) in
      let here = s.parts a.0 within in
      let below : Below (length ts) (entry_at es a.0).node = wider (entry_at es a.0).node here (omega arith) in
      new a.0 within (same_node ts (entry_at es a.0).node e.node (sym (s.forms a.0 within) ∙ is) s.distinct below b)

  apart : (a b' : TermId) → a.0 < length ts + 1 → b'.0 < length ts + 1 → tree_at more a ≡ tree_at more b' → a.0 ≡ b'.0
  apart a b' = by_left (lt_or_same a.0 (length ts)) (lt_or_same b'.0 (length ts))
    where
      by_left : (a.0 < length ts + 1 → (a.0 < length ts) ⊎ (a.0 ≡ length ts)) → (b'.0 < length ts + 1 → (b'.0 < length ts) ⊎ (b'.0 ≡ length ts)) → a.0 < length ts + 1 → b'.0 < length ts + 1 → tree_at more a ≡ tree_at more b' → a.0 ≡ b'.0
      by_left f g v w is = go (f v) (g w)
        where
          go : (a.0 < length ts) ⊎ (a.0 ≡ length ts) → (b'.0 < length ts) ⊎ (b'.0 ≡ length ts) → a.0 ≡ b'.0
          go (inl p) (inl q) = s.distinct.same a b' p q (sym (kept ts last a p) ∙ is ∙ kept ts last b' q)
          go (inl p) (inr q) = absurd (absent a p (sym (kept ts last a p) ∙ is ∙ tree_end b' q))
          go (inr p) (inl q) = absurd (absent b' q (sym (kept ts last b' q) ∙ sym is ∙ tree_end a p))
          go (inr p) (inr q) = omega arith

  sound : Sound all
  sound = record {
    as_many = ap length (trees_more es e) ∙ count_trees ∙ ap (λ k. k + 1) s.as_many ∙ sym count;
    parts = λ i w. part i (omega (arith, count));
    forms = λ i w. subst (λ us. tree_at us (record { 0 = i }) ≡ tree_in us (entry_at all i).node) (sym (trees_more es e)) (form i (omega (arith, count)));
    sizes = λ i w. subst (λ us. (entry_at all i).size ≡ counted (size_of (tree_at us (record { 0 = i })))) (sym (trees_more es e)) (size i (omega (arith, count)));
    distinct = subst Distinct (sym (trees_more es e)) (record { same = λ a c v w. apart a c (omega (arith, count_trees)) (omega (arith, count_trees)) });
  }

-- ---- what `make` does

-- an entry of the node has the size of its tree, and so is the entry
not_here : (e : Entry) (es : List Entry) → Sound es → e.size ≡ counted (size_of (tree_in (trees_of es) e.node)) → list_any (entry_eq e) es ≡ false
    → (i : ℕ) → i < length es → (entry_at es i).node ≡ e.node → ⊥
not_here e es s sized none i within is =
    let d : Entry = record { node = Truth false; size = 1 } in
    let x = entry_at es i in
    let sizes : x.size ≡ e.size = s.sizes i within ∙ ap (λ t. counted (size_of t)) (s.forms i within ∙ ap (tree_in (trees_of es)) is) ∙ sym sized in
    let same : e ≡ x = λ t. record { node = sym is t; size = sym sizes t } in
    true≢false (sym (list_any_at (entry_eq e) es i d within ((entry_eq-Decides e x).1 same)) ∙ none)

by_place : (e : Entry) (es : List Entry) (b : Bool) → list_any (entry_eq e) es ≡ b → Sound es → Below (length (trees_of es)) e.node → e.size ≡ counted (size_of (tree_in (trees_of es) e.node)) → Sound (cond b es (es ++ e ∷ []))
by_place e es true is s b sized = s
by_place e es false is s b sized = sound es e s b sized (not_here e es s sized is)

pub inserted_sound : (es new : List Entry) (e : Entry) → Sound es → Below (length (trees_of es)) e.node → e.size ≡ counted (size_of (tree_in (trees_of es) e.node)) → new ≡ insert_key entry_eq es e → Sound new
inserted_sound es new e s b sized is = subst Sound (sym is) (by_place e es (list_any (entry_eq e) es) refl s b sized)

grows_more : (es : List Entry) (e : Entry) → Grows (trees_of es) (trees_of (es ++ e ∷ []))
grows_more es e = subst (Grows (trees_of es)) (sym (trees_more es e)) (record { more = omega (arith, length-append (trees_of es) (tree_in (trees_of es) e.node ∷ [])); kept = kept (trees_of es) (tree_in (trees_of es) e.node) })

grows_by : (e : Entry) (es : List Entry) (b : Bool) → Grows (trees_of es) (trees_of (cond b es (es ++ e ∷ [])))
grows_by e es true = grows_not (trees_of es)
grows_by e es false = grows_more es e

pub inserted_grows : (es new : List Entry) (e : Entry) → new ≡ insert_key entry_eq es e → Grows (trees_of es) (trees_of new)
inserted_grows es new e is = subst (λ us. Grows (trees_of es) (trees_of us)) (sym is) (grows_by e es (list_any (entry_eq e) es))

extends_by : (e : Entry) (es : List Entry) (b : Bool) → Extends (trees_of es) (trees_of (cond b es (es ++ e ∷ [])))
extends_by e es true = extends_not (trees_of es) (trees_of es) refl
extends_by e es false = record { more = tree_in (trees_of es) e.node ∷ []; is = trees_more es e }

pub inserted_extends : (es new : List Entry) (e : Entry) → new ≡ insert_key entry_eq es e → Extends (trees_of es) (trees_of new)
inserted_extends es new e is = subst (λ us. Extends (trees_of es) (trees_of us)) (sym is) (extends_by e es (list_any (entry_eq e) es))

in_grown : (old us : List Term) (x : Node) → Grows old us → Below (length old) x → tree_in us x ≡ tree_in old x
in_grown old us (Number m) g b = refl
in_grown old us (Truth c) g b = refl
in_grown old us (Variable name) g b = refl
in_grown old us (Prefix op a) g b = ap (term.Prefix op) (g.kept a b)
in_grown old us (Infix op a c) g b = λ i. term.Infix op (g.kept a b.0 i) (g.kept c b.1 i)
in_grown old us (Blank id) g b = refl
in_grown old us (Unary op a) g b = ap (term.Unary op) (g.kept a b)
in_grown old us (Binary op a c) g b = λ i. term.Binary op (g.kept a b.0 i) (g.kept c b.1 i)
in_grown old us (Ternary op a c e) g b = λ i. term.Ternary op (g.kept a b.0 i) (g.kept c b.1 i) (g.kept e b.2 i)

pub inserted_id : (es new : List Entry) (e : Entry) → Sound es → Below (length (trees_of es)) e.node → e.size ≡ counted (size_of (tree_in (trees_of es) e.node)) → new ≡ insert_key entry_eq es e
    → (at : ℕ) (k : Entry) → at < length new → slice_get new at ≡ Some k → entry_eq e k ≡ true → IsId (trees_of new) (record { 0 = at }) (tree_in (trees_of es) e.node)
inserted_id es new e s b sized is at k within here same =
    let sound_new = inserted_sound es new e s b sized is in
    let key : e ≡ k = (entry_eq-Decides e k).0 same in
    let found : entry_at new at ≡ e = get_or_from_slice_get new at k (record { node = Truth false; size = 1 }) here ∙ sym key in
    record {
      within = omega (arith, sound_new.as_many);
      tree = sound_new.forms at within ∙ ap (λ (x : Entry). tree_in (trees_of new) x.node) found ∙ in_grown (trees_of es) (trees_of new) e.node (inserted_grows es new e is) b;
    }

none : Sound []
unfolding trees_of
none = record {
  as_many = refl;
  parts = λ i w. absurd (omega arith);
  forms = λ i w. absurd (omega arith);
  sizes = λ i w. absurd (omega arith);
  distinct = record { same = λ a b v w e. absurd (omega arith) };
}

no_trees : trees_of [] ≡ []
unfolding trees_of
no_trees = refl

pub none_sound : (es : List Entry) → es ≡ [] → Sound es
none_sound es e = subst Sound (sym e) none

pub none_trees : (es : List Entry) → es ≡ [] → trees_of es ≡ []
none_trees es e = ap trees_of e ∙ no_trees

pub closed_by : (es : List Entry) → Sound es → Closed (trees_of es)
closed_by es s = record { form = λ id w. let v : id.0 < length es = omega (arith, s.as_many) in ((entry_at es id.0).node, (s.forms id.0 v, s.parts id.0 v)) }

-- ---- the first entries

after : (ts : List Term) (es : List Entry) → Extends ts (fold with_tree ts es)
after ts [] = extends_not ts ts refl
after ts (e ∷ es) = extends_twice (record { more = tree_in ts e.node ∷ []; is = refl }) (after (with_tree ts e) es)

trees_twice : (es fs : List Entry) → Extends (trees_of es) (trees_of (es ++ fs))
unfolding trees_of
trees_twice es fs = let x = after (fold with_tree [] es) fs in record { more = x.more; is = fold-append with_tree [] es fs ∙ x.is }

as_many_after : (ts : List Term) (es : List Entry) → length (fold with_tree ts es) ≡ length ts + length es
as_many_after ts [] = omega arith
as_many_after ts (e ∷ es) = as_many_after (with_tree ts e) es ∙ (let c = length-append ts (tree_in ts e.node ∷ []) in omega (arith, c))

as_many_trees : (es : List Entry) → length (trees_of es) ≡ length es
unfolding trees_of
as_many_trees es = as_many_after [] es ∙ (let e : 0 + length es ≡ length es = omega arith in e)

kept_in : (ts us : List Term) (n : ℕ) (x : Node) → ((id : TermId) → id.0 < n → tree_at us id ≡ tree_at ts id) → Below n x → tree_in us x ≡ tree_in ts x
kept_in ts us n (Number m) k b = refl
kept_in ts us n (Truth c) k b = refl
kept_in ts us n (Variable name) k b = refl
kept_in ts us n (Prefix op a) k b = ap (term.Prefix op) (k a b)
kept_in ts us n (Infix op a c) k b = λ i. term.Infix op (k a b.0 i) (k c b.1 i)
kept_in ts us n (Blank id) k b = refl
kept_in ts us n (Unary op a) k b = ap (term.Unary op) (k a b)
kept_in ts us n (Binary op a c) k b = λ i. term.Binary op (k a b.0 i) (k c b.1 i)
kept_in ts us n (Ternary op a c e) k b = λ i. term.Ternary op (k a b.0 i) (k c b.1 i) (k e b.2 i)

module _ (es fs : List Entry) (s : Sound (es ++ fs)) where
  abbrev first : List Term
  first = trees_of es

  abbrev whole : List Term
  whole = trees_of (es ++ fs)

  fewer : length es ≤ length (es ++ fs)
  fewer = omega (arith, length-append es fs)

  entry : (i : ℕ) → i < length es → entry_at (es ++ fs) i ≡ entry_at es i
  entry i w = get_or-append es fs _ i w

  tree : (id : TermId) → id.0 < length es → tree_at whole id ≡ tree_at first id
  tree id w =
      let x = trees_twice es fs in
      let v : id.0 < length first = omega (arith, as_many_trees es) in
      ap (λ us. tree_at us id) x.is ∙ get_or-append first x.more (term.Truth false) id.0 v

  pub first_sound : Sound es
  first_sound = record {
    as_many = as_many_trees es;
    parts = λ i w. subst (λ (x : Entry). Below i x.node) (entry i w) (s.parts i (omega (arith, fewer)));
    forms = λ i w.
        let below = subst (λ (x : Entry). Below i x.node) (entry i w) (s.parts i (omega (arith, fewer))) in
        sym (tree (record { 0 = i }) w) ∙ s.forms i (omega (arith, fewer)) ∙ ap (λ (x : Entry). tree_in whole x.node) (entry i w)
        ∙ kept_in first whole i (entry_at es i).node (λ id v. tree id (omega arith)) below;
    sizes = λ i w. ap (λ (x : Entry). x.size) (sym (entry i w)) ∙ s.sizes i (omega (arith, fewer)) ∙ ap (λ t. counted (size_of t)) (tree (record { 0 = i }) w);
    distinct = record {
      same = λ a b v w e.
          let n = as_many_trees es in
          let p : a.0 < length es = omega arith in
          let q : b.0 < length es = omega arith in
          let m = s.as_many in
          s.distinct.same a b (omega (arith, fewer)) (omega (arith, fewer)) (tree a p ∙ e ∙ sym (tree b q));
    };
  }

  pub first_trees : take (length es) whole ≡ first
  first_trees =
      let x = trees_twice es fs in
      ap (take (length es)) x.is ∙ ap (λ n. take n (first ++ x.more)) (sym (as_many_trees es)) ∙ take-append_seam first x.more

pub cut_sound : (es new : List Entry) (n : ℕ) → Sound es → n ≤ length es → new ≡ take n es → Sound new
cut_sound es new n s w e = subst Sound (sym e) (first_sound (take n es) (drop n es) (subst Sound (sym (take-append-drop n es)) s))

pub cut_trees : (es new : List Entry) (n : ℕ) → Sound es → n ≤ length es → new ≡ take n es → trees_of new ≡ take n (trees_of es)
cut_trees es new n s w e =
    let split = take-append-drop n es in
    let count : length (take n es) ≡ n = length-take-le n es w in
    ap trees_of e ∙ sym (first_trees (take n es) (drop n es) (subst Sound (sym split) s))
    ∙ (λ i. take (count i) (trees_of (split i)))
