-- Which terms are components of others, and whether they are in their types.
use Rattle.std.proofs.Common.{◌≡◌, ℕ, ◌<◌, Bool, true, false, ◌||◌, ◌&&◌, List, refl, sym, ap, ◌∙◌}
use Rattle.std.specs.List.{list_any}
use Rattle.spx_term.specs.declared.term.ArrayType.{ArrayType}
use Rattle.spx_term.specs.declared.term.Component.{Component}
use Rattle.spx_term.specs.declared.term.FieldName.{FieldName}
use Rattle.spx_term.specs.declared.term.UnaryOp.{UnaryOp}
use Rattle.spx_term.specs.declared.term.UnaryOp.TheVariants as unary
use Rattle.spx_term.specs.declared.term.BinaryOp.{BinaryOp}
use Rattle.spx_term.specs.declared.term.BinaryOp.TheVariants as binary
use Rattle.spx_term.specs.declared.term.Term.{Term}
use Rattle.spx_term.specs.declared.term.Term.TheVariants.{Unary, Binary}
use Rattle.spx_term.specs.Intervals.{is_said_in, is_typed, reads_unary, reads_binary, is_typed-Number, is_typed-Truth, is_typed-Variable, is_typed-Blank, is_typed-Prefix, is_typed-Infix, is_typed-Unary, is_typed-Binary, is_typed-Ternary}
use Rattle.spx_term.proofs.Terms.{induct}
use Rattle.spx_arena.specs.declared.terms.TermId.{TermId}
use Rattle.spx_arena.specs.declared.terms.Node.{Node}
use Rattle.spx_arena.specs.declared.terms.Node.TheVariants as node
use Rattle.spx_arena.specs.Sharing.{tree_at, tree_in}
use Rattle.spx_simplify.specs.Tables.{Reads, ReadsNone}
use Rattle.spx_simplify.proofs.Meets.{or_false}

-- a term that is said to be in its type is
pub said_is_typed : (hyps : List Term) (t : Term) → list_any (is_said_in t) hyps ≡ true → is_typed hyps t ≡ true
said_is_typed hyps =
    induct (λ t. list_any (is_said_in t) hyps ≡ true → is_typed hyps t ≡ true) (record {
      number = λ n h. is_typed-Number hyps n ∙ h;
      truth = λ b h. is_typed-Truth hyps b ∙ h;
      variable = λ x h. is_typed-Variable hyps x ∙ h;
      blank = λ id h. is_typed-Blank hyps id ∙ h;
      prefix = λ o a p h. is_typed-Prefix hyps o a ∙ h;
      «infix» = λ o a b p q h. is_typed-Infix hyps o a b ∙ h;
      unary = λ o a p h. is_typed-Unary hyps o a ∙ ap (λ b. b || (reads_unary o && is_typed hyps a)) h;
      binary = λ o a b p q h. is_typed-Binary hyps o a b ∙ ap (λ c. c || (reads_binary o && is_typed hyps a)) h;
      ternary = λ o a b c p q r h. is_typed-Ternary hyps o a b c ∙ h;
    })

-- ---- operations that read a component, and those that do not
pub reads_field : (f : FieldName) (c : Component) → reads_unary (unary.Field f c) ≡ true
unfolding reads_unary
reads_field f c = refl

pub in_reads_none : (id : ℕ) → reads_unary (unary.In id) ≡ false
unfolding reads_unary
in_reads_none id = refl

pub others_reads_none : (id : ℕ) → reads_unary (unary.Others id) ≡ false
unfolding reads_unary
others_reads_none id = refl

pub reads_element : (t : ArrayType) → reads_binary (binary.Element t) ≡ true
unfolding reads_binary
reads_element t = refl

pub update_reads_none : (f : FieldName) → reads_binary (binary.Update f) ≡ false
unfolding reads_binary
update_reads_none f = refl

pub elements_reads_none : (id : ℕ) (low high : _) → reads_binary (binary.Elements id low high) ≡ false
unfolding reads_binary
elements_reads_none id low high = refl

pub field_reads_none : (f : FieldName) → reads_binary (binary.Field f) ≡ false
unfolding reads_binary
field_reads_none f = refl

-- ---- what a term reads
abbrev is_said : List Term → Term → Bool
is_said hyps t = list_any (is_said_in t) hyps

module _ (trees : List Term) (id : TermId) where
  abbrev here : Term
  here = tree_at trees id

  pub unary_reads : (op : UnaryOp) (a : TermId) → reads_unary op ≡ true → here ≡ Unary op (tree_at trees a) → a.0 < id.0 → Reads trees id a
  unary_reads op a reads is below = record {
    before = below;
    typed = λ hyps.
        let t = tree_at trees a in
        ap (is_typed hyps) is ∙ is_typed-Unary hyps op t ∙ ap (λ u. is_said hyps u || (reads_unary op && is_typed hyps t)) (sym is) ∙ ap (λ b. is_said hyps here || (b && is_typed hyps t)) reads;
  }

  pub unary_reads_none : (op : UnaryOp) (a : TermId) → reads_unary op ≡ false → here ≡ Unary op (tree_at trees a) → ReadsNone trees id
  unary_reads_none op a reads is = record {
    typed = λ hyps.
        let t = tree_at trees a in
        ap (is_typed hyps) is ∙ is_typed-Unary hyps op t ∙ ap (λ u. is_said hyps u || (reads_unary op && is_typed hyps t)) (sym is) ∙ ap (λ b. is_said hyps here || (b && is_typed hyps t)) reads ∙ or_false (is_said hyps here);
  }

  pub binary_reads : (op : BinaryOp) (a b : TermId) → reads_binary op ≡ true → here ≡ Binary op (tree_at trees a) (tree_at trees b) → a.0 < id.0 → Reads trees id a
  binary_reads op a b reads is below = record {
    before = below;
    typed = λ hyps.
        let t = tree_at trees a in
        let u = tree_at trees b in
        ap (is_typed hyps) is ∙ is_typed-Binary hyps op t u ∙ ap (λ x. is_said hyps x || (reads_binary op && is_typed hyps t)) (sym is) ∙ ap (λ c. is_said hyps here || (c && is_typed hyps t)) reads;
  }

  pub binary_reads_none : (op : BinaryOp) (a b : TermId) → reads_binary op ≡ false → here ≡ Binary op (tree_at trees a) (tree_at trees b) → ReadsNone trees id
  binary_reads_none op a b reads is = record {
    typed = λ hyps.
        let t = tree_at trees a in
        let u = tree_at trees b in
        ap (is_typed hyps) is ∙ is_typed-Binary hyps op t u ∙ ap (λ x. is_said hyps x || (reads_binary op && is_typed hyps t)) (sym is) ∙ ap (λ c. is_said hyps here || (c && is_typed hyps t)) reads
        ∙ or_false (is_said hyps here);
  }

  -- a node of any other form
  abbrev reads_part : Node → Bool
  reads_part (node.Unary op a) = true
  reads_part (node.Binary op a b) = true
  reads_part _ = false

  pub reads_none : (n : Node) → reads_part n ≡ false → here ≡ tree_in trees n → ReadsNone trees id
  reads_none (node.Number m) other is = record { typed = λ hyps. ap (is_typed hyps) is ∙ is_typed-Number hyps m ∙ ap (is_said hyps) (sym is) }
  reads_none (node.Truth b) other is = record { typed = λ hyps. ap (is_typed hyps) is ∙ is_typed-Truth hyps b ∙ ap (is_said hyps) (sym is) }
  reads_none (node.Variable x) other is = record { typed = λ hyps. ap (is_typed hyps) is ∙ is_typed-Variable hyps x ∙ ap (is_said hyps) (sym is) }
  reads_none (node.Blank m) other is = record { typed = λ hyps. ap (is_typed hyps) is ∙ is_typed-Blank hyps m ∙ ap (is_said hyps) (sym is) }
  reads_none (node.Prefix op a) other is = record { typed = λ hyps. ap (is_typed hyps) is ∙ is_typed-Prefix hyps op (tree_at trees a) ∙ ap (is_said hyps) (sym is) }
  reads_none (node.Infix op a b) other is = record { typed = λ hyps. ap (is_typed hyps) is ∙ is_typed-Infix hyps op (tree_at trees a) (tree_at trees b) ∙ ap (is_said hyps) (sym is) }
  reads_none (node.Ternary op a b c) other is = record { typed = λ hyps. ap (is_typed hyps) is ∙ is_typed-Ternary hyps op (tree_at trees a) (tree_at trees b) (tree_at trees c) ∙ ap (is_said hyps) (sym is) }
  reads_none (node.Unary op a) other is = absurd (cc)
  reads_none (node.Binary op a b) other is = absurd (cc)
