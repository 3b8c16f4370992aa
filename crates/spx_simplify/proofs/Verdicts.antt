-- Which goals are plain, by what the tables say.
use Rattle.std.proofs.Common.{◌≡◌, ℕ, ℤ, ◌<◌, Bool, true, false, ◌&&◌, ◌||◌, List, ◌++◌, length, refl, sym, ap, ◌∙◌}
use Rattle.spx_term.specs.declared.term.Name.{Name}
use Rattle.spx_term.specs.declared.term.TermOp.{TermOp}
use Rattle.spx_term.specs.declared.term.TermOp.TheVariants as signs
use Rattle.spx_term.specs.declared.term.TermPrefix.{TermPrefix}
use Rattle.spx_term.specs.declared.term.UnaryOp.{UnaryOp}
use Rattle.spx_term.specs.declared.term.BinaryOp.{BinaryOp}
use Rattle.spx_term.specs.declared.term.TernaryOp.{TernaryOp}
use Rattle.spx_term.specs.declared.term.Term.{Term}
use Rattle.spx_term.specs.declared.term.Term.TheVariants.{Number, Truth, Variable, Blank, Prefix, Infix, Unary, Binary, Ternary}
use Rattle.spx_term.specs.declared.interval.Interval.{Interval}
use Rattle.spx_term.specs.Conjuncts.{conjuncts}
use Rattle.spx_term.specs.Intervals.{interval}
use Rattle.spx_term.specs.Plain.{is_among, is_plain, settled, joined, is_plain-Number, is_plain-Truth, is_plain-Variable, is_plain-Blank, is_plain-Prefix, is_plain-Infix, is_plain-Unary, is_plain-Binary, is_plain-Ternary}
use Rattle.spx_arena.specs.declared.terms.TermId.{TermId}
use Rattle.spx_arena.specs.declared.terms.Node.{Node}
use Rattle.spx_arena.specs.declared.terms.Node.TheVariants as node
use Rattle.spx_arena.specs.Sharing.{tree_at, tree_in}
use Rattle.spx_simplify.specs.declared.known.Known.{Known}
use Rattle.spx_simplify.specs.Tables.{test_at, Knows}
use Rattle.spx_simplify.proofs.Meets.{or_true, or_false}

module _ (trees hyps : List Term) (k : Known) (knows : Knows trees hyps k) (goal : TermId) (within : goal.0 < length trees) where
  among_is : test_at k.facts goal.0 ≡ is_among hyps (tree_at trees goal)
  among_is = knows.facts goal.0 within

  pub plain_known : (n : Node) → tree_at trees goal ≡ tree_in trees n → test_at k.facts goal.0 ≡ true → true ≡ is_plain hyps (tree_at trees goal)
  plain_known n is here = plain_or n is (sym (sym here ∙ among_is ∙ ap (is_among hyps) is))
    where
      plain_or : (n : Node) → tree_at trees goal ≡ tree_in trees n → is_among hyps (tree_in trees n) ≡ true → true ≡ is_plain hyps (tree_at trees goal)
      plain_or (node.Number m) is e = sym (ap (is_plain hyps) is ∙ is_plain-Number hyps m ∙ e)
      plain_or (node.Truth b) is e = sym (ap (is_plain hyps) is ∙ is_plain-Truth hyps b ∙ ap (λ c. b || c) e ∙ or_true b)
      plain_or (node.Variable x) is e = sym (ap (is_plain hyps) is ∙ is_plain-Variable hyps x ∙ e)
      plain_or (node.Prefix op a) is e = sym (ap (is_plain hyps) is ∙ is_plain-Prefix hyps op (tree_at trees a) ∙ e)
      plain_or (node.Blank id) is e = sym (ap (is_plain hyps) is ∙ is_plain-Blank hyps id ∙ e)
      plain_or (node.Unary op a) is e = sym (ap (is_plain hyps) is ∙ is_plain-Unary hyps op (tree_at trees a) ∙ e)
      plain_or (node.Binary op a b) is e = sym (ap (is_plain hyps) is ∙ is_plain-Binary hyps op (tree_at trees a) (tree_at trees b) ∙ e)
      plain_or (node.Ternary op a b c) is e = sym (ap (is_plain hyps) is ∙ is_plain-Ternary hyps op (tree_at trees a) (tree_at trees b) (tree_at trees c) ∙ e)
      plain_or (node.Infix op a b) is e = sym (ap (is_plain hyps) is ∙ is_plain-Infix hyps op (tree_at trees a) (tree_at trees b) ∙ ap (λ c. c || joined op (is_plain hyps (tree_at trees a)) (is_plain hyps (tree_at trees b)) (is_plain (hyps ++ conjuncts (tree_at trees a)) (tree_at trees b)) (interval hyps (tree_at trees a)) (interval hyps (tree_at trees b))) e)

  module _ (absent : test_at k.facts goal.0 ≡ false) where
    not_among : (t : Term) → tree_at trees goal ≡ t → is_among hyps t ≡ false
    not_among t is = ap (is_among hyps) (sym is) ∙ sym among_is ∙ absent

    pub plain_number : (m : ℤ) → tree_at trees goal ≡ Number m → false ≡ is_plain hyps (tree_at trees goal)
    plain_number m is = sym (ap (is_plain hyps) is ∙ is_plain-Number hyps m ∙ not_among (Number m) is)

    pub plain_truth : (b : Bool) → tree_at trees goal ≡ Truth b → b ≡ is_plain hyps (tree_at trees goal)
    plain_truth b is = sym (ap (is_plain hyps) is ∙ is_plain-Truth hyps b ∙ ap (λ c. b || c) (not_among (Truth b) is) ∙ or_false b)

    pub plain_variable : (x : Name) → tree_at trees goal ≡ Variable x → false ≡ is_plain hyps (tree_at trees goal)
    plain_variable x is = sym (ap (is_plain hyps) is ∙ is_plain-Variable hyps x ∙ not_among (Variable x) is)

    pub plain_prefix : (op : TermPrefix) (a : Term) → tree_at trees goal ≡ Prefix op a → false ≡ is_plain hyps (tree_at trees goal)
    plain_prefix op a is = sym (ap (is_plain hyps) is ∙ is_plain-Prefix hyps op a ∙ not_among (Prefix op a) is)

    pub plain_blank : (id : ℕ) → tree_at trees goal ≡ Blank id → false ≡ is_plain hyps (tree_at trees goal)
    plain_blank id is = sym (ap (is_plain hyps) is ∙ is_plain-Blank hyps id ∙ not_among (Blank id) is)

    pub plain_unary : (op : UnaryOp) (a : Term) → tree_at trees goal ≡ Unary op a → false ≡ is_plain hyps (tree_at trees goal)
    plain_unary op a is = sym (ap (is_plain hyps) is ∙ is_plain-Unary hyps op a ∙ not_among (Unary op a) is)

    pub plain_binary : (op : BinaryOp) (a b : Term) → tree_at trees goal ≡ Binary op a b → false ≡ is_plain hyps (tree_at trees goal)
    plain_binary op a b is = sym (ap (is_plain hyps) is ∙ is_plain-Binary hyps op a b ∙ not_among (Binary op a b) is)

    pub plain_ternary : (op : TernaryOp) (a b c : Term) → tree_at trees goal ≡ Ternary op a b c → false ≡ is_plain hyps (tree_at trees goal)
    plain_ternary op a b c is = sym (ap (is_plain hyps) is ∙ is_plain-Ternary hyps op a b c ∙ not_among (Ternary op a b c) is)

    abbrev joined_at : TermOp → Term → Term → Bool
    joined_at op a b = joined op (is_plain hyps a) (is_plain hyps b) (is_plain (hyps ++ conjuncts a) b) (interval hyps a) (interval hyps b)

    plain_infix : (op : TermOp) (a b : Term) → tree_at trees goal ≡ Infix op a b → joined_at op a b ≡ is_plain hyps (tree_at trees goal)
    plain_infix op a b is = sym (ap (is_plain hyps) is ∙ is_plain-Infix hyps op a b ∙ ap (λ c. c || joined_at op a b) (not_among (Infix op a b) is))

    joined_and : (p q r : Bool) (i j : Interval) → (p && q) ≡ joined signs.And p q r i j
    unfolding joined
    joined_and p q r i j = refl

    joined_or : (p q r : Bool) (i j : Interval) → (p || q) ≡ joined signs.Or p q r i j
    unfolding joined
    joined_or p q r i j = refl

    joined_implies : (p q r : Bool) (i j : Interval) → r ≡ joined signs.Implies p q r i j
    unfolding joined
    joined_implies p q r i j = refl

    joined_other : (op : TermOp) (p q r : Bool) (i j : Interval) → (op ≡ signs.And → ⊥) → (op ≡ signs.Or → ⊥) → (op ≡ signs.Implies → ⊥) → settled op i j ≡ joined op p q r i j
    unfolding joined
    joined_other signs.And p q r i j a o m = absurd (a refl)
    joined_other signs.Or p q r i j a o m = absurd (o refl)
    joined_other signs.Implies p q r i j a o m = absurd (m refl)
    joined_other op p q r i j a o m = refl

    pub plain_both : (a b : Term) → tree_at trees goal ≡ Infix signs.And a b → (is_plain hyps a && is_plain hyps b) ≡ is_plain hyps (tree_at trees goal)
    plain_both a b is = joined_and (is_plain hyps a) (is_plain hyps b) (is_plain (hyps ++ conjuncts a) b) (interval hyps a) (interval hyps b) ∙ plain_infix signs.And a b is

    pub plain_either : (a b : Term) → tree_at trees goal ≡ Infix signs.Or a b → (is_plain hyps a || is_plain hyps b) ≡ is_plain hyps (tree_at trees goal)
    plain_either a b is = joined_or (is_plain hyps a) (is_plain hyps b) (is_plain (hyps ++ conjuncts a) b) (interval hyps a) (interval hyps b) ∙ plain_infix signs.Or a b is

    pub plain_under : (a b : Term) → tree_at trees goal ≡ Infix signs.Implies a b → is_plain (hyps ++ conjuncts a) b ≡ is_plain hyps (tree_at trees goal)
    plain_under a b is = joined_implies (is_plain hyps a) (is_plain hyps b) (is_plain (hyps ++ conjuncts a) b) (interval hyps a) (interval hyps b) ∙ plain_infix signs.Implies a b is

    pub plain_settled : (op : TermOp) (a b : Term) (i j : Interval) → tree_at trees goal ≡ Infix op a b → (op ≡ signs.And → ⊥) → (op ≡ signs.Or → ⊥) → (op ≡ signs.Implies → ⊥) → i ≡ interval hyps a → j ≡ interval hyps b
        → settled op i j ≡ is_plain hyps (tree_at trees goal)
    plain_settled op a b i j is e f m g h =
        (λ t. settled op (g t) (h t)) ∙ joined_other op (is_plain hyps a) (is_plain hyps b) (is_plain (hyps ++ conjuncts a) b) (interval hyps a) (interval hyps b) e f m ∙ plain_infix op a b is
