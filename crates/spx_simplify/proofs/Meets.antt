-- The meet of intervals, and the bounds that facts set.
use Rattle.std.proofs.Common.{◌≡◌, ℕ, ℤ, ◌<◌, Bool, true, false, ◌||◌, cond, List, [], ◌∷◌, ◌++◌, length, map, fold, Option, Some, None, refl, sym, ap, ◌∙◌, eqb, int_lt, arith}
use Rattle.std.proofs.lemmas.Int.{ints}
use Rattle.std.proofs.lemmas.List.{map-append}
use Rattle.std.proofs.lemmas.List.Sums.{fold-append}
use denote.Hole.Carrier.{hidden}
use Rattle.std.specs.List.{list_any}
use Rattle.spx_term.specs.declared.term.TermOp.{TermOp}
use Rattle.spx_term.specs.declared.term.UnaryOp.TheVariants as unary
use Rattle.spx_term.specs.declared.term.Term.{Term, Term-F, out-Term}
use Rattle.spx_term.specs.declared.term.Term.TheBlock.{hidden-the_row-Term-0}
use Rattle.spx_term.specs.declared.term.Term.TheVariants.{Number, Infix, Unary, outs-Number, outs-Truth, outs-Variable, outs-Blank, outs-Prefix, outs-Infix, outs-Unary, outs-Binary, outs-Ternary}
use Rattle.spx_term.specs.declared.interval.Interval.{Interval}
use Rattle.spx_term.specs.Equality.{same_term}
use Rattle.spx_term.specs.Intervals.{unbounded, higher, lower, meet, allowed, mirrored, bounds_before, bounds_in, bounds, bounded, says_in, is_said_in}
use Rattle.spx_term.specs.Plain.{is_among}
use Rattle.spx_arena.specs.declared.terms.TermId.{TermId}
use Rattle.spx_arena.specs.declared.terms.Node.{Node}
use Rattle.spx_arena.specs.declared.terms.Node.TheVariants as node
use Rattle.spx_arena.specs.Sharing.{tree_at, tree_in, Distinct}
use Rattle.spx_simplify.specs.Folds.{place_of}
use Rattle.spx_simplify.specs.Tables.{is_silent}
use Rattle.spx_simplify.proofs.Folds.{same_ids}

-- ---- the meet of intervals
higher_thrice : (a b c : Option ℤ) → higher (higher a b) c ≡ higher a (higher b c)
higher_thrice None b c = refl
higher_thrice (Some m) None c = refl
higher_thrice (Some m) (Some n) None = go (int_lt m n)
  where
    go : (t : Bool) → higher (cond t (Some n) (Some m)) None ≡ cond t (Some n) (Some m)
    go true = refl
    go false = refl
higher_thrice (Some m) (Some n) (Some k) = grind (arith, ints)

lower_thrice : (a b c : Option ℤ) → lower (lower a b) c ≡ lower a (lower b c)
lower_thrice None b c = refl
lower_thrice (Some m) None c = refl
lower_thrice (Some m) (Some n) None = go (int_lt n m)
  where
    go : (t : Bool) → lower (cond t (Some n) (Some m)) None ≡ cond t (Some n) (Some m)
    go true = refl
    go false = refl
lower_thrice (Some m) (Some n) (Some k) = grind (arith, ints)

higher_none : (a : Option ℤ) → higher a None ≡ a
higher_none None = refl
higher_none (Some m) = refl

lower_none : (a : Option ℤ) → lower a None ≡ a
lower_none None = refl
lower_none (Some m) = refl

pub meet_thrice : (i j k : Interval) → meet (meet i j) k ≡ meet i (meet j k)
meet_thrice i j k = λ t. record { low = higher_thrice i.low j.low k.low t; high = lower_thrice i.high j.high k.high t }

pub meet_unbounded : (i : Interval) → meet i unbounded ≡ i
meet_unbounded i = λ t. record { low = higher_none i.low t; high = lower_none i.high t }

meet_all : (i : Interval) (xs : List Interval) → fold meet i xs ≡ meet i (fold meet unbounded xs)
meet_all i [] = sym (meet_unbounded i)
meet_all i (x ∷ xs) = meet_all (meet i x) xs ∙ meet_thrice i x (fold meet unbounded xs) ∙ ap (meet i) (sym (meet_all x xs))

pub bounded_meet : (i : Interval) (hyps : List Term) (t : Term) → bounded i hyps t ≡ meet i (bounded unbounded hyps t)
unfolding bounded
bounded_meet i hyps t = meet_all i (map (bounds t) hyps)

pub bounded_more : (hyps : List Term) (h t : Term) → bounded unbounded (hyps ++ h ∷ []) t ≡ meet (bounded unbounded hyps t) (bounds t h)
unfolding bounded
bounded_more hyps h t = ap (fold meet unbounded) (map-append (bounds t) hyps (h ∷ [])) ∙ fold-append meet unbounded (map (bounds t) hyps) (bounds t h ∷ [])

-- ---- the bounds that one fact sets
pub one_bound : (trees : List Term) → Distinct trees → (op : TermOp) (left right : TermId) (v : ℤ) → left.0 < length trees → tree_at trees right ≡ Number v → (i : ℕ) → i < length trees
    → cond (eqb left.0 i) (allowed op v) unbounded ≡ bounds_before op (tree_at trees left) (tree_at trees right) (tree_at trees (place_of i))
one_bound trees d op left right v within is i w =
    ap (λ b. cond b (allowed op v) unbounded) (same_ids trees left (place_of i) d within w)
    ∙ ap (λ t. bounds_before op (tree_at trees left) t (tree_at trees (place_of i))) (sym is)

pub infix_bounds : (t a b : Term) (op : TermOp) → bounds t (Infix op a b) ≡ meet (bounds_before op a b t) (bounds_before (mirrored op) b a t)
unfolding bounds
infix_bounds t a b op = ap (bounds_in t) (outs-Infix op a b)

pub no_bounds : (t : Term) (trees : List Term) (n : Node) → is_silent n ≡ true → bounds t (tree_in trees n) ≡ unbounded
unfolding bounds
no_bounds t trees (node.Number m) other = ap (bounds_in t) (outs-Number m)
no_bounds t trees (node.Truth b) other = ap (bounds_in t) (outs-Truth b)
no_bounds t trees (node.Variable x) other = ap (bounds_in t) (outs-Variable x)
no_bounds t trees (node.Prefix op a) other = ap (bounds_in t) (outs-Prefix op (tree_at trees a))
no_bounds t trees (node.Blank id) other = ap (bounds_in t) (outs-Blank id)
no_bounds t trees (node.Unary op a) other = ap (bounds_in t) (outs-Unary op (tree_at trees a))
no_bounds t trees (node.Binary op a b) other = ap (bounds_in t) (outs-Binary op (tree_at trees a) (tree_at trees b))
no_bounds t trees (node.Ternary op a b c) other = ap (bounds_in t) (outs-Ternary op (tree_at trees a) (tree_at trees b) (tree_at trees c))
no_bounds t trees (node.Infix op a b) other = absurd (cc)

-- a membership test sets no bounds
pub in_bounds : (t a : Term) (id : ℕ) → bounds t (Unary (unary.In id) a) ≡ unbounded
unfolding bounds
in_bounds t a id = ap (bounds_in t) (outs-Unary (unary.In id) a)

-- ---- what one fact says
pub in_said : (t a : Term) (id : ℕ) → is_said_in t (Unary (unary.In id) a) ≡ same_term a t
unfolding is_said_in
in_said t a id = ap (says_in t) (outs-Unary (unary.In id) a)

pub infix_said : (t a b : Term) (op : TermOp) → is_said_in t (Infix op a b) ≡ false
unfolding is_said_in
infix_said t a b op = ap (says_in t) (outs-Infix op a b)

-- a form that says something of other terms
abbrev pub is_loud : Term-F Term → Bool
is_loud (Term-F.Infix op a b) = true
is_loud (Term-F.Unary (unary.In id) a) = true
is_loud _ = false

pub quiet : (trees : List Term) (n : Node) → is_silent n ≡ true → is_loud (out-Term (tree_in trees n)) ≡ false
quiet trees (node.Number m) silent = ap is_loud (outs-Number m)
quiet trees (node.Truth b) silent = ap is_loud (outs-Truth b)
quiet trees (node.Variable x) silent = ap is_loud (outs-Variable x)
quiet trees (node.Prefix op a) silent = ap is_loud (outs-Prefix op (tree_at trees a))
quiet trees (node.Infix op a b) silent = absurd (cc)
quiet trees (node.Blank id) silent = ap is_loud (outs-Blank id)
quiet trees (node.Unary (unary.In id) a) silent = absurd (cc)
quiet trees (node.Unary (unary.Field f c) a) silent = ap is_loud (outs-Unary (unary.Field f c) (tree_at trees a))
quiet trees (node.Unary (unary.Others id) a) silent = ap is_loud (outs-Unary (unary.Others id) (tree_at trees a))
quiet trees (node.Binary op a b) silent = ap is_loud (outs-Binary op (tree_at trees a) (tree_at trees b))
quiet trees (node.Ternary op a b c) silent = ap is_loud (outs-Ternary op (tree_at trees a) (tree_at trees b) (tree_at trees c))

pub no_said : (t : Term) (trees : List Term) (n : Node) → is_silent n ≡ true → is_said_in t (tree_in trees n) ≡ false
unfolding is_said_in
no_said t trees (node.Number m) other = ap (says_in t) (outs-Number m)
no_said t trees (node.Truth b) other = ap (says_in t) (outs-Truth b)
no_said t trees (node.Variable x) other = ap (says_in t) (outs-Variable x)
no_said t trees (node.Prefix op a) other = ap (says_in t) (outs-Prefix op (tree_at trees a))
no_said t trees (node.Infix op a b) other = absurd (cc)
no_said t trees (node.Blank id) other = ap (says_in t) (outs-Blank id)
no_said t trees (node.Unary (unary.In id) a) other = absurd (cc)
no_said t trees (node.Unary (unary.Field f c) a) other = ap (says_in t) (outs-Unary (unary.Field f c) (tree_at trees a))
no_said t trees (node.Unary (unary.Others id) a) other = ap (says_in t) (outs-Unary (unary.Others id) (tree_at trees a))
no_said t trees (node.Binary op a b) other = ap (says_in t) (outs-Binary op (tree_at trees a) (tree_at trees b))
no_said t trees (node.Ternary op a b c) other = ap (says_in t) (outs-Ternary op (tree_at trees a) (tree_at trees b) (tree_at trees c))

pub bound_elsewhere : (op : TermOp) (a t : Term) (trees : List Term) (n : Node) → same_term a t ≡ false → bounds_before op a (tree_in trees n) t ≡ unbounded
unfolding hidden-the_row-Term-0 hidden
bound_elsewhere op a t trees (node.Number v) e = ap (λ b. cond b (allowed op v) unbounded) e
bound_elsewhere op a t trees (node.Truth b) e = refl
bound_elsewhere op a t trees (node.Variable x) e = refl
bound_elsewhere op a t trees (node.Prefix o b) e = refl
bound_elsewhere op a t trees (node.Infix o b c) e = refl
bound_elsewhere op a t trees (node.Blank id) e = refl
bound_elsewhere op a t trees (node.Unary o b) e = refl
bound_elsewhere op a t trees (node.Binary o b c) e = refl
bound_elsewhere op a t trees (node.Ternary o b c d) e = refl

-- ---- no facts
pub none_bounded : (t : Term) → bounded unbounded [] t ≡ unbounded
unfolding bounded
none_bounded t = refl

-- ---- one hypothesis more
pub or_true : (b : Bool) → (b || true) ≡ true
or_true true = refl
or_true false = refl

pub or_false : (b : Bool) → (b || false) ≡ b
or_false true = refl
or_false false = refl

pub any_more : (f : Term → Bool) (h : Term) (hyps : List Term) → list_any f (hyps ++ h ∷ []) ≡ (list_any f hyps || f h)
any_more f h [] = or_false (f h)
any_more f h (g ∷ hyps) = go (f g) (list_any f (hyps ++ h ∷ [])) (list_any f hyps) (any_more f h hyps)
  where
    go : (b x y : Bool) → x ≡ (y || f h) → (b || x) ≡ ((b || y) || f h)
    go true x y e = refl
    go false x y e = e

pub among_more : (t h : Term) (hyps : List Term) → is_among (hyps ++ h ∷ []) t ≡ (is_among hyps t || same_term t h)
among_more t h hyps = any_more (same_term t) h hyps
