-- The first element of an updated array, at each form of a term.
use Rattle.std.proofs.Common.{◌≡◌, ℕ, ℤ, Bool, Option, Some, None, refl, ap, ap₂, ◌∙◌}
use Rattle.spx_term.specs.declared.condition.Sequent.{Sequent}
use Rattle.spx_term.specs.declared.term.Name.{Name}
use Rattle.spx_term.specs.declared.term.TermOp.{TermOp}
use Rattle.spx_term.specs.declared.term.TermPrefix.{TermPrefix}
use Rattle.spx_term.specs.declared.term.UnaryOp.{UnaryOp}
use Rattle.spx_term.specs.declared.term.BinaryOp.{BinaryOp}
use Rattle.spx_term.specs.declared.term.BinaryOp.TheVariants as binary
use Rattle.spx_term.specs.declared.term.TernaryOp.{TernaryOp}
use Rattle.spx_term.specs.declared.term.TernaryOp.TheVariants as ternary
use Rattle.spx_term.specs.declared.term.Term.{Term, fold-Term}
use Rattle.spx_term.specs.declared.term.Term.TheVariants.{Number, Truth, Variable, Blank, Prefix, Infix, Unary, Binary, Ternary}
use Rattle.spx_term.proofs.Terms.{Cases, induct, fold-Number, fold-Truth, fold-Variable, fold-Blank, fold-Prefix, fold-Infix, fold-Unary, fold-Binary, fold-Ternary}
use Rattle.spx_kernel.specs.Elements.{Spot, Search, within, first, read_here, in_order, ternary_spot, search_step, spot_of}
use Rattle.spx_kernel.specs.Splittings.{of_spot, wrap, either, ordered, read, splitting, in_ternary, split_at}
use Rattle.spx_kernel.specs.Steps.{elem_at}

abbrev search : Term → Search
search t = fold-Term Search search_step t

-- a search keeps the term as it was
abbrev Whole : Term → Type 0
Whole t = (search t).whole ≡ t

whole_cases : Cases Whole
whole_cases = record {
  number = λ n. ap (λ (s : Search). s.whole) (fold-Number search_step n);
  truth = λ b. ap (λ (s : Search). s.whole) (fold-Truth search_step b);
  variable = λ name. ap (λ (s : Search). s.whole) (fold-Variable search_step name);
  blank = λ id. ap (λ (s : Search). s.whole) (fold-Blank search_step id);
  prefix = λ o a p. ap (λ (s : Search). s.whole) (fold-Prefix search_step o a) ∙ (λ i. Prefix o (p i));
  «infix» = λ o a b p q. ap (λ (s : Search). s.whole) (fold-Infix search_step o a b) ∙ (λ i. Infix o (p i) (q i));
  unary = λ o a p. ap (λ (s : Search). s.whole) (fold-Unary search_step o a) ∙ (λ i. Unary o (p i));
  binary = λ o a b p q. ap (λ (s : Search). s.whole) (fold-Binary search_step o a b) ∙ (λ i. Binary o (p i) (q i));
  ternary = λ o a b c p q r. ap (λ (s : Search). s.whole) (fold-Ternary search_step o a b c) ∙ (λ i. Ternary o (p i) (q i) (r i));
}

whole : (t : Term) → (search t).whole ≡ t
whole t = induct Whole whole_cases t

-- ---- parts

within_is : (f : Term → Term) (o : Option Spot) → of_spot (within f o) ≡ wrap f (of_spot o)
within_is f (Some s) = refl
within_is f None = refl

first_is : (a b : Option Spot) → of_spot (first a b) ≡ either (of_spot a) (of_spot b)
first_is (Some s) b = refl
first_is None b = refl

two_within : (f g : Term → Term) (a b : Option Spot) → of_spot (first (within f a) (within g b)) ≡ either (wrap f (of_spot a)) (wrap g (of_spot b))
two_within f g a b = first_is (within f a) (within g b) ∙ ap₂ either (within_is f a) (within_is g b)

in_order_is : (o : BinaryOp) (f g : Term → Term) (a b : Option Spot) → of_spot (in_order o (within f a) (within g b)) ≡ ordered o (wrap f (of_spot a)) (wrap g (of_spot b))
in_order_is (binary.Element array) f g a b = two_within f g a b
in_order_is (binary.Update id) f g a b = two_within f g a b
in_order_is (binary.Elements t low high) f g a b = two_within g f b a
in_order_is (binary.Field id) f g a b = two_within g f b a

-- ---- each form

pub splitting-Number : (n : ℤ) → splitting (Number n) ≡ None
unfolding splitting spot_of
splitting-Number n = ap (λ (s : Search). of_spot s.spot) (fold-Number search_step n)

pub splitting-Truth : (b : Bool) → splitting (Truth b) ≡ None
unfolding splitting spot_of
splitting-Truth b = ap (λ (s : Search). of_spot s.spot) (fold-Truth search_step b)

pub splitting-Variable : (name : Name) → splitting (Variable name) ≡ None
unfolding splitting spot_of
splitting-Variable name = ap (λ (s : Search). of_spot s.spot) (fold-Variable search_step name)

pub splitting-Blank : (id : ℕ) → splitting (Blank id) ≡ None
unfolding splitting spot_of
splitting-Blank id = ap (λ (s : Search). of_spot s.spot) (fold-Blank search_step id)

pub splitting-Prefix : (o : TermPrefix) (a : Term) → splitting (Prefix o a) ≡ wrap (Prefix o) (splitting a)
unfolding splitting spot_of
splitting-Prefix o a = ap (λ (s : Search). of_spot s.spot) (fold-Prefix search_step o a) ∙ within_is (Prefix o) (search a).spot

pub splitting-Infix : (o : TermOp) (a b : Term) → splitting (Infix o a b) ≡ either (wrap (λ x. Infix o x b) (splitting a)) (wrap (Infix o a) (splitting b))
unfolding splitting spot_of
splitting-Infix o a b =
    ap (λ (s : Search). of_spot s.spot) (fold-Infix search_step o a b)
    ∙ (λ i. of_spot (first (within (λ x. Infix o x (whole b i)) (search a).spot) (within (Infix o (whole a i)) (search b).spot)))
    ∙ two_within (λ x. Infix o x b) (Infix o a) (search a).spot (search b).spot

pub splitting-Unary : (o : UnaryOp) (a : Term) → splitting (Unary o a) ≡ wrap (Unary o) (splitting a)
unfolding splitting spot_of
splitting-Unary o a = ap (λ (s : Search). of_spot s.spot) (fold-Unary search_step o a) ∙ within_is (Unary o) (search a).spot

pub splitting-Binary : (o : BinaryOp) (a b : Term) → splitting (Binary o a b) ≡ either (read o a b) (ordered o (wrap (λ x. Binary o x b) (splitting a)) (wrap (Binary o a) (splitting b)))
unfolding splitting spot_of
splitting-Binary o a b =
    ap (λ (s : Search). of_spot s.spot) (fold-Binary search_step o a b)
    ∙ (λ i. of_spot (first (read_here o (whole a i) (whole b i)) (in_order o (within (λ x. Binary o x (whole b i)) (search a).spot) (within (Binary o (whole a i)) (search b).spot))))
    ∙ first_is (read_here o a b) (in_order o (within (λ x. Binary o x b) (search a).spot) (within (Binary o a) (search b).spot))
    ∙ ap (either (read o a b)) (in_order_is o (λ x. Binary o x b) (Binary o a) (search a).spot (search b).spot)

update_is : (t : ℕ) (a b c : Term) → of_spot (ternary_spot (ternary.Update t) (search a) (search b) (search c)) ≡ in_ternary (ternary.Update t) a b c
unfolding splitting spot_of
update_is t a b c =
    (λ i. of_spot (first (within (λ x. Ternary (ternary.Update t) x (whole b i) (whole c i)) (search a).spot)
    (first (within (λ x. Ternary (ternary.Update t) (whole a i) x (whole c i)) (search b).spot) (within (λ x. Ternary (ternary.Update t) (whole a i) (whole b i) x) (search c).spot))))
    ∙ first_is (within (λ x. Ternary (ternary.Update t) x b c) (search a).spot) (first (within (λ x. Ternary (ternary.Update t) a x c) (search b).spot) (within (λ x. Ternary (ternary.Update t) a b x) (search c).spot))
    ∙ ap₂ either (within_is (λ x. Ternary (ternary.Update t) x b c) (search a).spot) (two_within (λ x. Ternary (ternary.Update t) a x c) (λ x. Ternary (ternary.Update t) a b x) (search b).spot (search c).spot)

pub splitting-Ternary : (o : TernaryOp) (a b c : Term) → splitting (Ternary o a b c) ≡ in_ternary o a b c
unfolding splitting spot_of
splitting-Ternary (ternary.Update t) a b c = ap (λ (s : Search). of_spot s.spot) (fold-Ternary search_step (ternary.Update t) a b c) ∙ update_is t a b c
splitting-Ternary (ternary.Quantified q d) a b c = ap (λ (s : Search). of_spot s.spot) (fold-Ternary search_step (ternary.Quantified q d) a b c)

pub ruleset splitting_forms = (splitting-Number, splitting-Truth, splitting-Variable, splitting-Blank, splitting-Prefix, splitting-Infix, splitting-Unary, splitting-Binary, splitting-Ternary)

-- ---- the step

at_spot : (s : Sequent) (o : Option Spot) → elem_at s o ≡ split_at s (of_spot o)
at_spot s (Some x) = refl
at_spot s None = refl

pub elem_is : (s : Sequent) (t : Term) → elem_at s (spot_of t) ≡ split_at s (splitting t)
unfolding splitting
elem_is s t = at_spot s (spot_of t)
