-- What a search for an element of an updated array finds, from what it finds in the parts of a term.
use Rattle.std.proofs.Common.{◌≡◌, ℤ, List, ap, ap₂, ◌∙◌}
use Rattle.spx_term.specs.declared.term.Name.{Name}
use Rattle.spx_term.specs.declared.term.TermOp.{TermOp}
use Rattle.spx_term.specs.declared.term.BinaryOp.{BinaryOp}
use Rattle.spx_term.specs.declared.term.TernaryOp.{TernaryOp}
use Rattle.spx_term.specs.declared.term.Term.{Term, Term-F, fold-Term}
use Rattle.spx_term.specs.declared.term.Term.TheVariants.{Number, Variable, Infix, Binary, Ternary}
use Rattle.spx_term.proofs.Terms.{fold-Number, fold-Variable, fold-Infix, fold-Binary, fold-Ternary}
use Rattle.spx_kernel.specs.declared.rule.RuleOf.TheVariants as rule
use Rattle.spx_kernel.specs.Elements.{Search, search_step, spot_of}
use Rattle.spx_kernel.specs.Steps.{elem_at, step}
use Rattle.spx_examples.specs.StepExamples.{under}

abbrev search : Term → Search
search t = fold-Term Search search_step t

pub number_found : {n : ℤ} → search (Number n) ≡ search_step (Term-F.Number n)
number_found {n} = fold-Number search_step n

pub variable_found : {name : Name} → search (Variable name) ≡ search_step (Term-F.Variable name)
variable_found {name} = fold-Variable search_step name

pub infix_found : (o : TermOp) (a b : Term) {x y : Search} → search a ≡ x → search b ≡ y → search (Infix o a b) ≡ search_step (Term-F.Infix o x y)
infix_found o a b p q = fold-Infix search_step o a b ∙ ap₂ (λ x y. search_step (Term-F.Infix o x y)) p q

pub binary_found : (o : BinaryOp) (a b : Term) {x y : Search} → search a ≡ x → search b ≡ y → search (Binary o a b) ≡ search_step (Term-F.Binary o x y)
binary_found o a b p q = fold-Binary search_step o a b ∙ ap₂ (λ x y. search_step (Term-F.Binary o x y)) p q

pub ternary_found : (o : TernaryOp) (a b c : Term) {x y z : Search} → search a ≡ x → search b ≡ y → search c ≡ z → search (Ternary o a b c) ≡ search_step (Term-F.Ternary o x y z)
ternary_found o a b c p q r = fold-Ternary search_step o a b c ∙ (λ i. search_step (Term-F.Ternary o (p i) (q i) (r i)))

-- the step, from what is found in the goal
pub elem_by : (hyps : List Term) (goal : Term) {found : Search} → search goal ≡ found → step (under hyps goal) rule.Elem ≡ elem_at (under hyps goal) found.spot
unfolding step spot_of
elem_by hyps goal e = ap (λ (x : Search). elem_at (under hyps goal) x.spot) e
