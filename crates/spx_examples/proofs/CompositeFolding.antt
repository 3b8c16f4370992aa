-- What a term folds to, from what its parts fold to.
use Rattle.std.proofs.Common.{◌≡◌, ℕ, ℤ, ap, ap₂, ◌∙◌}
use Rattle.spx_term.specs.declared.term.Name.{Name}
use Rattle.spx_term.specs.declared.term.TermOp.{TermOp}
use Rattle.spx_term.specs.declared.term.UnaryOp.{UnaryOp}
use Rattle.spx_term.specs.declared.term.BinaryOp.{BinaryOp}
use Rattle.spx_term.specs.declared.term.TernaryOp.{TernaryOp}
use Rattle.spx_term.specs.declared.term.Term.{Term}
use Rattle.spx_term.specs.declared.term.Term.TheVariants.{Number, Variable, Blank, Infix, Unary, Binary, Ternary}
use Rattle.spx_term.specs.Folding.{folded, folded_step, simplified, simplified_unary, simplified_binary, simplified_ternary}
use Rattle.spx_term.proofs.Terms.{fold-Number, fold-Variable, fold-Blank, fold-Infix, fold-Unary, fold-Binary, fold-Ternary}

pub number_to : {n : ℤ} → folded (Number n) ≡ Number n
number_to {n} = fold-Number folded_step n

pub variable_to : {name : Name} → folded (Variable name) ≡ Variable name
variable_to {name} = fold-Variable folded_step name

pub blank_to : {id : ℕ} → folded (Blank id) ≡ Blank id
blank_to {id} = fold-Blank folded_step id

pub infix_to : (o : TermOp) (a b : Term) {c d r : Term} → folded a ≡ c → folded b ≡ d → simplified o c d ≡ r → folded (Infix o a b) ≡ r
infix_to o a b p q is = fold-Infix folded_step o a b ∙ ap₂ (simplified o) p q ∙ is

pub unary_to : (o : UnaryOp) (a : Term) {b r : Term} → folded a ≡ b → simplified_unary o b ≡ r → folded (Unary o a) ≡ r
unary_to o a p is = fold-Unary folded_step o a ∙ ap (simplified_unary o) p ∙ is

pub binary_to : (o : BinaryOp) (a b : Term) {c d r : Term} → folded a ≡ c → folded b ≡ d → simplified_binary o c d ≡ r → folded (Binary o a b) ≡ r
binary_to o a b p q is = fold-Binary folded_step o a b ∙ ap₂ (simplified_binary o) p q ∙ is

pub ternary_to : (o : TernaryOp) (a b c : Term) {d e f r : Term} → folded a ≡ d → folded b ≡ e → folded c ≡ f → simplified_ternary o d e f ≡ r → folded (Ternary o a b c) ≡ r
ternary_to o a b c p q s is = fold-Ternary folded_step o a b c ∙ (λ i. simplified_ternary o (p i) (q i) (s i)) ∙ is
