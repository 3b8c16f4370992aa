-- Which of the terms in the conditions are equal.
use Rattle.std.proofs.Common.{◌≡◌, ℤ, true, false, ◌||◌, List, ◌∷◌, refl, sym, ap, ap₂, ◌∙◌}
use Rattle.std.proofs.lemmas.Bool.{false_from_ne_true, or_right}
use Rattle.spx_term.specs.declared.term.Name.{Name}
use Rattle.spx_term.specs.declared.term.TermOp.{TermOp}
use Rattle.spx_term.specs.declared.term.Term.{Term, Term-F, out-Term}
use Rattle.spx_term.specs.declared.term.Term.TheVariants.{Number, Variable, Infix, outs-Number, outs-Variable, outs-Infix}
use Rattle.spx_term.specs.Equality.{same_term}
use Rattle.spx_term.specs.Plain.{is_among}
use Rattle.spx_term.proofs.Equality.{same_term-Decides}

pub same_as_itself : (t : Term) → same_term t t ≡ true
same_as_itself t = (same_term-Decides t t).1 refl

pub not_same : (s t : Term) → (s ≡ t → ⊥) → same_term s t ≡ false
not_same s t other = false_from_ne_true (same_term s t) (λ h. other ((same_term-Decides s t).0 h))

-- equal terms have equal forms
form_of : (s t : Term) (k l : Term-F Term) → out-Term s ≡ k → out-Term t ≡ l → s ≡ t → k ≡ l
form_of s t k l s_is t_is e = sym s_is ∙ ap out-Term e ∙ t_is

infix_form : (o p : TermOp) (a b c d : Term) → Infix o a b ≡ Infix p c d → Term-F.Infix o a b ≡ Term-F.Infix p c d
infix_form o p a b c d = form_of (Infix o a b) (Infix p c d) (Term-F.Infix o a b) (Term-F.Infix p c d) (outs-Infix o a b) (outs-Infix p c d)

-- operations with other operators, and with other left operands, are other terms
pub other_op : (o p : TermOp) (a b c d : Term) → (o ≡ p → ⊥) → same_term (Infix o a b) (Infix p c d) ≡ false
other_op o p a b c d other = not_same (Infix o a b) (Infix p c d) (λ e. let f = infix_form o p a b c d e in other cc)

pub other_left : (o p : TermOp) (a b c d : Term) → (a ≡ c → ⊥) → same_term (Infix o a b) (Infix p c d) ≡ false
other_left o p a b c d other = not_same (Infix o a b) (Infix p c d) (λ e. let f = infix_form o p a b c d e in other cc)

-- a variable is no operation and no number
pub no_infix : (name : Name) (o : TermOp) (a b : Term) → Variable name ≡ Infix o a b → ⊥
no_infix name o a b e = let f = form_of (Variable name) (Infix o a b) (Term-F.Variable name) (Term-F.Infix o a b) (outs-Variable name) (outs-Infix o a b) e in cc

pub no_number : (name : Name) (n : ℤ) → Variable name ≡ Number n → ⊥
no_number name n e = let f = form_of (Variable name) (Number n) (Term-F.Variable name) (Term-F.Number n) (outs-Variable name) (outs-Number n) e in cc

pub is_first : (t : Term) (ts : List Term) → is_among (t ∷ ts) t ≡ true
is_first t ts = ap (λ b. b || is_among ts t) (same_as_itself t)

pub is_later : (t first : Term) (ts : List Term) → is_among ts t ≡ true → is_among (first ∷ ts) t ≡ true
is_later t first ts h = or_right (same_term t first) (is_among ts t) h

pub is_new : (t first : Term) (ts : List Term) → same_term t first ≡ false → is_among ts t ≡ false → is_among (first ∷ ts) t ≡ false
is_new t first ts other none = ap₂ ◌||◌ other none
