-- Linear certificates.
use Rattle.std.specs.Prelude.{Bool, true, false, ◌&&◌, ◌||◌, ℤ, pos, int_le, Option, Some, None, option_map, Ok, Err, List, [], ◌∷◌, map, if◌then◌else◌}
use Rattle.spx_term.specs.declared.condition.Sequent.{Sequent}
use Rattle.spx_term.specs.declared.term.TermOp.TheVariants as op
use Rattle.spx_term.specs.declared.term.Term.{Term, Term-F, out-Term}
use Rattle.spx_term.specs.declared.term.Term.TheVariants.{Infix}
use Rattle.spx_term.specs.Negation.{is_numeric, opposite}
use Rattle.spx_term.specs.Folding.{folded}
use Rattle.spx_linear.specs.declared.form.Form.{Form}
use Rattle.spx_linear.specs.Linear.{is_comparison, linear_form}
use Rattle.spx_linear.specs.Refutation.{refutation}
use Rattle.spx_kernel.specs.declared.rule.Entry.{Entry}
use Rattle.spx_kernel.specs.declared.fault.StepFault.TheVariants.{TooWide}
use Rattle.spx_kernel.specs.Sequents.{Answer, refused, hyp_at}

-- the opposite of a comparison of integers of this form
abbrev pub opposite_in : Term-F Term → Option Term
opposite_in (Term-F.Infix op a b) = option_map (λ p. Infix p a b) (opposite op (is_numeric a))
opposite_in _ = None

-- the opposite of a comparison of integers, where the term is one
unfoldable pub opposite_of : Term → Option Term
opposite_of t = opposite_in (out-Term t)

-- whether a term of this form is an equation
abbrev pub is_equation_in : Term-F Term → Bool
is_equation_in (Term-F.Infix op.Equal a b) = true
is_equation_in _ = false

-- whether a term is an equation
unfoldable pub is_equation : Term → Bool
is_equation t = is_equation_in (out-Term t)

-- what an entry names, folded: a hypothesis, or the opposite of the goal
abbrev pub named : Sequent → Option ℤ → Option Term
named s (Some n) = option_map folded (hyp_at s n)
named s None = opposite_of (folded s.goal)

-- a comparison that may be multiplied so: no inequality by a number below 0
abbrev pub listed : ℤ → Option Term → Option Term
listed by (Some t) = if is_comparison t && (is_equation t || int_le (pos 0) by) then Some t else None
listed by None = None

-- a term before others, where all are there
abbrev pub with_term : Option Term → Option (List Term) → Option (List Term)
with_term (Some t) (Some ts) = Some (t ∷ ts)
with_term (Some t) None = None
with_term None ts = None

-- what all entries name, where each may be listed
abbrev pub all_listed : Sequent → List Entry → Option (List Term)
all_listed s [] = Some []
all_listed s (e ∷ es) = with_term (listed e.by (named s e.hyp)) (all_listed s es)

-- a form before others, where all are there
abbrev pub with_form : Option Form → Option (List Form) → Option (List Form)
with_form (Some f) (Some fs) = Some (f ∷ fs)
with_form (Some f) None = None
with_form None fs = None

-- their forms; None where a number is too wide
abbrev pub forms_of : List Term → Option (List Form)
forms_of [] = Some []
forms_of (t ∷ ts) = with_form (linear_form t) (forms_of ts)

-- the multiplier of an entry
abbrev pub multiplier : Entry → ℤ
multiplier e = e.by

-- what it means that the multiples refute the forms or not, or that a number is too wide
abbrev pub refuted_by : Option Bool → Answer
refuted_by (Some true) = Ok []
refuted_by (Some false) = refused
refuted_by None = Err TooWide

-- the step with these multipliers and forms
abbrev pub by_forms : List ℤ → Option (List Form) → Answer
by_forms ns (Some fs) = refuted_by (refutation fs ns)
by_forms ns None = Err TooWide

-- the step with these multipliers and comparisons
abbrev pub by_terms : List ℤ → Option (List Term) → Answer
by_terms ns (Some ts) = by_forms ns (forms_of ts)
by_terms ns None = refused

-- the step `linear`
unfoldable pub certified : Sequent → List Entry → Answer
certified s es = by_terms (map multiplier es) (all_listed s es)
