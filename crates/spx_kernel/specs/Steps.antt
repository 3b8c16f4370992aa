-- The steps of a proof, by cases on the rule.
use Rattle.std.specs.Prelude.{◌≡◌, ⊤, Bool, true, false, ◌&&◌, ℤ, Option, Some, None, Ok, List, [], ◌∷◌, if◌then◌else◌}
use Rattle.spx_term.specs.declared.condition.Sequent.{Sequent}
use Rattle.spx_term.specs.declared.term.BoundVariable.{BoundVariable}
use Rattle.spx_term.specs.declared.term.Quantifier.{Quantifier}
use Rattle.spx_term.specs.declared.term.Quantifier.TheVariants as quantifier
use Rattle.spx_term.specs.declared.term.Sort.{Sort}
use Rattle.spx_term.specs.declared.term.TermOp.{TermOp}
use Rattle.spx_term.specs.declared.term.TermOp.TheVariants as op
use Rattle.spx_term.specs.declared.term.TermPrefix.{TermPrefix}
use Rattle.spx_term.specs.declared.term.TermPrefix.TheVariants as sign
use Rattle.spx_term.specs.declared.term.BinaryOp.TheVariants as binary
use Rattle.spx_term.specs.declared.term.TernaryOp.{TernaryOp}
use Rattle.spx_term.specs.declared.term.TernaryOp.TheVariants as ternary
use Rattle.spx_term.specs.declared.term.Term.{Term, Term-F, out-Term}
use Rattle.spx_term.specs.declared.term.Term.TheVariants.{Number, Truth, Variable, Infix, Binary}
use Rattle.spx_term.specs.Equality.{same_term}
use Rattle.spx_term.specs.Negation.{is_numeric}
use Rattle.spx_term.specs.Folding.{folded}
use Rattle.spx_term.specs.Plain.{closes}
use Rattle.spx_term.specs.Sorts.{sort_of}
use Rattle.spx_term.specs.Values.{Types}
use Rattle.spx_kernel.specs.declared.rule.RuleOf.{RuleOf}
use Rattle.spx_kernel.specs.declared.rule.RuleOf.TheVariants as rule
use Rattle.spx_kernel.specs.Sequents.{Answer, refused, with_hyp, with_hyps, with_goal, hyp_at, Sorted, Leads}
use Rattle.spx_kernel.specs.Names.{is_over, new_name, is_boolean}
use Rattle.spx_kernel.specs.Quantifiers.{stands_alone, opened}
use Rattle.spx_kernel.specs.Rewriting.{rewritten}
use Rattle.spx_kernel.specs.Elements.{Spot, spot_of}
use Rattle.spx_kernel.specs.Divisions.{zero_term, division_facts, Operands, division}
use Rattle.spx_kernel.specs.Certificates.{certified}

-- only where a test passes
abbrev pub only_if : Bool → Answer → Answer
only_if test answer = if test then answer else refused

-- with the term that is there
abbrev pub at : Option Term → (Term → Answer) → Answer
at (Some t) f = f t
at None f = refused

-- ---- hypotheses that close a goal

-- the goal and a hypothesis fold to one term
abbrev pub by_hyp : Sequent → Term → Answer
by_hyp s h = only_if (same_term (folded h) (folded s.goal)) (Ok [])

-- ---- split

-- `A and B`, `A <-> B`, and `a = b` of integers
abbrev pub split_infix : TermOp → Sequent → Term → Term → Answer
split_infix op.And s a b = Ok (with_goal a s ∷ with_goal b s ∷ [])
split_infix op.Equivalent s a b = Ok (with_goal (Infix op.Implies a b) s ∷ with_goal (Infix op.Implies b a) s ∷ [])
split_infix op.Equal s a b = only_if (is_numeric a) (Ok (with_goal (Infix op.LessOrEqual a b) s ∷ with_goal (Infix op.GreaterOrEqual a b) s ∷ []))
split_infix _ s a b = refused

-- a goal of this form
abbrev pub split_in : Sequent → Term-F Term → Answer
split_in s (Term-F.Infix op a b) = split_infix op s a b
split_in s _ = refused

-- ---- quantifiers

-- a number lies between two others, as two facts
abbrev pub from_to : Term → Term → Term → List Term
from_to x low high = Infix op.GreaterOrEqual x low ∷ Infix op.LessOrEqual x high ∷ []

-- the same as one fact
abbrev pub in_range : Term → Term → Term → Term
in_range x low high = Infix op.And (Infix op.GreaterOrEqual x low) (Infix op.LessOrEqual x high)

-- `for all` as a goal: its body for a new number
abbrev pub intro_all : Quantifier → BoundVariable → Sequent → Term → Term → Term → Answer
intro_all quantifier.All b s low high body =
    let x = Variable (new_name s b) in only_if (stands_alone s.goal) (Ok (with_goal (opened x body) (with_hyps (from_to x low high) s) ∷ []))
intro_all quantifier.Some b s low high body = refused

-- `for some` as a hypothesis: its body for a new number
abbrev pub use_some : Quantifier → BoundVariable → Sequent → Term → Term → Term → Term → Answer
use_some quantifier.Some b s h low high body =
    let x = Variable (new_name s b) in only_if (stands_alone h) (Ok (with_hyp (opened x body) (with_hyps (from_to x low high) s) ∷ []))
use_some quantifier.All b s h low high body = refused

-- `for all` as a hypothesis, at a term
abbrev pub inst_all : Quantifier → Sequent → Term → Term → Term → Term → Term → Answer
inst_all quantifier.All s t h low high body = only_if (stands_alone h) (Ok (with_goal (in_range t low high) s ∷ with_hyp (opened t body) s ∷ []))
inst_all quantifier.Some s t h low high body = refused

-- `for some` as a goal, at a term
abbrev pub give_some : Quantifier → Sequent → Term → Term → Term → Term → Answer
give_some quantifier.Some s t low high body = only_if (stands_alone s.goal) (Ok (with_goal (in_range t low high) s ∷ with_goal (opened t body) s ∷ []))
give_some quantifier.All s t low high body = refused

-- ---- intro

-- `A -> B`
abbrev pub intro_infix : TermOp → Sequent → Term → Term → Answer
intro_infix op.Implies s a b = Ok (with_goal b (with_hyp a s) ∷ [])
intro_infix _ s a b = refused

-- `not A`
abbrev pub intro_prefix : TermPrefix → Sequent → Term → Answer
intro_prefix sign.Not s a = Ok (with_goal (Truth false) (with_hyp a s) ∷ [])
intro_prefix _ s a = refused

-- `for all`
abbrev pub intro_ternary : TernaryOp → Sequent → Term → Term → Term → Answer
intro_ternary (ternary.Quantified q b) s low high body = intro_all q b s low high body
intro_ternary (ternary.Update t) s a b c = refused

-- a goal of this form
abbrev pub intro_in : Sequent → Term-F Term → Answer
intro_in s (Term-F.Infix op a b) = intro_infix op s a b
intro_in s (Term-F.Prefix op a) = intro_prefix op s a
intro_in s (Term-F.Ternary op a b c) = intro_ternary op s a b c
intro_in s _ = refused

-- ---- pick

-- the left or the right side of `A or B`
abbrev pub pick_infix : Bool → TermOp → Sequent → Term → Term → Answer
pick_infix left op.Or s a b = Ok (with_goal (if left then a else b) s ∷ [])
pick_infix left _ s a b = refused

-- a goal of this form
abbrev pub pick_in : Bool → Sequent → Term-F Term → Answer
pick_in left s (Term-F.Infix op a b) = pick_infix left op s a b
pick_in left s _ = refused

-- ---- cases

-- `A or B`, and `a /= b` of integers
abbrev pub cases_infix : TermOp → Sequent → Term → Term → Answer
cases_infix op.Or s a b = Ok (with_hyp a s ∷ with_hyp b s ∷ [])
cases_infix op.NotEqual s a b = only_if (is_numeric a) (Ok (with_hyp (Infix op.Less a b) s ∷ with_hyp (Infix op.Greater a b) s ∷ []))
cases_infix _ s a b = refused

-- a hypothesis of this form
abbrev pub cases_in : Sequent → Term-F Term → Answer
cases_in s (Term-F.Infix op a b) = cases_infix op s a b
cases_in s _ = refused

-- ---- use

-- `A and B`, `A -> B` and `A <-> B`
abbrev pub use_infix : TermOp → Sequent → Term → Term → Answer
use_infix op.And s a b = Ok (with_hyps (a ∷ b ∷ []) s ∷ [])
use_infix op.Implies s a b = Ok (with_goal a s ∷ with_hyp b s ∷ [])
use_infix op.Equivalent s a b = Ok (with_hyps (Infix op.Implies a b ∷ Infix op.Implies b a ∷ []) s ∷ [])
use_infix _ s a b = refused

-- `not A`
abbrev pub use_prefix : TermPrefix → Sequent → Term → Answer
use_prefix sign.Not s a = Ok (with_goal a s ∷ [])
use_prefix _ s a = refused

-- `for some`
abbrev pub use_ternary : TernaryOp → Sequent → Term → Term → Term → Term → Answer
use_ternary (ternary.Quantified q b) s h low high body = use_some q b s h low high body
use_ternary (ternary.Update t) s h a b c = refused

-- a hypothesis h of this form
abbrev pub use_in : Sequent → Term → Term-F Term → Answer
use_in s h (Term-F.Infix op a b) = use_infix op s a b
use_in s h (Term-F.Prefix op a) = use_prefix op s a
use_in s h (Term-F.Ternary op a b c) = use_ternary op s h a b c
use_in s h _ = refused

-- ---- inst and give

-- `for all`, at t
abbrev pub inst_ternary : TernaryOp → Sequent → Term → Term → Term → Term → Term → Answer
inst_ternary (ternary.Quantified q b) s t h low high body = inst_all q s t h low high body
inst_ternary (ternary.Update id) s t h a b c = refused

-- a hypothesis h of this form
abbrev pub inst_in : Sequent → Term → Term → Term-F Term → Answer
inst_in s t h (Term-F.Ternary op a b c) = inst_ternary op s t h a b c
inst_in s t h _ = refused

-- `for some`, at t
abbrev pub give_ternary : TernaryOp → Sequent → Term → Term → Term → Term → Answer
give_ternary (ternary.Quantified q b) s t low high body = give_some q s t low high body
give_ternary (ternary.Update id) s t a b c = refused

-- a goal of this form
abbrev pub give_in : Sequent → Term → Term-F Term → Answer
give_in s t (Term-F.Ternary op a b c) = give_ternary op s t a b c
give_in s t _ = refused

-- a term over the names of the sequent, which stands alone
abbrev pub may_stand : Sequent → Term → Bool
may_stand s t = stands_alone t && is_over s t

-- ---- rewrite

-- the changed term as the goal, where there is one
abbrev pub rewrite_goal : Sequent → Option Term → Answer
rewrite_goal s (Some t) = Ok (with_goal t s ∷ [])
rewrite_goal s None = refused

-- as one more hypothesis
abbrev pub rewrite_hyp : Sequent → Option Term → Answer
rewrite_hyp s (Some t) = Ok (with_hyp t s ∷ [])
rewrite_hyp s None = refused

-- `a = b`: b for every a in the goal, or in hypothesis m
abbrev pub rewrite_by : TermOp → Sequent → Option ℤ → Term → Term → Answer
rewrite_by op.Equal s None a b = rewrite_goal s (rewritten a b s.goal)
rewrite_by op.Equal s (Some m) a b = at (hyp_at s m) (λ h. rewrite_hyp s (rewritten a b h))
rewrite_by _ s m a b = refused

-- a hypothesis of this form
abbrev pub rewrite_in : Sequent → Option ℤ → Term-F Term → Answer
rewrite_in s m (Term-F.Infix op a b) = only_if (stands_alone a && stands_alone b) (rewrite_by op s m a b)
rewrite_in s m _ = refused

-- ---- elem

-- the index is in range; the new element where the indexes are equal, and else the element of the array before
abbrev pub elem_at : Sequent → Option Spot → Answer
elem_at s (Some spot) =
    let r = spot.reading in
    Ok (with_goal (in_range r.index (Number r.array.first) (Number r.array.last)) s
    ∷ with_goal (spot.around r.item) (with_hyp (Infix op.Equal r.index r.at) s)
    ∷ with_goal (spot.around (Binary (binary.Element r.array) r.of r.at)) (with_hyp (Infix op.NotEqual r.index r.at) s)
    ∷ [])
elem_at s None = refused

-- ---- div

-- the divisor is not 0, and then all facts on the division
abbrev pub div_by : Sequent → Option Operands → Answer
div_by s (Some o) = Ok (with_goal (Infix op.NotEqual o.divisor zero_term) s ∷ with_hyps (division_facts o.dividend o.divisor) s ∷ [])
div_by s None = refused

-- ---- all rules

-- a step whose terms are read
abbrev pub Rule : Type 0
Rule = RuleOf Term

-- the sequents that a step leaves, or why it is refused
unfoldable pub step : Sequent → Rule → Answer
step s (rule.Hyp n) = at (hyp_at s n) (by_hyp s)
step s rule.Plain = only_if (closes s.hyps s.goal) (Ok [])
step s rule.Split = split_in s (out-Term s.goal)
step s rule.Intro = intro_in s (out-Term s.goal)
step s rule.PickLeft = pick_in true s (out-Term s.goal)
step s rule.PickRight = pick_in false s (out-Term s.goal)
step s (rule.Cases n) = at (hyp_at s n) (λ h. cases_in s (out-Term h))
step s (rule.UseHyp n) = at (hyp_at s n) (λ h. use_in s h (out-Term h))
step s (rule.Cut t) = only_if (is_boolean t && may_stand s t) (Ok (with_goal t s ∷ with_hyp t s ∷ []))
step s (rule.Inst n t) = only_if (is_numeric t && may_stand s t) (at (hyp_at s n) (λ h. inst_in s t h (out-Term h)))
step s (rule.Give t) = only_if (is_numeric t && may_stand s t) (give_in s t (out-Term s.goal))
step s (rule.Rewrite n m) = at (hyp_at s n) (λ h. rewrite_in s m (out-Term h))
step s (rule.Linear entries) = certified s entries
step s rule.Elem = elem_at s (spot_of s.goal)
step s (rule.Div t) = only_if (stands_alone t) (div_by s (division t))

-- a term is well sorted
abbrev pub SomeSort : Types → Term → Type 0
SomeSort types t = (sort : Sort) × (sort_of types t ≡ Some sort)

-- the term that a rule gives is well sorted
abbrev pub RuleSorted : Types → Rule → Type 0
RuleSorted types (rule.Cut t) = SomeSort types t
RuleSorted types (rule.Inst n t) = SomeSort types t
RuleSorted types (rule.Give t) = SomeSort types t
RuleSorted types (rule.Div t) = SomeSort types t
RuleSorted types _ = ⊤

-- where the sequents that a step leaves are valid, so is the sequent
abbrev pub StepIsValid : Type 0
StepIsValid = (types : Types) (s : Sequent) (r : Rule) → Sorted types s → RuleSorted types r → Leads types s (step s r)
