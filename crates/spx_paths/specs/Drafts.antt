-- Steps that are made from the end of a body to its start.
use Rattle.std.specs.Prelude.{◌≡◌, ℕ, ◌<◌, Bool, Option, Some, None, List, [], ◌∷◌, ◌++◌, flat_map, length, map, reverse, option_map, IfSome}
use Rattle.spx_core.specs.declared.program.Program.{Program}
use Rattle.spx_core.specs.declared.expression.CoreExpr.{CoreExpr}
use Rattle.spx_core.specs.declared.subprogram.Sub.{Sub}
use Rattle.spx_core.specs.declared.statement.CoreAlternative.{CoreAlternative}
use Rattle.spx_core.specs.declared.statement.CoreArm.{CoreArm}
use Rattle.spx_core.specs.declared.statement.CoreCount.{CoreCount}
use Rattle.spx_core.specs.Formals.{formals, locals}
use Rattle.spx_core.specs.declared.statement.CoreStmt.{CoreStmt}
use Rattle.spx_core.specs.Commands.{Command, Head, arm_before, arms_before, commands, has_own_cut}
use Rattle.spx_term.specs.declared.condition.CondKind.TheVariants as kind
use Rattle.spx_term.specs.declared.term.Term.{Term}
use Rattle.spx_term.specs.declared.term.Term.TheVariants as term
use Rattle.spx_term.specs.declared.term.TermOp.TheVariants as operator
use Rattle.spx_text.specs.declared.place.Place.{Place}
use Rattle.spx_meaning.specs.Stores.{type_of}
use Rattle.spx_term.specs.Steps.{Tree, Assign, Assume, Cut, Split, assume_all, check}
use Rattle.spx_arena.specs.declared.terms.TermId.{TermId}
use Rattle.spx_arena.specs.Claims.{AreIds, trees_at}
use Rattle.spx_arena.specs.Sharing.{IsId}
use Rattle.spx_steps.specs.declared.steps.StepId.{StepId}
use Rattle.spx_steps.specs.declared.steps.Steps.{Steps}
use Rattle.spx_steps.specs.Trees.{AreRoots, AreSteps, InOrder, IsStep, MoreSteps, root_trees, step_tree}
use Rattle.spx_paths.specs.declared.body.BodySteps.{BodySteps}
use Rattle.spx_paths.specs.declared.build.Body.{Body}
use Rattle.spx_paths.specs.declared.build.Next.{Next}
use Rattle.spx_core.specs.declared.subprogram.CorePredicate.{CorePredicate}
use Rattle.spx_term.specs.Conjuncts.{conjuncts}
use Rattle.spx_formula.specs.declared.entered.Entered.{Entered}
use Rattle.spx_formula.specs.EntryNames.{IsInterfaceOf, meant}
use Rattle.spx_paths.specs.declared.draft.Check.{Check}
use Rattle.spx_paths.specs.declared.draft.Draft.{Draft}
use Rattle.spx_paths.specs.Checks.{checks}
use Rattle.spx_formula.specs.Terms.{now, now_term, term_of}
use Rattle.spx_paths.specs.Walks.{again, as_far_as_cut, count_facts, cuts, decided, entering_loop, entry_facts, high_term, loop_cut, low_term, pre_facts_on_entry, start_term, trees_of, var_facts, walk}
use Rattle.spx_formula.specs.Goals.{range_goal}

-- checks before a tree
abbrev pub laid : List Term → List Check → Tree → Tree
laid trees [] rest = rest
laid trees (c ∷ cs) rest = check c.kind c.place (trees_at trees c.goals) (laid trees cs rest)

abbrev pub AreChecks : ℕ → List Check → Type 0
AreChecks n [] = Unit {0}
AreChecks n (c ∷ cs) = AreIds n c.goals × AreChecks n cs

-- no check waits for its place
pub record Ready (d : Draft) : Type 0 where
  pub order : InOrder d.steps
  pub none : d.checks ≡ []

-- a step was made, and the checks that wait are the same
pub record Lays (old new : Draft) (id : StepId) (t : Tree) : Type 0 where
  pub order : InOrder new.steps
  pub grown : MoreSteps old.steps new.steps
  pub checks : new.checks ≡ old.checks
  pub made : IsStep new.steps id t

-- a step was made
pub record Makes (old new : Draft) (id : StepId) (t : Tree) : Type 0 where
  pub ready : Ready new
  pub grown : MoreSteps old.steps new.steps
  pub made : IsStep new.steps id t

-- the checks of an expression wait, and the id is that of its term
pub record Evaluates (p : Program) (old new : Draft) (e : CoreExpr) (id : TermId) : Type 0 where
  pub order : InOrder new.steps
  pub grown : MoreSteps old.steps new.steps
  pub nodes : new.steps.nodes ≡ old.steps.nodes
  pub are : AreChecks (length new.steps.terms) new.checks
  pub checks : (rest : Tree) → laid new.steps.terms new.checks rest ≡ checks p (now_term p) [] e rest
  pub made : IsId new.steps.terms id (term_of p (now_term p) e)

-- the checks of an expression wait after those that waited, and the id is that of its term
pub record AlsoWaits (p : Program) (old new : Draft) (e : CoreExpr) (id : TermId) : Type 0 where
  pub order : InOrder new.steps
  pub grown : MoreSteps old.steps new.steps
  pub nodes : new.steps.nodes ≡ old.steps.nodes
  pub are : AreChecks (length new.steps.terms) new.checks
  pub checks : (rest : Tree) → laid new.steps.terms new.checks rest ≡ laid old.steps.terms old.checks (checks p (now_term p) [] e rest)
  pub made : IsId new.steps.terms id (term_of p (now_term p) e)

-- a term was made, and no step
pub record AddsTerm (old new : Draft) (id : TermId) (t : Term) : Type 0 where
  pub order : InOrder new.steps
  pub grown : MoreSteps old.steps new.steps
  pub nodes : new.steps.nodes ≡ old.steps.nodes
  pub checks : new.checks ≡ old.checks
  pub made : IsId new.steps.terms id t

-- a step stands for this, whatever the number of values that calls have made before
pub record Stands (d : Draft) (id : StepId) (way : ℕ → Tree) : Type 0 where
  pub within : id.0 < length d.steps.nodes
  pub tree : (made : ℕ) → step_tree d.steps id ≡ way made

-- a command was made into steps: from there on are its steps and what follows it
pub record Builds (p : Program) (sub : Sub) (old new : Draft) (c : Command) (rest leave : StepId) (id : StepId) : Type 0 where
  pub ready : Ready new
  pub grown : MoreSteps old.steps new.steps
  pub stands : (on out : ℕ → Tree) → Stands old rest on → Stands old leave out → Stands new id (walk p sub c on out)

-- terms were made, and no step
pub record AddsTerms (old new : Draft) (ids : List TermId) (ts : List Term) : Type 0 where
  pub order : InOrder new.steps
  pub grown : MoreSteps old.steps new.steps
  pub checks : new.checks ≡ old.checks
  pub within : AreIds (length new.steps.terms) ids
  pub trees : trees_at new.steps.terms ids ≡ ts

-- the same, after terms that were there
abbrev pub AddsMore : (old new : Draft) (before after : List TermId) → List Term → Type 0
AddsMore old new before after ts = AddsTerms old new after (trees_at old.steps.terms before ++ ts)

-- the parts of a precondition, where names stand so
abbrev pub pre_parts : Program → Entered → Option CorePredicate → List Term
pre_parts p entered None = []
pre_parts p entered (Some pre) = conjuncts (meant p entered pre.condition)

-- ---- cuts

-- what is known of variables after each cut of a body
abbrev pub known_at_cuts : Program → Sub → List Term
known_at_cuts p sub = flat_map (var_facts p) (formals sub) ++ (flat_map (var_facts p) (locals sub) ++ flat_map (entry_facts p sub) (formals sub))

-- what else is known after a cut inside these loops, where this is known
abbrev pub else_known : Program → Sub → List CoreCount → List Term → List Term
else_known p sub within known = flat_map (count_facts p sub) within ++ (pre_facts_on_entry p sub sub.pre ++ known)

-- the tree from a cut
abbrev pub cut_tree : Program → Sub → Steps → StepId → Tree
cut_tree p sub s id = assume_all (known_at_cuts p sub) (step_tree s id)

-- steps from cuts were added, the last one first: these are their trees, the first one first
pub record AddsCuts (p : Program) (sub : Sub) (new : Draft) (before after : List StepId) (added : List Tree) : Type 0 where
  pub more : List StepId
  pub is : after ≡ before ++ more
  pub within : AreSteps (length new.steps.nodes) more
  pub trees : map (cut_tree p sub new.steps) (reverse more) ≡ added

-- the steps from the cuts in a command were added
pub record BuildsCuts (p : Program) (sub : Sub) (within : List CoreCount) (old new : Draft) (before after : List StepId) (c : Command) (rest leave : StepId) : Type 0 where
  pub adds : (on out : ℕ → Tree) → Stands old rest on → Stands old leave out → AddsCuts p sub new before after (cuts p sub within c on out)

-- ---- the interface and what follows

-- the bounds lie in the type where there is a value between them; then the loop is entered, or it is passed
abbrev pub between_bounds : Program → Sub → CoreCount → Place → (into out : Tree) → Tree
between_bounds p sub c place into out =
    let low = low_term p sub c in
    let high = high_term p sub c in
    check kind.Range place (range_goal (type_of p c.parameter) low high ∷ []) (
    Split
    (Assume (term.Infix operator.LessOrEqual low high) (Assign (now p c.parameter) (start_term p sub c) into))
    (Assume (term.Infix operator.Greater low high) out))

-- paths end at the step for that, and the interface is that of the subprogram
pub record IsBegun (d : Draft) (b : Body) : Type 0 where
  pub cut : IsStep d.steps b.cut Cut
  pub interface : IsInterfaceOf b.sub.now b.interface.now

-- both steps are there
pub record Leads (d : Draft) (n : Next) : Type 0 where
  pub rest : n.rest.0 < length d.steps.nodes
  pub leave : n.leave.0 < length d.steps.nodes

-- the condition is checked, and decides which way is taken
abbrev pub decided_tree : Program → CoreExpr → (is_exit : Bool) → (holds fails : Tree) → Tree
decided_tree p condition is_exit holds fails = decided p condition is_exit (λ made. holds) (λ made. fails) 0

-- arms were made into steps: whatever stands last, from there on are the arms, what stands last, and what follows
pub record BuildsArms (p : Program) (sub : Sub) (old new : Draft) (arms : List CoreArm) (otherwise rest leave : StepId) (id : StepId) : Type 0 where
  pub ready : Ready new
  pub grown : MoreSteps old.steps new.steps
  pub within : id.0 < length new.steps.nodes
  pub stands : (last : Command) (on out : ℕ → Tree) → Stands old rest on → Stands old leave out → Stands old otherwise (walk p sub last on out) → Stands new id (walk p sub (arms_before last (map arm_before arms)) on out)

-- what is done where no arm is taken: no `else` does nothing
abbrev pub done_otherwise : Option (List CoreStmt) → List CoreStmt
done_otherwise None = []
done_otherwise (Some stmts) = stmts

-- the cuts in an arm of an `if`
abbrev pub arm_cuts : Program → Sub → List CoreCount → (on out : ℕ → Tree) → CoreArm → List Tree
arm_cuts p sub within on out arm = cuts p sub within (commands arm.body) on out

-- an alternative, and the others after it if there are any
abbrev pub before_others : Tree → Option Tree → Tree
before_others taken None = taken
before_others taken (Some others) = Split taken others

-- the cuts in an alternative of a `case`
abbrev pub alternative_cuts : Program → Sub → List CoreCount → (on out : ℕ → Tree) → CoreAlternative → List Tree
alternative_cuts p sub within on out alternative = cuts p sub within (commands alternative.body) on out

-- alternatives with what is known in each; none where there is none
abbrev pub all_taken : Program → Sub → List (List Term) → List CoreAlternative → (on out : ℕ → Tree) → ℕ → Option Tree
all_taken p sub (known ∷ others) (alternative ∷ more) on out made =
    Some (before_others (assume_all known (walk p sub (commands alternative.body) on out made)) (all_taken p sub others more on out made))
all_taken p sub known alternatives on out made = None

-- alternatives were made into steps
pub record BuildsAlternatives (p : Program) (sub : Sub) (old new : Draft) (known : List (List Term)) (alternatives : List CoreAlternative) (rest leave : StepId) (first : Option StepId) : Type 0 where
  pub ready : Ready new
  pub grown : MoreSteps old.steps new.steps
  pub within : IfSome first (λ id. id.0 < length new.steps.nodes)
  pub stands : (on out : ℕ → Tree) → Stands old rest on → Stands old leave out → (made : ℕ) → option_map (step_tree new.steps) first ≡ all_taken p sub known alternatives on out made

-- ---- loops, from where they are left

-- a loop was made into steps: from there on are its turns, and where it is left
pub record BuildsLoop (p : Program) (sub : Sub) (old new : Draft) (head : Head) (turn : Command) (leave : StepId) (id : StepId) : Type 0 where
  pub ready : Ready new
  pub grown : MoreSteps old.steps new.steps
  pub stands : (out : ℕ → Tree) → Stands old leave out → Stands new id (entering_loop p sub head (as_far_as_cut (has_own_cut turn) (walk p sub turn (λ m. Cut) out)) out)

-- where a turn ends the loop begins again, or it is left
abbrev pub turn_again : Program → Sub → Head → Command → (out : ℕ → Tree) → ℕ → Tree
turn_again p sub head turn out = again p sub head (as_far_as_cut (has_own_cut turn) (walk p sub turn (λ m. Cut) out)) out

-- the steps from the cuts in a loop were added
pub record BuildsTurnCuts (p : Program) (sub : Sub) (within : List CoreCount) (old new : Draft) (before after : List StepId) (head : Head) (turn : Command) (leave : StepId) : Type 0 where
  pub adds : (out : ℕ → Tree) → Stands old leave out
      → AddsCuts p sub new before after (loop_cut p sub within (has_own_cut turn) (walk p sub turn (turn_again p sub head turn out) out 0) ++ cuts p sub within turn (turn_again p sub head turn out) out)

-- ---- bodies

-- the steps of a body, and those at which its paths begin
pub record IsBodyOf (p : Program) (sub : Sub) (body : BodySteps) : Type 0 where
  pub order : InOrder body.steps
  pub roots : AreRoots body.steps body.roots
  pub trees : root_trees body.steps body.roots ≡ trees_of p sub
