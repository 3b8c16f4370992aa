-- The checks of an expression while they wait for their place.
use Rattle.std.specs.Prelude.{◌≡◌, List, length}
use Rattle.spx_core.specs.declared.expression.CoreExpr.{CoreExpr}
use Rattle.spx_core.specs.declared.program.Program.{Program}
use Rattle.spx_term.specs.declared.term.Term.{Term}
use Rattle.spx_term.specs.Steps.{Tree}
use Rattle.spx_arena.specs.declared.terms.TermId.{TermId}
use Rattle.spx_arena.specs.Claims.{trees_at}
use Rattle.spx_arena.specs.Sharing.{tree_at}
use Rattle.spx_steps.specs.Trees.{InOrder, MoreSteps}
use Rattle.spx_paths.specs.Checks.{checks}
use Rattle.spx_paths.specs.Drafts.{AreChecks, laid}
use Rattle.spx_formula.specs.Terms.{now_term, term_of}
use Rattle.spx_paths.specs.declared.draft.Draft.{Draft}

-- all ids are those of terms and steps
pub record Whole (d : Draft) : Type 0 where
  pub order : InOrder d.steps
  pub checks : AreChecks (length d.steps.terms) d.checks

-- terms and checks were added, and no step
pub record Keeps (old new : Draft) : Type 0 where
  pub whole : Whole new
  pub grown : MoreSteps old.steps new.steps
  pub nodes : new.steps.nodes ≡ old.steps.nodes

-- these checks were added
pub record Finds (old new : Draft) (found : Tree → Tree) : Type 0 where
  pub laid : (rest : Tree) → laid new.steps.terms new.checks rest ≡ laid old.steps.terms old.checks (found rest)

-- the id stands for this term
pub record Means (d : Draft) (id : TermId) (t : Term) : Type 0 where
  pub tree : tree_at d.steps.terms id ≡ t

-- the same for several
pub record MeanAll (d : Draft) (ids : List TermId) (ts : List Term) : Type 0 where
  pub trees : trees_at d.steps.terms ids ≡ ts

-- these checks were added, and the id stands for the term
pub record Gives (old new : Draft) (found : Tree → Tree) (id : TermId) (t : Term) : Type 0 where
  pub finds : Finds old new found
  pub means : Means new id t

-- the checks of an expression under these left sides were added, and the id stands for its term
pub record Checked (p : Program) (lefts : List TermId) (old new : Draft) (e : CoreExpr) (id : TermId) : Type 0 where
  pub gives : (ls : List Term) → MeanAll old lefts ls → Gives old new (checks p (now_term p) ls e) id (term_of p (now_term p) e)
