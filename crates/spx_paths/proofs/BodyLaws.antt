-- The steps of a whole body.
use Rattle.std.proofs.Common.{◌≡◌, ℕ, Bool, List, [], ◌∷◌, length, map, reverse, None, Some, refl, sym, ap, ◌∙◌, subst, get_or, nat_lt}
use Rattle.std.specs.Prelude.{slice_get}
use Rattle.std.specs.List.{flat_map}
use Rattle.std.proofs.lemmas.List.{reverse-append}
use Rattle.std.proofs.lemmas.Option.{get_or_from_slice_get}
use Rattle.spx_core.specs.declared.expression.CoreExpr.{CoreExpr}
use Rattle.spx_core.specs.declared.program.Program.{Program}
use Rattle.spx_core.specs.declared.statement.CoreCount.{CoreCount}
use Rattle.spx_core.specs.declared.statement.CoreStmt.{CoreStmt}
use Rattle.spx_core.specs.declared.subprogram.CorePredicate.{CorePredicate}
use Rattle.spx_core.specs.declared.subprogram.Sub.{Sub}
use Rattle.spx_core.specs.Commands.{commands}
use Rattle.spx_core.specs.Formals.{formals, locals}
use Rattle.spx_term.specs.declared.condition.CondKind.TheVariants as kind
use Rattle.spx_term.specs.declared.term.Term.{Term}
use Rattle.spx_term.specs.Paths.{branches}
use Rattle.spx_term.specs.Steps.{Tree, Cut, assume_all}
use Rattle.spx_arena.specs.declared.terms.TermId.{TermId}
use Rattle.spx_arena.specs.Claims.{trees_at}
use Rattle.spx_steps.specs.declared.steps.StepId.{StepId}
use Rattle.spx_steps.specs.declared.steps.Steps.{Steps}
use Rattle.spx_steps.specs.Trees.{AreSteps, IsStep, MoreSteps, cut_tree as cut_tree_at, step_tree}
use Rattle.spx_steps.specs.Counts.{path_total}
use Rattle.spx_steps.proofs.Arena.{more_not, more_twice}
use Rattle.spx_paths.specs.declared.body.BodySteps.{BodySteps}
use Rattle.spx_paths.specs.declared.draft.Draft.{Draft}
use Rattle.spx_paths.specs.Drafts.{AddsCuts, AddsTerms, Builds, BuildsCuts, IsBodyOf, Lays, Makes, Ready, Stands, cut_tree, known_at_cuts}
use Rattle.spx_paths.specs.Limits.{has_many_paths}
use Rattle.spx_formula.specs.Terms.{entry_term, term_of}
use Rattle.spx_paths.specs.Walks.{asserted, cuts, ending, ending_with, entering, first_facts, initializing, path_count, start_tree, walk}
use Rattle.spx_paths.specs.declared.fault.TheConstants.{MOST_PATHS}
use Rattle.spx_paths.proofs.BuildLaws.{lays_along, step_kept}
use Rattle.spx_paths.proofs.CutLists.{both_steps, wider_steps}
use Rattle.spx_paths.proofs.CountLaws.{paths_are_counted}

-- ---- roots
steps_reversed : (ids : List StepId) (n : ℕ) → AreSteps n ids → AreSteps n (reverse ids)
steps_reversed [] n are = tt
steps_reversed (id ∷ ids) n are = subst (AreSteps n) (sym (reverse-append (id ∷ []) ids)) (both_steps n (reverse ids) (id ∷ []) (steps_reversed ids n are.1) (are.0, tt))

-- the trees from cuts are the same where steps and terms were added
cuts_kept : {a b : Steps} (p : Program) (sub : Sub) (known : List Term) (ids : List StepId) → MoreSteps a b → AreSteps (length a.nodes) ids → known ≡ known_at_cuts p sub → map (cut_tree_at b known) ids ≡ map (cut_tree p sub a) ids
cuts_kept p sub known [] m are is = refl
cuts_kept p sub known (id ∷ ids) m are is = λ i. assume_all (is i) (m.kept id are.0 i) ∷ cuts_kept p sub known ids m are.1 is i

pub is_body : {c d e : Draft} {start : StepId} {known : List TermId} {after all : List StepId} (p : Program) (sub : Sub) → Lays c d start (start_tree p sub) → AddsTerms d e known (known_at_cuts p sub)
    → AddsCuts p sub c [] after (cuts p sub [] (commands sub.statements) (ending p sub) (ending p sub)) → all ≡ reverse after → IsBodyOf p sub (record { steps = e.steps; roots = record { start = start; known = known; cuts = all } })
is_body {c} {d} {e} {start} {known} {after} {all} p sub l t a is =
    let m = more_twice l.grown t.grown in
    let first = step_kept l.made t.grown in
    let in_order : all ≡ reverse a.more = is ∙ ap reverse a.is in
    let longer = m.more in
    let turned = steps_reversed a.more (length c.steps.nodes) a.within in
    record {
      order = t.order;
      roots = record { start = first.within; known = t.within; cuts = subst (AreSteps (length e.steps.nodes)) (sym in_order) (wider_steps (reverse a.more) longer turned) };
      trees =
          (λ i. first.tree i ∷ map (cut_tree_at e.steps (trees_at e.steps.terms known)) (in_order i))
          ∙ ap (λ trees. start_tree p sub ∷ trees) (cuts_kept p sub (trees_at e.steps.terms known) (reverse a.more) m turned t.trees ∙ a.trees);
    }

-- ---- the number of paths
pub many_paths : (p : Program) (sub : Sub) (body : BodySteps) → IsBodyOf p sub body → path_total body.steps body.roots ≡ path_count sub
many_paths p sub body is = ap (λ trees. length (flat_map branches trees)) is.trees ∙ paths_are_counted p sub

pub has_many : (p : Program) (sub : Sub) (body : BodySteps) {many found : Bool} → IsBodyOf p sub body → many ≡ nat_lt MOST_PATHS (path_total body.steps body.roots) → many ≡ found → has_many_paths sub ≡ found
has_many p sub body is counted was = ap (nat_lt MOST_PATHS) (sym (many_paths p sub body is)) ∙ sym counted ∙ was

-- the subprogram at a position
pub the_sub : (subs list : List Sub) (i : ℕ) (first sub : Sub) → list ≡ subs → first ≡ get_or list i first → slice_get subs i ≡ Some sub → first ≡ sub
the_sub subs list i first sub same is at = is ∙ ap (λ xs. get_or xs i first) same ∙ get_or_from_slice_get subs i sub first at

-- from the end of a body to its start
pub roots_are : {a b c d e : Draft} {end first start : StepId} {known : List TermId} {before after all : List StepId} (p : Program) (sub : Sub) (stmts : List CoreStmt) (within : List CoreCount) → Makes a b end (ending p sub 0) → stmts ≡ sub.statements → within ≡ [] → before ≡ []
    → BuildsCuts p sub within b c before after (commands stmts) end end → Builds p sub b c (commands stmts) end end first
    → Lays c d start (entering p sub (formals sub) (initializing p (locals sub) (assume_all (first_facts p sub) (step_tree c.steps first)))) → AddsTerms d e known (known_at_cuts p sub) → all ≡ reverse after
    → IsBodyOf p sub (record { steps = e.steps; roots = record { start = start; known = known; cuts = all } })
roots_are {a} {b} {c} {d} {e} {end} {first} {start} {known} {before} {after} {all} p sub stmts within m are none nothing cut built l t is =
    let there : Stands b end (ending p sub) = record { within = m.made.within; tree = λ made. m.made.tree } in
    let stands = built.stands (ending p sub) (ending p sub) there there in
    let whole : Lays c d start (start_tree p sub) =
    lays_along (start_tree p sub) l (ap (λ t. entering p sub (formals sub) (initializing p (locals sub) (assume_all (first_facts p sub) t))) (stands.tree 0 ∙ ap (λ ss. walk p sub (commands ss) (ending p sub) (ending p sub) 0) are)) in
    let added = cut.adds (ending p sub) (ending p sub) there there in
    let cuts_at : AddsCuts p sub c [] after (cuts p sub [] (commands sub.statements) (ending p sub) (ending p sub)) =
    subst (λ (ids : List StepId). AddsCuts p sub c ids after (cuts p sub [] (commands sub.statements) (ending p sub) (ending p sub))) nothing
    (subst (λ (trees : List Tree). AddsCuts p sub c before after trees) (λ i. cuts p sub (none i) (commands (are i)) (ending p sub) (ending p sub)) added) in
    is_body p sub whole t cuts_at is

-- ---- the end
pub ended_not : {a : Draft} {cut : StepId} (p : Program) (sub : Sub) → Ready a → IsStep a.steps cut Cut → sub.post ≡ None → Makes a a cut (ending p sub 0)
ended_not {a} p sub ready made is = record { ready = ready; grown = more_not a.steps; made = record { within = made.within; tree = made.tree ∙ ap (ending_with p sub) (sym is) } }

pub ended_by : {a b : Draft} {cut id : StepId} (p : Program) (sub : Sub) (post : CorePredicate) (e : CoreExpr) → Makes a b id (asserted kind.Post post.place (term_of p (entry_term p sub) e) (step_tree a.steps cut)) → IsStep a.steps cut Cut → sub.post ≡ Some post → e ≡ post.condition
    → Makes a b id (ending p sub 0)
ended_by p sub post e m made is same = record {
  ready = m.ready;
  grown = m.grown;
  made = record { within = m.made.within; tree = m.made.tree ∙ (λ i. asserted kind.Post post.place (term_of p (entry_term p sub) (same i)) (made.tree i)) ∙ ap (ending_with p sub) (sym is) };
}
