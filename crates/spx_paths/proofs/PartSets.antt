-- Assignments to parts of variables.
use Rattle.std.proofs.Common.{◌≡◌, ◌+◌, ◌<◌, ◌≤◌, ℕ, List, [], ◌∷◌, ◌++◌, length, map, take, get_or, Some, refl, sym, ap, ◌∙◌, subst, arith}
use Rattle.std.proofs.lemmas.List.{take_all, take_more}
use Rattle.spx_core.specs.declared.entity.TheConstants.{UNIVERSAL}
use Rattle.spx_core.specs.declared.entity.VarId.{VarId}
use Rattle.spx_core.specs.declared.entity.Subtype.{Subtype}
use Rattle.spx_core.specs.declared.expression.CoreExpr.{CoreExpr}
use Rattle.spx_core.specs.declared.part.Indexing.{Indexing}
use Rattle.spx_core.specs.declared.part.PartStep.{PartStep}
use Rattle.spx_core.specs.declared.part.Selection.{Selection}
use Rattle.spx_tree.specs.declared.expression.Identifier.{Identifier}
use Rattle.spx_core.specs.declared.part.PartStep.TheVariants as part
use Rattle.spx_core.specs.declared.part.Target.{Target}
use Rattle.spx_core.specs.declared.program.Program.{Program}
use Rattle.spx_core.specs.Judged.{part_type}
use Rattle.spx_core.specs.Places.{place_of}
use Rattle.spx_core.specs.Uses.{variable_of}
use Rattle.spx_text.specs.declared.place.Place.{Place}
use Rattle.spx_term.specs.declared.term.Name.{Name}
use Rattle.spx_term.specs.declared.term.Term.{Term}
use Rattle.spx_term.specs.declared.term.Term.TheVariants.{Variable}
use Rattle.spx_term.specs.Parts.{with_end_term}
use Rattle.spx_term.specs.Steps.{Tree, Assign, assume_all}
use Rattle.spx_meaning.specs.Stores.{type_of}
use Rattle.spx_arena.specs.declared.terms.TermId.{TermId}
use Rattle.spx_arena.specs.Claims.{trees_at}
use Rattle.spx_arena.specs.Sharing.{tree_at, Adds}
use Rattle.spx_arena.proofs.Growth.{grows_twice}
use Rattle.spx_steps.specs.declared.steps.StepId.{StepId}
use Rattle.spx_steps.specs.declared.steps.Steps.{Steps}
use Rattle.spx_steps.specs.Trees.{AddsStep, InOrder, MoreSteps, step_tree}
use Rattle.spx_steps.proofs.Arena.{more_terms, more_twice}
use Rattle.spx_formula.specs.Added.{AddsAll}
use Rattle.spx_formula.specs.Goals.{in_type}
use Rattle.spx_formula.specs.Terms.{named, now, now_term, step_of, term_of}
use Rattle.spx_paths.specs.declared.draft.Draft.{Draft}
use Rattle.spx_paths.specs.Checks.{checks, index_check, way_checks}
use Rattle.spx_paths.specs.Drafts.{AreChecks, Lays, Makes, Ready, laid}
use Rattle.spx_paths.specs.Waiting.{Checked, Finds, Keeps, MeanAll, Means, Whole}
use Rattle.spx_paths.specs.Walks.{assigned, part_assigned, range_check, set_on, set_tree}
use Rattle.spx_paths.proofs.BuildLaws.{checks_kept, lays_more, wider_checks}
use Rattle.spx_paths.proofs.CheckSteps.{finds_along, finds_twice, keeps_twice, only_finds, only_keeps, with_terms}

-- ---- the checks on a way

-- a way and one more step
way_more : (p : Program) (entered : VarId → Term) (way : List PartStep) (step : PartStep) (rest : Tree) → way_checks p entered (way ++ step ∷ []) rest ≡ way_checks p entered way (way_checks p entered (step ∷ []) rest)
way_more p entered [] step rest = refl
way_more p entered (part.Index place i x ∷ way) step rest = ap (λ t. checks p entered [] i (index_check [] x (place_of i) (term_of p entered i) t)) (way_more p entered way step rest)
way_more p entered (part.Field field x ∷ way) step rest = way_more p entered way step rest

pub next_step : (p : Program) {a b c : Draft} (way : List PartStep) (k : ℕ) (step : PartStep) → k < length way → step ≡ get_or way k step → Finds a b (way_checks p (now_term p) (take k way)) → Finds b c (way_checks p (now_term p) (step ∷ []))
    → Finds a c (way_checks p (now_term p) (take (k + 1) way))
next_step p {a} {b} {c} way k step within is f g =
    let one : take (k + 1) way ≡ take k way ++ step ∷ [] = take_more way k step within ∙ ap (λ s. take k way ++ s ∷ []) (sym is) in
    finds_along (λ rest. ap (λ xs. way_checks p (now_term p) xs rest) one ∙ way_more p (now_term p) (take k way) step rest) (finds_twice f g)

pub all_steps : (p : Program) {a b : Draft} (way : List PartStep) (k : ℕ) → length way ≤ k → Finds a b (way_checks p (now_term p) (take k way)) → Finds a b (way_checks p (now_term p) way)
all_steps p {a} {b} way k most f = subst (λ (xs : List PartStep). Finds a b (way_checks p (now_term p) xs)) (take_all k way most) f

-- the check of one index
pub index_found : {p : Program} {a b c : Draft} {id : TermId} {at : Place} {y : Indexing} {j : CoreExpr} (step : PartStep) (place : Place) (i : CoreExpr) (x : Indexing) → step ≡ part.Index place i x → j ≡ i → y ≡ x → at ≡ place_of i → Checked p [] a b j id
    → ((ls : List Term) (t : Term) → MeanAll b [] ls → Means b id t → Finds b c (index_check ls y at t)) → Finds a c (way_checks p (now_term p) (step ∷ []))
index_found {p} {a} {b} {c} {id} {at} {y} {j} step place i x is same_i same_x at_is v check =
    let none : MeanAll a [] [] = record { trees = refl } in
    let w = subst (λ (e : CoreExpr). Checked p [] a b e id) same_i v in
    let g = w.gives [] none in
    let h = check [] (term_of p (now_term p) i) (record { trees = refl }) g.means in
    finds_along (λ rest. ap (λ s. way_checks p (now_term p) (s ∷ []) rest) is ∙ (λ k. checks p (now_term p) [] i (index_check [] (sym same_x k) (sym at_is k) (term_of p (now_term p) i) rest))) (finds_twice g.finds h)

pub no_index : (p : Program) (a : Draft) (step : PartStep) (field : Identifier) (x : Selection) → step ≡ part.Field field x → Finds a a (way_checks p (now_term p) (step ∷ []))
no_index p a step field x is = record { laid = λ rest. ap (λ s. laid a.steps.terms a.checks (way_checks p (now_term p) (s ∷ []) rest)) (sym is) }

-- ---- the new whole

-- the variable takes it, and it is known to lie in its type
pub whole_put : {a c : Draft} {m n : List Term} {s : Steps} {value whole : TermId} {ids same : List TermId} {known id next : StepId} {name : Name} {subtype : Subtype} (p : Program) (v : VarId) → InOrder a.steps → whole.0 < length a.steps.terms → next.0 < length a.steps.nodes
    → name ≡ now p v → subtype ≡ type_of p v → Adds a.steps.terms m value (Variable name) → AddsAll m n ids (in_type subtype (tree_at m value)) → same ≡ ids
    → AddsStep (record { terms = n; nodes = a.steps.nodes }) s known (assume_all (trees_at n same) (step_tree (record { terms = n; nodes = a.steps.nodes }) next)) → AddsStep s c.steps id (Assign name (tree_at s.terms whole) (step_tree s known)) → c.checks ≡ a.checks
    → Lays a c id (part_assigned p (Some v) (tree_at a.steps.terms whole) (step_tree a.steps next))
whole_put {a} {c} {m} {n} {s} {value} {whole} {ids} {same} {known} {id} {next} {name} {subtype} p v order w within name_is type_is made facts same_is taken put e =
    let g = grows_twice made.grown facts.grown in
    let b : Steps = record { terms = n; nodes = a.steps.nodes } in
    let more = more_terms {old = a.steps} {new = b} order g refl in
    let here : tree_at m value ≡ now_term p v = made.made.tree ∙ ap Variable name_is in
    let all : trees_at n same ≡ in_type (type_of p v) (now_term p v) = ap (trees_at n) same_is ∙ facts.trees ∙ (λ k. in_type (type_is k) (here k)) in
    let after : step_tree s known ≡ assume_all (in_type (type_of p v) (now_term p v)) (step_tree a.steps next) = taken.made.tree ∙ (λ k. assume_all (all k) (more.kept next within k)) in
    let stays : tree_at s.terms whole ≡ tree_at a.steps.terms whole = ap (λ (ts : List Term). tree_at ts whole) taken.terms ∙ g.kept whole w in
    record {
      order = put.whole;
      grown = more_twice more (more_twice taken.grown put.grown);
      checks = e;
      made = record { within = put.made.within; tree = put.made.tree ∙ (λ k. Assign (name_is k) (stays k) (after k)) };
    }

-- ---- an assignment to a part
-- checks that were found are put before a step
laid_before : {a b c d : Draft} {at id : StepId} {t : Tree} (f : Tree → Tree) (u : Tree) → Ready a → Keeps a b → Finds a b f → Lays b c at t → Makes c d id (laid c.steps.terms c.checks (step_tree c.steps at)) → t ≡ u → Makes a d id (f u)
laid_before {a} {b} {c} {d} {at} {id} {t} f u ready k found l m is = record {
  ready = m.ready;
  grown = more_twice k.grown (more_twice l.grown m.grown);
  made = record {
    within = m.made.within;
    tree =
        m.made.tree
        ∙ (λ i. laid c.steps.terms (l.checks i) ((l.made.tree ∙ is) i))
        ∙ checks_kept b.checks u l.grown.terms k.whole.checks
        ∙ found.laid u
        ∙ ap (λ cs. laid a.steps.terms cs (f u)) ready.none;
  };
}

-- the checks still wait after steps were made
pub checks_wait : {x d f : Draft} → Whole x → MoreSteps x.steps d.steps → d.checks ≡ x.checks → MoreSteps d.steps f.steps → f.checks ≡ d.checks → AreChecks (length f.steps.terms) f.checks
checks_wait {x} {d} {f} whole m e n q = subst (AreChecks (length f.steps.terms)) (sym (q ∙ e)) (wider_checks x.checks (more_twice m n).terms.more whole.checks)

module _ (p : Program) (target : Target) (e : CoreExpr) where
  abbrev way : List PartStep
  way = target.way

  abbrev term : Term
  term = term_of p (now_term p) e

  abbrev new_whole : Term → Term
  new_whole t = with_end_term (map (step_of p (now_term p)) way) (named (now_term p) (variable_of target.root.entity)) t

  abbrev put_part : Tree → Tree
  put_part rest = range_check (part_type UNIVERSAL way) (place_of e) term (part_assigned p (variable_of target.root.entity) (new_whole term) rest)

  -- the tree of an assignment to a part
  part_form : 0 < length way → (rest : Tree) → way_checks p (now_term p) way (checks p (now_term p) [] e (put_part rest)) ≡ set_tree p target e rest
  part_form some rest = by_way way some
    where
      by_way : (steps : List PartStep) → 0 < length steps
          → way_checks p (now_term p) steps
          (checks p (now_term p) [] e
          (range_check (part_type UNIVERSAL steps) (place_of e) term (part_assigned p (variable_of target.root.entity) (with_end_term (map (step_of p (now_term p)) steps) (named (now_term p) (variable_of target.root.entity)) term) rest)))
          ≡ set_on steps p target.root e rest
      by_way [] none = absurd (omega (arith, none))
      by_way (step ∷ steps) some = refl

  pub part_made : {a b c d f g : Draft} {terms : List Term} {steps : List PartStep} {value whole : TermId} {set at id next : StepId} {subtype : Subtype} {place : Place} → Ready a → 0 < length way → steps ≡ way → next.0 < length a.steps.nodes
      → Keeps a b → Finds a b (way_checks p (now_term p) steps) → Keeps b c → value.0 < length c.steps.terms → Checked p [] b c e value
      → Adds c.steps.terms terms whole (new_whole (tree_at c.steps.terms value))
      → Lays (with_terms c terms) d set (part_assigned p (variable_of target.root.entity) (tree_at terms whole) (step_tree (with_terms c terms).steps next))
      → subtype ≡ part_type UNIVERSAL steps → place ≡ place_of e → Lays d f at (range_check subtype place (tree_at d.steps.terms value) (step_tree d.steps set))
      → Makes f g id (laid f.steps.terms f.checks (step_tree f.steps at)) → Makes a g id (set_tree p target e (step_tree a.steps next))
  part_made {a} {b} {c} {d} {f} {g} {terms} {steps} {value} {whole} {set} {at} {id} {next} {subtype} {place} ready some steps_are within kw fw kc wv v made put type_is place_is checked m =
      let x : Draft = with_terms c terms in
      let kx : Keeps c x = only_keeps kc.whole made.grown in
      let gives = v.gives [] (record { trees = refl }) in
      let keeps = keeps_twice kw (keeps_twice kc kx) in
      let finds : Finds a x (λ rest. way_checks p (now_term p) way (checks p (now_term p) [] e rest)) =
      finds_along (λ rest. λ i. way_checks p (now_term p) (sym steps_are i) (checks p (now_term p) [] e rest)) (finds_twice fw (finds_twice gives.finds (only_finds kc.whole made.grown))) in
      let term_stays : tree_at d.steps.terms value ≡ term = put.grown.terms.kept value (let n = made.grown.more in omega (arith, wv)) ∙ made.grown.kept value wv ∙ gives.means.tree in
      let whole_is : tree_at terms whole ≡ new_whole term = made.made.tree ∙ ap new_whole gives.means.tree in
      let rest_is : step_tree x.steps next ≡ step_tree a.steps next = keeps.grown.kept next within in
      let set_is : step_tree d.steps set ≡ part_assigned p (variable_of target.root.entity) (new_whole term) (step_tree a.steps next) = put.made.tree ∙ (λ i. part_assigned p (variable_of target.root.entity) (whole_is i) (rest_is i)) in
      let at_is : range_check subtype place (tree_at d.steps.terms value) (step_tree d.steps set) ≡ put_part (step_tree a.steps next) =
      (λ i. range_check ((type_is ∙ ap (part_type UNIVERSAL) steps_are) i) (place_is i) (term_stays i) (set_is i)) in
      let l = lays_more (put_part (step_tree a.steps next)) put.grown put.checks checked at_is in
      let all = laid_before (λ rest. way_checks p (now_term p) way (checks p (now_term p) [] e rest)) (put_part (step_tree a.steps next)) ready keeps finds l m refl in
      record { ready = all.ready; grown = all.grown; made = record { within = all.made.within; tree = all.made.tree ∙ part_form some (step_tree a.steps next) } }

-- ---- an assignment to a whole variable
whole_form : (p : Program) (target : Target) (e : CoreExpr) (rest : Tree) → target.way ≡ [] → checks p (now_term p) [] e (assigned p (place_of e) (variable_of target.root.entity) (term_of p (now_term p) e) rest) ≡ set_tree p target e rest
whole_form p target e rest none = ap (λ (way : List PartStep). set_on way p target.root e rest) (sym none)

no_steps : (way : List PartStep) → length way ≤ 0 → way ≡ []
no_steps [] none = refl
no_steps (step ∷ way) none = absurd (omega (arith, none))

pub whole_made : {a b : Draft} {id : StepId} (p : Program) (target : Target) (e : CoreExpr) (rest : Tree) (way : List PartStep) → way ≡ target.way → length way ≤ 0 → Makes a b id (checks p (now_term p) [] e (assigned p (place_of e) (variable_of target.root.entity) (term_of p (now_term p) e) rest))
    → Makes a b id (set_tree p target e rest)
whole_made p target e rest way is none m =
    record { ready = m.ready; grown = m.grown; made = record { within = m.made.within; tree = m.made.tree ∙ whole_form p target e rest (sym is ∙ no_steps way none) } }
