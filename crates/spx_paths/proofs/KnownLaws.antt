-- What is known at the start of a body and after its cuts.
use Rattle.std.proofs.Common.{◌≡◌, ◌<◌, ℕ, Bool, cond, true, false, List, [], ◌∷◌, ◌++◌, length, Option, Some, None, refl, sym, ap, ◌∙◌, subst, append_assoc, append-nil}
use Rattle.std.specs.Prelude.{not, ◌&&◌, if◌then◌else◌}
use Rattle.std.specs.List.{flat_map}
use Rattle.std.proofs.lemmas.Grind.{flat_map-append}
use Rattle.std.proofs.lemmas.List.{map-append}
use denote.Bor.{Bor}
use Rattle.spx_core.specs.declared.entity.Subtype.{Subtype}
use Rattle.spx_core.specs.declared.entity.VarId.{VarId}
use Rattle.spx_core.specs.declared.expression.CoreExpr.{CoreExpr}
use Rattle.spx_core.specs.declared.program.Program.{Program}
use Rattle.spx_core.specs.declared.statement.CoreCount.{CoreCount}
use Rattle.spx_core.specs.declared.subprogram.CorePredicate.{CorePredicate}
use Rattle.spx_core.specs.declared.subprogram.Sub.{Sub}
use Rattle.spx_core.specs.Dependency.{exports}
use Rattle.spx_core.specs.Formals.{formals, locals}
use Rattle.spx_term.specs.declared.term.Name.{Name}
use Rattle.spx_term.specs.declared.term.Term.{Term}
use Rattle.spx_term.specs.declared.term.Term.TheVariants.{Infix, Variable}
use Rattle.spx_term.specs.declared.term.TermOp.TheVariants as operator
use Rattle.spx_term.specs.Conjuncts.{conjuncts}
use Rattle.spx_term.specs.Steps.{Tree, Assign, assume_all}
use Rattle.spx_meaning.specs.Runs.{initial_value}
use Rattle.spx_meaning.specs.Stores.{type_of}
use Rattle.spx_arena.specs.declared.terms.TermId.{TermId}
use Rattle.spx_arena.specs.Claims.{AreIds, trees_at}
use Rattle.spx_arena.specs.Sharing.{tree_at, Adds, Grows, IsId}
use Rattle.spx_arena.proofs.Growth.{grows_twice, is_kept}
use Rattle.spx_arena.proofs.Ids.{kept_ids, wider_ids}
use Rattle.spx_steps.specs.declared.steps.StepId.{StepId}
use Rattle.spx_steps.specs.declared.steps.Steps.{Steps}
use Rattle.spx_steps.specs.Trees.{AddsStep, InOrder, MoreSteps, step_tree}
use Rattle.spx_steps.proofs.Arena.{more_not, more_terms, more_twice, order_kept}
use Rattle.spx_paths.specs.declared.draft.Draft.{Draft}
use Rattle.spx_formula.specs.declared.entered.Interface.{Interface}
use Rattle.spx_formula.specs.declared.entered.Entered.TheVariants.{AtEntry, OnEntry}
use Rattle.spx_formula.specs.Added.{AddsAll}
use Rattle.spx_formula.specs.Goals.{in_type}
use Rattle.spx_paths.specs.Drafts.{AddsMore, AddsTerm, AddsTerms, Lays, else_known, known_at_cuts, pre_parts}
use Rattle.spx_formula.specs.EntryNames.{IsInterfaceOf, entry_name, meant}
use Rattle.spx_formula.specs.Terms.{entry, entry_term, now, now_term, term_of, term_with}
use Rattle.spx_paths.specs.Walks.{count_facts, entering, entry_facts, first_facts, high_term, import_facts, initializing, low_term, pre_facts, pre_facts_on_entry, starting_with, var_facts}
use Rattle.spx_paths.proofs.CutLists.{assume_all-append}
use Rattle.spx_paths.proofs.BoundLaws.{only_grows, only_term, only_twice}

-- ---- terms
pub as_terms : {a b : Draft} {ids : List TermId} {ts : List Term} → InOrder a.steps → AddsAll a.steps.terms b.steps.terms ids ts → b.steps.nodes ≡ a.steps.nodes → b.checks ≡ a.checks → AddsTerms a b ids ts
as_terms {a} {b} order all nodes e = record {
  order = order_kept {old = a.steps} {new = b.steps} order all.grown nodes;
  grown = more_terms {old = a.steps} {new = b.steps} order all.grown nodes;
  checks = e;
  within = all.within;
  trees = all.trees;
}

pub terms_along : {a b : Draft} {ids : List TermId} {ts : List Term} (us : List Term) → AddsTerms a b ids ts → ts ≡ us → AddsTerms a b ids us
terms_along us m e = record { order = m.order; grown = m.grown; checks = m.checks; within = m.within; trees = m.trees ∙ e }

-- none more
pub none_more : {a : Draft} (ids : List TermId) → InOrder a.steps → AreIds (length a.steps.terms) ids → AddsMore a a ids ids []
none_more {a} ids order are = record { order = order; grown = more_not a.steps; checks = refl; within = are; trees = sym (append-nil (trees_at a.steps.terms ids)) }

-- some more, and then others
pub more_twice_known : {a b c : Draft} {ys zs : List TermId} (xs : List TermId) (ts us : List Term) → AddsMore a b xs ys ts → AddsMore b c ys zs us → AddsMore a c xs zs (ts ++ us)
more_twice_known {a} {b} {c} {ys} {zs} xs ts us first second = record {
  order = second.order;
  grown = more_twice first.grown second.grown;
  checks = second.checks ∙ first.checks;
  within = second.within;
  trees = second.trees ∙ ap (λ all. all ++ us) first.trees ∙ append_assoc (trees_at a.steps.terms xs) ts us;
}

pub more_along : {a b : Draft} {ys : List TermId} (xs : List TermId) (ts us : List Term) → AddsMore a b xs ys ts → ts ≡ us → AddsMore a b xs ys us
more_along {a} {b} {ys} xs ts us m e = terms_along (trees_at a.steps.terms xs ++ us) m (ap (λ all. trees_at a.steps.terms xs ++ all) e)

ids_all : (before more : List TermId) (n : ℕ) → AreIds n before → AreIds n more → AreIds n (before ++ more)
ids_all [] more n are others = others
ids_all (id ∷ before) more n are others = (are.0, ids_all before more n are.1 others)

-- terms were made, and their ids come last
pub parts_more : {a b : Draft} (before more : List TermId) {after : List TermId} (ts : List Term) → AreIds (length a.steps.terms) before → AddsTerms a b more ts → after ≡ before ++ more → AddsMore a b before after ts
parts_more {a} {b} before more {after} ts are m is =
    let longer = m.grown.terms.more in
    record {
      order = m.order;
      grown = m.grown;
      checks = m.checks;
      within = subst (AreIds (length b.steps.terms)) (sym is) (ids_all before more (length b.steps.terms) (wider_ids before longer are) m.within);
      trees = ap (trees_at b.steps.terms) is ∙ map-append (tree_at b.steps.terms) before more ∙ (λ i. kept_ids m.grown.terms before are i ++ m.trees i);
    }

-- a name lies in a type
pub value_more : {a b : Draft} {mid : List Term} (p : Program) (v : VarId) (subtype : Subtype) (value : TermId) (name : Name) (before more : List TermId) {after : List TermId} → InOrder a.steps → AreIds (length a.steps.terms) before
    → Grows a.steps.terms mid → tree_at mid value ≡ Variable name → subtype ≡ type_of p v → AddsAll mid b.steps.terms more (in_type subtype (tree_at mid value)) → b.steps.nodes ≡ a.steps.nodes → b.checks ≡ a.checks → after ≡ before ++ more
    → AddsMore a b before after (in_type (type_of p v) (Variable name))
value_more {a} {b} p v subtype value name before more order are grows made type all nodes e is =
    let terms : AddsAll a.steps.terms b.steps.terms more (in_type (type_of p v) (Variable name)) = record { grown = grows_twice grows all.grown; within = all.within; trees = all.trees ∙ (λ i. in_type (type i) (made i)) } in
    parts_more before more (in_type (type_of p v) (Variable name)) are (as_terms order terms nodes e) is

-- ---- what names stand for
entry_by : (p : Program) (v : VarId) (b : Bool) → Variable (cond b (now p v) (entry p v)) ≡ cond b (now_term p v) (Variable (entry p v))
entry_by p v true = refl
entry_by p v false = refl

pub entry_terms : (p : Program) (sub : Sub) (interface : Interface) → IsInterfaceOf sub interface → (λ v. Variable (entry_name interface p v)) ≡ entry_term p sub
entry_terms p sub interface is = λ i v.
    ((λ k. Variable (cond (is.imports v k && not (is.exports v k)) (now p v) (entry p v))) ∙ entry_by p v _) i

pub meant_on_entry : (p : Program) (sub : Sub) (interface : Bor Interface) (e : CoreExpr) → IsInterfaceOf sub interface.now → meant p (OnEntry interface) e ≡ term_of p (entry_term p sub) e
meant_on_entry p sub interface e is = λ i. term_with (now_term p) (entry_terms p sub interface.now is i) e

pub meant_at_entry : (p : Program) (sub : Sub) (interface : Bor Interface) (e : CoreExpr) → IsInterfaceOf sub interface.now → meant p (AtEntry interface) e ≡ term_with (entry_term p sub) (entry_term p sub) e
meant_at_entry p sub interface e is = λ i. term_with (entry_terms p sub interface.now is i) (entry_terms p sub interface.now is i) e

pub pre_at_start : (p : Program) (sub : Sub) (interface : Bor Interface) → IsInterfaceOf sub interface.now → (pre : Option CorePredicate) → pre_parts p (OnEntry interface) pre ≡ pre_facts p sub pre
pre_at_start p sub interface is None = refl
pre_at_start p sub interface is (Some pre) = ap conjuncts (meant_on_entry p sub interface pre.condition is)

pub pre_on_entry : (p : Program) (sub : Sub) (interface : Bor Interface) → IsInterfaceOf sub interface.now → (pre : Option CorePredicate) → pre_parts p (AtEntry interface) pre ≡ pre_facts_on_entry p sub pre
pre_on_entry p sub interface is None = refl
pre_on_entry p sub interface is (Some pre) = ap conjuncts (meant_at_entry p sub interface pre.condition is)

-- ---- steps of the start
pub next_initialized : {a b c : Draft} {at id : StepId} (p : Program) (v : VarId) (vs : List VarId) (rest : Tree) → Lays a b at (initializing p vs rest) → Lays b c id (starting_with (now p v) (initial_value p v) (step_tree b.steps at)) → Lays a c id (initializing p (v ∷ vs) rest)
next_initialized p v vs rest l m = record {
  order = m.order;
  grown = more_twice l.grown m.grown;
  checks = m.checks ∙ l.checks;
  made = record { within = m.made.within; tree = m.made.tree ∙ ap (starting_with (now p v) (initial_value p v)) l.made.tree };
}

pub next_entered : {a b c : Draft} {at id : StepId} (p : Program) (sub : Sub) (v : VarId) (vs : List VarId) (rest : Tree) → Lays a b at (entering p sub vs rest)
    → Lays b c id (if exports v sub then Assign (now p v) (Variable (entry p v)) (step_tree b.steps at) else step_tree b.steps at) → Lays a c id (entering p sub (v ∷ vs) rest)
next_entered p sub v vs rest l m = record {
  order = m.order;
  grown = more_twice l.grown m.grown;
  checks = m.checks ∙ l.checks;
  made = record { within = m.made.within; tree = m.made.tree ∙ ap (λ t. if exports v sub then Assign (now p v) (Variable (entry p v)) t else t) l.made.tree };
}

-- a value that was made before is given
pub given_before : {a : Draft} {terms : List Term} {s : Steps} {id : StepId} (value : TermId) (name : Name) (t : Term) (next : StepId) (u : Tree) → InOrder a.steps → next.0 < length a.steps.nodes → Grows a.steps.terms terms → tree_at terms value ≡ t
    → AddsStep (record { terms = terms; nodes = a.steps.nodes }) s id (Assign name (tree_at terms value) (step_tree (record { terms = terms; nodes = a.steps.nodes }) next)) → Assign name t (step_tree a.steps next) ≡ u
    → Lays a (record { steps = s; checks = a.checks }) id u
given_before {a} {terms} {s} value name t next u order w grows made step is =
    let m = more_terms {old = a.steps} {new = record { terms = terms; nodes = a.steps.nodes }} order grows refl in
    record {
      order = step.whole;
      grown = more_twice m step.grown;
      checks = refl;
      made = record { within = step.made.within; tree = step.made.tree ∙ (λ i. Assign name (made i) (m.kept next w i)) ∙ is };
    }

-- ---- facts on each variable

-- ---- the start
pub first_known : {a b c : Draft} {ys : List TermId} (none xs : List TermId) (p : Program) (sub : Sub) → none ≡ [] → AddsMore a b none xs (flat_map (import_facts p sub) (formals sub)) → AddsMore b c xs ys (pre_facts p sub sub.pre) → AddsTerms a c ys (first_facts p sub)
first_known {a} {b} {c} {ys} none xs p sub nothing first second =
    let all : AddsMore a c none ys (first_facts p sub) = more_twice_known {ys = xs} none (flat_map (import_facts p sub) (formals sub)) (pre_facts p sub sub.pre) first second in
    terms_along (first_facts p sub) all (ap (λ ids. trees_at a.steps.terms ids ++ first_facts p sub) nothing)

pub started : {a b : Draft} {c : Steps} {d e : Draft} {facts : List TermId} {known initialized id : StepId} (p : Program) (sub : Sub) (ids : List TermId) (first : StepId) → first.0 < length a.steps.nodes → AddsTerms a b facts (first_facts p sub) → ids ≡ facts
    → AddsStep b.steps c known (assume_all (trees_at b.steps.terms ids) (step_tree b.steps first)) → Lays (record { steps = c; checks = b.checks }) d initialized (initializing p (locals sub) (step_tree c known)) → Lays d e id (entering p sub (formals sub) (step_tree d.steps initialized))
    → Lays a e id (entering p sub (formals sub) (initializing p (locals sub) (assume_all (first_facts p sub) (step_tree a.steps first))))
started {a} {b} {c} {d} {e} {facts} {known} {initialized} {id} p sub ids first w t same s l m = record {
  order = m.order;
  grown = more_twice t.grown (more_twice s.grown (more_twice l.grown m.grown));
  checks = m.checks ∙ l.checks ∙ t.checks;
  made = record {
    within = m.made.within;
    tree = m.made.tree ∙ ap (entering p sub (formals sub)) (l.made.tree ∙ ap (initializing p (locals sub)) (s.made.tree ∙ (λ i. assume_all ((ap (trees_at b.steps.terms) same ∙ t.trees) i) (t.grown.kept first w i))));
  };
}

-- ---- cuts
pub all_vars : {a b c d : Draft} {zs : List TermId} (none xs ys : List TermId) (p : Program) (sub : Sub) (outer inner : List VarId) → outer ≡ formals sub → inner ≡ locals sub → none ≡ [] → AddsMore a b none xs (flat_map (var_facts p) outer) → AddsMore b c xs ys (flat_map (var_facts p) inner)
    → AddsMore c d ys zs (flat_map (entry_facts p sub) (formals sub)) → AddsTerms a d zs (known_at_cuts p sub)
all_vars {a} {b} {c} {d} {zs} none xs ys p sub outer inner are_formals are_locals nothing first second third =
    let f = flat_map (var_facts p) (formals sub) in
    let l = flat_map (var_facts p) (locals sub) in
    let e = flat_map (entry_facts p sub) (formals sub) in
    let all : AddsMore a d none zs (f ++ (l ++ e)) =
    more_twice_known {ys = xs} none f (l ++ e) (more_along none (flat_map (var_facts p) outer) f first (ap (flat_map (var_facts p)) are_formals))
    (more_twice_known {ys = ys} xs l e (more_along xs (flat_map (var_facts p) inner) l second (ap (flat_map (var_facts p)) are_locals)) third) in
    terms_along (known_at_cuts p sub) all (ap (λ ids. trees_at a.steps.terms ids ++ (f ++ (l ++ e))) nothing)

-- two facts more
pub two_more : {a b d : Draft} {zs ws : List TermId} {least most : TermId} (xs ys : List TermId) (ts : List Term) (s t : Term) → AddsMore a b xs ys ts → InOrder d.steps → MoreSteps b.steps d.steps → d.checks ≡ b.checks → IsId d.steps.terms least s → IsId d.steps.terms most t
    → zs ≡ ys ++ least ∷ [] → ws ≡ zs ++ most ∷ [] → AddsMore a d xs ws (ts ++ s ∷ t ∷ [])
two_more {a} {b} {d} {zs} {ws} {least} {most} xs ys ts s t m order grown checks is_least is_most first second =
    let terms : AddsTerms b d (least ∷ most ∷ []) (s ∷ t ∷ []) = record {
      order = order;
      grown = grown;
      checks = checks;
      within = (is_least.within, (is_most.within, tt));
      trees = λ i. is_least.tree i ∷ is_most.tree i ∷ [];
    } in
    more_twice_known {ys = ys} xs ts (s ∷ t ∷ []) m (parts_more ys (least ∷ most ∷ []) (s ∷ t ∷ []) m.within terms (second ∙ ap (λ ids. ids ++ most ∷ []) first ∙ append_assoc ys (least ∷ []) (most ∷ [])))

-- one loop inside others
pub counts_more : {a b c : Draft} {zs : List TermId} (xs ys : List TermId) (p : Program) (sub : Sub) (outer all : List CoreCount) (count : CoreCount) → all ≡ outer ++ count ∷ [] → AddsMore a b xs ys (flat_map (count_facts p sub) outer) → AddsMore b c ys zs (count_facts p sub count)
    → AddsMore a c xs zs (flat_map (count_facts p sub) all)
counts_more xs ys p sub outer all count is first second =
    let before = flat_map (count_facts p sub) outer in
    more_along xs (before ++ count_facts p sub count) (flat_map (count_facts p sub) all) (more_twice_known {ys = ys} xs before (count_facts p sub count) first second)
    (sym (ap (flat_map (count_facts p sub)) is ∙ flat_map-append (count_facts p sub) outer (count ∷ []) ∙ ap (λ ts. before ++ ts) (append-nil (count_facts p sub count))))

-- what is known after a cut stands before what follows
pub cut_made : {a b c : Draft} {d e : Steps} {ys : List TermId} {at id : StepId} (none xs : List TermId) (p : Program) (sub : Sub) (within : List CoreCount) (known ids : List TermId) (next : StepId) → AreIds (length a.steps.terms) known → next.0 < length a.steps.nodes
    → none ≡ [] → AddsMore a b none xs (flat_map (count_facts p sub) within) → AddsMore b c xs ys (pre_facts_on_entry p sub sub.pre) → AddsStep c.steps d at (assume_all (trees_at c.steps.terms known) (step_tree c.steps next)) → ids ≡ ys
    → AddsStep d e id (assume_all (trees_at d.terms ids) (step_tree d at)) → Lays a (record { steps = e; checks = c.checks }) id (assume_all (else_known p sub within (trees_at a.steps.terms known)) (step_tree a.steps next))
cut_made {a} {b} {c} {d} {e} {ys} {at} {id} none xs p sub within known ids next are w nothing first second s same t =
    let counts = flat_map (count_facts p sub) within in
    let pre = pre_facts_on_entry p sub sub.pre in
    let all : AddsMore a c none ys (counts ++ pre) = more_twice_known {ys = xs} none counts pre first second in
    let m : AddsTerms a c ys (counts ++ pre) = terms_along (counts ++ pre) all (ap (λ others. trees_at a.steps.terms others ++ (counts ++ pre)) nothing) in
    let inner : step_tree d at ≡ assume_all (trees_at a.steps.terms known) (step_tree a.steps next) = s.made.tree ∙ (λ i. assume_all (kept_ids m.grown.terms known are i) (m.grown.kept next w i)) in
    let facts : trees_at d.terms ids ≡ counts ++ pre = (λ i. trees_at (s.terms i) (same i)) ∙ m.trees in
    record {
      order = t.whole;
      grown = more_twice m.grown (more_twice s.grown t.grown);
      checks = m.checks;
      made = record {
        within = t.made.within;
        tree =
            t.made.tree
            ∙ (λ i. assume_all (facts i) (inner i))
            ∙ sym (assume_all-append (counts ++ pre) (trees_at a.steps.terms known) (step_tree a.steps next))
            ∙ ap (λ ts. assume_all ts (step_tree a.steps next)) (append_assoc counts pre (trees_at a.steps.terms known));
      };
    }

-- the parameter of a loop lies in its type and between its bounds
pub bounds_more : {a b e g : Draft} {tc : List Term} {d : Draft} {tf : List Term} {value low high least most : TermId} {zs ws : List TermId} (xs ys : List TermId) (p : Program) (sub : Sub) (c : CoreCount) (name : Name)
    → AddsMore a b xs ys (in_type (type_of p c.parameter) (Variable name)) → Grows b.steps.terms tc → IsId tc value (Variable name) → AddsTerm (record { steps = record { terms = tc; nodes = b.steps.nodes }; checks = b.checks }) d low (low_term p sub c) → AddsTerm d e high (high_term p sub c)
    → Adds e.steps.terms tf least (Infix operator.GreaterOrEqual (tree_at e.steps.terms value) (tree_at e.steps.terms low)) → Adds tf g.steps.terms most (Infix operator.LessOrEqual (tree_at tf value) (tree_at tf high)) → g.steps.nodes ≡ e.steps.nodes → g.checks ≡ e.checks
    → name ≡ now p c.parameter → zs ≡ ys ++ least ∷ [] → ws ≡ zs ++ most ∷ [] → AddsMore a g xs ws (count_facts p sub c)
bounds_more {a} {b} {e} {g} {tc} {d} {tf} {value} {low} {high} {least} {most} {zs} {ws} xs ys p sub c name known grows is_value m n q r nodes checks is_name first second =
    let here = in_type (type_of p c.parameter) (now_term p c.parameter) in
    let typed = more_along xs (in_type (type_of p c.parameter) (Variable name)) here known (ap (λ (x : Name). in_type (type_of p c.parameter) (Variable x)) is_name) in
    let start = only_grows {a = b} {b = record { steps = record { terms = tc; nodes = b.steps.nodes }; checks = b.checks }} known.order grows refl refl in
    let end = only_grows {a = e} {b = g} n.order (grows_twice q.grown r.grown) nodes checks in
    let all = only_twice start (only_twice (only_term m) (only_twice (only_term n) end)) in
    let value_e = is_kept is_value (grows_twice m.grown.terms n.grown.terms) in
    let value_f = is_kept value_e q.grown in
    let low_e = is_kept m.made n.grown.terms in
    let high_f = is_kept n.made q.grown in
    let is_least : IsId tf least (Infix operator.GreaterOrEqual (now_term p c.parameter) (low_term p sub c)) = record { within = q.made.within; tree = q.made.tree ∙ (λ i. Infix operator.GreaterOrEqual ((value_e.tree ∙ ap Variable is_name) i) (low_e.tree i)) } in
    let is_most : IsId g.steps.terms most (Infix operator.LessOrEqual (now_term p c.parameter) (high_term p sub c)) = record { within = r.made.within; tree = r.made.tree ∙ (λ i. Infix operator.LessOrEqual ((value_f.tree ∙ ap Variable is_name) i) (high_f.tree i)) } in
    two_more {b = b} {d = g} xs ys here (Infix operator.GreaterOrEqual (now_term p c.parameter) (low_term p sub c)) (Infix operator.LessOrEqual (now_term p c.parameter) (high_term p sub c)) typed all.order all.grown all.checks (is_kept is_least r.grown) is_most first second
