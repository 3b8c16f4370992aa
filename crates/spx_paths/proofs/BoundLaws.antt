-- The bounds of loops that count.
use Rattle.std.proofs.Common.{◌≡◌, ◌<◌, ℤ, Bool, true, false, List, [], ◌∷◌, length, Option, Some, None, refl, sym, ap, ◌∙◌, arith}
use Rattle.std.specs.Prelude.{◌&&◌, not, pos, if◌then◌else◌}
use Rattle.std.specs.List.{list_all}
use Rattle.spx_text.specs.declared.place.Place.{Place}
use Rattle.spx_core.specs.declared.entity.Subtype.{Subtype}
use Rattle.spx_core.specs.declared.expression.CoreExpr.{CoreExpr}
use Rattle.spx_core.specs.declared.program.Program.{Program}
use Rattle.spx_core.specs.declared.statement.CoreCount.{CoreCount}
use Rattle.spx_core.specs.declared.statement.CoreRange.{CoreRange}
use Rattle.spx_core.specs.declared.subprogram.Sub.{Sub}
use Rattle.spx_core.specs.Commands.{Counted}
use Rattle.spx_core.specs.Effects.{Read, reads_of}
use Rattle.spx_core.specs.Places.{place_of}
use Rattle.spx_term.specs.declared.condition.CondKind.TheVariants as kind
use Rattle.spx_term.specs.declared.term.Name.{Name}
use Rattle.spx_term.specs.declared.term.Term.{Term}
use Rattle.spx_term.specs.declared.term.Term.TheVariants.{Infix, Number, Variable}
use Rattle.spx_term.specs.declared.term.TermOp.{TermOp}
use Rattle.spx_term.specs.declared.term.TermOp.TheVariants as operator
use Rattle.spx_term.specs.Steps.{Tree, Assign, Assume, Split, check}
use Rattle.spx_meaning.specs.Stores.{type_of}
use Rattle.spx_arena.specs.declared.terms.TermId.{TermId}
use Rattle.spx_arena.specs.Claims.{trees_at}
use Rattle.spx_arena.specs.Sharing.{tree_at, Adds, Grows, IsId}
use Rattle.spx_arena.proofs.Growth.{grows_twice, is_kept}
use Rattle.spx_steps.specs.declared.steps.StepId.{StepId}
use Rattle.spx_steps.specs.declared.steps.Steps.{Steps}
use Rattle.spx_steps.specs.Trees.{AddsStep, InOrder, MoreSteps, step_tree}
use Rattle.spx_steps.proofs.Arena.{more_terms, more_twice, order_kept}
use Rattle.spx_paths.specs.declared.draft.Draft.{Draft}
use Rattle.spx_formula.specs.declared.entered.Interface.{Interface}
use Rattle.spx_formula.specs.Added.{AddsAll}
use Rattle.spx_paths.specs.Checks.{checks}
use Rattle.spx_paths.specs.Drafts.{AddsTerm, AlsoWaits, Evaluates, Lays, Makes, Ready, between_bounds, laid}
use Rattle.spx_formula.specs.EntryNames.{IsInterfaceOf, is_fixed_by}
use Rattle.spx_formula.specs.Terms.{first_name, last_name, now, now_term, term_of}
use Rattle.spx_paths.specs.Walks.{again, before_end, bound_term, end_term, enter_range, high_term, is_fixed, low_term, naming, next_term, past_loop, start_term}
use Rattle.spx_formula.specs.Goals.{range_goal}
use Rattle.spx_paths.proofs.BuildLaws.{lays_goals, lays_more}

-- ---- terms
pub order_terms : {a : Steps} {terms : List Term} → InOrder a → Grows a.terms terms → InOrder (record { terms = terms; nodes = a.nodes })
order_terms {a} {terms} order grows = order_kept {old = a} {new = record { terms = terms; nodes = a.nodes }} order grows refl

pub adds_term : {a b : Draft} {id : TermId} {t : Term} (u : Term) → InOrder a.steps → Grows a.steps.terms b.steps.terms → IsId b.steps.terms id t → b.steps.nodes ≡ a.steps.nodes → b.checks ≡ a.checks → t ≡ u → AddsTerm a b id u
adds_term {a} {b} u order grows made nodes e is = record {
  order = order_kept {old = a.steps} {new = b.steps} order grows nodes;
  grown = more_terms {old = a.steps} {new = b.steps} order grows nodes;
  nodes = nodes;
  checks = e;
  made = record { within = made.within; tree = made.tree ∙ is };
}

pub term_along : {a b : Draft} {id : TermId} {t : Term} (u : Term) → AddsTerm a b id t → t ≡ u → AddsTerm a b id u
term_along u m e = record { order = m.order; grown = m.grown; nodes = m.nodes; checks = m.checks; made = record { within = m.made.within; tree = m.made.tree ∙ e } }

-- by the interface of a subprogram
pub fixed_is : (sub : Sub) (i : Interface) → IsInterfaceOf sub i → (e : CoreExpr) → is_fixed_by i e ≡ is_fixed sub e
fixed_is sub i is e = λ k. list_all (λ (r : Read). is.imports r.1 k && not (is.exports r.1 k)) (reads_of e)

module _ (p : Program) (sub : Sub) (i : Interface) (interface : IsInterfaceOf sub i) (name : Name) (e : CoreExpr) where
  pub bound_by : {b : Bool} → is_fixed_by i e ≡ b → (if b then term_of p (now_term p) e else Variable name) ≡ bound_term p sub name e
  bound_by is = ap (λ b. if b then term_of p (now_term p) e else Variable name) (sym is ∙ fixed_is sub i interface e)

  pub named_by : {b : Bool} → is_fixed_by i e ≡ b → (rest : Tree) → (if b then rest else Assign name (term_of p (now_term p) e) rest) ≡ naming p sub name e rest
  named_by is rest = ap (λ b. if b then rest else Assign name (term_of p (now_term p) e) rest) (sym is ∙ fixed_is sub i interface e)

module _ (p : Program) (sub : Sub) (c : CoreCount) where
  low_at : {bounds : Option CoreRange} → c.bounds ≡ bounds → low_term p sub c ≡ low_term p sub (record c { bounds = bounds })
  low_at is = ap (λ (bounds : Option CoreRange). low_term p sub (record c { bounds = bounds })) is

  high_at : {bounds : Option CoreRange} → c.bounds ≡ bounds → high_term p sub c ≡ high_term p sub (record c { bounds = bounds })
  high_at is = ap (λ (bounds : Option CoreRange). high_term p sub (record c { bounds = bounds })) is

  pub least_is : (subtype : Subtype) (n : ℤ) → c.bounds ≡ None → subtype ≡ type_of p c.parameter → n ≡ subtype.first → Number n ≡ low_term p sub c
  least_is subtype n is type e = ap Number (e ∙ ap (λ (s : Subtype). s.first) type) ∙ sym (low_at is)

  pub most_is : (subtype : Subtype) (n : ℤ) → c.bounds ≡ None → subtype ≡ type_of p c.parameter → n ≡ subtype.last → Number n ≡ high_term p sub c
  most_is subtype n is type e = ap Number (e ∙ ap (λ (s : Subtype). s.last) type) ∙ sym (high_at is)

  pub low_is : (name : Name) (range : CoreRange) → c.bounds ≡ Some range → name ≡ first_name c.parameter → bound_term p sub name range.low ≡ low_term p sub c
  low_is name range is e = ap (λ (n : Name). bound_term p sub n range.low) e ∙ sym (low_at is)

  pub high_is : (name : Name) (range : CoreRange) → c.bounds ≡ Some range → name ≡ last_name c.parameter → bound_term p sub name range.high ≡ high_term p sub c
  high_is name range is e = ap (λ (n : Name). bound_term p sub n range.high) e ∙ sym (high_at is)

  pub limit_is : {a b : Bool} → a ≡ b → (if b then high_term p sub c else low_term p sub c) ≡ (if a then high_term p sub c else low_term p sub c)
  limit_is is = ap (λ b. if b then high_term p sub c else low_term p sub c) (sym is)

  pub end_is : (b : Bool) → (if not b then high_term p sub c else low_term p sub c) ≡ (if b then low_term p sub c else high_term p sub c)
  end_is true = refl
  end_is false = refl

-- ---- steps
-- a value that is given, where its term was made before
pub lays_given : {a b : Draft} {c : Steps} {id : StepId} {value : TermId} (t : Term) (name : Name) (next : StepId) (u : Tree) → next.0 < length a.steps.nodes → AddsTerm a b value t → AddsStep b.steps c id (Assign name (tree_at b.steps.terms value) (step_tree b.steps next)) → Assign name t (step_tree a.steps next) ≡ u → Lays a (record { steps = c; checks = b.checks }) id u
lays_given {a} {b} {c} {id} {value} t name next u w m s is = record {
  order = s.whole;
  grown = more_twice m.grown s.grown;
  checks = m.checks;
  made = record { within = s.made.within; tree = s.made.tree ∙ (λ i. Assign name (m.made.tree i) (m.grown.kept next w i)) ∙ is };
}

-- two ways on, of which the first one has a step
pub lays_ways : {e f : Draft} {g h i : Steps} {first entered passed at : StepId} {taken passing : TermId} (s t : Term) (u : Tree) (out : StepId) → out.0 < length e.steps.nodes → IsId e.steps.terms taken s → IsId e.steps.terms passing t
    → Lays e f first u → AddsStep f.steps g entered (Assume (tree_at f.steps.terms taken) (step_tree f.steps first)) → AddsStep g h passed (Assume (tree_at g.terms passing) (step_tree g out))
    → AddsStep h i at (Split (step_tree h entered) (step_tree h passed)) → Lays e (record { steps = i; checks = f.checks }) at (Split (Assume s u) (Assume t (step_tree e.steps out)))
lays_ways {e} {f} {g} {h} {i} {first} {entered} {passed} {at} {taken} {passing} s t u out w is_s is_t l p q r =
    let to_g = more_twice l.grown p.grown in
    let goes : step_tree h entered ≡ Assume s u = q.grown.kept entered p.made.within ∙ p.made.tree ∙ (λ k. Assume ((is_kept is_s l.grown.terms).tree k) (l.made.tree k)) in
    let leaves : step_tree h passed ≡ Assume t (step_tree e.steps out) = q.made.tree ∙ (λ k. Assume ((is_kept is_t to_g.terms).tree k) (to_g.kept out w k)) in
    record {
      order = r.whole;
      grown = more_twice to_g (more_twice q.grown r.grown);
      checks = l.checks;
      made = record { within = r.made.within; tree = r.made.tree ∙ (λ k. Split (goes k) (leaves k)) };
    }

-- ---- only terms were made
pub record Only (a b : Draft) : Type 0 where
  pub order : InOrder b.steps
  pub grown : MoreSteps a.steps b.steps
  pub nodes : b.steps.nodes ≡ a.steps.nodes
  pub checks : b.checks ≡ a.checks

pub only_grows : {a b : Draft} → InOrder a.steps → Grows a.steps.terms b.steps.terms → b.steps.nodes ≡ a.steps.nodes → b.checks ≡ a.checks → Only a b
only_grows {a} {b} order grows nodes e = record {
  order = order_kept {old = a.steps} {new = b.steps} order grows nodes;
  grown = more_terms {old = a.steps} {new = b.steps} order grows nodes;
  nodes = nodes;
  checks = e;
}

pub only_term : {a b : Draft} {id : TermId} {t : Term} → AddsTerm a b id t → Only a b
only_term m = record { order = m.order; grown = m.grown; nodes = m.nodes; checks = m.checks }

pub only_twice : {a b c : Draft} → Only a b → Only b c → Only a c
only_twice m n = record { order = n.order; grown = more_twice m.grown n.grown; nodes = n.nodes ∙ m.nodes; checks = n.checks ∙ m.checks }

pub stays_within : {a b : Draft} (id : StepId) → Only a b → id.0 < length a.steps.nodes → id.0 < length b.steps.nodes
stays_within {a} {b} id m w = let v = m.grown.more in omega (arith, w, v)

-- both bounds, and how they compare
pub record Compared (a e : Draft) (low high some none : TermId) (l h : Term) : Type 0 where
  pub only : Only a e
  pub is_low : IsId e.steps.terms low l
  pub is_high : IsId e.steps.terms high h
  pub enters : IsId e.steps.terms some (Infix operator.LessOrEqual l h)
  pub passes : IsId e.steps.terms none (Infix operator.Greater l h)

pub compared : {a b c e : Draft} {d : List Term} {low high some none : TermId} (l h : Term) → AddsTerm a b low l → AddsTerm b c high h
    → Adds c.steps.terms d some (Infix operator.LessOrEqual (tree_at c.steps.terms low) (tree_at c.steps.terms high)) → Adds d e.steps.terms none (Infix operator.Greater (tree_at d low) (tree_at d high))
    → e.steps.nodes ≡ c.steps.nodes → e.checks ≡ c.checks → Compared a e low high some none l h
compared {a} {b} {c} {e} {d} {low} {high} {some} {none} l h m n p q nodes checks =
    let low_c = is_kept m.made n.grown.terms in
    let low_d = is_kept low_c p.grown in
    let high_d = is_kept n.made p.grown in
    let some_d : IsId d some (Infix operator.LessOrEqual l h) = record { within = p.made.within; tree = p.made.tree ∙ (λ i. Infix operator.LessOrEqual (low_c.tree i) (n.made.tree i)) } in
    record {
      only = only_twice (only_term m) (only_twice (only_term n) (only_grows n.order (grows_twice p.grown q.grown) nodes checks));
      is_low = is_kept low_d q.grown;
      is_high = is_kept high_d q.grown;
      enters = is_kept some_d q.grown;
      passes = record { within = q.made.within; tree = q.made.tree ∙ (λ i. Infix operator.Greater (low_d.tree i) (high_d.tree i)) };
    }

-- the bounds lie in the type, and then there are both ways
pub between_checked : {a e i k : Draft} {j : Steps} {low high some none : TermId} {goals : List TermId} {at id : StepId} (p : Program) (sub : Sub) (count : CoreCount) (place : Place) (subtype : Subtype) (into out : StepId)
    → into.0 < length a.steps.nodes → out.0 < length a.steps.nodes → Compared a e low high some none (low_term p sub count) (high_term p sub count)
    → Lays e i at (Split (Assume (Infix operator.LessOrEqual (low_term p sub count) (high_term p sub count)) (Assign (now p count.parameter) (start_term p sub count) (step_tree e.steps into))) (Assume (Infix operator.Greater (low_term p sub count) (high_term p sub count)) (step_tree e.steps out)))
    → subtype ≡ type_of p count.parameter → AddsAll i.steps.terms j.terms goals (range_goal subtype (tree_at i.steps.terms low) (tree_at i.steps.terms high) ∷ []) → j.nodes ≡ i.steps.nodes
    → AddsStep j k.steps id (check kind.Range place (trees_at j.terms goals) (step_tree j at)) → k.checks ≡ i.checks → Lays a k id (between_bounds p sub count place (step_tree a.steps into) (step_tree a.steps out))
between_checked {a} {e} {i} {k} {j} {low} {high} {some} {none} {goals} {at} {id} p sub count place subtype into out wi wo cmp l type all nodes s same =
    let lt = low_term p sub count in
    let ht = high_term p sub count in
    let shown = lays_goals {a = i} {c = k} {b = j} kind.Range place goals (range_goal subtype (tree_at i.steps.terms low) (tree_at i.steps.terms high) ∷ []) at l.order l.made.within all nodes s same in
    lays_more (between_bounds p sub count place (step_tree a.steps into) (step_tree a.steps out)) (more_twice cmp.only.grown l.grown) (l.checks ∙ cmp.only.checks) shown (λ x.
    check kind.Range place (range_goal (type x) ((is_kept cmp.is_low l.grown.terms).tree x) ((is_kept cmp.is_high l.grown.terms).tree x) ∷ [])
    ((l.made.tree ∙ (λ y. Split (Assume (Infix operator.LessOrEqual lt ht) (Assign (now p count.parameter) (start_term p sub count) (cmp.only.grown.kept into wi y))) (Assume (Infix operator.Greater lt ht) (cmp.only.grown.kept out wo y)))) x))

-- the checks of both bounds stand before their names
pub range_entered : {a b c d e f g : Draft} {at bt ct id : StepId} {lo hi : TermId} (p : Program) (sub : Sub) (count : CoreCount) (range : CoreRange) (place : Place) (first last : Name) (low high shown also_shown placed : CoreExpr) (into out : Tree)
    → Ready a → count.bounds ≡ Some range → Lays a b at (between_bounds p sub count place into out) → Lays b c bt (naming p sub last high (step_tree b.steps at)) → Lays c d ct (naming p sub first low (step_tree c.steps bt))
    → Evaluates p d e shown lo → AlsoWaits p e f also_shown hi → Makes f g id (laid f.steps.terms f.checks (step_tree f.steps ct))
    → place ≡ place_of placed → first ≡ first_name count.parameter → last ≡ last_name count.parameter → low ≡ range.low → high ≡ range.high → shown ≡ range.low → also_shown ≡ range.high → placed ≡ range.low
    → Makes a g id (enter_range p sub count (Some range) (λ made. into) (λ made. out) 0)
range_entered {a} {b} {c} {d} {e} {f} {g} {at} {bt} {ct} {id} {lo} {hi} p sub count range place first last low high shown also_shown placed into out ready bounds l m n ev also made is_place is_first is_last is_low is_high is_shown is_also is_placed =
    let after = more_twice ev.grown also.grown in
    let steps = naming p sub first low (naming p sub last high (between_bounds p sub count place into out)) in
    let at_steps : step_tree f.steps ct ≡ steps = after.kept ct n.made.within ∙ n.made.tree ∙ ap (naming p sub first low) (m.made.tree ∙ ap (naming p sub last high) l.made.tree) in
    record {
      ready = made.ready;
      grown = more_twice l.grown (more_twice m.grown (more_twice n.grown (more_twice after made.grown)));
      made = record {
        within = made.made.within;
        tree =
            made.made.tree
            ∙ ap (laid f.steps.terms f.checks) at_steps
            ∙ also.checks steps
            ∙ ev.checks (checks p (now_term p) [] also_shown steps)
            ∙ (λ i. checks p (now_term p) [] (is_shown i) (checks p (now_term p) [] (is_also i) (naming p sub (is_first i) (is_low i) (naming p sub (is_last i) (is_high i) (between_bounds p sub count ((is_place ∙ ap place_of is_placed) i) into out)))));
      };
    }

-- ---- the end of a turn
pub record TurnTerms (p : Program) (sub : Sub) (c : CoreCount) (old new : List Term) (next before same : TermId) : Type 0 where
  pub grown : Grows old new
  pub is_next : IsId new next (next_term p c)
  pub is_before : IsId new before (before_end p sub c)
  pub is_same : IsId new same (Infix operator.Equal (now_term p c.parameter) (end_term p sub c))

pub turn_terms : {ta tb tc td te tf tg : List Term} {value end one next before same : TermId} (p : Program) (sub : Sub) (c : CoreCount) (name : Name) (stepping testing : TermOp) → Grows ta tb → IsId tb value (Variable name) → Grows tb tc → IsId tc end (end_term p sub c)
    → Grows tc td → IsId td one (Number (pos 1)) → Adds td te next (Infix stepping (tree_at td value) (tree_at td one)) → Adds te tf before (Infix testing (tree_at te value) (tree_at te end)) → Adds tf tg same (Infix operator.Equal (tree_at tf value) (tree_at tf end))
    → name ≡ now p c.parameter → stepping ≡ (if c.is_reverse then operator.Subtract else operator.Add) → testing ≡ (if c.is_reverse then operator.Greater else operator.Less) → TurnTerms p sub c ta tg next before same
turn_terms {ta} {tb} {tc} {td} {te} {tf} {tg} {value} {end} {one} {next} {before} {same} p sub c name stepping testing ab is_value bc is_end cd is_one n b s is_name is_step is_test =
    let value_d = is_kept is_value (grows_twice bc cd) in
    let value_e = is_kept value_d n.grown in
    let value_f = is_kept value_e b.grown in
    let end_e = is_kept is_end (grows_twice cd n.grown) in
    let end_f = is_kept end_e b.grown in
    let next_e : IsId te next (next_term p c) = record { within = n.made.within; tree = n.made.tree ∙ (λ i. Infix (is_step i) ((value_d.tree ∙ ap Variable is_name) i) (is_one.tree i)) } in
    let before_f : IsId tf before (before_end p sub c) = record { within = b.made.within; tree = b.made.tree ∙ (λ i. Infix (is_test i) ((value_e.tree ∙ ap Variable is_name) i) (end_e.tree i)) } in
    record {
      grown = grows_twice ab (grows_twice bc (grows_twice cd (grows_twice n.grown (grows_twice b.grown s.grown))));
      is_next = is_kept next_e (grows_twice b.grown s.grown);
      is_before = is_kept before_f s.grown;
      is_same = record { within = s.made.within; tree = s.made.tree ∙ (λ i. Infix operator.Equal ((value_f.tree ∙ ap Variable is_name) i) (end_f.tree i)) };
    }

-- the parameter takes its next value, or the loop is left
pub turn_made : {a e i : Draft} {f g h : Steps} {first on left at : StepId} {next before same : TermId} (p : Program) (sub : Sub) (c : CoreCount) (name : Name) (into out : StepId) → Ready a → into.0 < length a.steps.nodes → out.0 < length a.steps.nodes
    → TurnTerms p sub c a.steps.terms e.steps.terms next before same → e.steps.nodes ≡ a.steps.nodes → e.checks ≡ a.checks → name ≡ now p c.parameter
    → AddsStep e.steps f first (Assign name (tree_at e.steps.terms next) (step_tree e.steps into)) → AddsStep f g on (Assume (tree_at f.terms before) (step_tree f first)) → AddsStep g h left (Assume (tree_at g.terms same) (step_tree g out))
    → AddsStep h i.steps at (Split (step_tree h on) (step_tree h left)) → i.checks ≡ e.checks → Makes a i at (again p sub (Counted c) (λ made. step_tree a.steps into) (λ made. step_tree a.steps out) 0)
turn_made {a} {e} {i} {f} {g} {h} {first} {on} {left} {at} {next} {before} {same} p sub c name into out ready wi wo t nodes checks is_name q r s u last =
    let only = only_grows {a = a} {b = e} ready.order t.grown nodes checks in
    let v = only.grown.more in
    let wo_e : out.0 < length e.steps.nodes = omega (arith, wo, v) in
    let given : Lays e (record { steps = f; checks = e.checks }) first (Assign (now p c.parameter) (next_term p c) (step_tree a.steps into)) = record {
      order = q.whole;
      grown = q.grown;
      checks = refl;
      made = record { within = q.made.within; tree = q.made.tree ∙ (λ x. Assign (is_name x) (t.is_next.tree x) (only.grown.kept into wi x)) };
    } in
    let ways = lays_ways (before_end p sub c) (Infix operator.Equal (now_term p c.parameter) (end_term p sub c)) (Assign (now p c.parameter) (next_term p c) (step_tree a.steps into)) out wo_e t.is_before t.is_same given r s u in
    record {
      ready = record { order = ways.order; none = last ∙ checks ∙ ready.none };
      grown = more_twice only.grown ways.grown;
      made = record {
        within = ways.made.within;
        tree = ways.made.tree ∙ (λ x. Split (Assume (before_end p sub c) (Assign (now p c.parameter) (next_term p c) (step_tree a.steps into))) (Assume (Infix operator.Equal (now_term p c.parameter) (end_term p sub c)) (only.grown.kept out wo x)));
      };
    }

-- after a loop its parameter counts as the first value of its type
pub parameter_given : {a : Draft} {terms : List Term} {s : Steps} {first : TermId} {at : StepId} {n : ℤ} (p : Program) (c : CoreCount) (name : Name) (next : StepId) → Ready a → next.0 < length a.steps.nodes → Grows a.steps.terms terms → IsId terms first (Number n)
    → n ≡ (type_of p c.parameter).first → name ≡ now p c.parameter → AddsStep (record { terms = terms; nodes = a.steps.nodes }) s at (Assign name (tree_at terms first) (step_tree (record { terms = terms; nodes = a.steps.nodes }) next))
    → Makes a (record { steps = s; checks = a.checks }) at (past_loop p c (λ made. step_tree a.steps next) 0)
parameter_given {a} {terms} {s} {first} {at} p c name next ready w grows made is_first is_name step =
    let least = Number (type_of p c.parameter).first in
    let b : Draft = record { steps = record { terms = terms; nodes = a.steps.nodes }; checks = a.checks } in
    let term : AddsTerm a b first least = adds_term least ready.order grows made refl refl (ap Number is_first) in
    let laid = lays_given {a = a} {b = b} least name next (Assign (now p c.parameter) least (step_tree a.steps next)) w term step (ap (λ (n : Name). Assign n least (step_tree a.steps next)) is_name) in
    record { ready = record { order = laid.order; none = ready.none }; grown = laid.grown; made = laid.made }
