-- Steps that are made from what follows them.
use Rattle.std.proofs.Common.{◌≡◌, ℕ, ◌+◌, ◌<◌, ◌≤◌, Bool, false, List, [], ◌∷◌, ◌++◌, All, add-one, drop, drop-cons, get_or, flat_map, length, map, reverse, Option, Some, None, refl, sym, ap, ◌∙◌, subst, suc, arith, append-nil, append_assoc}
use Rattle.std.specs.Prelude.{IfSome, option_map}
use Rattle.std.proofs.lemmas.List.{drop_all, length-map, map-append, reverse-append}
use Rattle.std.proofs.lemmas.List.Elements.{All-get_or}
use denote.Bor.{Bor}
use Rattle.spx_text.specs.declared.place.Place.{Place}
use Rattle.spx_tree.specs.declared.statement.AssertionKind.TheVariants.{Assert}
use Rattle.spx_core.specs.declared.expression.CoreExpr.{CoreExpr}
use Rattle.spx_core.specs.declared.program.Program.{Program}
use Rattle.spx_core.specs.declared.statement.CoreAlternative.{CoreAlternative, out-CoreAlternative}
use Rattle.spx_core.specs.declared.statement.CoreArm.{CoreArm, out-CoreArm}
use Rattle.spx_core.specs.declared.statement.CoreCount.{CoreCount}
use Rattle.spx_core.specs.declared.subprogram.Sub.{Sub}
use Rattle.spx_core.specs.Commands.{Command, Then, alternative, alternatives_of, arm_before, arms_before, commands, select}
use Rattle.spx_term.specs.declared.condition.CondKind.{CondKind}
use Rattle.spx_term.specs.declared.term.Term.{Term}
use Rattle.spx_term.specs.declared.term.Term.TheVariants.{Prefix}
use Rattle.spx_term.specs.declared.term.TermPrefix.TheVariants.{Not}
use Rattle.spx_term.specs.Conjuncts.{conjuncts}
use Rattle.spx_term.specs.Steps.{Tree, Cut, Assume, Split, assume_all, assume_parts, check}
use Rattle.spx_arena.specs.declared.terms.TermId.{TermId}
use Rattle.spx_arena.specs.Claims.{AreIds, trees_at}
use Rattle.spx_arena.specs.Sharing.{tree_at, Adds, Grows}
use Rattle.spx_arena.proofs.Ids.{kept_ids, wider_ids}
use Rattle.spx_steps.specs.declared.steps.StepId.{StepId}
use Rattle.spx_steps.specs.declared.steps.Steps.{Steps}
use Rattle.spx_steps.specs.Trees.{AddsStep, InOrder, IsStep, MoreSteps, step_tree}
use Rattle.spx_steps.proofs.Arena.{more_not, more_terms, more_twice, order_kept}
use Rattle.spx_paths.specs.declared.build.Body.{Body}
use Rattle.spx_paths.specs.declared.build.Next.{Next}
use Rattle.spx_paths.specs.declared.draft.Check.{Check}
use Rattle.spx_paths.specs.declared.draft.Draft.{Draft}
use Rattle.spx_formula.specs.Added.{AddsAll, AddsFacts, choices_of, facts_from}
use Rattle.spx_paths.specs.Checks.{checks}
use Rattle.spx_paths.specs.Drafts.{AddsCuts, AddsTerm, AddsTerms, AreChecks, Builds, BuildsAlternatives, BuildsArms, BuildsCuts, Evaluates, IsBegun, Lays, Leads, Makes, Ready, Stands, all_taken, alternative_cuts, arm_cuts, before_others, decided_tree, else_known, known_at_cuts, laid}
use Rattle.spx_formula.specs.Terms.{entry_term, now_term, term_of}
use Rattle.spx_paths.specs.Walks.{cuts, cuts_for, decided, from_cut, noted_cut, one_before, walk, walk_for}
use Rattle.spx_formula.specs.Choices.{alternative_facts, and_these}
use Rattle.spx_paths.proofs.CutLists.{cut_parts, cuts_along, cuts_both, cuts_kept, cuts_none, one_cut}
use Rattle.spx_paths.proofs.Forms.{alternative_is, arm_is, no_leave}

-- ---- more steps
pub step_kept : {s t : Steps} {id : StepId} {x : Tree} → IsStep s id x → MoreSteps s t → IsStep t id x
step_kept {s} {t} {id} i m = record { within = let n = m.more in omega (arith, i.within); tree = m.kept id i.within ∙ i.tree }

pub stands_kept : {a b : Draft} {id : StepId} {way : ℕ → Tree} → Stands a id way → MoreSteps a.steps b.steps → Stands b id way
stands_kept {a} {b} {id} s m = record { within = let n = m.more in omega (arith, s.within); tree = λ made. m.kept id s.within ∙ s.tree made }

pub begun_kept : {a b : Draft} {body : Body} → IsBegun a body → MoreSteps a.steps b.steps → IsBegun b body
begun_kept begun m = record { cut = step_kept begun.cut m; interface = begun.interface }

pub leads_kept : {a b : Draft} {next : Next} → Leads a next → MoreSteps a.steps b.steps → Leads b next
leads_kept leads m = let n = m.more in record { rest = omega (arith, leads.rest); leave = omega (arith, leads.leave) }

-- ---- a step, where checks wait
pub lays_not : {a : Draft} {id : StepId} → InOrder a.steps → id.0 < length a.steps.nodes → Lays a a id (step_tree a.steps id)
lays_not {a} order w = record { order = order; grown = more_not a.steps; checks = refl; made = record { within = w; tree = refl } }

pub lays_along : {a b : Draft} {id : StepId} {t : Tree} (u : Tree) → Lays a b id t → t ≡ u → Lays a b id u
lays_along {a} {b} {id} u l e = subst (λ x. Lays a b id x) e l

pub lays_more : {a b c : Draft} {id : StepId} {t : Tree} (u : Tree) → MoreSteps a.steps b.steps → b.checks ≡ a.checks → Lays b c id t → t ≡ u → Lays a c id u
lays_more u m e l is = record { order = l.order; grown = more_twice m l.grown; checks = l.checks ∙ e; made = record { within = l.made.within; tree = l.made.tree ∙ is } }

-- a check of goals that were made before it
pub lays_goals : {a c : Draft} {b : Steps} {id : StepId} (kind : CondKind) (place : Place) (goals : List TermId) (ts : List Term) (next : StepId) → InOrder a.steps → next.0 < length a.steps.nodes → AddsAll a.steps.terms b.terms goals ts → b.nodes ≡ a.steps.nodes
    → AddsStep b c.steps id (check kind place (trees_at b.terms goals) (step_tree b next)) → c.checks ≡ a.checks → Lays a c id (check kind place ts (step_tree a.steps next))
lays_goals {a} {c} {b} kind place goals ts next order w terms nodes s e =
    let m = more_terms order terms.grown nodes in
    record {
      order = s.whole;
      grown = more_twice m s.grown;
      checks = e;
      made = record { within = s.made.within; tree = s.made.tree ∙ (λ i. check kind place (terms.trees i) (m.kept next w i)) };
    }

-- ---- checks that wait
pub checks_kept : {old new : List Term} (cs : List Check) (rest : Tree) → Grows old new → AreChecks (length old) cs → laid new cs rest ≡ laid old cs rest
checks_kept [] rest g are = refl
checks_kept (c ∷ cs) rest g are = λ i. check c.kind c.place (kept_ids g c.goals are.0 i) (checks_kept cs rest g are.1 i)

pub wider_checks : (cs : List Check) {m n : ℕ} → m ≤ n → AreChecks m cs → AreChecks n cs
wider_checks [] l are = tt
wider_checks (c ∷ cs) l are = (wider_ids c.goals l are.0, wider_checks cs l are.1)

-- those before the last one
pub firsts : (cs : List Check) (c : Check) (n : ℕ) → AreChecks n (cs ++ c ∷ []) → AreChecks n cs
firsts [] c n are = tt
firsts (d ∷ cs) c n are = (are.0, firsts cs c n are.1)

pub last_goals : (cs : List Check) (c : Check) (n : ℕ) → AreChecks n (cs ++ c ∷ []) → AreIds n c.goals
last_goals [] c n are = are.0
last_goals (d ∷ cs) c n are = last_goals cs c n are.1

laid_last : (terms : List Term) (cs : List Check) (c : Check) (rest : Tree) → laid terms (cs ++ c ∷ []) rest ≡ laid terms cs (check c.kind c.place (trees_at terms c.goals) rest)
laid_last terms [] c rest = refl
laid_last terms (d ∷ cs) c rest = ap (check d.kind d.place (trees_at terms d.goals)) (laid_last terms cs c rest)

pub goals_within : (all cs : List Check) (c : Check) (n : ℕ) → AreChecks n all → all ≡ cs ++ c ∷ [] → AreIds n c.goals
goals_within all cs c n are e = last_goals cs c n (subst (AreChecks n) e are)

pub firsts_within : (s t : Steps) (all cs : List Check) (c : Check) → AreChecks (length s.terms) all → all ≡ cs ++ c ∷ [] → t.terms ≡ s.terms → AreChecks (length t.terms) cs
firsts_within s t all cs c are e terms = subst (λ (ts : List Term). AreChecks (length ts) cs) (sym terms) (firsts cs c (length s.terms) (subst (AreChecks (length s.terms)) e are))

pub laid_next : {s t : Steps} {id : StepId} (at : StepId) (all cs : List Check) (c : Check) → all ≡ cs ++ c ∷ [] → AddsStep s t id (check c.kind c.place (trees_at s.terms c.goals) (step_tree s at)) → laid s.terms all (step_tree s at) ≡ laid t.terms cs (step_tree t id)
laid_next {s} {t} {id} at all cs c e st = ap (λ xs. laid s.terms xs (step_tree s at)) e ∙ laid_last s.terms cs c (step_tree s at) ∙ (λ i. laid (sym st.terms i) cs (sym st.made.tree i))

-- none waits any more
pub all_laid : {a b : Draft} {at : StepId} {t : Tree} → InOrder b.steps → MoreSteps a.steps b.steps → at.0 < length b.steps.nodes → b.checks ≡ [] → (cs : List Check) → cs ≡ [] → t ≡ laid b.steps.terms cs (step_tree b.steps at) → Makes a b at t
all_laid {a} {b} {at} {t} order m w none cs is same = record {
  ready = record { order = order; none = none };
  grown = m;
  made = record { within = w; tree = sym (same ∙ ap (λ xs. laid b.steps.terms xs (step_tree b.steps at)) is) };
}

-- the checks of an expression still wait, after steps were made
pub still_wait : {p : Program} {a b c : Draft} {e : CoreExpr} {v : TermId} → Evaluates p a b e v → MoreSteps b.steps c.steps → c.checks ≡ b.checks → AreChecks (length c.steps.terms) c.checks
still_wait {p} {a} {b} {c} ev m e = subst (AreChecks (length c.steps.terms)) (sym e) (wider_checks b.checks m.terms.more ev.are)

-- they are put before a step
pub placed : {p : Program} {a b c d : Draft} {e : CoreExpr} {v : TermId} {at id : StepId} {t : Tree} (u : Tree) → Evaluates p a b e v → Lays b c at t → Makes c d id (laid c.steps.terms c.checks (step_tree c.steps at)) → t ≡ u → Makes a d id (checks p (now_term p) [] e u)
placed {p} {a} {b} {c} {d} {e} {v} {at} {id} u ev l m is = record {
  ready = m.ready;
  grown = more_twice ev.grown (more_twice l.grown m.grown);
  made = record {
    within = m.made.within;
    tree =
        m.made.tree
        ∙ (λ i. laid c.steps.terms (l.checks i) ((l.made.tree ∙ is) i))
        ∙ checks_kept b.checks u l.grown.terms ev.are
        ∙ ev.checks u;
  };
}

-- both ways past a condition
pub chosen : {p : Program} {a b f g h : Draft} {c e : Steps} {condition : CoreExpr} {v n : TermId} {taken passed at id : StepId} (is_exit : Bool) (parts : List TermId) (holds fails : StepId)
    → holds.0 < length a.steps.nodes → fails.0 < length a.steps.nodes → Evaluates p a b condition v → trees_at b.steps.terms parts ≡ conjuncts (tree_at b.steps.terms v)
    → AddsStep b.steps c taken (assume_all (trees_at b.steps.terms parts) (step_tree b.steps holds)) → Adds c.terms e.terms n (Prefix Not (tree_at c.terms v)) → e.nodes ≡ c.nodes
    → AddsStep e f.steps passed (Assume (tree_at e.terms n) (step_tree e fails)) → f.checks ≡ b.checks → Lays f g at (one_before is_exit (step_tree f.steps taken) (step_tree f.steps passed)) → Makes g h id (laid g.steps.terms g.checks (step_tree g.steps at))
    → Makes a h id (decided_tree p condition is_exit (step_tree a.steps holds) (step_tree a.steps fails))
chosen {p} {a} {b} {f} {g} {h} {c} {e} {condition} {v} {n} {taken} {passed} {at} {id} is_exit parts holds fails hw fw ev ps t neg nodes s fc l m =
    let mt = more_terms t.whole neg.grown nodes in
    let term = term_of p (now_term p) condition in
    let all = more_twice t.grown (more_twice mt s.grown) in
    let took : step_tree f.steps taken ≡ assume_parts term (step_tree a.steps holds) =
    (step_kept t.made (more_twice mt s.grown)).tree ∙ (λ i. assume_all (ps i) (ev.grown.kept holds hw i)) ∙ ap (λ (x : Term). assume_parts x (step_tree a.steps holds)) ev.made.tree in
    let negated : tree_at e.terms n ≡ Prefix Not term = neg.made.tree ∙ ap (Prefix Not) (ap (λ (ts : List Term). tree_at ts v) t.terms ∙ ev.made.tree) in
    let w : fails.0 < length b.steps.nodes = let k = ev.grown.more in omega (arith, fw) in
    let x : fails.0 < length c.nodes = let k = t.grown.more in omega (arith, w) in
    let went : step_tree f.steps passed ≡ Assume (Prefix Not term) (step_tree a.steps fails) = s.made.tree ∙ (λ i. Assume (negated i) ((mt.kept fails x ∙ t.grown.kept fails w ∙ ev.grown.kept fails fw) i)) in
    placed (one_before is_exit (assume_parts term (step_tree a.steps holds)) (Assume (Prefix Not term) (step_tree a.steps fails))) ev
    (lays_more (one_before is_exit (step_tree f.steps taken) (step_tree f.steps passed)) all fc l refl) m (λ i. one_before is_exit (took i) (went i))

-- ---- commands

-- nothing is made
pub builds_not : (p : Program) (sub : Sub) {a : Draft} (c : Command) (rest leave : StepId) → ((on out : ℕ → Tree) (made : ℕ) → walk p sub c on out made ≡ on made) → Ready a → Builds p sub a a c rest leave rest
builds_not p sub {a} c rest leave form ready = record {
  ready = ready;
  grown = more_not a.steps;
  stands = λ on out s t. record { within = s.within; tree = λ made. s.tree made ∙ sym (form on out made) };
}

pub builds_as : (p : Program) (sub : Sub) {a b : Draft} {id : StepId} {c : Command} (d : Command) (rest leave : StepId) → Builds p sub a b c rest leave id → d ≡ c → Builds p sub a b d rest leave id
builds_as p sub {a} {b} {id} d rest leave m e = subst (λ x. Builds p sub a b x rest leave id) (sym e) m

-- one more statement before others
pub builds_next : (p : Program) (sub : Sub) {a b c : Draft} {at id : StepId} (first others : Command) (rest leave : StepId) → Builds p sub a b others rest leave at → Builds p sub b c first at leave id → Builds p sub a c (Then first others) rest leave id
builds_next p sub first others rest leave m n = record {
  ready = n.ready;
  grown = more_twice m.grown n.grown;
  stands = λ on out s t.
      let x = n.stands (walk p sub others on out) out (m.stands on out s t) (stands_kept t m.grown) in
      record { within = x.within; tree = x.tree };
}

-- arms before what stands last
pub no_arms : (p : Program) (sub : Sub) {a : Draft} (otherwise rest leave : StepId) → Ready a → otherwise.0 < length a.steps.nodes → BuildsArms p sub a a [] otherwise rest leave otherwise
no_arms p sub {a} otherwise rest leave ready w = record { ready = ready; grown = more_not a.steps; within = w; stands = λ last on out s t u. u }

pub one_arm : (p : Program) (sub : Sub) {a b c d : Draft} {at holds id : StepId} (arm : CoreArm) (arms : List CoreArm) (otherwise rest leave : StepId) → BuildsArms p sub a b arms otherwise rest leave at → Builds p sub b c (commands (out-CoreArm arm).body) rest leave holds
    → Makes c d id (decided_tree p (out-CoreArm arm).condition false (step_tree c.steps holds) (step_tree c.steps at)) → BuildsArms p sub a d (arm ∷ arms) otherwise rest leave id
one_arm p sub {a} {b} {c} {d} {at} {holds} {id} arm arms otherwise rest leave before body m =
    let condition = (out-CoreArm arm).condition in
    let first = commands (out-CoreArm arm).body in
    record {
      ready = m.ready;
      grown = more_twice before.grown (more_twice body.grown m.grown);
      within = m.made.within;
      stands = λ last on out s t u.
          let others = arms_before last (map arm_before arms) in
          let x = body.stands on out (stands_kept s before.grown) (stands_kept t before.grown) in
          let y = stands_kept {b = c} (before.stands last on out s t u) body.grown in
          record {
            within = m.made.within;
            tree = λ made.
                m.made.tree
                ∙ (λ i. decided_tree p condition false (x.tree made i) (y.tree made i))
                ∙ ap (λ e. decided p condition e (walk p sub first on out) (walk p sub others on out) made) (sym (no_leave (out-CoreArm arm).body))
                ∙ ap (λ k. walk p sub k on out made) (sym (arm_is arm others));
          };
    }

pub decided_as : (p : Program) {a b : Draft} {id : StepId} {e : CoreExpr} (condition : CoreExpr) (holds fails : Tree) → Makes a b id (decided_tree p e false holds fails) → e ≡ condition → Makes a b id (decided_tree p condition false holds fails)
decided_as p {a} {b} {id} condition holds fails m is = subst (λ (x : CoreExpr). Makes a b id (decided_tree p x false holds fails)) is m

pub all_arms : (p : Program) (sub : Sub) {a b c : Draft} {at id : StepId} (last : Command) (arms : List CoreArm) (rest leave : StepId) → Builds p sub a b last rest leave at → BuildsArms p sub b c arms at rest leave id → Builds p sub a c (arms_before last (map arm_before arms)) rest leave id
all_arms p sub last arms rest leave m n = record {
  ready = n.ready;
  grown = more_twice m.grown n.grown;
  stands = λ on out s t. n.stands last on out (stands_kept s m.grown) (stands_kept t m.grown) (m.stands on out s t);
}

pub builds_within : (p : Program) (sub : Sub) {a b : Draft} {c : Command} {id : StepId} (rest leave : StepId) → rest.0 < length a.steps.nodes → leave.0 < length a.steps.nodes → Builds p sub a b c rest leave id → id.0 < length b.steps.nodes
builds_within p sub {a} {b} {c} {id} rest leave v w m =
    let s : Stands b id (walk p sub c (λ made. step_tree a.steps rest) (λ made. step_tree a.steps leave)) =
    m.stands (λ made. step_tree a.steps rest) (λ made. step_tree a.steps leave) (record { within = v; tree = λ made. refl }) (record { within = w; tree = λ made. refl }) in
    s.within

-- what was gone over from the last one to the first, and one more before it
pub reversed_more : {A : Type 0} (ys : List (Bor A)) (y : Bor A) → reverse (map (λ s. s.now) (ys ++ y ∷ [])) ≡ y.now ∷ reverse (map (λ s. s.now) ys)
reversed_more ys y = ap reverse (map-append (λ s. s.now) ys (y ∷ [])) ∙ reverse-append (map (λ s. s.now) ys) (y.now ∷ [])

-- ---- alternatives
-- a value that is there keeps its tree
others_kept : {s t : Steps} (others : Option StepId) → IfSome others (λ id. id.0 < length s.nodes) → MoreSteps s t → option_map (step_tree t) others ≡ option_map (step_tree s) others
others_kept None w m = refl
others_kept (Some id) w m = ap Some (m.kept id w)

pub no_alternatives : {p : Program} {sub : Sub} {a : Draft} (rest leave : StepId) → Ready a → BuildsAlternatives p sub a a [] [] rest leave None
no_alternatives {p} {sub} {a} rest leave ready = record { ready = ready; grown = more_not a.steps; within = tt; stands = λ on out s t made. refl }

-- one alternative more before others
pub one_alternative : {p : Program} {sub : Sub} {a b c d : Draft} {others : Option StepId} {done id : StepId} (known : List TermId) (facts : List (List TermId)) (first : CoreAlternative) (alternatives : List CoreAlternative) (rest leave : StepId) → AreIds (length a.steps.terms) known
    → BuildsAlternatives p sub a b (map (trees_at a.steps.terms) facts) alternatives rest leave others → Builds p sub b c (commands (out-CoreAlternative first).body) rest leave done
    → Lays c d id (before_others (assume_all (trees_at c.steps.terms known) (step_tree c.steps done)) (option_map (step_tree c.steps) others)) → BuildsAlternatives p sub a d (map (trees_at a.steps.terms) (known ∷ facts)) (first ∷ alternatives) rest leave (Some id)
one_alternative {p} {sub} {a} {b} {c} {d} {others} {done} {id} known facts first alternatives rest leave are before body l =
    let grown = more_twice before.grown body.grown in
    record {
      ready = record { order = l.order; none = l.checks ∙ body.ready.none };
      grown = more_twice grown l.grown;
      within = l.made.within;
      stands = λ on out s t made.
          let x = body.stands on out (stands_kept s before.grown) (stands_kept t before.grown) in
          let y = others_kept others before.within body.grown ∙ before.stands on out s t made in
          ap Some (l.made.tree ∙ (λ i. before_others (assume_all (kept_ids grown.terms known are i) (x.tree made i)) (y i)));
    }

-- what is left from a position on
here_is : {A : Type 0} (xs : List A) (i left : ℕ) (x : A) → i < length xs → left ≡ i + 1 → x ≡ get_or xs i x → drop i xs ≡ x ∷ drop left xs
here_is xs i left x w e is = drop-cons xs i x w ∙ (λ k. sym is k ∷ drop (sym (e ∙ add-one i) k) xs)

none_left : {A : Type 0} (xs : List A) (left : ℕ) → left ≡ length xs → [] ≡ drop left xs
none_left xs left e = sym (drop_all left xs (omega (arith, e)))

pub alternatives_begin : {p : Program} {sub : Sub} {a : Draft} (facts : List (List TermId)) (alternatives : List CoreAlternative) (left : ℕ) (rest leave : StepId) → Ready a → left ≡ length alternatives → length facts ≡ length alternatives
    → BuildsAlternatives p sub a a (map (trees_at a.steps.terms) (drop left facts)) (drop left alternatives) rest leave None
alternatives_begin {p} {sub} {a} facts alternatives left rest leave ready e many =
    subst (λ (xs : List (List TermId)). BuildsAlternatives p sub a a (map (trees_at a.steps.terms) xs) (drop left alternatives) rest leave None) (none_left facts left (e ∙ sym many))
    (subst (λ (xs : List CoreAlternative). BuildsAlternatives p sub a a [] xs rest leave None) (none_left alternatives left e) (no_alternatives rest leave ready))

pub known_within : (n : ℕ) (facts : List (List TermId)) (known : List TermId) (i : ℕ) → i < length facts → known ≡ get_or facts i known → All (AreIds n) facts → AreIds n known
known_within n facts known i w is are = subst (AreIds n) (sym is) (All-get_or (AreIds n) facts i known w are)

-- the alternative at a position, before those that were made
pub next_alternative : {p : Program} {sub : Sub} {a b c d : Draft} {others : Option StepId} {done id : StepId} (facts : List (List TermId)) (alternatives : List CoreAlternative) (known : List TermId) (first : CoreAlternative) (i left : ℕ) (rest leave : StepId)
    → i < length alternatives → left ≡ i + 1 → length facts ≡ length alternatives → known ≡ get_or facts i known → first ≡ get_or alternatives i first → All (AreIds (length a.steps.terms)) facts
    → BuildsAlternatives p sub a b (map (trees_at a.steps.terms) (drop left facts)) (drop left alternatives) rest leave others → Builds p sub b c (commands (out-CoreAlternative first).body) rest leave done
    → Lays c d id (before_others (assume_all (trees_at c.steps.terms known) (step_tree c.steps done)) (option_map (step_tree c.steps) others)) → BuildsAlternatives p sub a d (map (trees_at a.steps.terms) (drop i facts)) (drop i alternatives) rest leave (Some id)
next_alternative {p} {sub} {a} {b} {c} {d} {others} {done} {id} facts alternatives known first i left rest leave w e many is at are before body l =
    let v : i < length facts = omega (arith, w, many) in
    subst (λ (xs : List (List TermId)). BuildsAlternatives p sub a d (map (trees_at a.steps.terms) xs) (drop i alternatives) rest leave (Some id)) (sym (here_is facts i left known v e is))
    (subst (λ (xs : List CoreAlternative). BuildsAlternatives p sub a d (map (trees_at a.steps.terms) (known ∷ drop left facts)) xs rest leave (Some id)) (sym (here_is alternatives i left first w e at))
    (one_alternative known (drop left facts) first (drop left alternatives) rest leave (known_within (length a.steps.terms) facts known i v is are) before body l))

-- what is known in each, along the walk
taken_walk : (p : Program) (sub : Sub) (t : Term) (earlier : List Term) (a : CoreAlternative) (more : List CoreAlternative) (on out : ℕ → Tree) (made : ℕ)
    → all_taken p sub (facts_from t earlier (map choices_of (a ∷ more))) (a ∷ more) on out made ≡ Some (walk_for p sub t earlier (alternatives_of (alternative a) (map alternative more)) on out made)
taken_walk p sub t earlier a [] on out made =
    let e = sym (alternative_is a) in
    λ i. Some (assume_all (alternative_facts t earlier (e i).0) (walk p sub (e i).1 on out made))
taken_walk p sub t earlier a (b ∷ more) on out made =
    let e = sym (alternative_is a) in
    let others = alternatives_of (alternative b) (map alternative more) in
    let taken = assume_all (alternative_facts t earlier (choices_of a)) (walk p sub (commands (out-CoreAlternative a).body) on out made) in
    ap (λ x. Some (before_others taken x)) (taken_walk p sub t (and_these t earlier (choices_of a)) b more on out made)
    ∙ (λ i. Some (Split (assume_all (alternative_facts t earlier (e i).0) (walk p sub (e i).1 on out made)) (walk_for p sub t (and_these t earlier (e i).0) others on out made)))

abbrev tree_or_cut : Option Tree → Tree
tree_or_cut None = Cut
tree_or_cut (Some t) = t

pub as_many_facts : {old new : List Term} {facts : List (List TermId)} (t : Term) (alternatives : List CoreAlternative) → AddsFacts old new (facts_from t [] (map choices_of alternatives)) facts → length facts ≡ length alternatives
as_many_facts {old} {new} {facts} t alternatives f = sym (length-map facts (trees_at new)) ∙ ap length f.trees ∙ count t [] alternatives
  where
    count : (t : Term) (earlier : List Term) (xs : List CoreAlternative) → length (facts_from t earlier (map choices_of xs)) ≡ length xs
    count t earlier [] = refl
    count t earlier (x ∷ xs) = ap suc (count t (and_these t earlier (choices_of x)) xs)

-- what is known of a selector was made after its term
abbrev pub with_terms : Draft → List Term → Draft
with_terms d terms = record { steps = record { terms = terms; nodes = d.steps.nodes }; checks = d.checks }

pub ready_with : {a b : Draft} {value : TermId} {t : Term} (terms : List Term) → Ready a → AddsTerm a b value t → Grows b.steps.terms terms → Ready (with_terms b terms)
ready_with {a} {b} terms ready m g = record { order = order_kept {old = b.steps} {new = record { terms = terms; nodes = b.steps.nodes }} m.order g refl; none = m.checks ∙ ready.none }

pub more_with : {a b : Draft} {value : TermId} {t : Term} (terms : List Term) → AddsTerm a b value t → Grows b.steps.terms terms → MoreSteps a.steps (with_terms b terms).steps
more_with {a} {b} terms m g = more_twice m.grown (more_terms {old = b.steps} {new = record { terms = terms; nodes = b.steps.nodes }} m.order g refl)

-- these are the facts of alternatives
pub facts_known : {old new : List Term} {facts : List (List TermId)} {u : Term} (t : Term) (slice : List (List TermId)) (alternatives : List CoreAlternative) → slice ≡ facts → AddsFacts old new (facts_from u [] (map choices_of alternatives)) facts → u ≡ t
    → map (trees_at new) slice ≡ facts_from t [] (map choices_of alternatives)
facts_known {old} {new} t slice alternatives e f is = ap (map (trees_at new)) e ∙ f.trees ∙ ap (λ (x : Term). facts_from x [] (map choices_of alternatives)) is

-- the checks of a selector, before its alternatives
pub selected : {p : Program} {sub : Sub} {a b c d e : Draft} {known : List (List Term)} {v : TermId} {at id : StepId} (place : Place) (selector : CoreExpr) (alternatives : List CoreAlternative) (rest leave : StepId) → MoreSteps a.steps b.steps
    → known ≡ facts_from (term_of p (now_term p) selector) [] (map choices_of alternatives) → BuildsAlternatives p sub b c known alternatives rest leave (Some at) → Evaluates p c d selector v → Makes d e id (laid d.steps.terms d.checks (step_tree d.steps at)) → Builds p sub a e (select place selector (map alternative alternatives)) rest leave id
selected {p} {sub} {a} {b} {c} {d} {e} {known} {v} {at} {id} place selector alternatives rest leave grown is m ev l = record {
  ready = l.ready;
  grown = more_twice grown (more_twice m.grown (more_twice ev.grown l.grown));
  stands = λ on out s t. record {
    within = l.made.within;
    tree = λ made. tree alternatives on out made (m.stands on out (stands_kept s grown) (stands_kept t grown) made ∙ ap (λ facts. all_taken p sub facts alternatives on out made) is);
  };
}
  where
    term : Term
    term = term_of p (now_term p) selector

    laid_at : (u : Tree) → step_tree d.steps at ≡ u → step_tree e.steps id ≡ checks p (now_term p) [] selector u
    laid_at u same = l.made.tree ∙ ap (laid d.steps.terms d.checks) same ∙ ev.checks u

    tree : (xs : List CoreAlternative) (on out : ℕ → Tree) (made : ℕ) → Some (step_tree c.steps at) ≡ all_taken p sub (facts_from term [] (map choices_of xs)) xs on out made → step_tree e.steps id ≡ walk p sub (select place selector (map alternative xs)) on out made
    tree [] on out made same = absurd (cc)
    tree (x ∷ xs) on out made same =
        let u = walk_for p sub term [] (alternatives_of (alternative x) (map alternative xs)) on out made in
        laid_at u (ev.grown.kept at m.within ∙ ap tree_or_cut (same ∙ taken_walk p sub term [] x xs on out made))

-- there is none
pub none_selected : {p : Program} {sub : Sub} {a b c : Draft} {known : List (List Term)} (place : Place) (t : Term) (selector : CoreExpr) (alternatives : List CoreAlternative) (rest leave : StepId) → MoreSteps a.steps b.steps → rest.0 < length a.steps.nodes → leave.0 < length a.steps.nodes
    → known ≡ facts_from t [] (map choices_of alternatives) → BuildsAlternatives p sub b c known alternatives rest leave None → Builds p sub a c (select place selector (map alternative alternatives)) rest leave rest
none_selected {p} {sub} {a} {b} {c} place t selector [] rest leave grown v w is m = record {
  ready = m.ready;
  grown = more_twice grown m.grown;
  stands = λ on out s t. stands_kept s (more_twice grown m.grown);
}
none_selected {p} {sub} {a} {b} {c} place t selector (x ∷ xs) rest leave grown v w is m =
    let on : ℕ → Tree = λ made. step_tree a.steps rest in
    let out : ℕ → Tree = λ made. step_tree a.steps leave in
    let s : Stands a rest on = record { within = v; tree = λ made. refl } in
    let u : Stands a leave out = record { within = w; tree = λ made. refl } in
    let same = m.stands on out (stands_kept s grown) (stands_kept u grown) 0 ∙ ap (λ facts. all_taken p sub facts (x ∷ xs) on out 0) is in
    absurd (cc)

-- ---- steps from cuts
-- a command without a cut
pub no_cuts : {p : Program} {sub : Sub} {within : List CoreCount} {a b : Draft} (c : Command) (before : List StepId) (rest leave : StepId) → ((on out : ℕ → Tree) → cuts p sub within c on out ≡ []) → BuildsCuts p sub within a b before before c rest leave
no_cuts c before rest leave none = record { adds = λ on out s t. cuts_along (cuts_none before) (sym (none on out)) }

pub cuts_as : {p : Program} {sub : Sub} {within : List CoreCount} {a b : Draft} {before after : List StepId} {c : Command} (d : Command) (rest leave : StepId) → BuildsCuts p sub within a b before after c rest leave → d ≡ c → BuildsCuts p sub within a b before after d rest leave
cuts_as {p} {sub} {within} {a} {b} {before} {after} d rest leave m e = subst (λ x. BuildsCuts p sub within a b before after x rest leave) (sym e) m

-- from an `assert`
pub cut_begun : {p : Program} {sub : Sub} {a b c : Draft} {parts : List TermId} {before after : List StepId} {id : StepId} (within : List CoreCount) (condition : CoreExpr) (rest : StepId) → rest.0 < length a.steps.nodes → AddsTerms a b parts (conjuncts (term_of p (entry_term p sub) condition)) → (slice : List TermId) → slice ≡ parts
    → Lays b c id (assume_all (else_known p sub within (trees_at b.steps.terms slice)) (step_tree b.steps rest)) → after ≡ before ++ id ∷ [] → AddsCuts p sub c before after (noted_cut p sub within Assert condition (step_tree a.steps rest))
cut_begun {p} {sub} {a} {b} {c} {parts} within condition rest w terms slice same l is =
    let known = conjuncts (term_of p (entry_term p sub) condition) in
    one_cut (from_cut p sub within known (step_tree a.steps rest)) is l.made
    (cut_parts p sub within known (step_tree a.steps rest) ∙ (λ i. assume_all (known_at_cuts p sub) (assume_all (else_known p sub within (sym (ap (trees_at b.steps.terms) same ∙ terms.trees) i)) (sym (terms.grown.kept rest w) i))))

-- one more statement before others
pub next_cuts : {p : Program} {sub : Sub} {within : List CoreCount} {a b c : Draft} {before mid after : List StepId} {at : StepId} (first others : Command) (rest leave : StepId) → Builds p sub a b others rest leave at → MoreSteps b.steps c.steps → BuildsCuts p sub within a b before mid others rest leave
    → BuildsCuts p sub within b c mid after first at leave → BuildsCuts p sub within a c before after (Then first others) rest leave
next_cuts {p} {sub} first others rest leave m grown x y = record { adds = λ on out s t. cuts_both (x.adds on out s t) grown (y.adds (walk p sub others on out) out (m.stands on out s t) (stands_kept t m.grown)) }

-- arms
arms_cuts : (p : Program) (sub : Sub) (within : List CoreCount) (arms : List CoreArm) (last : Command) (on out : ℕ → Tree) → cuts p sub within (arms_before last (map arm_before arms)) on out ≡ flat_map (arm_cuts p sub within on out) arms ++ cuts p sub within last on out
arms_cuts p sub within [] last on out = refl
arms_cuts p sub within (arm ∷ arms) last on out =
    let others = arms_before last (map arm_before arms) in
    ap (λ c. cuts p sub within c on out) (arm_is arm others)
    ∙ ap (λ ts. arm_cuts p sub within on out arm ++ ts) (arms_cuts p sub within arms last on out)
    ∙ sym (append_assoc (arm_cuts p sub within on out arm) (flat_map (arm_cuts p sub within on out) arms) (cuts p sub within last on out))

pub no_parts : {p : Program} {sub : Sub} {a : Draft} (before : List StepId) (rest leave : StepId) → (on out : ℕ → Tree) → Stands a rest on → Stands a leave out → AddsCuts p sub a before before []
no_parts before rest leave on out s t = cuts_none before

-- one more part before others
pub one_part : {p : Program} {sub : Sub} {within : List CoreCount} {a b c d : Draft} {before mid after : List StepId} {rest leave : StepId} (c0 : Command) (others : (on out : ℕ → Tree) → List Tree) → MoreSteps a.steps b.steps → MoreSteps b.steps c.steps → MoreSteps c.steps d.steps
    → ((on out : ℕ → Tree) → Stands a rest on → Stands a leave out → AddsCuts p sub b before mid (others on out)) → BuildsCuts p sub within b c mid after c0 rest leave
    → (on out : ℕ → Tree) → Stands a rest on → Stands a leave out → AddsCuts p sub d before after (cuts p sub within c0 on out ++ others on out)
one_part c0 others first second third x y on out s t = cuts_kept (cuts_both (x on out s t) second (y.adds on out (stands_kept s first) (stands_kept t first))) third

-- arms, and what stands last
pub cuts_of_if : {p : Program} {sub : Sub} {within : List CoreCount} {a b c : Draft} {before mid after : List StepId} {at : StepId} (last : Command) (arms : List CoreArm) (rest leave : StepId) → Builds p sub a b last rest leave at → MoreSteps b.steps c.steps → BuildsCuts p sub within a b before mid last rest leave
    → ((on out : ℕ → Tree) → Stands b rest on → Stands b leave out → AddsCuts p sub c mid after (flat_map (arm_cuts p sub within on out) arms)) → BuildsCuts p sub within a c before after (arms_before last (map arm_before arms)) rest leave
cuts_of_if {p} {sub} {within} last arms rest leave m grown x y = record {
  adds = λ on out s t. cuts_along (cuts_both (x.adds on out s t) grown (y on out (stands_kept s m.grown) (stands_kept t m.grown))) (sym (arms_cuts p sub within arms last on out));
}

-- alternatives
each_cuts : (p : Program) (sub : Sub) (within : List CoreCount) (a : CoreAlternative) (more : List CoreAlternative) (on out : ℕ → Tree) → flat_map (alternative_cuts p sub within on out) (a ∷ more) ≡ cuts_for p sub within (alternatives_of (alternative a) (map alternative more)) on out
each_cuts p sub within a [] on out = append-nil (alternative_cuts p sub within on out a) ∙ ap (λ x. cuts p sub within x.1 on out) (sym (alternative_is a))
each_cuts p sub within a (b ∷ more) on out = λ i. cuts p sub within (sym (alternative_is a) i).1 on out ++ each_cuts p sub within b more on out i

select_cuts : (p : Program) (sub : Sub) (within : List CoreCount) (place : Place) (selector : CoreExpr) (alternatives : List CoreAlternative) (on out : ℕ → Tree) → flat_map (alternative_cuts p sub within on out) alternatives ≡ cuts p sub within (select place selector (map alternative alternatives)) on out
select_cuts p sub within place selector [] on out = refl
select_cuts p sub within place selector (a ∷ more) on out = each_cuts p sub within a more on out

pub cuts_of_case : {p : Program} {sub : Sub} {within : List CoreCount} {a b c d : Draft} {before after : List StepId} (place : Place) (selector : CoreExpr) (alternatives : List CoreAlternative) (rest leave : StepId) → MoreSteps a.steps b.steps → MoreSteps c.steps d.steps
    → ((on out : ℕ → Tree) → Stands b rest on → Stands b leave out → AddsCuts p sub c before after (flat_map (alternative_cuts p sub within on out) alternatives)) → BuildsCuts p sub within a d before after (select place selector (map alternative alternatives)) rest leave
cuts_of_case {p} {sub} {within} place selector alternatives rest leave first last x = record {
  adds = λ on out s t. cuts_kept (cuts_along (x on out (stands_kept s first) (stands_kept t first)) (select_cuts p sub within place selector alternatives on out)) last;
}

pub case_begins : {p : Program} {sub : Sub} {a : Draft} (within : List CoreCount) (before : List StepId) (alternatives : List CoreAlternative) (left : ℕ) (rest leave : StepId) → left ≡ length alternatives
    → (on out : ℕ → Tree) → Stands a rest on → Stands a leave out → AddsCuts p sub a before before (flat_map (alternative_cuts p sub within on out) (drop left alternatives))
case_begins {p} {sub} within before alternatives left rest leave e on out s t = cuts_along (cuts_none before) (ap (flat_map (alternative_cuts p sub within on out)) (none_left alternatives left e))

pub next_alternative_cuts : {p : Program} {sub : Sub} {within : List CoreCount} {a b c d : Draft} {before mid after : List StepId} (alternatives : List CoreAlternative) (first : CoreAlternative) (i left : ℕ) (rest leave : StepId)
    → i < length alternatives → left ≡ i + 1 → first ≡ get_or alternatives i first → MoreSteps a.steps b.steps → MoreSteps b.steps c.steps → MoreSteps c.steps d.steps
    → ((on out : ℕ → Tree) → Stands a rest on → Stands a leave out → AddsCuts p sub b before mid (flat_map (alternative_cuts p sub within on out) (drop left alternatives))) → BuildsCuts p sub within b c mid after (commands (out-CoreAlternative first).body) rest leave
    → (on out : ℕ → Tree) → Stands a rest on → Stands a leave out → AddsCuts p sub d before after (flat_map (alternative_cuts p sub within on out) (drop i alternatives))
next_alternative_cuts {p} {sub} {within} alternatives first i left rest leave w e at one two three x y on out s t =
    cuts_along (one_part (commands (out-CoreAlternative first).body) (λ on out. flat_map (alternative_cuts p sub within on out) (drop left alternatives)) one two three x y on out s t)
    (ap (flat_map (alternative_cuts p sub within on out)) (sym (here_is alternatives i left first w e at)))
