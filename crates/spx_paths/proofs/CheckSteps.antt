-- What checks of expressions add.
use Rattle.std.proofs.Common.{◌≡◌, ℕ, ◌<◌, List, [], ◌∷◌, ◌++◌, length, Some, None, refl, sym, ap, ◌∙◌, subst, arith}
use Rattle.std.specs.Prelude.{is_some}
use Rattle.std.proofs.lemmas.List.{map-append}
use Rattle.spx_text.specs.declared.place.Place.{Place}
use Rattle.spx_tree.specs.declared.expression.InfixOp.{InfixOp}
use Rattle.spx_tree.specs.declared.expression.InfixOp.TheVariants as op
use Rattle.spx_tree.specs.declared.expression.MemberOp.{MemberOp}
use Rattle.spx_tree.specs.declared.expression.PrefixOp.{PrefixOp}
use Rattle.spx_core.specs.declared.entity.BaseType.{BaseType}
use Rattle.spx_core.specs.declared.entity.Subtype.{Subtype}
use Rattle.spx_core.specs.declared.name.Reference.{Reference}
use Rattle.spx_core.specs.declared.part.Indexing.{Indexing}
use Rattle.spx_core.specs.declared.part.Selection.{Selection}
use Rattle.spx_tree.specs.declared.expression.Identifier.{Identifier}
use Rattle.spx_core.specs.declared.expression.CoreExpr.{CoreExpr}
use Rattle.spx_core.specs.declared.expression.CoreExpr.TheVariants as expr
use Rattle.spx_core.specs.declared.function.CoreFunction.{CoreFunction}
use Rattle.spx_core.specs.declared.function.Mapping.{Mapping}
use Rattle.spx_core.specs.declared.function.Shift.{Shift}
use Rattle.spx_core.specs.declared.program.Program.{Program}
use Rattle.spx_core.specs.Judged.{Judged, application}
use Rattle.spx_core.specs.Places.{place_of}
use Rattle.spx_core.specs.DeclaredNames.{subtype_of}
use Rattle.spx_term.specs.declared.condition.CondKind.{CondKind}
use Rattle.spx_term.specs.declared.term.Term.{Term}
use Rattle.spx_term.specs.declared.term.Term.TheVariants.{Infix, Number, Prefix}
use Rattle.spx_term.specs.declared.term.TermOp.{TermOp}
use Rattle.spx_term.specs.declared.term.TermPrefix.TheVariants.{Not}
use Rattle.spx_term.specs.declared.value.Value.{Value}
use Rattle.spx_term.specs.Folding.{static_term}
use Rattle.spx_term.specs.Steps.{Tree, check}
use Rattle.spx_meaning.specs.Evaluation.{term_op}
use Rattle.spx_meaning.specs.Literals.{base_of, literal}
use Rattle.spx_arena.specs.declared.terms.TermId.{TermId}
use Rattle.spx_arena.specs.Claims.{AreIds, trees_at}
use Rattle.spx_arena.specs.Sharing.{tree_at, Adds, Grows}
use Rattle.spx_arena.proofs.Ids.{kept_ids, wider_ids}
use Rattle.spx_steps.specs.Trees.{InOrder}
use Rattle.spx_steps.proofs.Arena.{more_not, more_terms, more_twice, order_kept}
use Rattle.spx_paths.specs.declared.draft.Check.{Check}
use Rattle.spx_paths.specs.declared.draft.Draft.{Draft}
use Rattle.spx_formula.specs.Added.{AddsAll}
use Rattle.spx_paths.specs.Checks.{checked_under, checks, index_check, mapping_check, operation_check, right_lefts, sign_check}
use Rattle.spx_formula.specs.Goals.{guarded}
use Rattle.spx_paths.specs.Drafts.{AddsTerm, AlsoWaits, AreChecks, Evaluates, Ready, laid}
use Rattle.spx_formula.specs.Functions.{shift_in}
use Rattle.spx_formula.specs.Terms.{element_term, field_term, member_term, moved_term, now_term, signed_term, term_of}
use Rattle.spx_paths.specs.Waiting.{Checked, Finds, Gives, Keeps, MeanAll, Means, Whole}
use Rattle.spx_paths.proofs.BuildLaws.{checks_kept, wider_checks}
use Rattle.spx_formula.proofs.Expressions.{applied_term, element_is, field_is, implicit_term, in_range_term, in_type_term, infix_term, parenthesized_term, prefix_term, static_is}
use Rattle.spx_paths.proofs.CheckLaws.{applied_checks, element_checks, field_checks, implicit_checks, in_range_checks, in_type_checks, infix_checks, parenthesized_checks, prefix_checks, static_unchecked}
use Rattle.spx_paths.proofs.Operators.{same_lefts}

-- ---- relations between drafts
pub keeps_not : {d : Draft} → Whole d → Keeps d d
keeps_not {d} whole = record { whole = whole; grown = more_not d.steps; nodes = refl }

pub keeps_twice : {a b c : Draft} → Keeps a b → Keeps b c → Keeps a c
keeps_twice p q = record { whole = q.whole; grown = more_twice p.grown q.grown; nodes = q.nodes ∙ p.nodes }

pub finds_not : (d : Draft) → Finds d d (λ rest. rest)
finds_not d = record { laid = λ rest. refl }

pub finds_twice : {a b c : Draft} {f g : Tree → Tree} → Finds a b f → Finds b c g → Finds a c (λ rest. f (g rest))
finds_twice {a} {b} {c} {f} {g} p q = record { laid = λ rest. q.laid rest ∙ p.laid (g rest) }

pub finds_along : {a b : Draft} {f g : Tree → Tree} → ((rest : Tree) → g rest ≡ f rest) → Finds a b f → Finds a b g
finds_along {a} e p = record { laid = λ rest. p.laid rest ∙ ap (laid a.steps.terms a.checks) (sym (e rest)) }

module _ {old new : Draft} (k : Keeps old new) where
  -- an id keeps its meaning
  pub means_kept : {id : TermId} {t : Term} → id.0 < length old.steps.terms → Means old id t → Means new id t
  means_kept {id} {t} w m = record { tree = k.grown.terms.kept id w ∙ m.tree }

  pub all_kept : {ids : List TermId} {ts : List Term} → AreIds (length old.steps.terms) ids → MeanAll old ids ts → MeanAll new ids ts
  all_kept {ids} {ts} are m = record { trees = kept_ids k.grown.terms ids are ∙ m.trees }

  pub ids_kept : (ids : List TermId) → AreIds (length old.steps.terms) ids → AreIds (length new.steps.terms) ids
  ids_kept ids are = let m = k.grown.terms.more in wider_ids ids m are

  pub id_kept : (id : TermId) → id.0 < length old.steps.terms → id.0 < length new.steps.terms
  id_kept id w = let m = k.grown.terms.more in omega (arith, w)

-- ---- more terms
abbrev pub with_terms : Draft → List Term → Draft
with_terms d terms = record { steps = record { terms = terms; nodes = d.steps.nodes }; checks = d.checks }

module _ {d : Draft} {terms : List Term} (whole : Whole d) where
  pub only_keeps : Grows d.steps.terms terms → Keeps d (with_terms d terms)
  only_keeps g = record {
    whole = record { order = order_kept {old = d.steps} {new = (with_terms d terms).steps} whole.order g refl; checks = wider_checks d.checks g.more whole.checks };
    grown = more_terms {old = d.steps} {new = (with_terms d terms).steps} whole.order g refl;
    nodes = refl;
  }

  pub only_finds : Grows d.steps.terms terms → Finds d (with_terms d terms) (λ rest. rest)
  only_finds g = record { laid = λ rest. checks_kept d.checks rest g whole.checks }

  pub only_gives : {id : TermId} {s : Term} (t : Term) → Adds d.steps.terms terms id s → s ≡ t → Gives d (with_terms d terms) (λ rest. rest) id t
  only_gives t a e = record { finds = only_finds a.grown; means = record { tree = a.made.tree ∙ e } }

module _ {old new : Draft} (whole : Whole old) {id : TermId} {t : Term} (a : AddsTerm old new id t) where
  pub term_keeps : Keeps old new
  term_keeps = record { whole = record { order = a.order; checks = subst (AreChecks (length new.steps.terms)) (sym a.checks) (wider_checks old.checks a.grown.terms.more whole.checks) }; grown = a.grown; nodes = a.nodes }

  pub term_gives : Gives old new (λ rest. rest) id t
  term_gives = record {
    finds = record { laid = λ rest. ap (λ cs. laid new.steps.terms cs rest) a.checks ∙ checks_kept old.checks rest a.grown.terms whole.checks };
    means = record { tree = a.made.tree };
  }

pub adds_term : {d : Draft} {terms : List Term} {id : TermId} {t : Term} → InOrder d.steps → Adds d.steps.terms terms id t → AddsTerm d (with_terms d terms) id t
adds_term {d} {terms} order a = record {
  order = order_kept {old = d.steps} {new = (with_terms d terms).steps} order a.grown refl;
  grown = more_terms {old = d.steps} {new = (with_terms d terms).steps} order a.grown refl;
  nodes = refl;
  checks = refl;
  made = a.made;
}

-- ---- a check
checks_push : (cs : List Check) (c : Check) (n : ℕ) → AreChecks n cs → AreIds n c.goals → AreChecks n (cs ++ c ∷ [])
checks_push [] c n are goals = (goals, tt)
checks_push (d ∷ cs) c n are goals = (are.0, checks_push cs c n are.1 goals)

laid_push : (terms : List Term) (cs : List Check) (c : Check) (rest : Tree) → laid terms (cs ++ c ∷ []) rest ≡ laid terms cs (check c.kind c.place (trees_at terms c.goals) rest)
laid_push terms [] c rest = refl
laid_push terms (d ∷ cs) c rest = ap (check d.kind d.place (trees_at terms d.goals)) (laid_push terms cs c rest)

abbrev pub with_check : Draft → List Term → List Check → Draft
with_check d terms all = record { steps = record { terms = terms; nodes = d.steps.nodes }; checks = all }

module _ {d : Draft} {terms : List Term} {all : List Check} {ts : List Term} (c : Check) (whole : Whole d) (a : AddsAll d.steps.terms terms c.goals ts) (is : all ≡ d.checks ++ c ∷ []) where
  pub check_keeps : Keeps d (with_check d terms all)
  check_keeps =
      let k = only_keeps whole a.grown in
      record { whole = record { order = k.whole.order; checks = subst (AreChecks (length terms)) (sym is) (checks_push d.checks c (length terms) k.whole.checks a.within) }; grown = k.grown; nodes = refl }

  pub check_finds : Finds d (with_check d terms all) (check c.kind c.place ts)
  check_finds = record {
    laid = λ rest.
        ap (λ cs. laid terms cs rest) is
        ∙ laid_push terms d.checks c rest
        ∙ checks_kept d.checks (check c.kind c.place (trees_at terms c.goals) rest) a.grown whole.checks
        ∙ ap (λ us. laid d.steps.terms d.checks (check c.kind c.place us rest)) a.trees;
  }

-- a check of goals that are made first
pub check_made : {d : Draft} {terms : List Term} {y : Draft} {lefts ids : List TermId} {us : List Term} (kind : CondKind) (place : Place) (ls gs : List Term) → Whole d → AreIds (length d.steps.terms) lefts → MeanAll d lefts ls → AddsAll d.steps.terms terms ids us → us ≡ gs
    → Finds (with_terms d terms) y (check kind place (guarded (trees_at terms lefts) (trees_at terms ids))) → Finds d y (checked_under ls kind place gs)
check_made {d} {terms} {y} {lefts} {ids} kind place ls gs whole are ml added is then =
    finds_along (λ rest. λ i. check kind place (guarded (sym (kept_ids added.grown lefts are ∙ ml.trees) i) (sym (added.trees ∙ is) i)) rest)
    (finds_twice (only_finds whole added.grown) then)

-- ---- left sides
pub left_more : {w : Draft} {lefts : List TermId} {ls : List Term} (id : TermId) (t : Term) → MeanAll w lefts ls → Means w id t → MeanAll w (lefts ++ id ∷ []) (ls ++ t ∷ [])
left_more {w} {lefts} {ls} id t ml m = record { trees = map-append (tree_at w.steps.terms) lefts (id ∷ []) ∙ (λ i. ml.trees i ++ m.tree i ∷ []) }

at_and : (o : InfixOp) (ls : List Term) (a : Term) → o ≡ op.AndThen → right_lefts o ls a ≡ ls ++ a ∷ []
at_and o ls a is = ap (λ x. right_lefts x ls a) is

at_or : (o : InfixOp) (ls : List Term) (a : Term) → o ≡ op.OrElse → right_lefts o ls a ≡ ls ++ Prefix Not a ∷ []
at_or o ls a is = ap (λ x. right_lefts x ls a) is

pub and_lefts : {w : Draft} {lefts all : List TermId} {left : TermId} (o : InfixOp) → o ≡ op.AndThen → all ≡ lefts ++ left ∷ [] → (ls : List Term) (a : Term) → MeanAll w lefts ls → Means w left a → MeanAll w all (right_lefts o ls a)
and_lefts {w} {lefts} {all} {left} o is same ls a ml m =
    subst (λ ts. MeanAll w all ts) (sym (at_and o ls a is)) (subst (λ (ids : List TermId). MeanAll w ids (ls ++ a ∷ [])) (sym same) (left_more left a ml m))

pub or_lefts : {w : Draft} {terms : List Term} {lefts all : List TermId} {left negation : TermId} (o : InfixOp) → Whole w → AreIds (length w.steps.terms) lefts → Adds w.steps.terms terms negation (Prefix Not (tree_at w.steps.terms left)) → o ≡ op.OrElse → all ≡ lefts ++ negation ∷ []
    → (ls : List Term) (a : Term) → MeanAll w lefts ls → Means w left a → MeanAll (with_terms w terms) all (right_lefts o ls a)
or_lefts {w} {terms} {lefts} {all} {left} {negation} o whole are added is same ls a ml m =
    let x : Draft = with_terms w terms in
    let here : Means x negation (Prefix Not a) = record { tree = added.made.tree ∙ ap (Prefix Not) m.tree } in
    subst (λ ts. MeanAll x all ts) (sym (at_or o ls a is)) (subst (λ (ids : List TermId). MeanAll x ids (ls ++ Prefix Not a ∷ [])) (sym same) (left_more negation (Prefix Not a) (all_kept (only_keeps whole added.grown) are ml) here))

pub other_lefts : {w : Draft} {lefts all : List TermId} (o : InfixOp) → (o ≡ op.AndThen → ⊥) → (o ≡ op.OrElse → ⊥) → all ≡ lefts → (ls : List Term) (a : Term) → MeanAll w lefts ls → MeanAll w all (right_lefts o ls a)
other_lefts {w} {lefts} {all} o f g same ls a ml = subst (λ ts. MeanAll w all ts) (sym (same_lefts o ls a f g)) (subst (λ (ids : List TermId). MeanAll w ids ls) (sym same) ml)

-- ---- expressions
module _ {p : Program} {lefts : List TermId} {w : Draft} {e : CoreExpr} where
  pub eval_static : {x : Draft} {id : TermId} (s : Value) → Some s ≡ literal e → Gives w x (λ rest. rest) id (static_term s) → Checked p lefts w x e id
  eval_static {x} {id} s is m = record {
    gives = λ ls ml. record {
      finds = finds_along (static_unchecked p (now_term p) ls e (ap is_some (sym is))) m.finds;
      means = subst (Means x id) (sym (static_is (now_term p) (now_term p) e s (sym is))) m.means;
    };
  }

  pub eval_free : {x : Draft} {id : TermId} → Gives w x (λ rest. rest) id (term_of p (now_term p) e) → ((ls : List Term) (rest : Tree) → checks p (now_term p) ls e rest ≡ rest) → Checked p lefts w x e id
  eval_free m free = record { gives = λ ls ml. record { finds = finds_along (free ls) m.finds; means = m.means } }

  pub eval_parenthesized : {x : Draft} {id : TermId} (place : Place) (a : CoreExpr) → e ≡ expr.Parenthesized place a → Checked p lefts w x a id → Checked p lefts w x e id
  eval_parenthesized {x} {id} place a is v = record {
    gives = λ ls ml.
        let m = v.gives ls ml in
        record { finds = finds_along (parenthesized_checks p (now_term p) e ls place a is) m.finds; means = subst (Means x id) (sym (parenthesized_term (now_term p) (now_term p) e place a is)) m.means };
  }

  pub eval_implicit : {x : Draft} {id : TermId} (base : BaseType) (place : Place) (a : CoreExpr) → e ≡ expr.Implicit base place a → Checked p lefts w x a id → Checked p lefts w x e id
  eval_implicit {x} {id} base place a is v = record {
    gives = λ ls ml.
        let m = v.gives ls ml in
        record { finds = finds_along (implicit_checks p (now_term p) e ls base place a is) m.finds; means = subst (Means x id) (sym (implicit_term (now_term p) (now_term p) e base place a is)) m.means };
  }

  pub eval_selected : {x : Draft} {terms : List Term} {i id : TermId} {y : Selection} (a : CoreExpr) (field : Identifier) (s : Selection) → e ≡ expr.Selected a field s → Keeps w x → Checked p lefts w x a i → y ≡ s → Adds x.steps.terms terms id (field_term y (tree_at x.steps.terms i))
      → Checked p lefts w (with_terms x terms) e id
  eval_selected {x} {terms} {i} {id} {y} a field s is kx v same made = record {
    gives = λ ls ml.
        let first = v.gives ls ml in
        let last = only_gives kx.whole (term_of p (now_term p) e) made ((λ n. field_term (same n) (first.means.tree n)) ∙ sym (field_is (now_term p) (now_term p) e a field s is)) in
        record { finds = finds_along (field_checks p (now_term p) e ls a field s is) (finds_twice first.finds last.finds); means = last.means };
  }

  module _ (are : AreIds (length w.steps.terms) lefts) where
    pub eval_element : {x y z : Draft} {terms : List Term} {i j id : TermId} {s r : Indexing} {at : Place} (a : CoreExpr) (place : Place) (b : CoreExpr) (h : Indexing) → e ≡ expr.Element a place b h → Keeps w x → i.0 < length x.steps.terms → Checked p lefts w x a i
        → Keeps x y → j.0 < length y.steps.terms → Checked p lefts x y b j → s ≡ h → at ≡ place_of b → Keeps y z
        → ((ls : List Term) (t : Term) → MeanAll y lefts ls → Means y j t → Finds y z (index_check ls s at t)) → r ≡ h
        → Adds z.steps.terms terms id (element_term r (tree_at z.steps.terms i) (tree_at z.steps.terms j)) → Checked p lefts w (with_terms z terms) e id
    eval_element {x} {y} {z} {terms} {i} {j} {id} {s} {r} {at} a place b h is kx wi v ky wj v2 same at_is kz check also made = record {
      gives = λ ls ml.
          let tb = term_of p (now_term p) b in
          let first = v.gives ls ml in
          let second = v2.gives ls (all_kept kx are ml) in
          let third : Finds y z (index_check ls h (place_of b) tb) =
          subst (λ (g : Indexing). Finds y z (index_check ls g (place_of b) tb)) same (subst (λ (q : Place). Finds y z (index_check ls s q tb)) at_is (check ls tb (all_kept (keeps_twice kx ky) are ml) second.means)) in
          let whole = means_kept (keeps_twice ky kz) wi first.means in
          let index = means_kept kz wj second.means in
          let last = only_gives kz.whole (term_of p (now_term p) e) made ((λ n. element_term (also n) (whole.tree n) (index.tree n)) ∙ sym (element_is (now_term p) (now_term p) e a place b h is)) in
          record { finds = finds_along (element_checks p (now_term p) e ls a place b h is) (finds_twice first.finds (finds_twice second.finds (finds_twice third last.finds))); means = last.means };
    }

  module _ (none : None ≡ literal e) (are : AreIds (length w.steps.terms) lefts) where
    pub eval_prefix : {x z : Draft} {terms : List Term} {i id : TermId} {base : BaseType} (o : PrefixOp) (place : Place) (a : CoreExpr) → e ≡ expr.Prefix o place a → Keeps w x → Checked p lefts w x a i
        → Adds x.steps.terms terms id (signed_term o (tree_at x.steps.terms i))
        → Keeps (with_terms x terms) z → base ≡ base_of e → ((ls : List Term) (t : Term) → MeanAll (with_terms x terms) lefts ls → Means (with_terms x terms) id t → Finds (with_terms x terms) z (sign_check ls o base place t)) → Checked p lefts w z e id
    eval_prefix {x} {z} {terms} {i} {id} {base} o place a is kx v signed kz base_is check = record {
      gives = λ ls ml.
          let y = with_terms x terms in
          let first = v.gives ls ml in
          let t = term_of p (now_term p) e in
          let second = only_gives kx.whole t signed (ap (signed_term o) first.means.tree ∙ sym (prefix_term (now_term p) (now_term p) e none o place a is)) in
          let lefts_here = all_kept (keeps_twice kx (only_keeps kx.whole signed.grown)) are ml in
          record {
            finds = finds_along (prefix_checks p (now_term p) e ls none o place a is) (finds_twice first.finds (finds_twice second.finds (subst (λ (b : BaseType). Finds y z (sign_check ls o b place t)) base_is (check ls t lefts_here second.means))));
            means = means_kept kz signed.made.within second.means;
          };
    }

    pub eval_applied : {x z : Draft} {terms : List Term} {i id : TermId} {h : Shift} {mapping : Judged Mapping} {at : Place} (function : CoreFunction) (place : Place) (a : CoreExpr) → e ≡ expr.Applied function place a → Keeps w x → Checked p lefts w x a i
        → h ≡ shift_in (application function) → Adds x.steps.terms terms id (moved_term h (tree_at x.steps.terms i)) → Keeps (with_terms x terms) z → mapping ≡ application function → at ≡ place_of a
        → ((ls : List Term) (t : Term) → MeanAll (with_terms x terms) lefts ls → Means (with_terms x terms) id (moved_term (shift_in mapping) t) → Finds (with_terms x terms) z (mapping_check ls mapping at t)) → Checked p lefts w z e id
    eval_applied {x} {z} {terms} {i} {id} {h} {mapping} {at} function place a is kx v shift_is moved kz mapping_is at_is check = record {
      gives = λ ls ml.
          let y = with_terms x terms in
          let ta = term_of p (now_term p) a in
          let j = application function in
          let first = v.gives ls ml in
          let second : Gives x y (λ rest. rest) id (moved_term (shift_in j) ta) = only_gives kx.whole (moved_term (shift_in j) ta) moved (λ k. moved_term (shift_is k) (first.means.tree k)) in
          let third : Finds y z (mapping_check ls j (place_of a) ta) =
          subst (λ (m : Judged Mapping). Means y id (moved_term (shift_in m) ta) → Finds y z (mapping_check ls m (place_of a) ta)) mapping_is
          (subst (λ (q : Place). Means y id (moved_term (shift_in mapping) ta) → Finds y z (mapping_check ls mapping q ta)) at_is (check ls ta (all_kept (keeps_twice kx (only_keeps kx.whole moved.grown)) are ml))) second.means in
          record {
            finds = finds_along (applied_checks p (now_term p) e ls none function place a is) (finds_twice first.finds (finds_twice second.finds third));
            means = means_kept kz moved.made.within (subst (Means y id) (sym (applied_term (now_term p) (now_term p) e none function place a is)) second.means);
          };
    }

    pub eval_infix : {x g y u : Draft} {terms : List Term} {i j id : TermId} {guards ids : List TermId} {base : BaseType} {at : Place} {s : TermOp} (o : InfixOp) (place : Place) (a b : CoreExpr) → e ≡ expr.Infix o place a b → Keeps w x → i.0 < length x.steps.terms → Checked p lefts w x a i
        → Keeps x g → Finds x g (λ rest. rest) → ((ls : List Term) (t : Term) → MeanAll x lefts ls → Means x i t → MeanAll g guards (right_lefts o ls t)) → ids ≡ guards
        → Keeps g y → j.0 < length y.steps.terms → Checked p ids g y b j → s ≡ term_op o → Adds y.steps.terms terms id (Infix s (tree_at y.steps.terms i) (tree_at y.steps.terms j))
        → Keeps (with_terms y terms) u → base ≡ base_of e → at ≡ place_of b
        → ((ls : List Term) (t s : Term) → MeanAll (with_terms y terms) lefts ls → Means (with_terms y terms) j t → Means (with_terms y terms) id s → Finds (with_terms y terms) u (operation_check ls o base place at t s)) → Checked p lefts w u e id
    eval_infix {x} {g} {y} {u} {terms} {i} {j} {id} {guards} {ids} {base} {at} {s} o place a b is kx wi v kg wg guarding same ky wj v2 op_is made ku base_is at_is check = record {
      gives = λ ls ml.
          let z = with_terms y terms in
          let ta = term_of p (now_term p) a in
          let tb = term_of p (now_term p) b in
          let t = term_of p (now_term p) e in
          let first = v.gives ls ml in
          let lefts_x = all_kept kx are ml in
          let guards_g = subst (λ (is : List TermId). MeanAll g is (right_lefts o ls ta)) (sym same) (guarding ls ta lefts_x first.means) in
          let second = v2.gives (right_lefts o ls ta) guards_g in
          let xy = keeps_twice kg ky in
          let kz = only_keeps ky.whole made.grown in
          let left = means_kept xy wi first.means in
          let third = only_gives ky.whole t made ((λ n. Infix (op_is n) (left.tree n) (second.means.tree n)) ∙ sym (infix_term (now_term p) (now_term p) e none o place a b is)) in
          let lefts_z = all_kept (keeps_twice kx (keeps_twice xy kz)) are ml in
          let fourth = subst (λ (r : BaseType). Finds z u (operation_check ls o r place (place_of b) tb t)) base_is (subst (λ (q : Place). Finds z u (operation_check ls o base place q tb t)) at_is (check ls tb t lefts_z (means_kept kz wj second.means) third.means)) in
          record {
            finds = finds_along (infix_checks p (now_term p) e ls none o place a b is) (finds_twice first.finds (finds_twice wg (finds_twice second.finds (finds_twice third.finds fourth))));
            means = means_kept ku made.made.within third.means;
          };
    }

    pub eval_in_type : {x y z : Draft} {terms : List Term} {i j k id : TermId} {subtype : Subtype} (o : MemberOp) (place : Place) (a : CoreExpr) (name : Reference) → e ≡ expr.InType o place a name → subtype ≡ subtype_of name.root.entity → i.0 < length x.steps.terms → Checked p lefts w x a i
        → Keeps x y → j.0 < length y.steps.terms → Gives x y (λ rest. rest) j (Number subtype.first) → Keeps y z → Gives y z (λ rest. rest) k (Number subtype.last)
        → Adds z.steps.terms terms id (member_term o (tree_at z.steps.terms i) (tree_at z.steps.terms j) (tree_at z.steps.terms k)) → Checked p lefts w (with_terms z terms) e id
    eval_in_type {x} {y} {z} {terms} {i} {j} {k} {id} {subtype} o place a name is sub wi v ky wj low kz high made = record {
      gives = λ ls ml.
          let first = v.gives ls ml in
          let tested = means_kept (keeps_twice ky kz) wi first.means in
          let least = means_kept kz wj low.means in
          let last = only_gives kz.whole (term_of p (now_term p) e) made
          ((λ n. member_term o (tested.tree n) ((least.tree ∙ ap (λ (s : Subtype). Number s.first) sub) n) ((high.means.tree ∙ ap (λ (s : Subtype). Number s.last) sub) n)) ∙ sym (in_type_term (now_term p) (now_term p) e none o place a name is)) in
          record { finds = finds_along (in_type_checks p (now_term p) e ls none o place a name is) (finds_twice first.finds (finds_twice low.finds (finds_twice high.finds last.finds))); means = last.means };
    }

    pub eval_in_range : {x y z : Draft} {terms : List Term} {i j k id : TermId} (o : MemberOp) (place : Place) (a low high : CoreExpr) → e ≡ expr.InRange o place a low high → Keeps w x → i.0 < length x.steps.terms → Checked p lefts w x a i
        → Keeps x y → j.0 < length y.steps.terms → Checked p lefts x y low j → Keeps y z → Checked p lefts y z high k
        → Adds z.steps.terms terms id (member_term o (tree_at z.steps.terms i) (tree_at z.steps.terms j) (tree_at z.steps.terms k)) → Checked p lefts w (with_terms z terms) e id
    eval_in_range {x} {y} {z} {terms} {i} {j} {k} {id} o place a low high is kx wi v ky wj v2 kz v3 made = record {
      gives = λ ls ml.
          let first = v.gives ls ml in
          let second = v2.gives ls (all_kept kx are ml) in
          let third = v3.gives ls (all_kept (keeps_twice kx ky) are ml) in
          let tested = means_kept (keeps_twice ky kz) wi first.means in
          let least = means_kept kz wj second.means in
          let last = only_gives kz.whole (term_of p (now_term p) e) made ((λ n. member_term o (tested.tree n) (least.tree n) (third.means.tree n)) ∙ sym (in_range_term (now_term p) (now_term p) e none o place a low high is)) in
          record { finds = finds_along (in_range_checks p (now_term p) e ls none o place a low high is) (finds_twice first.finds (finds_twice second.finds (finds_twice third.finds last.finds))); means = last.means };
    }

-- ---- the checks of an expression in code
pub ready_whole : {d : Draft} → Ready d → Whole d
ready_whole {d} r = record { order = r.order; checks = subst (AreChecks (length d.steps.terms)) (sym r.none) tt }

pub also_waits : {p : Program} {old new : Draft} {e : CoreExpr} {id : TermId} → Keeps old new → id.0 < length new.steps.terms → Checked p [] old new e id → AlsoWaits p old new e id
also_waits k w v =
    let g = v.gives [] (record { trees = refl }) in
    record { order = k.whole.order; grown = k.grown; nodes = k.nodes; are = k.whole.checks; checks = g.finds.laid; made = record { within = w; tree = g.means.tree } }

pub evaluates : {p : Program} {old new : Draft} {e : CoreExpr} {id : TermId} → Ready old → Keeps old new → id.0 < length new.steps.terms → Checked p [] old new e id → Evaluates p old new e id
evaluates {p} {old} {new} {e} ready k w v =
    let a = also_waits k w v in
    record { order = a.order; grown = a.grown; nodes = a.nodes; are = a.are; checks = λ rest. a.checks rest ∙ ap (λ cs. laid old.steps.terms cs (checks p (now_term p) [] e rest)) ready.none; made = a.made }
