-- Terms of choices and negations, by ids.
use Rattle.std.proofs.Common.{◌≡◌, ℕ, ◌+◌, ◌<◌, ◌≤◌, List, [], ◌∷◌, ◌++◌, length, map, take, drop, get_or, refl, sym, ap, ◌∙◌, subst, arith, suc, add-one, append_assoc, append-nil, drop-cons}
use Rattle.std.proofs.lemmas.List.{at_drop_all, map-append, take_more}
use Rattle.std.proofs.lemmas.List.Elements.{All-push}
use Rattle.std.specs.Prelude.{All}
use Rattle.spx_core.specs.declared.statement.CoreAlternative.{CoreAlternative}
use Rattle.spx_core.specs.declared.statement.CoreChoice.{CoreChoice}
use Rattle.spx_term.specs.declared.term.Term.{Term}
use Rattle.spx_term.specs.declared.term.Term.TheVariants.{Infix, Prefix}
use Rattle.spx_term.specs.declared.term.TermOp.TheVariants as operator
use Rattle.spx_term.specs.declared.term.TermPrefix.TheVariants.{Not}
use Rattle.spx_term.specs.Conjuncts.{conjuncts}
use Rattle.spx_formula.specs.Choices.{alternative_facts, and_these, choice_term, choices_term, one_of}
use Rattle.spx_arena.specs.declared.terms.TermId.{TermId}
use Rattle.spx_arena.specs.Claims.{AreIds, trees_at}
use Rattle.spx_arena.specs.Sharing.{Adds, Grows, tree_at}
use Rattle.spx_arena.proofs.Growth.{adds_along, grows_twice}
use Rattle.spx_arena.proofs.Ids.{ids_push, kept_ids, wider_ids}
use Rattle.spx_formula.specs.Added.{AddsAll, AddsFacts, choices_of, facts_from}
use Rattle.spx_formula.proofs.GoalSteps.{adds_pair}

-- ---- a choice

-- ---- one of several
pub record IsSoFar (old new : List Term) (value first all : TermId) (choices those : List CoreChoice) : Type 0 where
  pub grown : Grows old new
  pub within : all.0 < length new
  pub same : one_of (tree_at old value) (tree_at new all) those ≡ one_of (tree_at old value) (tree_at old first) choices

pub next_so_far : {old now mid new : List Term} {value first all next id : TermId} (choices : List CoreChoice) (i : ℕ) (choice : CoreChoice) → value.0 < length old → i < length choices → choice ≡ get_or choices i choice
    → IsSoFar old now value first all choices (drop i choices) → Adds now mid next (choice_term (tree_at now value) choice) → Adds mid new id (Infix operator.Or (tree_at mid all) (tree_at mid next))
    → IsSoFar old new value first id choices (drop (i + 1) choices)
next_so_far {old} {now} {mid} {new} {value} {first} {all} {next} {id} choices i choice w within is s p q =
    let both = adds_pair operator.Or s.within p q in
    record {
      grown = grows_twice s.grown both.grown;
      within = both.made.within;
      same =
          ap (λ u. one_of (tree_at old value) u (drop (i + 1) choices)) (both.made.tree ∙ ap (λ u. Infix operator.Or (tree_at now all) (choice_term u choice)) (s.grown.kept value w))
          ∙ ap (one_of (tree_at old value) (tree_at now all)) (sym (drop-cons choices i choice within ∙ (λ k. sym is k ∷ drop (sym (add-one i) k) choices)))
          ∙ s.same;
    }

pub end_so_far : {old new : List Term} {value first all : TermId} (choices : List CoreChoice) (i : ℕ) → length choices ≤ i → IsSoFar old new value first all choices (drop i choices) → Adds old new all (one_of (tree_at old value) (tree_at old first) choices)
end_so_far {old} {new} {value} {first} {all} choices i end s = record {
  grown = s.grown;
  made = record { within = s.within; tree = sym (at_drop_all (λ (those : List CoreChoice). one_of (tree_at old value) (tree_at new all) those) choices i end) ∙ s.same };
}

pub first_stands : (choices : List CoreChoice) (choice : CoreChoice) → 1 ≤ length choices → choice ≡ get_or choices 0 choice → choices ≡ choice ∷ drop 1 choices
first_stands [] choice some is = absurd (omega (arith, some))
first_stands (first ∷ more) choice some is = λ i. sym is i ∷ more

pub adds_choices : {old mid new : List Term} {value first id : TermId} (choices : List CoreChoice) (choice : CoreChoice) (more : List CoreChoice) → value.0 < length old → Adds old mid first (choice_term (tree_at old value) choice)
    → Adds mid new id (one_of (tree_at mid value) (tree_at mid first) more) → choices ≡ choice ∷ more → Adds old new id (choices_term (tree_at old value) choices)
adds_choices {old} {mid} {new} {value} {first} {id} choices choice more w p q is = record {
  grown = grows_twice p.grown q.grown;
  made = (adds_along q ((λ i. one_of (p.grown.kept value w i) (p.made.tree i) more) ∙ ap (choices_term (tree_at old value)) (sym is))).made;
}

-- ---- negations
pub next_negation : {old now new : List Term} {all then : List TermId} {id : TermId} (ids : List TermId) (i : ℕ) (d : TermId) → AreIds (length old) ids → (get_or ids i d).0 < length old → i < length ids
    → AddsAll old now all (map (Prefix Not) (trees_at old (take i ids))) → Adds now new id (Prefix Not (tree_at now (get_or ids i d))) → then ≡ all ++ id ∷ []
    → AddsAll old new then (map (Prefix Not) (trees_at old (take (i + 1) ids)))
next_negation {old} {now} {new} {all} {then} {id} ids i d are w within a p is =
    record {
      grown = grows_twice a.grown p.grown;
      within = subst (AreIds (length new)) (sym is) (ids_push all id (length new) (wider_ids all p.grown.more a.within) p.made.within);
      trees =
          ap (trees_at new) is
          ∙ map-append (tree_at new) all (id ∷ [])
          ∙ (λ k. (kept_ids p.grown all a.within ∙ a.trees) k ++ (p.made.tree ∙ ap (Prefix Not) (a.grown.kept (get_or ids i d) w)) k ∷ [])
          ∙ sym (map-append (Prefix Not) (trees_at old (take i ids)) (tree_at old (get_or ids i d) ∷ []))
          ∙ ap (map (Prefix Not)) (sym (map-append (tree_at old) (take i ids) (get_or ids i d ∷ [])) ∙ ap (trees_at old) (sym (take_more ids i d within)));
    }

-- ---- what is known
pub all_stay : {old new : List Term} (ids : List TermId) → Grows old new → AreIds (length old) ids → AddsAll old new ids (trees_at old ids)
all_stay ids g are = record { grown = g; within = wider_ids ids g.more are; trees = kept_ids g ids are }

pub all_parts : {old new : List Term} {id : TermId} {parts : List TermId} {t : Term} → Adds old new id t → AreIds (length new) parts → trees_at new parts ≡ conjuncts (tree_at new id) → AddsAll old new parts (conjuncts t)
all_parts a are trees = record { grown = a.grown; within = are; trees = trees ∙ ap conjuncts a.made.tree }

pub all_push : {old new : List Term} {id : TermId} {then : List TermId} {t : Term} (ids : List TermId) → Adds old new id t → AreIds (length old) ids → then ≡ ids ++ id ∷ [] → AddsAll old new then (trees_at old ids ++ t ∷ [])
all_push {old} {new} {id} ids a are is = record {
  grown = a.grown;
  within = subst (AreIds (length new)) (sym is) (ids_push ids id (length new) (wider_ids ids a.grown.more are) a.made.within);
  trees = ap (trees_at new) is ∙ map-append (tree_at new) ids (id ∷ []) ∙ (λ k. kept_ids a.grown ids are k ++ a.made.tree k ∷ []);
}

-- ---- what is known in each of several alternatives
-- facts of these alternatives are still to be made
pub record FactsSoFar (old new : List Term) (value : TermId) (earlier : List TermId) (all : List (List TermId)) (alternatives those : List CoreAlternative) : Type 0 where
  pub grown : Grows old new
  pub are : AreIds (length new) earlier
  pub within : All (AreIds (length new)) all
  pub same : map (trees_at new) all ++ facts_from (tree_at old value) (trees_at new earlier) (map choices_of those) ≡ facts_from (tree_at old value) [] (map choices_of alternatives)

-- lists of ids keep their trees
lists_kept : {old new : List Term} (all : List (List TermId)) → Grows old new → All (AreIds (length old)) all → map (trees_at new) all ≡ map (trees_at old) all
lists_kept [] g are = refl
lists_kept (ids ∷ all) g are = λ i. kept_ids g ids (are 0 [] (omega arith)) i ∷ lists_kept all g (λ k d w. are (suc k) d (omega (arith, w))) i

pub next_facts : {old mid new : List Term} {value : TermId} {earlier then facts : List TermId} {all more : List (List TermId)} (alternatives : List CoreAlternative) (i : ℕ) (a : CoreAlternative) → value.0 < length old → i < length alternatives → a ≡ get_or alternatives i a
    → FactsSoFar old mid value earlier all alternatives (drop i alternatives) → AddsAll mid new facts (alternative_facts (tree_at mid value) (trees_at mid earlier) (choices_of a)) → AddsAll mid new then (and_these (tree_at mid value) (trees_at mid earlier) (choices_of a))
    → more ≡ all ++ facts ∷ [] → FactsSoFar old new value then more alternatives (drop (i + 1) alternatives)
next_facts {old} {mid} {new} {value} {earlier} {then} {facts} {all} {more} alternatives i a w within at s p q is =
    let t = tree_at old value in
    let v : tree_at mid value ≡ t = s.grown.kept value w in
    let others = map choices_of (drop (i + 1) alternatives) in
    let e = trees_at mid earlier in
    record {
      grown = grows_twice s.grown p.grown;
      are = q.within;
      within = subst (All (AreIds (length new))) (sym is) (All-push (AreIds (length new)) all facts (λ k d b. let m = p.grown.more in wider_ids _ m (s.within k d b)) p.within);
      same =
          (λ k. map (trees_at new) (is k) ++ facts_from t (q.trees k) others)
          ∙ (λ k. map-append (trees_at new) all (facts ∷ []) k ++ facts_from t (and_these (v k) e (choices_of a)) others)
          ∙ (λ k. (lists_kept all p.grown s.within k ++ p.trees k ∷ []) ++ facts_from t (and_these t e (choices_of a)) others)
          ∙ (λ k. (map (trees_at mid) all ++ alternative_facts (v k) e (choices_of a) ∷ []) ++ facts_from t (and_these t e (choices_of a)) others)
          ∙ append_assoc (map (trees_at mid) all) (alternative_facts t e (choices_of a) ∷ []) (facts_from t (and_these t e (choices_of a)) others)
          ∙ ap (λ (those : List CoreAlternative). map (trees_at mid) all ++ facts_from t e (map choices_of those)) (sym (drop-cons alternatives i a within ∙ (λ k. sym at k ∷ drop (sym (add-one i) k) alternatives)))
          ∙ s.same;
    }

pub end_facts : {old new : List Term} {value : TermId} {earlier : List TermId} {all : List (List TermId)} (alternatives : List CoreAlternative) (i : ℕ) → length alternatives ≤ i → FactsSoFar old new value earlier all alternatives (drop i alternatives)
    → AddsFacts old new (facts_from (tree_at old value) [] (map choices_of alternatives)) all
end_facts {old} {new} {value} {earlier} {all} alternatives i end s = record {
  grown = s.grown;
  within = s.within;
  trees =
      sym (append-nil (map (trees_at new) all))
      ∙ sym (at_drop_all (λ (those : List CoreAlternative). map (trees_at new) all ++ facts_from (tree_at old value) (trees_at new earlier) (map choices_of those)) alternatives i end)
      ∙ s.same;
}
