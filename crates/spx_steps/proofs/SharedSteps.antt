-- What each step adds, where terms are ids.
use Rattle.std.proofs.Common.{◌≡◌, ℕ, ◌<◌, ◌≤◌, Bool, true, false, cond, List, [], ◌∷◌, ◌++◌, length, map, Option, Some, None, refl, sym, ap, ◌∙◌, subst, arith, append-nil, length-append, append_assoc}
use Rattle.std.proofs.lemmas.List.{map-append}
use Rattle.std.specs.List.{list_any}
use Rattle.std.proofs.Math.Seq.{get_or-append_seam}
use Rattle.indexmap.specs.IndexSet.{insert_key}
use Rattle.spx_text.specs.declared.place.Place.{Place}
use Rattle.spx_term.specs.declared.condition.CondKind.{CondKind}
use Rattle.spx_term.specs.declared.term.Name.{Name}
use Rattle.spx_term.specs.declared.term.Term.{Term}
use Rattle.spx_term.specs.declared.term.Term.TheVariants.{Variable}
use Rattle.spx_term.specs.Steps.{Tree, Assume, Assign, Prove, Claim, with_new}
use Rattle.spx_arena.specs.declared.terms.TermId.{TermId}
use Rattle.spx_arena.specs.declared.claims.SharedClaim.{SharedClaim}
use Rattle.spx_arena.specs.Sharing.{tree_at, Grows, Distinct, IsId}
use Rattle.spx_arena.specs.Facts.{facts_at}
use Rattle.spx_arena.specs.Claims.{AreIds, AreLists, AreClaims, trees_at, claim_at, claims_at}
use Rattle.spx_arena.proofs.Growth.{grows_not, grows_twice, is_kept}
use Rattle.spx_arena.proofs.Ids.{wider_ids, wider_claims, claims_push, kept_ids, kept_claims, wider_lists, list_more, ids_push}
use Rattle.spx_steps.specs.declared.walk.Facts.{Facts}
use Rattle.spx_steps.specs.declared.walk.Walk.{Walk}
use Rattle.spx_steps.specs.ConditionWalk.{State, applied, forward, updated}
use Rattle.spx_steps.specs.Memos.{id_eq, known, IsMade, NothingKnown}
use Rattle.spx_steps.specs.States.{Given, given, name_eq, value_or, state_in, AreValues, IsSet}
use Rattle.spx_steps.specs.Walks.{state, Longer, OnlyAdds, OnlyTerms, Ready, Makes, Stands, AddsFact, claims_from, Goes}
use Rattle.spx_steps.proofs.ConditionStates.{tests_alike}
use Rattle.spx_steps.proofs.SharedIds.{id_eq-Decides, inserted_trees, inserted_ids, inserted_extends, state_kept}

-- ---- relations between walks
longer_not : {A : Type 0} {xs ys : List A} → ys ≡ xs → Longer xs ys
longer_not {A} {xs} {ys} e = record { more = []; is = e ∙ sym (append-nil xs) }

longer_twice : {A : Type 0} {a b c : List A} → Longer a b → Longer b c → Longer a c
longer_twice {A} {a} {b} {c} p q = record { more = p.more ++ q.more; is = q.is ∙ ap (λ xs. xs ++ q.more) p.is ∙ append_assoc a p.more q.more }

adds_not : (w : Walk) → OnlyAdds w w
adds_not w = record { grown = grows_not w.terms; keys = longer_not refl; lists = longer_not refl }

pub adds_twice : {a b c : Walk} → OnlyAdds a b → OnlyAdds b c → OnlyAdds a c
adds_twice p q = record { grown = grows_twice p.grown q.grown; keys = longer_twice p.keys q.keys; lists = longer_twice p.lists q.lists }

pub wider_values : {m n : ℕ} {values : Given} → m ≤ n → AreValues m values → AreValues n values
wider_values le are = record { ids = λ k id e. let w = are.ids k id e in omega arith }

pub goes_not : {names : List Term} {w : Walk} → Ready names w → Goes names w w (λ rest. rest)
goes_not {names} {w} r = record { ready = r; adds = adds_not w; same = λ rest. refl }

pub goes_twice : {names : List Term} {a b c : Walk} {f g : Tree → Tree} → Goes names a b f → Goes names b c g → Goes names a c (λ rest. f (g rest))
goes_twice {names} {a} {b} {c} {f} {g} p q = record { ready = q.ready; adds = adds_twice p.adds q.adds; same = λ rest. p.same (g rest) ∙ q.same rest }

-- ---- more terms
abbrev with_terms : Walk → List Term → Walk
with_terms w ts = record { terms = ts; values = w.values; made = w.made; facts = w.facts; claims = w.claims }

pub only_not : {names : List Term} {w : Walk} → Ready names w → OnlyTerms names w w
only_not {names} {w} r = record { ready = r; grown = grows_not w.terms; values = refl; facts = refl; claims = refl }

pub only_twice : {names : List Term} {a b c : Walk} → OnlyTerms names a b → OnlyTerms names b c → OnlyTerms names a c
only_twice p q = record { ready = q.ready; grown = grows_twice p.grown q.grown; values = q.values ∙ p.values; facts = q.facts ∙ p.facts; claims = q.claims ∙ p.claims }

ready_on : {names : List Term} {w : Walk} {ts : List Term} → Ready names w → Grows w.terms ts → Ready names (with_terms w ts)
ready_on {names} {w} {ts} r g =
    let m = g.more in
    let whole = r.whole in
    record {
      whole = record { values = wider_values m whole.values; facts = wider_ids w.facts.present.keys m whole.facts; lists = wider_lists w.facts.lists m whole.lists; stands = whole.stands; claims = wider_claims w.claims m (omega arith) whole.claims };
      table = r.table;
      made = λ id into e. subst (λ (s : State). IsId ts into (applied s (tree_at names id))) (sym (state_kept g w.values whole.values)) (is_kept (r.made id into e) g);
    }

-- a term was made of its parts
pub after_make : {names : List Term} {a b : Walk} {ts : List Term} {id made : TermId} {u : Term} → OnlyTerms names a b → Grows b.terms ts → IsId ts made u → u ≡ applied (state a) (tree_at names id) → Makes names a (with_terms b ts) id made
after_make {names} {a} {b} {ts} {id} {made} o g is e = record {
  only = only_twice o (record { ready = ready_on o.ready g; grown = g; values = refl; facts = refl; claims = refl });
  is = subst (IsId ts made) e is;
}

module _ {names : List Term} {a b : Walk} (r : Ready names a) (o : OnlyTerms names a b) where
  pub only_state : state b ≡ state a
  only_state = ap (state_in b.terms) o.values ∙ state_kept o.grown a.values r.whole.values

  -- what a term over names stands for is the same before
  pub stands_before : (id : TermId) {ts : List Term} {made : TermId} → IsId ts made (applied (state b) (tree_at names id)) → IsId ts made (applied (state a) (tree_at names id))
  stands_before id {ts} {made} is = subst (λ (s : State). IsId ts made (applied s (tree_at names id))) only_state is

  only_same : (rest : Tree) → claims_from a rest ≡ claims_from b rest
  unfolding claims_from
  only_same rest = sym (λ i. claims i ++ forward (only_state i) (facts i) rest)
    where
      claims : claims_at b.terms b.facts.lists b.claims ≡ claims_at a.terms a.facts.lists a.claims
      claims =
          (λ i. claims_at b.terms (o.facts i).lists (o.claims i))
          ∙ ap (λ ls. claims_at b.terms ls a.claims) (sym (append-nil a.facts.lists))
          ∙ kept_claims o.grown a.facts.lists [] r.whole.lists a.claims r.whole.claims

      facts : trees_at b.terms b.facts.present.keys ≡ trees_at a.terms a.facts.present.keys
      facts = ap (λ (f : Facts). trees_at b.terms f.present.keys) o.facts ∙ kept_ids o.grown a.facts.present.keys r.whole.facts

  -- the walk goes on with what was made
  pub goes_after : {c : Walk} {f : Tree → Tree} → Goes names b c f → Goes names a c f
  goes_after {c} {f} q = record {
    ready = q.ready;
    adds = adds_twice (record { grown = o.grown; keys = longer_not (ap (λ (f : Facts). f.present.keys) o.facts); lists = longer_not (ap (λ (f : Facts). f.lists) o.facts) }) q.adds;
    same = λ rest. only_same (f rest) ∙ q.same rest;
  }

-- the tree of what was made is that of the term, where names have their values
pub made_tree : {names : List Term} {a b : Walk} {id made : TermId} → Ready names a → Makes names a b id made → tree_at b.terms made ≡ applied (state b) (tree_at names id)
made_tree {names} {a} {b} {id} r m = m.is.tree ∙ ap (λ (s : State). applied s (tree_at names id)) (sym (only_state r m.only))

-- what a term was made into is kept
pub after_keep : {names : List Term} {a b : Walk} {memo : List (Option TermId)} {id made : TermId} → Ready names a → Makes names a b id made → IsMade b.made memo id made → Makes names a (record { terms = b.terms; values = b.values; made = memo; facts = b.facts; claims = b.claims }) id made
after_keep {names} {a} {b} {memo} {id} {made} r m is =
    let o = m.only in
    let whole = o.ready.whole in
    record {
      only = record {
        ready = record {
          whole = record { values = whole.values; facts = whole.facts; lists = whole.lists; stands = whole.stands; claims = whole.claims };
          table = is.count ∙ o.ready.table;
          made = λ x y e. by_place x y (id_eq x id) refl (sym (is.at x) ∙ e);
        };
        grown = o.grown;
        values = o.values;
        facts = o.facts;
        claims = o.claims;
      };
      is = m.is;
    }
  where
    by_place : (x y : TermId) (same : Bool) → id_eq x id ≡ same → cond same (Some made) (known b.made x) ≡ Some y → IsId b.terms y (applied (state b) (tree_at names x))
    by_place x y true e is_some =
        let here : id ≡ x = sym ((id_eq-Decides x id).0 e) in
        let out : made ≡ y = cc in
        subst (λ (z : TermId). IsId b.terms z (applied (state b) (tree_at names x))) out
        (subst (λ (z : TermId). IsId b.terms made (applied (state b) (tree_at names z))) here (record { within = m.is.within; tree = made_tree r m }))
    by_place x y false e is_some = m.only.ready.made x y is_some

-- nothing is known of terms over names
not_some : {ts : List Term} {t : Term} (into : TermId) → None ≡ Some into → IsId ts into t
not_some into e = absurd (cc)

pub none_made : {n : ℕ} {memo : List (Option TermId)} {ts : List Term} {t : Term} → NothingKnown n memo → (id into : TermId) → known memo id ≡ Some into → IsId ts into t
none_made nothing id into e = not_some into (sym (nothing.none id) ∙ e)

-- ---- one fact
-- a fact was added to its list, or was there
by_place : (old new : Facts) (fact : TermId) (b : Bool) → Stands old → new.present.keys ≡ cond b old.present.keys (old.present.keys ++ fact ∷ []) → b ≡ list_any (id_eq fact) old.present.keys
    → new.lists ≡ cond b old.lists (old.lists ++ (facts_at old.lists old.at ++ fact ∷ []) ∷ []) → new.at.0 ≡ cond b old.at.0 (length old.lists) → AddsFact old new fact
by_place old new fact true s keys is lists at = record {
  keys = keys ∙ ap (λ b. cond b old.present.keys (old.present.keys ++ fact ∷ [])) is;
  lists = record { more = []; is = lists ∙ sym (append-nil old.lists) };
  stands = record {
    within = let w = s.within in subst (λ (ls : List (List TermId)). new.at.0 < length ls) (sym lists) (omega (arith, at));
    here = (λ i. facts_at (lists i) (record { 0 = at i })) ∙ s.here ∙ sym keys;
  };
  ids = λ n are w. subst (AreLists n) (sym lists) are;
}
by_place old new fact false s keys is lists at =
    let last = facts_at old.lists old.at ++ fact ∷ [] in
    record {
      keys = keys ∙ ap (λ b. cond b old.present.keys (old.present.keys ++ fact ∷ [])) is;
      lists = record { more = last ∷ []; is = lists };
      stands = record {
        within = subst (λ (ls : List (List TermId)). new.at.0 < length ls) (sym lists) (omega (arith, at, length-append old.lists (last ∷ [])));
        here = (λ i. facts_at (lists i) (record { 0 = at i })) ∙ get_or-append_seam old.lists last [] [] ∙ ap (λ ks. ks ++ fact ∷ []) s.here ∙ sym keys;
      };
      ids = λ n are w. subst (AreLists n) (sym lists) (list_more old.lists last n are (ids_push (facts_at old.lists old.at) fact n (are.each old.at) w));
    }

pub added_new : (old new : Facts) (fact : TermId) → Stands old → new.present.keys ≡ insert_key id_eq old.present.keys fact → list_any (id_eq fact) old.present.keys ≡ false
    → new.lists ≡ old.lists ++ (facts_at old.lists old.at ++ fact ∷ []) ∷ [] → new.at.0 ≡ length old.lists → AddsFact old new fact
added_new old new fact s keys is lists at = by_place old new fact false s (keys ∙ ap (λ b. cond b old.present.keys (old.present.keys ++ fact ∷ [])) is) (sym is) lists at

module _ {names : List Term} {w : Walk} {facts : Facts} {fact : TermId} (r : Ready names w) (d : Distinct w.terms) (a : AddsFact w.facts facts fact) (within : fact.0 < length w.terms) (t : Term) (is : tree_at w.terms fact ≡ applied (state w) t) where
  abbrev with_fact : Walk
  with_fact = record { terms = w.terms; values = w.values; made = w.made; facts = facts; claims = w.claims }

  fact_same : (rest : Tree) → claims_from w (Assume t rest) ≡ claims_from with_fact rest
  unfolding claims_from
  fact_same rest = sym (λ i. claims i ++ forward (state w) (known_facts i) rest)
    where
      claims : claims_at w.terms facts.lists w.claims ≡ claims_at w.terms w.facts.lists w.claims
      claims = ap (λ ls. claims_at w.terms ls w.claims) a.lists.is ∙ kept_claims (grows_not w.terms) w.facts.lists a.lists.more r.whole.lists w.claims r.whole.claims

      known_facts : trees_at w.terms facts.present.keys ≡ with_new (trees_at w.terms w.facts.present.keys) (applied (state w) t)
      known_facts = ap (trees_at w.terms) a.keys ∙ inserted_trees w.terms d fact within w.facts.present.keys r.whole.facts ∙ ap (with_new (trees_at w.terms w.facts.present.keys)) is

  pub fact_goes : Goes names w with_fact (Assume t)
  fact_goes =
      let n = length w.terms in
      let whole = r.whole in
      let keys = w.facts.present.keys in
      let more : length w.facts.lists ≤ length facts.lists = omega (arith, ap length a.lists.is, length-append w.facts.lists a.lists.more) in
      let extends = inserted_extends fact keys in
      record {
        ready = record {
          whole = record { values = whole.values; facts = subst (AreIds n) (sym a.keys) (inserted_ids fact keys n whole.facts within); lists = a.ids n whole.lists within; stands = a.stands; claims = wider_claims w.claims (omega arith) more whole.claims };
          table = r.table;
          made = r.made;
        };
        adds = record { grown = grows_not w.terms; keys = record { more = extends.more; is = a.keys ∙ extends.is }; lists = a.lists };
        same = fact_same;
      }

-- ---- a claim
module _ {names : List Term} {w : Walk} {claims : List SharedClaim} (r : Ready names w) (ids : List TermId) (kind : CondKind) (place : Place) (ts : List Term) (are : AreIds (length w.terms) ids) (trees : trees_at w.terms ids ≡ map (applied (state w)) ts)
    (is : claims ≡ w.claims ++ record { kind = kind; place = place; facts = w.facts.at; goals = ids } ∷ []) where
  abbrev with_claim : Walk
  with_claim = record { terms = w.terms; values = w.values; made = w.made; facts = w.facts; claims = claims }

  claim_same : (rest : Tree) → claims_from w (Prove kind place ts rest) ≡ claims_from with_claim rest
  unfolding claims_from
  claim_same rest =
      sym (append_assoc before (now ∷ []) (forward (state w) (trees_at w.terms w.facts.present.keys) rest))
      ∙ ap (λ cs. cs ++ forward (state w) (trees_at w.terms w.facts.present.keys) rest) (sym all)
    where
      before : List Claim
      before = claims_at w.terms w.facts.lists w.claims

      now : Claim
      now = record { kind = kind; place = place; hyps = trees_at w.terms w.facts.present.keys; goals = map (applied (state w)) ts }

      all : claims_at w.terms w.facts.lists claims ≡ before ++ now ∷ []
      all =
          ap (claims_at w.terms w.facts.lists) is
          ∙ map-append (claim_at w.terms w.facts.lists) w.claims (record { kind = kind; place = place; facts = w.facts.at; goals = ids } ∷ [])
          ∙ (λ i. before ++ record { kind = kind; place = place; hyps = trees_at w.terms (r.whole.stands.here i); goals = trees i } ∷ [])

  pub claim_goes : Goes names w with_claim (Prove kind place ts)
  claim_goes =
      let n = length w.terms in
      let k = length w.facts.lists in
      let whole = r.whole in
      let all = claims_push w.claims (record { kind = kind; place = place; facts = w.facts.at; goals = ids }) n k whole.claims whole.stands.within are in
      record {
        ready = record { whole = record { values = whole.values; facts = whole.facts; lists = whole.lists; stands = whole.stands; claims = subst (AreClaims n k) (sym is) all }; table = r.table; made = r.made };
        adds = record { grown = grows_not w.terms; keys = longer_not refl; lists = longer_not refl };
        same = claim_same;
      }

-- ---- a value
module _ (trees : List Term) (old new : Given) (x : Name) (id : TermId) (set : IsSet old new x id) where
  value_by : (b : Bool) (o : Option TermId) (t : Term) → value_or trees (cond b (Some id) o) t ≡ cond b (tree_at trees id) (value_or trees o t)
  value_by true o t = refl
  value_by false o t = refl

  pub state_set : state_in trees new ≡ updated (state_in trees old) x (tree_at trees id)
  state_set = λ i y.
      (ap (λ (o : Option TermId). value_or trees o (Variable y)) (set.at y)
      ∙ value_by (name_eq y x) (given old y) (Variable y)
      ∙ ap (λ b. cond b (tree_at trees id) (value_or trees (given old y) (Variable y))) (tests_alike x y)) i

  given_by : (n : ℕ) (y : Name) (a : TermId) (b : Bool) → AreValues n old → id.0 < n → cond b (Some id) (given old y) ≡ Some a → a.0 < n
  given_by n y a true are within e = let f : id ≡ a = cc in subst (λ (z : TermId). z.0 < n) f within
  given_by n y a false are within e = are.ids y a e

  pub are_set : (n : ℕ) → AreValues n old → id.0 < n → AreValues n new
  are_set n are within = record { ids = λ y a e. given_by n y a (name_eq y x) are within (sym (set.at y) ∙ e) }

module _ {names : List Term} {w : Walk} {values : Given} {memo : List (Option TermId)} {x : Name} {id : TermId} (r : Ready names w) (t : Term) (is : IsId w.terms id (applied (state w) t)) (set : IsSet w.values values x id) (nothing : NothingKnown (length w.made) memo) where
  abbrev with_value : Walk
  with_value = record { terms = w.terms; values = values; made = memo; facts = w.facts; claims = w.claims }

  assign_same : (rest : Tree) → claims_from w (Assign x t rest) ≡ claims_from with_value rest
  unfolding claims_from
  assign_same rest =
      ap (λ (s : State). claims_at w.terms w.facts.lists w.claims ++ forward s (trees_at w.terms w.facts.present.keys) rest) (sym (state_set w.terms w.values values x id set ∙ ap (updated (state w) x) is.tree))

  pub assign_goes : Goes names w with_value (Assign x t)
  assign_goes =
      let whole = r.whole in
      record {
        ready = record {
          whole = record { values = are_set w.terms w.values values x id set (length w.terms) whole.values is.within; facts = whole.facts; lists = whole.lists; stands = whole.stands; claims = whole.claims };
          table = nothing.count_is ∙ r.table;
          made = λ id into e. none_made nothing id into e;
        };
        adds = record { grown = grows_not w.terms; keys = longer_not refl; lists = longer_not refl };
        same = assign_same;
      }
