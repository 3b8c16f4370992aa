-- What is known of terms over names, and walks to the end of each path.
use Rattle.std.proofs.Common.{◌≡◌, ℕ, ◌+◌, ◌<◌, List, [], ◌∷◌, ◌++◌, length, take, get_or, flat_map, map, Some, refl, sym, ap, ◌∙◌, subst, append_assoc, append-nil}
use Rattle.std.proofs.lemmas.List.{map-append, take_more}
use Rattle.std.proofs.lemmas.Grind.{flat_map-append}
use Rattle.spx_term.specs.declared.term.Name.{Name}
use Rattle.spx_term.specs.declared.term.Term.{Term}
use Rattle.spx_term.specs.declared.term.Term.TheVariants.{Variable}
use Rattle.spx_term.specs.Steps.{Tree, Cut, Assume, Fresh, Split, assume_all, claims_of, tidy}
use Rattle.spx_arena.specs.declared.terms.TermId.{TermId}
use Rattle.spx_arena.specs.Claims.{AreIds, trees_at, claims_at}
use Rattle.spx_arena.specs.Facts.{facts_at}
use Rattle.spx_arena.specs.Sharing.{tree_at}
use Rattle.spx_arena.proofs.Ids.{ids_push, kept_ids, wider_ids}
use Rattle.spx_steps.specs.declared.steps.StepId.{StepId}
use Rattle.spx_steps.specs.declared.steps.Steps.{Steps}
use Rattle.spx_steps.specs.Trees.{cut_tree, cut_trees}
use Rattle.spx_steps.specs.declared.walk.Walk.{Walk}
use Rattle.spx_steps.specs.ConditionWalk.{State, applied, forward}
use Rattle.spx_steps.specs.Memos.{known, NothingKnown}
use Rattle.spx_steps.specs.States.{AreValues, given, state_in}
use Rattle.spx_steps.specs.Walks.{BeginsAnew, ClaimsAll, Goes, Makes, MakesAll, Ready, claims_from, so_far, state}
use Rattle.spx_steps.specs.Forks.{Comes, ends_in}
use Rattle.spx_steps.proofs.ConditionForward.{forward_from_start}
use Rattle.spx_steps.proofs.SharedSteps.{adds_twice, goes_not, goes_twice, none_made, only_not, only_state, only_twice, stands_before}

-- ---- claims so far, and those of a tree
pub split_from : (w : Walk) (one other : Tree) → claims_from w (Split one other) ≡ claims_from w one ++ forward (state w) (trees_at w.terms w.facts.present.keys) other
unfolding claims_from
split_from w one other = sym (append_assoc (so_far w) (forward (state w) (trees_at w.terms w.facts.present.keys) one) (forward (state w) (trees_at w.terms w.facts.present.keys) other))

pub from_here : (w : Walk) (tree : Tree) → claims_from w tree ≡ so_far w ++ forward (state w) (trees_at w.terms w.facts.present.keys) tree
unfolding claims_from
from_here w tree = refl

-- ---- terms over names, one after the other
pub none_of : {names : List Term} {w : Walk} (ids none : List TermId) → Ready names w → none ≡ [] → MakesAll names w w (take 0 ids) none
none_of {names} {w} ids none r is = record { only = only_not r; within = subst (AreIds (length w.terms)) (sym is) tt; are = ap (trees_at w.terms) is }

pub next_value : {names : List Term} {a b c : Walk} (all then : List TermId) {id : TermId} (ids : List TermId) (i : ℕ) (d : TermId) → Ready names a → i < length ids → MakesAll names a b (take i ids) all → Makes names b c (get_or ids i d) id → then ≡ all ++ id ∷ [] → MakesAll names a c (take (i + 1) ids) then
next_value {names} {a} {b} {c} all then {id} ids i d r w v m then_is =
    let g = m.only.grown in
    record {
      only = only_twice v.only m.only;
      within = subst (AreIds (length c.terms)) (sym then_is) (ids_push all id (length c.terms) (wider_ids all g.more v.within) m.is.within);
      are =
          ap (trees_at c.terms) then_is
          ∙ map-append (tree_at c.terms) all (id ∷ [])
          ∙ (λ k. (kept_ids g all v.within ∙ v.are) k ++ (stands_before r v.only (get_or ids i d) m.is).tree k ∷ [])
          ∙ sym (map-append (applied (state a)) (trees_at names (take i ids)) (tree_at names (get_or ids i d) ∷ []))
          ∙ ap (map (applied (state a))) (sym (map-append (tree_at names) (take i ids) (get_or ids i d ∷ [])) ∙ ap (trees_at names) (sym (take_more ids i d w)));
    }

-- the trees of several, where names have their present values
pub made_trees : {names : List Term} {a b : Walk} {ids all : List TermId} → Ready names a → MakesAll names a b ids all → trees_at b.terms all ≡ map (applied (state b)) (trees_at names ids)
made_trees {names} {a} {b} {ids} r m = m.are ∙ ap (λ (s : State). map (applied s) (trees_at names ids)) (sym (only_state r m.only))

-- ---- steps
assumed_last : (ts : List Term) (t : Term) (rest : Tree) → assume_all (ts ++ t ∷ []) rest ≡ assume_all ts (Assume t rest)
assumed_last [] t rest = refl
assumed_last (u ∷ ts) t rest = ap (Assume u) (assumed_last ts t rest)

-- facts, one after the other
pub next_along : {names : List Term} {a b c : Walk} (facts : List TermId) (i : ℕ) (d : TermId) → i < length facts → Goes names a b (assume_all (trees_at names (take i facts))) → Goes names b c (Assume (tree_at names (get_or facts i d))) → Goes names a c (assume_all (trees_at names (take (i + 1) facts)))
next_along {names} {a} {b} {c} facts i d w before along =
    let all = goes_twice before along in
    let ts : trees_at names (take (i + 1) facts) ≡ trees_at names (take i facts) ++ tree_at names (get_or facts i d) ∷ [] =
    ap (trees_at names) (take_more facts i d w) ∙ map-append (tree_at names) (take i facts) (get_or facts i d ∷ []) in
    record {
      ready = all.ready;
      adds = all.adds;
      same = λ rest. ap (claims_from a) (ap (λ us. assume_all us rest) ts ∙ assumed_last (trees_at names (take i facts)) (tree_at names (get_or facts i d)) rest) ∙ all.same rest;
    }

-- a step more
pub comes_on : {names : List Term} {a b c : Walk} {from at next : Tree} (f : Tree → Tree) → Comes names a b from at → Goes names b c f → at ≡ f next → ends_in (f next) ≡ ends_in next → Comes names a c from next
comes_on {names} {a} {b} f p q is ends = record { ready = q.ready; adds = adds_twice p.adds q.adds; same = p.same ∙ ap (claims_from b) is ∙ q.same _; ends = p.ends ∙ ap ends_in is ∙ ends }

pub goes_fresh : {names : List Term} {w : Walk} (x : Name) → Ready names w → Goes names w w (Fresh x)
goes_fresh {names} {w} x r = record { ready = r; adds = (goes_not r).adds; same = same }
  where
    same : (rest : Tree) → claims_from w (Fresh x rest) ≡ claims_from w rest
    same rest = from_here w (Fresh x rest) ∙ sym (from_here w rest)

-- ---- the root of a tree
pub begins_anew : (names : List Term) (old new : Walk) → Ready names old → new.terms ≡ old.terms → new.facts.lists ≡ old.facts.lists → new.claims ≡ old.claims → new.values ≡ [] → NothingKnown (length old.made) new.made → new.facts.present.keys ≡ [] → new.facts.at.0 < length new.facts.lists
    → facts_at new.facts.lists new.facts.at ≡ [] → BeginsAnew names old new
unfolding claims_from
begins_anew names old new r terms lists claims values nothing keys within none = record {
  ready = record {
    whole = record {
      values = subst (AreValues (length new.terms)) (sym values) (record { ids = λ x id e. none_given x id e });
      facts = subst (AreIds (length new.terms)) (sym keys) tt;
      lists = rw (terms, lists) r.whole.lists;
      stands = record { within = within; here = none ∙ sym keys };
      claims = rw (terms, lists, claims) r.whole.claims;
    };
    table = nothing.count_is ∙ r.table;
    made = λ id into e. none_made nothing id into e;
  };
  same = λ tree. λ i. claims_at (terms i) (lists i) (claims i) ++ forward (ap (state_in new.terms) values i) (trees_at new.terms (keys i)) tree;
}
  where
    none_given : {n : ℕ} (x : Name) (id : TermId) → given [] x ≡ Some id → id.0 < n
    none_given x id e = absurd (cc)

-- a tree was walked from its root
pub root_claimed : {names : List Term} {a b c : Walk} (tree : Tree) → BeginsAnew names a b → claims_from b tree ≡ claims_from c Cut → Ready names c → ClaimsAll names a c (tree ∷ [])
root_claimed {names} {a} {b} {c} tree begins same ready = record {
  ready = ready;
  same =
      sym (from_here c Cut ∙ append-nil (so_far c)) ∙ sym same ∙ begins.same tree
      ∙ ap (λ cs. so_far a ++ cs) (sym (append-nil (forward Variable [] tree)));
}

-- trees were walked, one after the other
pub claims_not : {names : List Term} {w : Walk} → Ready names w → ClaimsAll names w w []
claims_not {names} {w} ready = record { ready = ready; same = sym (append-nil (so_far w)) }

pub claims_twice : {names : List Term} {a b c : Walk} (first more : List Tree) → ClaimsAll names a b first → ClaimsAll names b c more → ClaimsAll names a c (first ++ more)
claims_twice {names} {a} {b} {c} first more p q = record {
  ready = q.ready;
  same =
      q.same
      ∙ ap (λ cs. cs ++ flat_map (forward Variable []) more) p.same
      ∙ append_assoc (so_far a) (flat_map (forward Variable []) first) (flat_map (forward Variable []) more)
      ∙ ap (λ cs. so_far a ++ cs) (sym (flat_map-append (forward Variable []) first more));
}

pub next_cut : {names : List Term} {a b c : Walk} (s : Steps) (known : List Term) (cuts : List StepId) (i : ℕ) (d : StepId) → i < length cuts → ClaimsAll names a b (cut_trees s known (take i cuts)) → ClaimsAll names b c (cut_tree s known (get_or cuts i d) ∷ []) → ClaimsAll names a c (cut_trees s known (take (i + 1) cuts))
next_cut {names} {a} {b} {c} s known cuts i d w p q =
    subst (ClaimsAll names a c) (sym (map-append (cut_tree s known) (take i cuts) (get_or cuts i d ∷ [])) ∙ ap (cut_trees s known) (sym (take_more cuts i d w)))
    (claims_twice (cut_trees s known (take i cuts)) (cut_tree s known (get_or cuts i d) ∷ []) p q)

tidied : (trees : List Tree) → flat_map (forward Variable []) trees ≡ map tidy (flat_map claims_of trees)
tidied [] = refl
tidied (tree ∷ trees) = (λ k. forward_from_start tree k ++ tidied trees k) ∙ sym (map-append tidy (claims_of tree) (flat_map claims_of trees))

-- all were
pub all_claims : {names : List Term} {a b : Walk} (trees : List Tree) → so_far a ≡ [] → ClaimsAll names a b trees → so_far b ≡ map tidy (flat_map claims_of trees)
all_claims trees none all = all.same ∙ ap (λ cs. cs ++ flat_map (forward Variable []) trees) none ∙ tidied trees
