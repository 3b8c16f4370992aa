-- Sizes of lists of terms, and claims with too many nodes.
use Rattle.std.proofs.Common.{◌≡◌, ℕ, ◌+◌, ◌<◌, Bool, ◌||◌, List, [], ◌∷◌, ◌++◌, length, map, flat_map, take, drop, get_or, zero, suc, refl, sym, ap, ◌∙◌, arith, drop-cons, add-one, add-zero, length-append, below_more}
use Rattle.std.proofs.lemmas.List.{take_more, map-append, get_or_push, length-map, length-take-le}
use Rattle.std.proofs.lemmas.List.Sums.{sum_by-append}
use Rattle.std.proofs.Math.ListN.{get_or-append}
use Rattle.std.specs.List.{enumerate_from, list_any}
use Rattle.spx_term.specs.declared.condition.Condition.{Condition}
use Rattle.spx_term.specs.declared.term.Term.{Term}
use Rattle.spx_term.specs.Sizes.{size_of, sizes_of, has_too_many_nodes}
use Rattle.spx_term.specs.Steps.{Claim, Tree, claims_of, tidy}
use Rattle.spx_core.specs.declared.subprogram.Sub.{Sub}
use Rattle.spx_core.specs.declared.program.Program.{Program}
use Rattle.spx_paths.specs.Conditions.{body_claims, condition, numbered, conditions_of}
use Rattle.spx_paths.specs.declared.body.BodySteps.{BodySteps}
use Rattle.spx_paths.specs.Drafts.{IsBodyOf}
use Rattle.spx_paths.specs.Limits.{has_large_condition}
use Rattle.spx_arena.specs.declared.claims.SharedClaim.{SharedClaim}
use Rattle.spx_arena.specs.declared.facts.FactsId.{FactsId}
use Rattle.spx_arena.specs.declared.terms.TermId.{TermId}
use Rattle.spx_arena.specs.Claims.{trees_at}
use Rattle.spx_arena.specs.Counts.{counted}
use Rattle.spx_arena.specs.Facts.{facts_at}
use Rattle.spx_arena.specs.Sharing.{tree_at}
use Rattle.spx_steps.specs.Trees.{root_trees}
use Rattle.spx_vcg.specs.Largeness.{AreSizes, is_large}

-- ---- sizes
pub counted_twice : (m n : ℕ) → counted (counted m + counted n) ≡ counted (m + n)
counted_twice m n = omega arith

pub sizes-push : (ts : List Term) (t : Term) → sizes_of (ts ++ t ∷ []) ≡ sizes_of ts + size_of t
sizes-push ts t = sum_by-append size_of ts (t ∷ []) ∙ (let e : sizes_of ts + (0 + size_of t) ≡ sizes_of ts + size_of t = omega arith in e)

-- a list with one fact more
pub sizes_more : (trees : List Term) (ids : List TermId) (id : TermId) (all : List TermId) (before size : ℕ) → all ≡ ids ++ id ∷ [] → before ≡ counted (sizes_of (trees_at trees ids)) → size ≡ counted (size_of (tree_at trees id))
    → counted (before + size) ≡ counted (sizes_of (trees_at trees all))
sizes_more trees ids id all before size is b s =
    (λ i. counted (b i + s i)) ∙ counted_twice (sizes_of (trees_at trees ids)) (size_of (tree_at trees id))
    ∙ ap counted (sym (sizes-push (trees_at trees ids) (tree_at trees id)) ∙ ap sizes_of (sym (map-append (tree_at trees) ids (id ∷ [])) ∙ ap (trees_at trees) (sym is)))

pub sizes_taken : (trees : List Term) (ids : List TermId) (i : ℕ) (d : TermId) (before size : ℕ) → i < length ids → before ≡ counted (sizes_of (trees_at trees (take i ids))) → size ≡ counted (size_of (tree_at trees (get_or ids i d)))
    → counted (before + size) ≡ counted (sizes_of (trees_at trees (take (i + 1) ids)))
sizes_taken trees ids i d before size w b s = sizes_more trees (take i ids) (get_or ids i d) (take (i + 1) ids) before size (take_more ids i d w) b s

pub first_size : (trees : List Term) (lists : List (List TermId)) (none : FactsId) → none.0 ≡ 0 → facts_at lists none ≡ [] → AreSizes 1 trees lists (0 ∷ [])
first_size trees lists none zero_is e = record {
  as_many = refl;
  each = λ id w.
      let k : id.0 ≡ none.0 = omega arith in
      let at : facts_at lists id ≡ [] = ap (λ n. facts_at lists (record { 0 = n })) k ∙ e in
      zero_here id.0 (omega arith) ∙ ap (λ ids. counted (sizes_of (trees_at trees ids))) (sym at);
}
  where
    zero_here : (k : ℕ) → k ≡ 0 → get_or (0 ∷ []) k 0 ≡ counted 0
    zero_here zero e = refl
    zero_here (suc k) e = absurd (omega arith)

pub next_size : (trees : List Term) (lists : List (List TermId)) (sizes new : List ℕ) (at size : ℕ) → AreSizes at trees lists sizes → new ≡ sizes ++ size ∷ [] → size ≡ counted (sizes_of (trees_at trees (facts_at lists (record { 0 = at })))) → AreSizes (at + 1) trees lists new
next_size trees lists sizes new at size are is s = record {
  as_many = ap length is ∙ length-append sizes (size ∷ []) ∙ ap (λ n. n + 1) are.as_many;
  each = λ id. below_more (λ k. get_or new k 0 ≡ counted (sizes_of (trees_at trees (facts_at lists (record { 0 = k }))))) at
      (λ k w. let v : k < length sizes = omega (arith, are.as_many) in ap (λ (xs : List ℕ). get_or xs k 0) is ∙ get_or-append sizes (size ∷ []) 0 k v ∙ are.each (record { 0 = k }) w)
      (ap (λ (xs : List ℕ). get_or xs at 0) is ∙ get_or_push sizes size 0 at are.as_many ∙ s) id.0;
}

-- ---- claims
-- the claims from the roots of a body are those that it asks for
pub claims_are : (p : Program) (sub : Sub) (body : BodySteps) (cs : List Claim) → IsBodyOf p sub body → cs ≡ map tidy (flat_map claims_of (root_trees body.steps body.roots)) → cs ≡ map tidy (body_claims p sub)
claims_are p sub body cs b is = is ∙ ap (λ (trees : List Tree). map tidy (flat_map claims_of trees)) b.trees

pub any_here : (f : Claim → Bool) (g : SharedClaim → Claim) (cs : List SharedClaim) (i : ℕ) (d : SharedClaim) → i < length cs → list_any f (map g (drop i cs)) ≡ (f (g (get_or cs i d)) || list_any f (map g (drop (i + 1) cs)))
any_here f g cs i d w = ap (λ xs. list_any f (map g xs)) (drop-cons cs i d w ∙ ap (λ k. get_or cs i d ∷ drop k cs) (sym (add-one i)))

large_numbered : (name : List ℕ) (n : ℕ) (cs : List Claim) → list_any has_too_many_nodes (numbered name n cs) ≡ list_any is_large cs
large_numbered name n [] = refl
large_numbered name n (c ∷ cs) = ap (λ b. is_large c || b) (large_numbered name (n + 1) cs)

pub large_is : (p : Program) (sub : Sub) (cs : List Claim) → cs ≡ map tidy (body_claims p sub) → list_any is_large cs ≡ has_large_condition p sub
unfolding conditions_of
large_is p sub cs e = ap (list_any is_large) e ∙ sym (large_numbered sub.name.name.text 1 (map tidy (body_claims p sub)))

pub conditions_are : (p : Program) (sub : Sub) (cs : List Claim) → cs ≡ map tidy (body_claims p sub) → numbered sub.name.name.text 1 cs ≡ conditions_of p sub
unfolding conditions_of
conditions_are p sub cs e = ap (numbered sub.name.name.text 1) e

-- ---- numbers
enumerate_from-push : {A : Type 0} (n : ℕ) (xs : List A) (x : A) → enumerate_from n (xs ++ x ∷ []) ≡ enumerate_from n xs ++ (n + length xs, x) ∷ []
enumerate_from-push n [] x = ap (λ k. (k, x) ∷ []) (sym (add-zero n))
enumerate_from-push n (y ∷ xs) x =
    ap (λ es. (n, y) ∷ es) (enumerate_from-push (n + 1) xs x ∙ ap (λ k. enumerate_from (n + 1) xs ++ (k, x) ∷ []) (let e : n + 1 + length xs ≡ n + length (y ∷ xs) = omega arith in e))

numbered-push : (name : List ℕ) (cs : List Claim) (c : Claim) → numbered name 1 (cs ++ c ∷ []) ≡ numbered name 1 cs ++ condition name (length cs + 1) c ∷ []
numbered-push name cs c =
    ap (map number) (enumerate_from-push 1 cs c)
    ∙ map-append number (enumerate_from 1 cs) ((1 + length cs, c) ∷ [])
    ∙ ap (λ k. numbered name 1 cs ++ condition name k c ∷ []) (let e : 1 + length cs ≡ length cs + 1 = omega arith in e)
  where
    number : ℕ × Claim → Condition
    number p = condition name p.0 p.1

get_map : (f : SharedClaim → Claim) (xs : List SharedClaim) (i : ℕ) (d : Claim) (e : SharedClaim) → i < length xs → get_or (map f xs) i d ≡ f (get_or xs i e)
get_map f [] i d e w = absurd (omega arith)
get_map f (x ∷ xs) zero d e w = refl
get_map f (x ∷ xs) (suc i) d e w = get_map f xs i d e (omega arith)

pub numbered_taken : (name : List ℕ) (f : SharedClaim → Claim) (xs : List SharedClaim) (i : ℕ) (x : SharedClaim) → i < length xs → x ≡ get_or xs i x
    → numbered name 1 (take i (map f xs)) ++ condition name (i + 1) (f x) ∷ [] ≡ numbered name 1 (take (i + 1) (map f xs))
numbered_taken name f xs i x w is =
    let cs = map f xs in
    let count : length cs ≡ length xs = length-map xs f in
    let v : i < length cs = omega (arith, count) in
    let at : get_or cs i (f x) ≡ f x = get_map f xs i (f x) x w ∙ ap f (sym is) in
    let taken : length (take i cs) ≡ i = length-take-le i cs (omega arith) in
    ap (λ k. numbered name 1 (take i cs) ++ condition name (k + 1) (f x) ∷ []) (sym taken)
    ∙ sym (numbered-push name (take i cs) (f x))
    ∙ ap (λ c. numbered name 1 (take i cs ++ c ∷ [])) (sym at)
    ∙ ap (numbered name 1) (sym (take_more cs i (f x) v))

pub ruleset size_laws = (counted_twice)
