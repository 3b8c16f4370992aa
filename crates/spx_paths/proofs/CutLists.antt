-- Lists of the steps from cuts.
use Rattle.std.proofs.Common.{◌≡◌, ℕ, ◌≤◌, List, [], ◌∷◌, ◌++◌, flat_map, length, map, reverse, refl, sym, ap, ◌∙◌, subst, arith, append-nil, append_assoc}
use Rattle.std.proofs.lemmas.List.{map-append, reverse-append}
use Rattle.spx_core.specs.declared.program.Program.{Program}
use Rattle.spx_core.specs.declared.statement.CoreCount.{CoreCount}
use Rattle.spx_core.specs.declared.subprogram.Sub.{Sub}
use Rattle.spx_core.specs.Formals.{formals, locals}
use Rattle.spx_term.specs.declared.term.Term.{Term}
use Rattle.spx_term.specs.Steps.{Tree, Assume, assume_all}
use Rattle.spx_steps.specs.declared.steps.StepId.{StepId}
use Rattle.spx_steps.specs.declared.steps.Steps.{Steps}
use Rattle.spx_steps.specs.Trees.{AreSteps, IsStep, MoreSteps}
use Rattle.spx_paths.specs.declared.draft.Draft.{Draft}
use Rattle.spx_paths.specs.Drafts.{AddsCuts, cut_tree, else_known, known_at_cuts}
use Rattle.spx_paths.specs.Walks.{count_facts, entry_facts, from_cut, pre_facts_on_entry, var_facts}

-- ---- ids
pub wider_steps : (ids : List StepId) {m n : ℕ} → m ≤ n → AreSteps m ids → AreSteps n ids
wider_steps [] l are = tt
wider_steps (id ∷ ids) l are = (let w = are.0 in omega (arith, l, w), wider_steps ids l are.1)

pub both_steps : (n : ℕ) (xs ys : List StepId) → AreSteps n xs → AreSteps n ys → AreSteps n (xs ++ ys)
both_steps n [] ys a b = b
both_steps n (x ∷ xs) ys a b = (a.0, both_steps n xs ys a.1 b)

reversed : {A B : Type 0} (f : A → B) (xs : List A) → map f (reverse xs) ≡ reverse (map f xs)
reversed f [] = refl
reversed f (x ∷ xs) =
    ap (map f) (reverse-append (x ∷ []) xs)
    ∙ map-append f (reverse xs) (x ∷ [])
    ∙ ap (λ ys. ys ++ f x ∷ []) (reversed f xs)
    ∙ sym (reverse-append (f x ∷ []) (map f xs))

-- the last ones of several come first
both_reversed : {A B : Type 0} (f : A → B) (xs ys : List A) → map f (reverse (xs ++ ys)) ≡ map f (reverse ys) ++ map f (reverse xs)
both_reversed f xs ys = ap (map f) (reverse-append xs ys) ∙ map-append f (reverse ys) (reverse xs)

each_kept : (p : Program) (sub : Sub) {s t : Steps} (ids : List StepId) → MoreSteps s t → AreSteps (length s.nodes) ids → map (cut_tree p sub t) ids ≡ map (cut_tree p sub s) ids
each_kept p sub [] m are = refl
each_kept p sub (id ∷ ids) m are = λ i. assume_all (known_at_cuts p sub) (m.kept id are.0 i) ∷ each_kept p sub ids m are.1 i

-- ---- steps from cuts
pub cuts_none : {p : Program} {sub : Sub} {d : Draft} (before : List StepId) → AddsCuts p sub d before before []
cuts_none before = record { more = []; is = sym (append-nil before); within = tt; trees = refl }

-- one more step
pub one_cut : {p : Program} {sub : Sub} {d : Draft} {before after : List StepId} {id : StepId} {t : Tree} (u : Tree) → after ≡ before ++ id ∷ [] → IsStep d.steps id t → u ≡ assume_all (known_at_cuts p sub) t → AddsCuts p sub d before after (u ∷ [])
one_cut {p} {sub} {d} {before} {after} {id} u is made e = record {
  more = id ∷ [];
  is = is;
  within = (made.within, tt);
  trees = λ i. (ap (assume_all (known_at_cuts p sub)) made.tree ∙ sym e) i ∷ [];
}

pub cuts_along : {p : Program} {sub : Sub} {d : Draft} {before after : List StepId} {ts us : List Tree} → AddsCuts p sub d before after ts → ts ≡ us → AddsCuts p sub d before after us
cuts_along {p} {sub} {d} {before} {after} c e = subst (AddsCuts p sub d before after) e c

-- after more steps
pub cuts_kept : {p : Program} {sub : Sub} {m n : Draft} {before after : List StepId} {ts : List Tree} → AddsCuts p sub m before after ts → MoreSteps m.steps n.steps → AddsCuts p sub n before after ts
cuts_kept {p} {sub} {m} {n} c more = record {
  more = c.more;
  is = c.is;
  within = wider_steps c.more more.more c.within;
  trees = reversed (cut_tree p sub n.steps) c.more ∙ ap reverse (each_kept p sub c.more more c.within) ∙ sym (reversed (cut_tree p sub m.steps) c.more) ∙ c.trees;
}

-- some, and then others, whose trees come before theirs
pub cuts_both : {p : Program} {sub : Sub} {m n : Draft} {before mid after : List StepId} {first last : List Tree} → AddsCuts p sub m before mid last → MoreSteps m.steps n.steps → AddsCuts p sub n mid after first → AddsCuts p sub n before after (first ++ last)
cuts_both {p} {sub} {m} {n} {before} {mid} {after} {first} {last} x more y =
    let z : AddsCuts p sub n before mid last = cuts_kept x more in
    record {
      more = z.more ++ y.more;
      is = y.is ∙ ap (λ ids. ids ++ y.more) z.is ∙ append_assoc before z.more y.more;
      within = both_steps (length n.steps.nodes) z.more y.more z.within y.within;
      trees = both_reversed (cut_tree p sub n.steps) z.more y.more ∙ (λ i. y.trees i ++ z.trees i);
    }

-- a list was made apart, and then put after others
pub cuts_put : {p : Program} {sub : Sub} {d : Draft} {apart mid after : List StepId} {ts : List Tree} → AddsCuts p sub d [] apart ts → after ≡ mid ++ apart → AddsCuts p sub d mid after ts
cuts_put {p} {sub} {d} {apart} {mid} {after} {ts} c is = record { more = c.more; is = is ∙ ap (λ ids. mid ++ ids) c.is; within = c.within; trees = c.trees }

-- ---- what is known after a cut
pub assume_all-append : (xs ys : List Term) (rest : Tree) → assume_all (xs ++ ys) rest ≡ assume_all xs (assume_all ys rest)
assume_all-append [] ys rest = refl
assume_all-append (x ∷ xs) ys rest = ap (Assume x) (assume_all-append xs ys rest)

in_two : {A : Type 0} (a b c d e f : List A) → (a ++ (b ++ (c ++ (d ++ e)))) ++ f ≡ (a ++ (b ++ c)) ++ (d ++ (e ++ f))
in_two a b c d e f =
    append_assoc a (b ++ (c ++ (d ++ e))) f
    ∙ ap (λ x. a ++ x) (append_assoc b (c ++ (d ++ e)) f ∙ ap (λ x. b ++ x) (append_assoc c (d ++ e) f ∙ ap (λ x. c ++ x) (append_assoc d e f)))
    ∙ sym (append_assoc a (b ++ c) (d ++ (e ++ f)) ∙ ap (λ x. a ++ x) (append_assoc b c (d ++ (e ++ f))))

-- what is known of variables comes first
pub cut_parts : (p : Program) (sub : Sub) (within : List CoreCount) (known : List Term) (rest : Tree) → from_cut p sub within known rest ≡ assume_all (known_at_cuts p sub) (assume_all (else_known p sub within known) rest)
cut_parts p sub within known rest =
    ap (λ facts. assume_all facts rest)
    (in_two (flat_map (var_facts p) (formals sub)) (flat_map (var_facts p) (locals sub)) (flat_map (entry_facts p sub) (formals sub)) (flat_map (count_facts p sub) within) (pre_facts_on_entry p sub sub.pre) known)
    ∙ assume_all-append (known_at_cuts p sub) (else_known p sub within known) rest
