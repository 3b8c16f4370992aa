-- Counts of paths.
use Rattle.std.proofs.lemmas.List.{drop_all}
use Rattle.std.proofs.Common.{nat_lt, zero, suc, ◌≡◌, ◌≤◌, ◌<◌, ◌+◌, ℕ, List, [], ◌∷◌, length, map, min, drop, get_or, slice_index, add-one, drop-cons, refl, sym, ap, ◌∙◌, arith, length-append, flat_map}
use Rattle.std.proofs.lemmas.List.{length-map}
use Rattle.spx_text.specs.declared.place.Place.{Place}
use Rattle.spx_term.specs.declared.condition.CondKind.{CondKind}
use Rattle.spx_term.specs.declared.path.PathStep.{PathStep}
use Rattle.spx_term.specs.declared.path.PathStep.TheVariants as step
use Rattle.spx_term.specs.declared.term.Term.{Term}
use Rattle.spx_term.specs.Paths.{branches}
use Rattle.spx_term.specs.Steps.{Tree, assume_all, check}
use Rattle.spx_arena.specs.Claims.{trees_at}
use Rattle.spx_steps.specs.declared.steps.StepId.{StepId}
use Rattle.spx_steps.specs.declared.steps.Steps.{Steps}
use Rattle.spx_steps.specs.declared.steps.Roots.{Roots}
use Rattle.spx_steps.specs.Counts.{AreCounts, capped, path_total, paths_at, paths_from}
use Rattle.spx_steps.specs.Trees.{AreSteps, cut_trees, step_tree}

-- how many paths a tree has
abbrev pub count : Tree → ℕ
count tree = length (branches tree)

pub one_step : (s : PathStep) (paths : List (List PathStep)) → length (map (λ path. s ∷ path) paths) ≡ length paths
one_step s paths = length-map paths (λ path. s ∷ path)

count_facts : (ts : List Term) (rest : Tree) → count (assume_all ts rest) ≡ count rest
count_facts [] rest = refl
count_facts (t ∷ ts) rest = one_step (step.Assume t) (branches (assume_all ts rest)) ∙ count_facts ts rest

pub count_check : (kind : CondKind) (place : Place) (goals : List Term) (rest : Tree) → count (check kind place goals rest) ≡ count rest
count_check kind place goals rest = one_step (step.Prove kind place goals) (branches (assume_all goals rest)) ∙ count_facts goals rest

capped_sums : (most a b : ℕ) → min (min a (most + 1) + min b (most + 1)) (most + 1) ≡ min (a + b) (most + 1)
capped_sums most a b = omega arith

-- a step before one other
pub count_next : {s : Steps} {most n : ℕ} {counts : List ℕ} (at next : StepId) {t : Tree} → AreCounts s most n counts → next.0 < n → step_tree s at ≡ t → count t ≡ count (step_tree s next) → slice_index counts next.0 ≡ capped most (paths_at s at.0)
count_next {s} {most} at next are w is same = are.each next.0 w ∙ ap (capped most) (sym (ap count is ∙ same))

-- ---- several steps
pub root_within : (ids : List StepId) (n i : ℕ) (d : StepId) → AreSteps n ids → i < length ids → (get_or ids i d).0 < n
root_within [] n i d are w = absurd (omega arith)
root_within (id ∷ ids) n zero d are w = are.0
root_within (id ∷ ids) n (suc i) d are w = root_within ids n i d are.1 (omega arith)

capped_next : (most total p rest : ℕ) → min (min (total + min p (most + 1)) (most + 1) + rest) (most + 1) ≡ min (total + (p + rest)) (most + 1)
capped_next most total p rest = omega arith

pub next_total : {s : Steps} {most : ℕ} {counts : List ℕ} → AreCounts s most (length s.nodes) counts → (roots : List StepId) (i : ℕ) (d : StepId) (total new : ℕ) → AreSteps (length s.nodes) roots → i < length roots
    → capped most (total + paths_from s (drop i roots)) ≡ capped most (paths_from s roots) → new ≡ capped most (total + slice_index counts (get_or roots i d).0)
    → record { least : new ≤ most + 1; total : capped most (new + paths_from s (drop (i + 1) roots)) ≡ capped most (paths_from s roots) }
next_total {s} {most} {counts} are roots i d total new ids w before is =
    let root = get_or roots i d in
    let here : new ≡ capped most (total + capped most (paths_at s root.0)) = is ∙ ap (λ n. capped most (total + n)) (are.each root.0 (root_within roots (length s.nodes) i d ids w)) in
    let left : drop i roots ≡ root ∷ drop (i + 1) roots = drop-cons roots i d w ∙ ap (λ n. root ∷ drop n roots) (sym (add-one i)) in
    record {
      least = omega (arith, here);
      total = ap (λ n. capped most (n + paths_from s (drop (i + 1) roots))) here ∙ capped_next most total (paths_at s root.0) (paths_from s (drop (i + 1) roots))
          ∙ ap (λ ids. capped most (total + paths_from s ids)) (sym left) ∙ before;
    }

pub all_counted : (s : Steps) (most : ℕ) (roots : List StepId) (i total : ℕ) → length roots ≤ i → total ≤ most + 1 → capped most (total + paths_from s (drop i roots)) ≡ capped most (paths_from s roots) → total ≡ capped most (paths_from s roots)
all_counted s most roots i total all least is =
    let none : drop i roots ≡ [] = drop_all i roots all in
    let here : capped most (total + 0) ≡ capped most (paths_from s roots) = ap (λ ids. capped most (total + paths_from s ids)) (sym none) ∙ is in
    omega (arith, here)

-- ---- all roots
-- what is known after a cut adds no path
cuts_counted : (s : Steps) (known : List Term) (ids : List StepId) → length (flat_map branches (cut_trees s known ids)) ≡ paths_from s ids
cuts_counted s known [] = refl
cuts_counted s known (id ∷ ids) =
    length-append (branches (assume_all known (step_tree s id))) (flat_map branches (cut_trees s known ids))
    ∙ (λ i. count_facts known (step_tree s id) i + cuts_counted s known ids i)

total_of : (s : Steps) (r : Roots) → path_total s r ≡ paths_at s r.start.0 + paths_from s r.cuts
total_of s r =
    length-append (branches (step_tree s r.start)) (flat_map branches (cut_trees s (trees_at s.terms r.known) r.cuts))
    ∙ ap (λ n. paths_at s r.start.0 + n) (cuts_counted s (trees_at s.terms r.known) r.cuts)

pub all_roots : (s : Steps) (most : ℕ) (counts : List ℕ) (r : Roots) (cuts result : ℕ) → AreCounts s most (length s.nodes) counts → r.start.0 < length s.nodes → cuts ≡ capped most (paths_from s r.cuts) → result ≡ capped most (slice_index counts r.start.0 + cuts)
    → result ≡ capped most (path_total s r)
all_roots s most counts r cuts result are w rest is =
    is ∙ (λ i. capped most (are.each r.start.0 w i + rest i)) ∙ capped_sums most (paths_at s r.start.0) (paths_from s r.cuts) ∙ ap (capped most) (sym (total_of s r))

-- a count that was stopped passes the most exactly where the count does
pub passes : (most n : ℕ) → nat_lt most (min n (most + 1)) ≡ nat_lt most n
passes most n = grind arith
