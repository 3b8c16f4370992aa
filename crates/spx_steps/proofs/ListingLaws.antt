-- Paths one by one.
use Rattle.std.proofs.Common.{◌≡◌, ℕ, ◌+◌, ◌<◌, List, [], ◌∷◌, ◌++◌, length, map, drop, get_or, add-one, drop-cons, refl, sym, ap, ap₂, ◌∙◌, flat_map, take}
use Rattle.std.proofs.lemmas.List.{append-nil, append_assoc, map-append, take_more}
use Rattle.std.proofs.lemmas.Grind.{flat_map-append}
use Rattle.spx_text.specs.declared.place.Place.{Place}
use Rattle.spx_term.specs.declared.condition.CondKind.{CondKind}
use Rattle.spx_term.specs.declared.path.PathStep.{PathStep}
use Rattle.spx_term.specs.declared.path.PathStep.TheVariants as step
use Rattle.spx_term.specs.declared.term.Term.{Term}
use Rattle.spx_term.specs.Paths.{branches}
use Rattle.spx_term.specs.Steps.{Tree, Cut, Assume, Split, assume_all, check}
use Rattle.spx_arena.specs.declared.terms.TermId.{TermId}
use Rattle.spx_arena.specs.Claims.{trees_at}
use Rattle.spx_arena.specs.Sharing.{tree_at}
use Rattle.spx_steps.specs.declared.listing.Path.{Path}
use Rattle.spx_steps.specs.declared.steps.Roots.{Roots}
use Rattle.spx_steps.specs.declared.steps.StepId.{StepId}
use Rattle.spx_steps.specs.declared.steps.Steps.{Steps}
use Rattle.spx_steps.specs.Listing.{after, steps_in}
use Rattle.spx_steps.specs.Trees.{cut_tree, cut_trees, root_trees, step_tree}

one_more : (steps : List PathStep) (s : PathStep) (paths : List (List PathStep)) → map (λ more. steps ++ more) (map (λ path. s ∷ path) paths) ≡ map (λ more. (steps ++ s ∷ []) ++ more) paths
one_more steps s [] = refl
one_more steps s (path ∷ paths) = ap₂ (λ (x : List PathStep) (xs : List (List PathStep)). x ∷ xs) (sym (append_assoc steps (s ∷ []) path)) (one_more steps s paths)

-- a step that begins all paths of a tree
after_step : (steps : List PathStep) (s : PathStep) (tree rest : Tree) → branches tree ≡ map (λ path. s ∷ path) (branches rest) → after steps tree ≡ after (steps ++ s ∷ []) rest
unfolding after
after_step steps s tree rest is = ap (map (λ more. steps ++ more)) is ∙ one_more steps s (branches rest)

pub after_split : (steps : List PathStep) (first second : Tree) → after steps (Split first second) ≡ after steps first ++ after steps second
unfolding after
after_split steps first second = map-append (λ more. steps ++ more) (branches first) (branches second)

pub after_cut : (steps : List PathStep) → after steps Cut ≡ steps ∷ []
unfolding after
after_cut steps = ap (λ (path : List PathStep). path ∷ []) (append-nil steps)

pub after_none : (tree : Tree) → after [] tree ≡ branches tree
unfolding after
after_none tree = same (branches tree)
  where
    same : (paths : List (List PathStep)) → map (λ more. [] ++ more) paths ≡ paths
    same [] = refl
    same (path ∷ paths) = ap (λ more. path ∷ more) (same paths)

-- ---- steps of a path
pub next_walked : (terms : List Term) (facts : List TermId) (i : ℕ) (d : TermId) (a b c : List PathStep) (t : Term) → i < length facts → t ≡ tree_at terms (get_or facts i d) → c ≡ b ++ step.Assume t ∷ []
    → ((rest : Tree) → after a (assume_all (trees_at terms facts) rest) ≡ after b (assume_all (trees_at terms (drop i facts)) rest))
    → (rest : Tree) → after a (assume_all (trees_at terms facts) rest) ≡ after c (assume_all (trees_at terms (drop (i + 1) facts)) rest)
next_walked terms facts i d a b c t w is more before rest =
    let left : drop i facts ≡ get_or facts i d ∷ drop (i + 1) facts = drop-cons facts i d w ∙ ap (λ n. get_or facts i d ∷ drop n facts) (sym (add-one i)) in
    let others = assume_all (trees_at terms (drop (i + 1) facts)) rest in
    before rest ∙ ap (λ ids. after b (assume_all (trees_at terms ids) rest)) left ∙ ap (λ (u : Term). after b (Assume u others)) (sym is) ∙ after_step b (step.Assume t) (Assume t others) others refl ∙ ap (λ (steps : List PathStep). after steps others) (sym more)

pub checks_walked : (kind : CondKind) (place : Place) (ts us : List Term) (a b c : List PathStep) → us ≡ ts → b ≡ a ++ step.Prove kind place us ∷ [] → ((rest : Tree) → after b (assume_all ts rest) ≡ after c rest) → (rest : Tree) → after a (check kind place ts rest) ≡ after c rest
checks_walked kind place ts us a b c is more facts rest =
    after_step a (step.Prove kind place ts) (check kind place ts rest) (assume_all ts rest) refl
    ∙ ap (λ (steps : List PathStep). after steps (assume_all ts rest)) ((λ i. a ++ step.Prove kind place (sym is i) ∷ []) ∙ sym more)
    ∙ facts rest

-- ---- paths so far
-- a step more
pub along : {all : List (List PathStep)} (so_far : List (List PathStep)) (b c : List PathStep) (s u : PathStep) {at : Tree} (to next : Tree) → all ≡ so_far ++ after b at → at ≡ to → branches to ≡ map (λ path. s ∷ path) (branches next) → u ≡ s → c ≡ b ++ u ∷ [] → all ≡ so_far ++ after c next
along so_far b c s u to next before is first same more =
    before ∙ ap (λ paths. so_far ++ paths) (ap (after b) is ∙ after_step b s to next first ∙ ap (λ (steps : List PathStep). after steps next) ((λ i. b ++ sym same i ∷ []) ∙ sym more))

-- a path has ended
pub ended : {all then : List (List PathStep)} (so_far : List (List PathStep)) (b : List PathStep) {at : Tree} → all ≡ so_far ++ after b at → at ≡ Cut → then ≡ so_far ++ b ∷ [] → then ≡ all
ended {all} {then} so_far b before is more = more ∙ ap (λ paths. so_far ++ paths) (sym (after_cut b) ∙ ap (after b) (sym is)) ∙ sym before

-- a path splits
pub branched : {all then : List (List PathStep)} (so_far : List (List PathStep)) (b copy : List PathStep) {at : Tree} (first second : Tree) → all ≡ so_far ++ after b at → at ≡ Split first second → copy ≡ b → then ≡ so_far ++ after copy first → all ≡ then ++ after b second
branched {all} {then} so_far b copy first second before is same more =
    before ∙ ap (λ paths. so_far ++ paths) (ap (after b) is ∙ after_split b first second)
    ∙ sym (append_assoc so_far (after b first) (after b second))
    ∙ ap (λ paths. paths ++ after b second) (ap (λ (steps : List PathStep). so_far ++ after steps first) (sym same) ∙ sym more)

-- ---- several steps
pub path_more : (found new : List Path) (path : Path) → new ≡ found ++ path ∷ [] → steps_in new ≡ steps_in found ++ path.steps ∷ []
path_more found new path is = ap steps_in is ∙ map-append (λ (p : Path). p.steps) found (path ∷ [])

-- the paths from a cut, after what is known there
pub cut_listed : (s : Steps) (known : List Term) (cut : StepId) (found then : List (List PathStep)) (start before : List PathStep) → start ≡ [] → ((rest : Tree) → after start (assume_all known rest) ≡ after before rest) → then ≡ found ++ after before (step_tree s cut)
    → then ≡ found ++ branches (cut_tree s known cut)
cut_listed s known cut found then start before none walked more =
    let tree = cut_tree s known cut in
    more ∙ ap (λ paths. found ++ paths) (sym (walked (step_tree s cut)) ∙ ap (λ (steps : List PathStep). after steps tree) none ∙ after_none tree)

-- a cut more
pub next_listed : (s : Steps) (known : List Term) (cuts : List StepId) (i : ℕ) (d : StepId) (first found then : List (List PathStep)) → i < length cuts → found ≡ first ++ flat_map branches (cut_trees s known (take i cuts)) → then ≡ found ++ branches (cut_tree s known (get_or cuts i d))
    → then ≡ first ++ flat_map branches (cut_trees s known (take (i + 1) cuts))
next_listed s known cuts i d first found then w is more =
    let tree = cut_tree s known (get_or cuts i d) in
    let before = cut_trees s known (take i cuts) in
    more
    ∙ ap (λ paths. paths ++ branches tree) is
    ∙ append_assoc first (flat_map branches before) (branches tree)
    ∙ ap (λ paths. first ++ paths)
    (ap (λ paths. flat_map branches before ++ paths) (sym (append-nil (branches tree)))
    ∙ sym (flat_map-append branches before (tree ∷ []))
    ∙ ap (flat_map branches) (sym (map-append (cut_tree s known) (take i cuts) (get_or cuts i d ∷ [])) ∙ ap (cut_trees s known) (sym (take_more cuts i d w))))

-- the paths from the start, and those from the cuts
pub all_listed : (s : Steps) (r : Roots) (none found then : List (List PathStep)) (before : List PathStep) (known : List TermId) (cuts : List StepId) → none ≡ [] → before ≡ [] → known ≡ r.known → cuts ≡ r.cuts → found ≡ none ++ after before (step_tree s r.start)
    → then ≡ found ++ flat_map branches (cut_trees s (trees_at s.terms known) cuts) → then ≡ flat_map branches (root_trees s r)
all_listed s r none found then before known cuts no_path no_step known_is cuts_are first more =
    more
    ∙ (λ i. first i ++ flat_map branches (cut_trees s (trees_at s.terms (known_is i)) (cuts_are i)))
    ∙ (λ i. (no_path i ++ after (no_step i) (step_tree s r.start)) ++ flat_map branches (cut_trees s (trees_at s.terms r.known) r.cuts))
    ∙ ap (λ paths. paths ++ flat_map branches (cut_trees s (trees_at s.terms r.known) r.cuts)) (after_none (step_tree s r.start))
