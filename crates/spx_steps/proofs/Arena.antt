-- Steps and their trees.
use Rattle.std.proofs.Common.{◌≡◌, ℕ, ◌+◌, ◌<◌, ◌≤◌, List, [], ◌∷◌, ◌++◌, length, get_or, drop, fold, zero, suc, refl, sym, ap, ◌∙◌, subst, arith, length-append, below_more}
use Rattle.std.proofs.lemmas.List.{drop_all}
use Rattle.std.proofs.lemmas.List.Sums.{fold-append}
use Rattle.std.proofs.Math.ListN.{get_or-append}
use Rattle.std.proofs.Math.Seq.{get_or-append_seam}
use Rattle.spx_term.specs.declared.term.Term.{Term}
use Rattle.spx_term.specs.Steps.{Tree, Cut, Assume, Assign, Fresh, Split, assume_all, check}
use Rattle.spx_arena.specs.declared.terms.TermId.{TermId}
use Rattle.spx_arena.specs.Claims.{trees_at}
use Rattle.spx_arena.specs.Sharing.{Grows}
use Rattle.spx_arena.proofs.Growth.{grows_not, grows_twice}
use Rattle.spx_arena.proofs.Ids.{kept_ids, wider_ids}
use Rattle.spx_steps.specs.declared.steps.Step.{Step}
use Rattle.spx_steps.specs.declared.steps.Step.TheVariants as step
use Rattle.spx_steps.specs.declared.steps.StepId.{StepId}
use Rattle.spx_steps.specs.declared.steps.Steps.{Steps}
use Rattle.spx_steps.specs.Trees.{tree_of, tree_in, with_tree, trees_of, step_at, Below, InOrder, step_tree, step_in, MoreSteps, AddsStep}

abbrev id_of : ℕ → StepId
id_of i = record { 0 = i }

-- ---- more places
pub wider : (s : Step) {m n j k : ℕ} → m ≤ n → j ≤ k → Below m j s → Below n k s
wider step.Cut l g b = b
wider (step.Assume fact next) l g b = (omega arith, omega arith)
wider (step.Assign name value next) l g b = (omega arith, omega arith)
wider (step.Fresh name next) l g b = omega arith
wider (step.Check kind place goals next) l g b = (wider_ids goals l b.0, omega arith)
wider (step.Split first second) l g b = (omega arith, omega arith)

-- ---- trees of more terms and steps
module _ {old new : List Term} (g : Grows old new) where
  -- a step whose parts are kept has its tree
  in_kept : (trees more : List Tree) (k : ℕ) (s : Step) → ((id : StepId) → id.0 < k → tree_of more id ≡ tree_of trees id) → Below (length old) k s → tree_in new more s ≡ tree_in old trees s
  in_kept trees more k step.Cut kept b = refl
  in_kept trees more k (step.Assume fact next) kept b = λ i. Assume (g.kept fact b.0 i) (kept next b.1 i)
  in_kept trees more k (step.Assign name value next) kept b = λ i. Assign name (g.kept value b.0 i) (kept next b.1 i)
  in_kept trees more k (step.Fresh name next) kept b = λ i. Fresh name (kept next b i)
  in_kept trees more k (step.Check kind place goals next) kept b = λ i. check kind place (kept_ids g goals b.0 i) (kept next b.1 i)
  in_kept trees more k (step.Split first second) kept b = λ i. Split (kept first b.0 i) (kept second b.1 i)

  -- the same trees after more terms
  same_from : (trees : List Tree) (nodes : List Step) (k : ℕ) → ((i : ℕ) → i < length nodes → Below (length old) (k + i) (step_at nodes i)) → fold (with_tree new) trees nodes ≡ fold (with_tree old) trees nodes
  same_from trees [] k parts = refl
  same_from trees (s ∷ nodes) k parts =
      ap (λ t. fold (with_tree new) (trees ++ t ∷ []) nodes) (in_kept trees trees k s (λ id w. refl) (subst (λ n. Below (length old) n s) (omega arith) (parts 0 (omega arith))))
      ∙ same_from (with_tree old trees s) nodes (k + 1) (λ i w. subst (λ n. Below (length old) n (step_at nodes i)) (omega arith) (parts (suc i) (omega arith)))

module _ (terms : List Term) where
  abbrev go : List Tree → List Step → List Tree
  go = fold (with_tree terms)

  count_from : (trees : List Tree) (nodes : List Step) → length (go trees nodes) ≡ length trees + length nodes
  count_from trees [] = omega arith
  count_from trees (s ∷ nodes) = count_from (with_tree terms trees s) nodes ∙ omega (arith, length-append trees (tree_in terms trees s ∷ []))

  kept_from : (trees : List Tree) (nodes : List Step) (id : StepId) → id.0 < length trees → tree_of (go trees nodes) id ≡ tree_of trees id
  kept_from trees [] id w = refl
  kept_from trees (s ∷ nodes) id w =
      let t = tree_in terms trees s in
      kept_from (with_tree terms trees s) nodes id (omega (arith, length-append trees (t ∷ []))) ∙ get_or-append trees (t ∷ []) Cut id.0 w

  form_from : (trees : List Tree) (nodes : List Step) (i : ℕ) → i < length nodes → ((j : ℕ) → j < length nodes → Below (length terms) (length trees + j) (step_at nodes j))
      → tree_of (go trees nodes) (id_of (length trees + i)) ≡ tree_in terms (go trees nodes) (step_at nodes i)
  form_from trees [] i w parts = absurd (omega arith)
  form_from trees (s ∷ nodes) zero w parts =
      let t = tree_in terms trees s in
      let more = with_tree terms trees s in
      let count = length-append trees (t ∷ []) in
      let here : Below (length terms) (length trees) s = subst (λ n. Below (length terms) n s) (omega arith) (parts 0 (omega arith)) in
      ap (λ n. tree_of (go more nodes) (id_of n)) (omega arith)
      ∙ kept_from more nodes (id_of (length trees)) (omega (arith, count))
      ∙ get_or-append_seam trees t [] Cut
      ∙ sym (in_kept (grows_not terms) trees (go more nodes) (length trees) s (λ id v. kept_from more nodes id (omega (arith, count)) ∙ get_or-append trees (t ∷ []) Cut id.0 v) here)
  form_from trees (s ∷ nodes) (suc i) w parts =
      let more = with_tree terms trees s in
      let count = length-append trees (tree_in terms trees s ∷ []) in
      ap (λ n. tree_of (go more nodes) (id_of n)) (omega (arith, count))
      ∙ form_from more nodes i (omega arith) (λ j v. subst (λ n. Below (length terms) n (step_at nodes j)) (omega (arith, count)) (parts (suc j) (omega arith)))

pub as_many : (terms : List Term) (nodes : List Step) → length (trees_of terms nodes) ≡ length nodes
unfolding trees_of
as_many terms nodes = count_from terms [] nodes ∙ omega arith

trees_more : (terms : List Term) (nodes : List Step) (s : Step) → trees_of terms (nodes ++ s ∷ []) ≡ trees_of terms nodes ++ tree_in terms (trees_of terms nodes) s ∷ []
unfolding trees_of
trees_more terms nodes s = fold-append (with_tree terms) [] nodes (s ∷ [])

-- the tree of an id is that of its step
pub form : (s : Steps) → InOrder s → (id : StepId) → id.0 < length s.nodes → step_tree s id ≡ step_in s (step_at s.nodes id.0)
unfolding trees_of
form s order id w =
    ap (λ n. tree_of (go s.terms [] s.nodes) (id_of n)) (omega arith)
    ∙ form_from s.terms [] s.nodes id.0 w (λ j v. subst (λ n. Below (length s.terms) n (step_at s.nodes j)) (omega arith) (order.parts j v))

-- whatever stands where there is none
other_default : {A : Type 0} (xs : List A) (i : ℕ) (d e : A) → i < length xs → get_or xs i d ≡ get_or xs i e
other_default [] i d e w = absurd (omega arith)
other_default (x ∷ xs) zero d e w = refl
other_default (x ∷ xs) (suc i) d e w = other_default xs i d e (omega arith)

pub form_as : (s : Steps) → InOrder s → (id : StepId) → id.0 < length s.nodes → (nodes : List Step) (x : Step) → nodes ≡ s.nodes → x ≡ get_or nodes id.0 x → step_tree s id ≡ step_in s x
form_as s order id w nodes x same is =
    form s order id w ∙ ap (step_in s) (other_default s.nodes id.0 step.Cut x w ∙ sym (is ∙ ap (λ ns. get_or ns id.0 x) same))

-- ---- more terms
module _ {old new : Steps} (order : InOrder old) (g : Grows old.terms new.terms) (nodes : new.nodes ≡ old.nodes) where
  same_trees : trees_of new.terms new.nodes ≡ trees_of old.terms old.nodes
  unfolding trees_of
  same_trees = ap (trees_of new.terms) nodes ∙ same_from g [] old.nodes 0 (λ j v. subst (λ n. Below (length old.terms) n (step_at old.nodes j)) (omega arith) (order.parts j v))

  pub more_terms : MoreSteps old new
  more_terms = record { terms = g; more = omega (arith, ap length nodes); kept = λ id w. ap (λ ts. tree_of ts id) same_trees }

  pub order_kept : InOrder new
  order_kept =
      let m = g.more in
      record { parts = λ i w. subst (λ (ns : List Step). Below (length new.terms) i (step_at ns i)) (sym nodes) (wider (step_at old.nodes i) m (omega arith) (order.parts i (omega (arith, ap length nodes)))) }

-- ---- one step more
module _ {old new : Steps} (s : Step) (terms : new.terms ≡ old.terms) (nodes : new.nodes ≡ old.nodes ++ s ∷ []) (order : InOrder old) (below : Below (length old.terms) (length old.nodes) s) where
  abbrev before : List Tree
  before = trees_of old.terms old.nodes

  all : trees_of new.terms new.nodes ≡ before ++ step_in old s ∷ []
  all = (λ i. trees_of (terms i) (nodes i)) ∙ trees_more old.terms old.nodes s

  count : length new.nodes ≡ length old.nodes + 1
  count = ap length nodes ∙ length-append old.nodes (s ∷ [])

  parts : (i : ℕ) → i < length old.nodes + 1 → Below (length old.terms) i (step_at (old.nodes ++ s ∷ []) i)
  parts = below_more (λ i. Below (length old.terms) i (step_at (old.nodes ++ s ∷ []) i)) (length old.nodes)
      (λ i w. subst (Below (length old.terms) i) (sym (get_or-append old.nodes (s ∷ []) step.Cut i w)) (order.parts i w))
      (subst (Below (length old.terms) (length old.nodes)) (sym (get_or-append_seam old.nodes s [] step.Cut)) below)

  pub pushed : (id : StepId) → id.0 ≡ length old.nodes → AddsStep old new id (step_in old s)
  pushed id at = record {
    whole = record { parts = λ i w. subst (λ (ns : List Step). Below (length new.terms) i (step_at ns i)) (sym nodes) (subst (λ (ts : List Term). Below (length ts) i (step_at (old.nodes ++ s ∷ []) i)) (sym terms) (parts i (omega (arith, count)))) };
    grown = record {
      terms = subst (Grows old.terms) (sym terms) (grows_not old.terms);
      more = omega (arith, count);
      kept = λ x w. ap (λ ts. tree_of ts x) all ∙ get_or-append before (step_in old s ∷ []) Cut x.0 (omega (arith, as_many old.terms old.nodes));
    };
    terms = terms;
    made = record {
      within = omega (arith, count, at);
      tree = ap (λ ts. tree_of ts id) all ∙ ap (λ n. tree_of (before ++ step_in old s ∷ []) (id_of n)) (at ∙ sym (as_many old.terms old.nodes)) ∙ get_or-append_seam before (step_in old s) [] Cut;
    };
  }

-- ---- relations between steps
pub more_not : (s : Steps) → MoreSteps s s
more_not s = record { terms = grows_not s.terms; more = omega arith; kept = λ id w. refl }

pub more_twice : {a b c : Steps} → MoreSteps a b → MoreSteps b c → MoreSteps a c
more_twice {a} {b} {c} p q = record { terms = grows_twice p.terms q.terms; more = omega (arith, p.more, q.more); kept = λ id w. let m = p.more in q.kept id (omega arith) ∙ p.kept id w }

pub adds_along : {a b : Steps} {id : StepId} {s t : Tree} → AddsStep a b id s → s ≡ t → AddsStep a b id t
adds_along {a} {b} {id} p e = subst (λ x. AddsStep a b id x) e p

pub adds_not : {a : Steps} {id : StepId} → InOrder a → id.0 < length a.nodes → AddsStep a a id (step_tree a id)
adds_not {a} order w = record { whole = order; grown = more_not a; terms = refl; made = record { within = w; tree = refl } }

pub none_assumed : {a : Steps} {next : StepId} (facts : List TermId) (i : ℕ) → i ≡ length facts → InOrder a → next.0 < length a.nodes → AddsStep a a next (assume_all (trees_at a.terms (drop i facts)) (step_tree a next))
none_assumed {a} {next} facts i all order w =
    let nothing : [] ≡ drop i facts = sym (drop_all i facts (omega (arith, all))) in
    adds_along (adds_not order w) (ap (λ ids. assume_all (trees_at a.terms ids) (step_tree a next)) nothing)
