-- Answers to goals, where others are left.
use Rattle.std.proofs.Common.{◌≡◌, ℕ, ◌+◌, ◌<◌, ◌≤◌, Bool, true, false, ◌&&◌, ◌||◌, cond, List, [], ◌∷◌, ◌++◌, refl, sym, ap, ◌∙◌, subst, arith}
use Rattle.spx_term.specs.declared.term.TermOp.{TermOp}
use Rattle.spx_term.specs.declared.term.Term.{Term}
use Rattle.spx_term.specs.declared.term.Term.TheVariants as term
use Rattle.spx_term.specs.Plain.{is_plain}
use Rattle.spx_term.specs.Sizes.{size_of}
use Rattle.spx_arena.specs.declared.terms.TermId.{TermId}
use Rattle.spx_arena.specs.declared.terms.Node.{Node}
use Rattle.spx_arena.specs.Sharing.{tree_at, tree_in}
use Rattle.spx_arena.proofs.Sizes.{size-Infix}
use Rattle.spx_arena.proofs.Conjunctions.{some_size}
use Rattle.spx_simplify.specs.declared.goals.Left.{Left}
use Rattle.spx_simplify.specs.Verdicts.{size_at, AreHalves, continued, outcome, AreLeft, load, Ends, Drops, GoesOn}

-- ---- sizes
pub some_at : (trees : List Term) (goal : TermId) (n : Node) → tree_at trees goal ≡ tree_in trees n → 0 < size_at trees goal
some_at trees goal n is = subst (λ t. 0 < size_of t) (sym is) (some_size trees n)

pub halves : (trees : List Term) (goal a b : TermId) (op : TermOp) → tree_at trees goal ≡ term.Infix op (tree_at trees a) (tree_at trees b) → (a.0 < goal.0) × (b.0 < goal.0) → AreHalves trees goal a b
halves trees goal a b op is below = record {
  first = below.0;
  second = below.1;
  smaller = omega (arith, ap size_of is, size-Infix op (tree_at trees a) (tree_at trees b));
}

-- ---- one goal more is left
outcome_push : (trees hyps : List Term) (ls : List Left) (l : Left) (b : Bool) → outcome trees hyps (ls ++ l ∷ []) b ≡ outcome trees hyps ls (continued trees hyps l b)
outcome_push trees hyps [] l b = refl
outcome_push trees hyps (m ∷ ls) l b = ap (continued trees hyps m) (outcome_push trees hyps ls l b)

load_push : (trees : List Term) (ls : List Left) (l : Left) → load trees (ls ++ l ∷ []) ≡ load trees ls + size_at trees l.goal
load_push trees [] l = refl
load_push trees (m ∷ ls) l = omega (arith, load_push trees ls l)

left_push : (n : ℕ) (ls : List Left) (l : Left) → AreLeft n ls → l.goal.0 < n → AreLeft n (ls ++ l ∷ [])
left_push n [] l are w = (w, tt)
left_push n (m ∷ ls) l are w = (are.0, left_push n ls l are.1 w)

left_pop : (n : ℕ) (ls : List Left) (l : Left) → AreLeft n (ls ++ l ∷ []) → (l.goal.0 < n) × AreLeft n ls
left_pop n [] l are = (are.0, tt)
left_pop n (m ∷ ls) l are = let p = left_pop n ls l are.1 in (p.0, (are.0, p.1))

module _ (old new : List Left) (l : Left) (e : new ≡ old ++ l ∷ []) where
  pub pushed_outcome : (trees hyps : List Term) (b : Bool) → outcome trees hyps new b ≡ outcome trees hyps old (continued trees hyps l b)
  pushed_outcome trees hyps b = ap (λ ls. outcome trees hyps ls b) e ∙ outcome_push trees hyps old l b

  pub pushed_load : (trees : List Term) → load trees new ≡ load trees old + size_at trees l.goal
  pushed_load trees = ap (load trees) e ∙ load_push trees old l

  pub pushed_left : (n : ℕ) → AreLeft n old → l.goal.0 < n → AreLeft n new
  pushed_left n are w = subst (AreLeft n) (sym e) (left_push n old l are w)

-- ---- the last goal that is left
module _ (trees hyps : List Term) (l : Left) where
  judged_next : (a answer : Bool) → l.after ≡ a → a ≡ answer → continued trees hyps l answer ≡ is_plain hyps (tree_at trees l.goal)
  judged_next true true e f = ap (λ b. cond b (true && is_plain hyps (tree_at trees l.goal)) (true || is_plain hyps (tree_at trees l.goal))) e
  judged_next false false e f = ap (λ b. cond b (false && is_plain hyps (tree_at trees l.goal)) (false || is_plain hyps (tree_at trees l.goal))) e
  judged_next true false e f = absurd (cc)
  judged_next false true e f = absurd (cc)

  passed_over : (a answer : Bool) → l.after ≡ a → (a ≡ answer → ⊥) → continued trees hyps l answer ≡ answer
  passed_over true true e f = absurd (f refl)
  passed_over false false e f = absurd (f refl)
  passed_over true false e f = ap (λ b. cond b (false && is_plain hyps (tree_at trees l.goal)) (false || is_plain hyps (tree_at trees l.goal))) e
  passed_over false true e f = ap (λ b. cond b (true && is_plain hyps (tree_at trees l.goal)) (true || is_plain hyps (tree_at trees l.goal))) e

pub drops_none : (ls : List Left) (answer : Bool) → Drops ls ls answer
drops_none ls answer = record { same = λ trees hyps. refl; within = λ n are. are; less = λ trees. omega arith }

module _ (first old new : List Left) (answer : Bool) (l : Left) (d : Drops first old answer) (e : old ≡ new ++ l ∷ []) where
  pub drops_more : (l.after ≡ answer → ⊥) → Drops first new answer
  drops_more other = record {
    same = λ trees hyps. d.same trees hyps ∙ pushed_outcome new old l e trees hyps answer ∙ ap (outcome trees hyps new) (passed_over trees hyps l l.after answer refl other);
    within = λ n are. (left_pop n new l (subst (AreLeft n) e (d.within n are))).1;
    less = λ trees. omega (arith, d.less trees, pushed_load new old l e trees);
  }

  pub goes_on : l.after ≡ answer → GoesOn first new answer l.goal
  goes_on same = record {
    same = λ trees hyps. d.same trees hyps ∙ pushed_outcome new old l e trees hyps answer ∙ ap (outcome trees hyps new) (judged_next trees hyps l l.after answer refl same);
    within = λ n are. left_pop n new l (subst (AreLeft n) e (d.within n are));
    less = λ trees. omega (arith, d.less trees, pushed_load new old l e trees);
  }

pub ends : (first old : List Left) (answer : Bool) → Drops first old answer → old ≡ [] → Ends first answer
ends first old answer d e = record { same = λ trees hyps. d.same trees hyps ∙ ap (λ ls. outcome trees hyps ls answer) e }

-- ---- one step
module _ (trees : List Term) (goal at : TermId) (old : List Left) (up_to : at.0 ≤ goal.0) (are : AreLeft (goal.0 + 1) old) where
  module _ (first : TermId) (l : Left) (new : List Left) (h : AreHalves trees at first l.goal) (e : new ≡ old ++ l ∷ []) where
    pub first_up_to : first.0 ≤ goal.0
    first_up_to = omega (arith, h.first)

    pub first_left : AreLeft (goal.0 + 1) new
    first_left = pushed_left old new l e (goal.0 + 1) are (omega (arith, h.second))

    pub first_less : load trees new + size_at trees first < load trees old + size_at trees at
    first_less = omega (arith, h.smaller, pushed_load old new l e trees)

    pub first_same : (hyps : List Term) (b : Bool) → continued trees hyps l (is_plain hyps (tree_at trees first)) ≡ is_plain hyps (tree_at trees at) → outcome trees hyps old (is_plain hyps (tree_at trees at)) ≡ b → outcome trees hyps new (is_plain hyps (tree_at trees first)) ≡ b
    first_same hyps b verdict same = pushed_outcome old new l e trees hyps (is_plain hyps (tree_at trees first)) ∙ ap (outcome trees hyps old) verdict ∙ same

  module _ (answer : Bool) (next : TermId) (new : List Left) (g : GoesOn old new answer next) where
    pub next_up_to : next.0 ≤ goal.0
    next_up_to = omega (arith, (g.within (goal.0 + 1) are).0)

    pub next_left : AreLeft (goal.0 + 1) new
    next_left = (g.within (goal.0 + 1) are).1

    pub next_less : 0 < size_at trees at → load trees new + size_at trees next < load trees old + size_at trees at
    next_less some = omega (arith, some, g.less trees)

    pub next_same : (hyps : List Term) (b : Bool) → answer ≡ is_plain hyps (tree_at trees at) → outcome trees hyps old (is_plain hyps (tree_at trees at)) ≡ b → outcome trees hyps new (is_plain hyps (tree_at trees next)) ≡ b
    next_same hyps b verdict same = sym (g.same trees hyps) ∙ ap (outcome trees hyps old) verdict ∙ same

pub last_answer : (trees : List Term) (at : TermId) (left : List Left) (answer b : Bool) (hyps : List Term) → Ends left answer → answer ≡ is_plain hyps (tree_at trees at) → outcome trees hyps left (is_plain hyps (tree_at trees at)) ≡ b → answer ≡ b
last_answer trees at left answer b hyps e verdict same = sym (e.same trees hyps) ∙ ap (outcome trees hyps left) verdict ∙ same
