-- Goals by their ids.
use Rattle.std.proofs.Common.{◌≡◌, ◌⊎◌, inl, inr, ◌<◌, ◌≤◌, ℤ, List, [], ◌∷◌, length, refl, sym, ap, ◌∙◌, subst, arith}
use Rattle.spx_core.specs.declared.entity.Class.{Class}
use Rattle.spx_core.specs.declared.entity.Class.TheVariants as class
use Rattle.spx_core.specs.declared.entity.Subtype.{Subtype}
use Rattle.spx_term.specs.declared.term.Term.{Term}
use Rattle.spx_term.specs.declared.term.Term.TheVariants.{Number, Infix, Unary}
use Rattle.spx_term.specs.declared.term.TermOp.{TermOp}
use Rattle.spx_term.specs.declared.term.TermOp.TheVariants.{And, GreaterOrEqual, Implies, LessOrEqual}
use Rattle.spx_term.specs.declared.term.UnaryOp.TheVariants.{In}
use Rattle.spx_term.specs.Goals.{goal_of}
use Rattle.spx_formula.specs.Goals.{guarded, in_class, in_range, in_type, under}
use Rattle.spx_formula.specs.Goals.{range_goal}
use Rattle.spx_arena.specs.declared.terms.TermId.{TermId}
use Rattle.spx_arena.specs.Claims.{AreIds, trees_at}
use Rattle.spx_arena.specs.Sharing.{Adds, Grows, IsId, tree_at}
use Rattle.spx_arena.proofs.Growth.{adds_along, grows_not, grows_twice}
use Rattle.spx_arena.proofs.Ids.{kept_ids}
use Rattle.spx_formula.specs.Added.{AddsAll}

pub all_one : {old new : List Term} {ids : List TermId} {id : TermId} {t : Term} → Adds old new id t → ids ≡ id ∷ [] → AddsAll old new ids (t ∷ [])
all_one {old} {new} a is = record {
  grown = a.grown;
  within = subst (AreIds (length new)) (sym is) (a.made.within, tt);
  trees = ap (trees_at new) is ∙ ap (λ x. x ∷ []) a.made.tree;
}

-- a term that was made
pub adds_made : {old new : List Term} {id : TermId} {t : Term} → Grows old new → IsId new id t → Adds old new id t
adds_made g is = record { grown = g; made = is }

pub adds_bound : {old new : List Term} {id : TermId} (op : TermOp) (x : Term) {m n : ℤ} → Adds old new id (Infix op x (Number m)) → m ≡ n → Adds old new id (Infix op x (Number n))
adds_bound {old} {new} {id} op x a e = adds_along a (ap (λ k. Infix op x (Number k)) e)

-- that a term lies between two numbers
pub all_range : {old mid new : List Term} {ids : List TermId} {i j value : TermId} (first last : ℤ) → value.0 < length old → Adds old mid i (Infix GreaterOrEqual (tree_at old value) (Number first)) → Adds mid new j (Infix LessOrEqual (tree_at mid value) (Number last)) → ids ≡ i ∷ j ∷ []
    → AddsAll old new ids (in_range first last (tree_at old value))
all_range {old} {mid} {new} {ids} {i} {j} {value} first last w p q is =
    let m : length mid ≤ length new = q.grown.more in
    let v : i.0 < length mid = p.made.within in
    let low : i.0 < length new = omega arith in
    record {
      grown = grows_twice p.grown q.grown;
      within = subst (AreIds (length new)) (sym is) (low, (q.made.within, tt));
      trees = ap (trees_at new) is ∙ (λ k. (q.grown.kept i p.made.within ∙ p.made.tree) k ∷ (q.made.tree ∙ ap (λ x. Infix LessOrEqual x (Number last)) (p.grown.kept value w)) k ∷ []);
    }

pub all_none : (old : List Term) {ids : List TermId} → ids ≡ [] → AddsAll old old ids []
all_none old is = record { grown = grows_not old; within = subst (AreIds (length old)) (sym is) tt; trees = ap (trees_at old) is }

pub all_along : {old new : List Term} {ids : List TermId} {ts us : List Term} → AddsAll old new ids ts → ts ≡ us → AddsAll old new ids us
all_along {old} {new} {ids} a e = subst (λ xs. AddsAll old new ids xs) e a

pub of_numbers : (subtype : Subtype) (t : Term) → (subtype.base.class ≡ class.Integer) ⊎ (subtype.base.class ≡ class.Enumeration) → in_range subtype.first subtype.last t ≡ in_type subtype t
of_numbers subtype t (inl is) = ap (λ (c : Class). in_class c subtype.base.id.0 subtype.first subtype.last t) (sym is)
of_numbers subtype t (inr is) = ap (λ (c : Class). in_class c subtype.base.id.0 subtype.first subtype.last t) (sym is)

pub of_truth : (subtype : Subtype) (t : Term) → subtype.base.class ≡ class.Boolean → [] ≡ in_type subtype t
of_truth subtype t is = ap (λ (c : Class). in_class c subtype.base.id.0 subtype.first subtype.last t) (sym is)

pub of_parts : (subtype : Subtype) (t : Term) → subtype.base.class ≡ class.Composite → Unary (In subtype.base.id.0) t ∷ [] ≡ in_type subtype t
of_parts subtype t is = ap (λ (c : Class). in_class c subtype.base.id.0 subtype.first subtype.last t) (sym is)

-- an operation on an earlier term and one that was added
pub adds_pair : {old mid new : List Term} {i j id : TermId} {b : Term} (op : TermOp) → i.0 < length old → Adds old mid j b → Adds mid new id (Infix op (tree_at mid i) (tree_at mid j)) → Adds old new id (Infix op (tree_at old i) b)
adds_pair {old} {mid} {new} {i} op w p q = record { grown = grows_twice p.grown q.grown; made = (adds_along q (λ k. Infix op (p.grown.kept i w k) (p.made.tree k))).made }

-- that the bounds of a loop lie in a type where there is a value between them
pub adds_range_goal : {old a b c d e : List Term} {low high i j k both goal : TermId} {ids : List TermId} {m n : ℤ} (subtype : Subtype) → low.0 < length old → high.0 < length old
    → Adds old a i (Infix LessOrEqual (tree_at old low) (tree_at old high)) → Adds a b j (Infix GreaterOrEqual (tree_at a low) (Number m)) → Adds b c k (Infix LessOrEqual (tree_at b high) (Number n))
    → Adds c d both (Infix And (tree_at c j) (tree_at c k)) → Adds d e goal (Infix Implies (tree_at d i) (tree_at d both)) → ids ≡ goal ∷ [] → m ≡ subtype.first → n ≡ subtype.last
    → AddsAll old e ids (range_goal subtype (tree_at old low) (tree_at old high) ∷ [])
adds_range_goal {old} {a} {b} {c} {d} {e} {low} {high} {i} {j} {k} {both} {goal} {ids} {m} {n} subtype wl wh p q r s u is first last =
    let t = tree_at old low in
    let v = tree_at old high in
    let two = adds_pair And q.made.within r s in
    let inner : Adds a d both (Infix And (Infix GreaterOrEqual t (Number subtype.first)) (Infix LessOrEqual v (Number subtype.last))) = record {
      grown = grows_twice q.grown two.grown;
      made = (adds_along two (λ x.
          Infix And ((q.made.tree ∙ (λ y. Infix GreaterOrEqual (p.grown.kept low wl y) (Number (first y)))) x)
          (Infix LessOrEqual ((grows_twice p.grown q.grown).kept high wh x) (Number (last x))))).made;
    } in
    let outer = adds_pair Implies p.made.within inner u in
    let all : Adds old e goal (range_goal subtype t v) = record {
      grown = grows_twice p.grown outer.grown;
      made = (adds_along outer (λ x. Infix Implies (p.made.tree x) (Infix And (Infix GreaterOrEqual t (Number subtype.first)) (Infix LessOrEqual v (Number subtype.last))))).made;
    } in
    all_one all is

-- a goal under left sides
pub adds_guarded : {old mid new : List Term} (lefts : List TermId) {all goals same : List TermId} {goal whole : TermId} → AreIds (length old) lefts → 1 ≤ length lefts → same ≡ goals → Adds old mid goal (goal_of (trees_at old same)) → Adds mid new whole (under (trees_at mid lefts) (tree_at mid goal)) → all ≡ whole ∷ []
    → AddsAll old new all (guarded (trees_at old lefts) (trees_at old goals))
adds_guarded {old} {mid} {new} lefts {all} {goals} {same} {goal} {whole} are some are_same p q is =
    let one : AddsAll mid new all (under (trees_at mid lefts) (tree_at mid goal) ∷ []) = all_one q is in
    let made : AddsAll old new all (under (trees_at old lefts) (goal_of (trees_at old goals)) ∷ []) = record {
      grown = grows_twice p.grown q.grown;
      within = one.within;
      trees = one.trees ∙ (λ k. under (kept_ids p.grown lefts are k) ((p.made.tree ∙ ap (λ gs. goal_of (trees_at old gs)) are_same) k) ∷ []);
    } in
    all_along made (nonempty lefts some)
  where
    nonempty : (ids : List TermId) → 1 ≤ length ids → under (trees_at old ids) (goal_of (trees_at old goals)) ∷ [] ≡ guarded (trees_at old ids) (trees_at old goals)
    nonempty [] le = absurd (omega (arith, le))
    nonempty (x ∷ ids) le = refl

pub ruleset goal_laws = (adds_pair)
