-- Names are named once when each is new to the set of those before it.
use Rattle.std.proofs.Common.{◌≡◌, Bool, true, false, not, ◌&&◌, ◌||◌, ◌==◌, List, [], ◌∷◌, ◌++◌, Option, Some, None, refl, sym, ap, ap₂, ◌∙◌}
use Rattle.std.specs.List.{list_all, list_any}
use Rattle.std.proofs.lemmas.Bool.{eqb-true, eq-eqb}
use Rattle.std.proofs.lemmas.List.Folds.{list_any-append}
use Rattle.spx_core.specs.declared.entity.VarId.{VarId}
use Rattle.spx_core.specs.declared.name.Reference.{Reference}
use Rattle.spx_core.specs.declared.dependency.CoreDerivesItem.{CoreDerivesItem}
use Rattle.spx_core.specs.Uses.{denotes, is_same, mentions, variable_is, variable_of}
use Rattle.spx_core.specs.Obeyed.{exports_once, is_among, is_export_of, names_once}
use Rattle.spx_core.specs.Mirror.VarSets.{holds}
use Rattle.spx_rules.specs.NamedOnce.{all_new, exports_in, is_in}

variable_alike : (p q : VarId → Bool) → ((v : VarId) → p v ≡ q v) → (o : Option VarId) → variable_is p o ≡ variable_is q o
variable_alike p q same (Some v) = same v
variable_alike p q same None = refl

-- equal sets find the same names new
pub new_alike : (p q : VarId → Bool) → ((v : VarId) → p v ≡ q v) → (names : List Reference) → all_new p names ≡ all_new q names
new_alike p q same [] = refl
new_alike p q same (name ∷ names) =
    ap₂ (λ a b. not a && b) (variable_alike p q same (variable_of name.root.entity))
    (new_alike (λ v. denotes v name.root || p v) (λ v. denotes v name.root || q v) (λ v. ap (λ b. denotes v name.root || b) (same v)) names)

-- a name that is new is added
pub one_more : (old new : VarId → Bool) (name : Reference) (names : List Reference) → ((v : VarId) → new v ≡ (denotes v name.root || old v)) → is_in old name ≡ false → all_new old (name ∷ names) ≡ all_new new names
one_more old new name names added fresh =
    ap (λ b. not b && all_new (λ v. denotes v name.root || old v) names) fresh ∙ new_alike (λ v. denotes v name.root || old v) new (λ v. sym (added v)) names

-- ---- the set and the list

eq_sym : (v w : VarId) → (v.0 == w.0) ≡ (w.0 == v.0)
eq_sym v w = both (v.0 == w.0) (w.0 == v.0) refl refl
  where
    both : (a b : Bool) → (v.0 == w.0) ≡ a → (w.0 == v.0) ≡ b → (v.0 == w.0) ≡ (w.0 == v.0)
    both true true e f = e ∙ sym f
    both false false e f = e ∙ sym f
    both true false e f = e ∙ sym (eq-eqb w.0 v.0 (sym (eqb-true v.0 w.0 e)))
    both false true e f = eq-eqb v.0 w.0 (sym (eqb-true w.0 v.0 f)) ∙ sym f

-- none of the names is in the set
abbrev none_in : (VarId → Bool) → List Reference → Bool
none_in set names = list_all (λ name. not (is_in set name)) names

-- a name is in the set with one more where it is in the set or denotes that one
in_one_more : (p : VarId → Bool) (one other : Option VarId) → variable_is (λ v. is_same v one || p v) other ≡ (variable_is (λ v. is_same v other) one || variable_is p other)
in_one_more p (Some v) (Some w) = ap (λ b. b || p w) (eq_sym v w)
in_one_more p (Some v) None = refl
in_one_more p None (Some w) = refl
in_one_more p None None = refl

among_more : (o : Option VarId) (name : Reference) (names : List Reference) → variable_is (λ v. mentions v (name ∷ names)) o ≡ (variable_is (λ v. denotes v name.root) o || variable_is (λ v. mentions v names) o)
among_more (Some v) name names = refl
among_more None name names = refl

not_among : (o : Option VarId) → variable_is (λ v. mentions v []) o ≡ false
not_among (Some v) = refl
not_among None = refl

turn : (a b c d : Bool) → (not (a || b) && (c && not d)) ≡ ((not b && c) && not (a || d))
turn true true c d = refl
turn true false true d = refl
turn true false false d = refl
turn false true c d = refl
turn false false c d = refl

none_in_more : (p : VarId → Bool) (name : Reference) (names : List Reference) → none_in (λ v. denotes v name.root || p v) names ≡ (none_in p names && not (is_among name names))
none_in_more p name [] = ap not (sym (not_among (variable_of name.root.entity)))
none_in_more p name (other ∷ names) =
    let here = variable_is (λ v. denotes v other.root) (variable_of name.root.entity) in
    ap₂ (λ a b. not a && b) (in_one_more p (variable_of name.root.entity) (variable_of other.root.entity)) (none_in_more p name names)
    ∙ turn here (is_in p other) (none_in p names) (is_among name names)
    ∙ ap (λ b. none_in p (other ∷ names) && not b) (sym (among_more (variable_of name.root.entity) other names))

regroup : (a b c d : Bool) → (a && ((b && c) && d)) ≡ ((a && b) && (c && d))
regroup true true c d = refl
regroup true false c d = refl
regroup false b c d = refl

new_is : (p : VarId → Bool) (names : List Reference) → all_new p names ≡ (none_in p names && names_once names)
new_is p [] = refl
new_is p (name ∷ names) =
    ap (λ b. not (is_in p name) && b) (new_is (λ v. denotes v name.root || p v) names ∙ ap (λ b. b && names_once names) (none_in_more p name names))
    ∙ regroup (not (is_in p name)) (none_in p names) (not (is_among name names)) (names_once names)

none_empty : (o : Option VarId) → variable_is (holds []) o ≡ false
none_empty (Some v) = refl
none_empty None = refl

none_in_empty : (names : List Reference) → none_in (holds []) names ≡ true
none_in_empty [] = refl
none_in_empty (name ∷ names) = ap₂ (λ a b. not a && b) (none_empty (variable_of name.root.entity)) (none_in_empty names)

-- from the empty set, each is new where none is named twice
pub new_once : (names : List Reference) → all_new (holds []) names ≡ names_once names
new_once names = new_is (holds []) names ∙ ap (λ b. b && names_once names) (none_in_empty names)

-- ---- the exports of all items

among_both : (o : Option VarId) (front back : List Reference) → variable_is (λ v. mentions v (front ++ back)) o ≡ (variable_is (λ v. mentions v front) o || variable_is (λ v. mentions v back) o)
among_both (Some v) front back = list_any-append (λ (name : Reference). denotes v name.root) front back
among_both None front back = refl

spread : (a b n l m : Bool) → (not (a || b) && (n && (not l && m))) ≡ ((not a && n) && (not (b || l) && m))
spread true b n l m = refl
spread false true true l m = refl
spread false true false l m = refl
spread false false n l m = refl

once_both : (front back : List Reference) → names_once (front ++ back) ≡ (names_once front && (not (list_any (λ name. is_among name back) front) && names_once back))
once_both [] back = refl
once_both (name ∷ front) back =
    ap₂ (λ a b. not a && b) (among_both (variable_of name.root.entity) front back) (once_both front back)
    ∙ spread (is_among name front) (is_among name back) (names_once front) (list_any (λ name. is_among name back) front) (names_once back)

export_is : (items : List CoreDerivesItem) (name : Reference) → is_export_of items name ≡ is_among name (exports_in items)
export_is [] name = sym (not_among (variable_of name.root.entity))
export_is (item ∷ items) name =
    ap (λ b. is_among name item.exports || b) (export_is items name) ∙ sym (among_both (variable_of name.root.entity) item.exports (exports_in items))

any_alike : (p q : Reference → Bool) → ((name : Reference) → p name ≡ q name) → (names : List Reference) → list_any p names ≡ list_any q names
any_alike p q same [] = refl
any_alike p q same (name ∷ names) = ap₂ ◌||◌ (same name) (any_alike p q same names)

exports_once_is : (items : List CoreDerivesItem) → exports_once items ≡ names_once (exports_in items)
exports_once_is [] = refl
exports_once_is (item ∷ items) =
    ap₂ (λ a b. names_once item.exports && (not a && b)) (any_alike (is_export_of items) (λ name. is_among name (exports_in items)) (export_is items) item.exports) (exports_once_is items)
    ∙ sym (once_both item.exports (exports_in items))

-- no variable is exported twice where each export is new to those before it
pub exports_new : (items : List CoreDerivesItem) → exports_once items ≡ all_new (holds []) (exports_in items)
exports_new items = exports_once_is items ∙ sym (new_once (exports_in items))
