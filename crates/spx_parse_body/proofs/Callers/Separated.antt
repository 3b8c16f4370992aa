-- Lists of items with a form between them: what a reader of them finds is such a list, and each such list is read.
use Rattle.std.specs.Prelude.{⊤}
use Rattle.std.proofs.Common.{◌≡◌, Bool, true, false, cond, List, [], ◌∷◌, ◌++◌, map, Option, Some, None, refl, sym, ap, ◌∙◌, append_assoc}
use Rattle.std.proofs.lemmas.List.{append-nil}
use Rattle.spx_tree.specs.Grammar.{Each, OneOrMore, IfThere}
use Rattle.spx_tree.specs.declared.token.Kind.{Kind}
use Rattle.spx_tree.specs.Form.{Form, KindAlone, keeps, bare}
use Rattle.spx_tree.specs.Written.{joined, following, separated, optional}
use Rattle.spx_cursor.specs.Reading.{Reader, ◌>>=◌, ◌>>◌, peek, same_mark, is_kind, sees, expect, optional_by, if_seen, item_step, more_items}
use Rattle.spx_parse_body.proofs.Callers.Shaped.{mark_self, kind_is, kind_self}
use Rattle.spx_parse_body.proofs.Callers.Loops.{Shrinks}
use Rattle.spx_parse_body.proofs.Callers.Lawful.{Any, Sees}
use Rattle.spx_parse_body.proofs.Scans.{AtFirst}
use Rattle.spx_parse_body.proofs.Callers.Good.{Good, Starts, Case, Adds, absent, present, good_pure, good_option, good_more, good_list, good_as, good_given, list_shrinks, starts_bind, starts_expect}
use Rattle.spx_parse_body.proofs.Callers.Reaches.{Reaches, reaches_bind, reaches_pure, reaches_choose, reaches_expect, reaches_items, reaches_items_before}

pub all_added : {A : Type 0} (fits : A → Type 0) (xs : List A) (x : A) → Each fits xs → fits x → Each fits (xs ++ x ∷ [])
all_added fits [] x f g = (g, tt)
all_added fits (y ∷ ys) x f g = (f.0, all_added fits ys x f.1 g)

pub joined_added : {A : Type 0} (spell : A → List Form) (xs : List A) (x : A) → joined (map spell xs) ++ spell x ≡ joined (map spell (xs ++ x ∷ []))
joined_added spell [] x = sym (append-nil (spell x))
joined_added spell (y ∷ ys) x = append_assoc (spell y) (joined (map spell ys)) (spell x) ∙ ap (λ (fs : List Form). spell y ++ fs) (joined_added spell ys x)

-- items one after another, one or more
pub joined_adds : {A : Type 0} (spell : A → List Form) (fits : A → Type 0) → Adds spell fits (λ xs. joined (map spell xs)) (OneOrMore fits)
joined_adds spell fits [] x f g = absurd f
joined_adds spell fits (y ∷ ys) x f g = (joined_added spell (y ∷ ys) x, (f.0, all_added fits ys x f.1 g))

-- items one after another, if there are any
pub each_adds : {A : Type 0} (spell : A → List Form) (fits : A → Type 0) → Adds spell fits (λ xs. joined (map spell xs)) (Each fits)
each_adds spell fits xs x f g = (joined_added spell xs x, all_added fits xs x f g)

module _ {A : Type 0} (spell : A → List Form) (fits : A → Type 0) (look : List Form → Bool) (first : AtFirst look) (no_end : look [] ≡ false) {p p' : Reader A} where
  pub good_items : {L P : Type 0} → Starts L ⊤ spell fits [] (Sees look true) p p' → Good L P (λ xs. joined (map spell xs)) (Each fits) [] Any (more_items look p []) (more_items look p' [])
  good_items {L} {P} s = good_given (λ l. l) (λ l w. (tt, tt)) (good_more L ⊤ spell fits (λ xs. joined (map spell xs)) (Each fits) (each_adds spell fits) look first no_end s [])

  pub good_some_items : {L P : Type 0} → Starts L ⊤ spell fits [] (Sees look true) p p' → Good L P spell fits [] Any p p'
      → Good L P (λ xs. joined (map spell xs)) (OneOrMore fits) [] Any (p >>= λ x. more_items look p (x ∷ [])) (p' >>= λ x. more_items look p' (x ∷ []))
  good_some_items {L} {P} s g = good_list L P spell fits (λ xs. joined (map spell xs)) (OneOrMore fits) (joined_adds spell fits) look first no_end s (λ x f. (sym (append-nil (spell x)), (f, tt))) g

  pub items_shrinks : {L : Type 0} → Starts L ⊤ spell fits [] (Sees look true) p p' → L → Shrinks look (item_step p)
  items_shrinks {L} s l = list_shrinks L ⊤ spell fits (λ xs. joined (map spell xs)) (Each fits) (each_adds spell fits) look first no_end s l

-- Where an item is read whatever stands after it.
module _ {A : Type 0} (spell : A → List Form) (fits : A → Type 0) (look : List Form → Bool) {p : Reader A} (shrinks : Shrinks look (item_step p)) (begun : (x : A) (ws : List Form) → fits x → look (spell x ++ ws) ≡ true)
    (again : (x : A) (fs zs : List Form) → fits x → fs ≡ spell x ++ zs → Reaches p fs x zs) where
  pub reaches_some_items : (xs : List A) (fs zs : List Form) → OneOrMore fits xs → look zs ≡ false → fs ≡ joined (map spell xs) ++ zs → Reaches (p >>= λ x. more_items look p (x ∷ [])) fs xs zs
  reaches_some_items [] fs zs f over h = absurd f
  reaches_some_items (x ∷ xs) fs zs f over h =
      reaches_bind (λ y. more_items look p (y ∷ [])) (again x fs (joined (map spell xs) ++ zs) f.0 (h ∙ append_assoc (spell x) (joined (map spell xs)) zs)) (λ us a. reaches_items spell fits look p shrinks begun again (x ∷ []) xs us zs f.1 over a)

module _ {A : Type 0} (spell : A → List Form) (fits : A → Type 0) (marked : Bool) (sep : Kind) where
  -- an item after the form between
  abbrev pub next : A → List Form
  next x = bare marked sep ∷ spell x

  pub following_is : (xs : List A) → following (bare marked sep) spell xs ≡ joined (map next xs)
  following_is [] = refl
  following_is (x ∷ xs) = ap (λ (fs : List Form). bare marked sep ∷ (spell x ++ fs)) (following_is xs)

  pub following_added : (xs : List A) (x : A) → following (bare marked sep) spell xs ++ next x ≡ following (bare marked sep) spell (xs ++ x ∷ [])
  following_added xs x = ap (λ (fs : List Form). fs ++ next x) (following_is xs) ∙ joined_added next xs x ∙ sym (following_is (xs ++ x ∷ []))

  pub separated_adds : Adds next fits (separated (bare marked sep) spell) (OneOrMore fits)
  separated_adds [] x f g = absurd f
  separated_adds (y ∷ ys) x f g = (append_assoc (spell y) (following (bare marked sep) spell ys) (next x) ∙ ap (λ (fs : List Form). spell y ++ fs) (following_added ys x), (f.0, all_added fits ys x f.1 g))

  module _ (look : List Form → Bool) (first : AtFirst look) (no_end : look [] ≡ false) (seen : (fs : List Form) → look fs ≡ true → peek marked fs ≡ Some sep) (c : keeps sep ≡ KindAlone) {p p' : Reader A} where
    pub next_starts : {L P : Type 0} → Good L ⊤ spell fits [] Any p p' → Starts L P next fits [] (Sees look true) (expect marked sep >> p) (expect marked sep >> p')
    next_starts g = starts_bind (starts_expect marked sep seen c) (λ u. good_as (λ l w x f. (refl, f)) (good_given (λ l. l) (λ l w. tt) g))

    pub good_separated : {L P : Type 0} → Good L ⊤ spell fits [] Any p p'
        → Good L P (separated (bare marked sep) spell) (OneOrMore fits) [] Any (p >>= λ x. more_items look (expect marked sep >> p) (x ∷ [])) (p' >>= λ x. more_items look (expect marked sep >> p') (x ∷ []))
    good_separated {L} {P} g =
        good_list L P next fits (separated (bare marked sep) spell) (OneOrMore fits) separated_adds look first no_end (next_starts g) (λ x f. (sym (append-nil (spell x)), (f, tt))) (good_given (λ l. l) (λ l w. tt) g)

    pub separated_shrinks : {L : Type 0} → Good L ⊤ spell fits [] Any p p' → L → Shrinks look (item_step (expect marked sep >> p))
    separated_shrinks {L} g = list_shrinks L ⊤ next fits (separated (bare marked sep) spell) (OneOrMore fits) separated_adds look first no_end (next_starts g)

  -- Each item is read before forms of which Stops holds.
  module _ (Stops : List Form → Type 0) (look : List Form → Bool) {p : Reader A} (shrinks : Shrinks look (item_step (expect marked sep >> p))) (begun : (ws : List Form) → (look (bare marked sep ∷ ws) ≡ true) × Stops (bare marked sep ∷ ws))
      (again : (x : A) (fs zs : List Form) → fits x → Stops zs → fs ≡ spell x ++ zs → Reaches p fs x zs) where
    next_again : (x : A) (fs zs : List Form) → fits x → Stops zs → fs ≡ next x ++ zs → Reaches (expect marked sep >> p) fs x zs
    next_again x fs zs f stops h = reaches_bind (λ u. p) (reaches_expect marked sep h) (λ us a. again x us zs f stops a)

    -- items after others
    pub reaches_following : (found xs : List A) (fs zs : List Form) → Each fits xs → look zs ≡ false → Stops zs → fs ≡ following (bare marked sep) spell xs ++ zs → Reaches (more_items look (expect marked sep >> p) found) fs (found ++ xs) zs
    reaches_following found xs fs zs f over stops h =
        reaches_items_before Stops next fits look (expect marked sep >> p) shrinks (λ x ws g. begun (spell x ++ ws)) next_again found xs fs zs f over stops (h ∙ ap (λ (ws : List Form). ws ++ zs) (following_is xs))

    following_stop : (xs : List A) (zs : List Form) → Stops zs → Stops (following (bare marked sep) spell xs ++ zs)
    following_stop [] zs stops = stops
    following_stop (x ∷ xs) zs stops = (begun ((spell x ++ following (bare marked sep) spell xs) ++ zs)).1

    pub reaches_separated : (xs : List A) (fs zs : List Form) → OneOrMore fits xs → look zs ≡ false → Stops zs → fs ≡ separated (bare marked sep) spell xs ++ zs → Reaches (p >>= λ x. more_items look (expect marked sep >> p) (x ∷ [])) fs xs zs
    reaches_separated [] fs zs f over stops h = absurd f
    reaches_separated (x ∷ xs) fs zs f over stops h =
        reaches_bind (λ y. more_items look (expect marked sep >> p) (y ∷ [])) (again x fs (following (bare marked sep) spell xs ++ zs) f.0 (following_stop xs zs stops) (h ∙ append_assoc (spell x) (following (bare marked sep) spell xs) zs))
        (λ us a. reaches_following (x ∷ []) xs us zs f.1 over stops a)

-- ---- where the form between is looked for

pub kind_seen : (kind : Kind) (seen : Option Kind) → is_kind kind seen ≡ true → seen ≡ Some kind
kind_seen kind None e = absurd cc
kind_seen kind (Some j) e = ap (λ (i : Kind). Some i) (kind_is j kind e)

pub sees_kind : (marked : Bool) (kind : Kind) (fs : List Form) → sees marked kind fs ≡ true → peek marked fs ≡ Some kind
sees_kind marked kind fs e = kind_seen kind (peek marked fs) e

pub sees_front : (marked : Bool) (f : Form) (fs : List Form) → f.marked ≡ marked → sees marked f.kind (f ∷ fs) ≡ true
sees_front marked f fs e = ap (λ (b : Bool). is_kind f.kind (cond b (Some f.kind) None)) (ap (λ (m : Bool). same_mark m marked) e ∙ mark_self marked) ∙ kind_self f.kind

-- the next form has not this mark and kind
abbrev pub Lacks : Bool → Kind → List Form → Type 0
Lacks marked kind zs = peek marked zs ≡ Some kind → ⊥

pub not_seen : (marked : Bool) (kind : Kind) (zs : List Form) → Lacks marked kind zs → sees marked kind zs ≡ false
not_seen marked kind zs h = by_value (sees marked kind zs) refl
  where
    by_value : (b : Bool) → sees marked kind zs ≡ b → b ≡ false
    by_value false e = refl
    by_value true e = absurd (h (sees_kind marked kind zs e))

-- ---- what may be left out

module _ {A : Type 0} (spell : A → List Form) (fits : A → Type 0) (marked : Bool) (kind : Kind) {p p' : Reader A} where
  optional_case : {L P : Type 0} → Starts L P spell fits [] (Sees (sees marked kind) true) p p' → (b : Bool) → Case L P (optional spell) (IfThere fits) [] (Sees (sees marked kind) b) None (optional_by p b) (optional_by p' b)
  optional_case s true = present (starts_bind s (λ x. good_pure (Some x) (λ l w. refl) (λ l w. w.1)))
  optional_case s false = absent refl refl (λ l w. refl) (λ l w. tt)

  pub good_if_seen : {L P : Type 0} → Starts L P spell fits [] (Sees (sees marked kind) true) p p' → Good L P (optional spell) (IfThere fits) [] Any (if_seen marked kind p) (if_seen marked kind p')
  unfolding if_seen
  good_if_seen s = good_option (sees marked kind) (λ t xs ys. refl) None (optional_by p) (optional_by p') refl refl (optional_case s)

module _ {A : Type 0} (spell : A → List Form) (fits : A → Type 0) (marked : Bool) (kind : Kind) {p : Reader A} (begun : (x : A) (ws : List Form) → fits x → sees marked kind (spell x ++ ws) ≡ true)
    (again : (x : A) (fs zs : List Form) → fits x → fs ≡ spell x ++ zs → Reaches p fs x zs) where
  pub reaches_if_seen : (x : Option A) (fs zs : List Form) → IfThere fits x → sees marked kind zs ≡ false → fs ≡ optional spell x ++ zs → Reaches (if_seen marked kind p) fs x zs
  unfolding if_seen
  reaches_if_seen None fs zs f over h = reaches_choose (sees marked kind) (optional_by p) false (ap (sees marked kind) h ∙ over) (reaches_pure h)
  reaches_if_seen (Some x) fs zs f over h = reaches_choose (sees marked kind) (optional_by p) true (ap (sees marked kind) h ∙ begun x zs f) (reaches_bind _ (again x fs zs f h) (λ us a. reaches_pure a))
