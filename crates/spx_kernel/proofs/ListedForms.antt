-- What the entries of a certificate name, and their forms.
use Rattle.std.proofs.Common.{◌≡◌, ℕ, suc, ◌+◌, ◌<◌, drop, get_or, arith, ◌&&◌, ◌||◌, ℤ, pos, int_le, Bool, true, false, Option, Some, None, List, [], ◌∷◌, ◌++◌, length, map, refl, sym, ap, ap₂, subst, ◌∙◌, append_assoc, if◌then◌else◌}
use Rattle.std.proofs.Math.Seq.{drop-cons}
use Rattle.std.specs.List.{list_all}
use Rattle.std.proofs.lemmas.Bool.{and_parts}
use Rattle.std.proofs.lemmas.List.{append-nil, length-map}
use Rattle.spx_term.specs.declared.condition.Sequent.{Sequent}
use Rattle.spx_term.specs.declared.term.Term.{Term}
use Rattle.spx_linear.specs.declared.form.Form.{Form}
use Rattle.spx_linear.specs.Linear.{is_comparison, linear_form}
use Rattle.spx_kernel.specs.declared.rule.Entry.{Entry}
use Rattle.spx_kernel.specs.Certificates.{is_equation, named, listed, with_term, all_listed, with_form, forms_of, multiplier}

-- ---- a list after what there is already

abbrev after_in : {A : Type 0} → List A → Option (List A) → Option (List A)
after_in xs (Some ys) = Some (xs ++ ys)
after_in xs None = None

unfoldable pub after : {A : Type 0} → List A → Option (List A) → Option (List A)
after xs o = after_in xs o

pub after_none : {A : Type 0} (o : Option (List A)) → after {A = A} [] o ≡ o
unfolding after
after_none (Some ys) = refl
after_none None = refl

-- ---- terms

pub after_last : (ts : List Term) → after ts (Some []) ≡ Some ts
unfolding after
after_last ts = ap Some (append-nil ts)

pub one_more : (ts : List Term) (t : Term) (rest : Option (List Term)) → after ts (with_term (Some t) rest) ≡ after (ts ++ t ∷ []) rest
unfolding after
one_more ts t (Some us) = ap Some (sym (append_assoc ts (t ∷ []) us))
one_more ts t None = refl

pub no_more : (ts : List Term) (rest : Option (List Term)) → after ts (with_term None rest) ≡ None
unfolding after
no_more ts rest = refl

pub ruleset listed_laws = (after_none, after_last, one_more, no_more)

at_item : (s : Sequent) (es rest : List Entry) (i : ℕ) (e : Entry) (ts : List Term) (o : Option Term) → drop i es ≡ e ∷ rest → listed e.by (named s e.hyp) ≡ o → all_listed s es ≡ after ts (all_listed s (drop i es))
    → all_listed s es ≡ after ts (with_term o (all_listed s rest))
at_item s es rest i e ts o cut is so_far = so_far ∙ ap (λ xs. after ts (all_listed s xs)) cut ∙ ap (λ x. after ts (with_term x (all_listed s rest))) is

pub listed_on : (s : Sequent) (es rest : List Entry) (i : ℕ) (e : Entry) (ts : List Term) (t : Term) → drop i es ≡ e ∷ rest → listed e.by (named s e.hyp) ≡ Some t → all_listed s es ≡ after ts (all_listed s (drop i es))
    → all_listed s es ≡ after (ts ++ t ∷ []) (all_listed s rest)
listed_on s es rest i e ts t cut is so_far = at_item s es rest i e ts (Some t) cut is so_far ∙ one_more ts t (all_listed s rest)

pub listed_stop : (s : Sequent) (es rest : List Entry) (i : ℕ) (e : Entry) (ts : List Term) → drop i es ≡ e ∷ rest → listed e.by (named s e.hyp) ≡ None → all_listed s es ≡ after ts (all_listed s (drop i es)) → all_listed s es ≡ None
listed_stop s es rest i e ts cut is so_far = at_item s es rest i e ts None cut is so_far ∙ no_more ts (all_listed s rest)

pub listed_end : (s : Sequent) (es : List Entry) (i : ℕ) (ts : List Term) → drop i es ≡ [] → all_listed s es ≡ after ts (all_listed s (drop i es)) → all_listed s es ≡ Some ts
listed_end s es i ts cut so_far = so_far ∙ ap (λ xs. after ts (all_listed s xs)) cut ∙ after_last ts

-- ---- forms

pub forms_last : (fs : List Form) → after fs (Some []) ≡ Some fs
unfolding after
forms_last fs = ap Some (append-nil fs)

pub form_more : (fs : List Form) (f : Form) (rest : Option (List Form)) → after fs (with_form (Some f) rest) ≡ after (fs ++ f ∷ []) rest
unfolding after
form_more fs f (Some gs) = ap Some (sym (append_assoc fs (f ∷ []) gs))
form_more fs f None = refl

pub form_none : (fs : List Form) (rest : Option (List Form)) → after fs (with_form None rest) ≡ None
unfolding after
form_none fs rest = refl

pub ruleset form_laws = (after_none, forms_last, form_more, form_none)

-- ---- lengths

with_form_length : (f : Option Form) (gs : Option (List Form)) (n : List Term) → ((hs : List Form) → gs ≡ Some hs → length hs ≡ length n) → (t : Term) (fs : List Form) → with_form f gs ≡ Some fs → length fs ≡ length (t ∷ n)
with_form_length (Some f) (Some gs) n h t fs is = ap length (sym (some_is (f ∷ gs) fs is)) ∙ ap suc (h gs refl) where
  some_is : (x y : List Form) → ◌≡◌ {A = Option (List Form)} (Some x) (Some y) → x ≡ y
  some_is x y e = cc
with_form_length (Some f) None n h t fs is = absurd (cc)
with_form_length None gs n h t fs is = absurd (cc)

pub forms_length : (ts : List Term) (fs : List Form) → forms_of ts ≡ Some fs → length fs ≡ length ts
forms_length [] fs is = ap length (sym (some_is [] fs is)) where
  some_is : (x y : List Form) → ◌≡◌ {A = Option (List Form)} (Some x) (Some y) → x ≡ y
  some_is x y e = cc
forms_length (t ∷ ts) fs is = with_form_length (linear_form t) (forms_of ts) ts (forms_length ts) t fs is

-- what is said of terms that are all listed
record AreListed (es : List Entry) (ts : List Term) : Type 0 where
  lengths : length ts ≡ length es
  comparisons : list_all is_comparison ts ≡ true

some_is : (x y : List Term) → ◌≡◌ {A = Option (List Term)} (Some x) (Some y) → x ≡ y
some_is x y e = cc

same_term_is : (x y : Term) → ◌≡◌ {A = Option Term} (Some x) (Some y) → x ≡ y
same_term_is x y e = cc

first_part : (a b : Bool) → (a && b) ≡ true → a ≡ true
first_part true b h = refl
first_part false b h = h

is_listed : (by : ℤ) (o : Option Term) (t : Term) → listed by o ≡ Some t → is_comparison t ≡ true
is_listed by (Some u) t h = by_test (is_comparison u && (is_equation u || int_le (pos 0) by)) refl h where
  by_test : (b : Bool) → (is_comparison u && (is_equation u || int_le (pos 0) by)) ≡ b → (if b then Some u else None) ≡ Some t → is_comparison t ≡ true
  by_test true e h = ap is_comparison (sym (same_term_is u t h)) ∙ first_part (is_comparison u) (is_equation u || int_le (pos 0) by) e
  by_test false e h = absurd (cc)
is_listed by None t h = absurd (cc)

more_listed : (e : Entry) (es : List Entry) (o : Option Term) (rest : Option (List Term)) → ((t : Term) → o ≡ Some t → is_comparison t ≡ true) → ((us : List Term) → rest ≡ Some us → AreListed es us)
    → (ts : List Term) → with_term o rest ≡ Some ts → AreListed (e ∷ es) ts
more_listed e es (Some t) (Some us) here there ts is =
    subst (AreListed (e ∷ es)) (some_is (t ∷ us) ts is) (record { lengths = ap suc (there us refl).lengths; comparisons = ap₂ ◌&&◌ (here t refl) (there us refl).comparisons })
more_listed e es (Some t) None here there ts is = absurd (cc)
more_listed e es None rest here there ts is = absurd (cc)

are_listed : (s : Sequent) (es : List Entry) (ts : List Term) → all_listed s es ≡ Some ts → AreListed es ts
are_listed s [] ts is = subst (AreListed []) (some_is [] ts is) (record { lengths = refl; comparisons = refl })
are_listed s (e ∷ es) ts is = more_listed e es (listed e.by (named s e.hyp)) (all_listed s es) (is_listed e.by (named s e.hyp)) (are_listed s es) ts is

pub listed_comparisons : (s : Sequent) (es : List Entry) (ts : List Term) → all_listed s es ≡ Some ts → list_all is_comparison ts ≡ true
listed_comparisons s es ts is = (are_listed s es ts is).comparisons

pub listed_length : (s : Sequent) (es : List Entry) (ts : List Term) → all_listed s es ≡ Some ts → length ts ≡ length (map multiplier es)
listed_length s es ts is = (are_listed s es ts is).lengths ∙ sym (length-map es multiplier)

pub ruleset entry_laws = (listed_comparisons, listed_length)

-- the forms so far, and the comparisons that are left
pub record FormsSoFar (all : List Term) (fs : List Form) (rest : List Term) : Type 0 where
  pub so_far : forms_of all ≡ after fs (forms_of rest)
  pub comparisons : list_all is_comparison rest ≡ true

form_item : (all rest : List Term) (i : ℕ) (t : Term) (fs : List Form) (o : Option Form) → drop i all ≡ t ∷ rest → linear_form t ≡ o → FormsSoFar all fs (drop i all) → forms_of all ≡ after fs (with_form o (forms_of rest))
form_item all rest i t fs o cut is h = h.so_far ∙ ap (λ xs. after fs (forms_of xs)) cut ∙ ap (λ x. after fs (with_form x (forms_of rest))) is

pub comparison_here : (all rest : List Term) (i : ℕ) (t : Term) (fs : List Form) → drop i all ≡ t ∷ rest → FormsSoFar all fs (drop i all) → (is_comparison t ≡ true) × (list_all is_comparison rest ≡ true)
comparison_here all rest i t fs cut h = and_parts (is_comparison t) (list_all is_comparison rest) (ap (list_all is_comparison) (sym cut) ∙ h.comparisons)

pub forms_on : (all rest : List Term) (i : ℕ) (t : Term) (fs : List Form) (f : Form) → drop i all ≡ t ∷ rest → linear_form t ≡ Some f → FormsSoFar all fs (drop i all) → FormsSoFar all (fs ++ f ∷ []) rest
forms_on all rest i t fs f cut is h = record {
  so_far = form_item all rest i t fs (Some f) cut is h ∙ form_more fs f (forms_of rest);
  comparisons = (comparison_here all rest i t fs cut h).1;
}

pub forms_stop : (all rest : List Term) (i : ℕ) (t : Term) (fs : List Form) → drop i all ≡ t ∷ rest → linear_form t ≡ None → FormsSoFar all fs (drop i all) → forms_of all ≡ None
forms_stop all rest i t fs cut is h = form_item all rest i t fs None cut is h ∙ form_none fs (forms_of rest)

pub forms_end : (all : List Term) (i : ℕ) (fs : List Form) → drop i all ≡ [] → FormsSoFar all fs (drop i all) → forms_of all ≡ Some fs
forms_end all i fs cut h = h.so_far ∙ ap (λ xs. after fs (forms_of xs)) cut ∙ forms_last fs

-- ---- one turn of a loop

cut_at : {A : Type 0} (xs : List A) (i : ℕ) (d : A) → i < length xs → drop i xs ≡ get_or xs i d ∷ drop (i + 1) xs
cut_at xs i d h = let next : suc i ≡ i + 1 = omega arith in drop-cons xs i d h ∙ ap (λ n. get_or xs i d ∷ drop n xs) next

pub listed_at : (s : Sequent) (es : List Entry) (i : ℕ) (d : Entry) (ts new : List Term) (t : Term) → i < length es → listed (get_or es i d).by (named s (get_or es i d).hyp) ≡ Some t → new ≡ ts ++ t ∷ []
    → all_listed s es ≡ after ts (all_listed s (drop i es)) → all_listed s es ≡ after new (all_listed s (drop (i + 1) es))
listed_at s es i d ts new t h is new_is so_far =
    listed_on s es (drop (i + 1) es) i (get_or es i d) ts t (cut_at es i d h) is so_far ∙ ap (λ xs. after xs (all_listed s (drop (i + 1) es))) (sym new_is)

pub listed_stop_at : (s : Sequent) (es : List Entry) (i : ℕ) (d : Entry) (ts : List Term) → i < length es → listed (get_or es i d).by (named s (get_or es i d).hyp) ≡ None → all_listed s es ≡ after ts (all_listed s (drop i es))
    → all_listed s es ≡ None
listed_stop_at s es i d ts h is so_far = listed_stop s es (drop (i + 1) es) i (get_or es i d) ts (cut_at es i d h) is so_far

cut_item : (all : List Term) (i : ℕ) (t : Term) → i < length all → t ≡ get_or all i t → drop i all ≡ t ∷ drop (i + 1) all
cut_item all i t h is = cut_at all i t h ∙ ap (λ x. x ∷ drop (i + 1) all) (sym is)

pub forms_at : (all : List Term) (i : ℕ) (t : Term) (fs new : List Form) (f : Form) → i < length all → t ≡ get_or all i t → linear_form t ≡ Some f → new ≡ fs ++ f ∷ [] → FormsSoFar all fs (drop i all) → FormsSoFar all new (drop (i + 1) all)
forms_at all i t fs new f h item is new_is so_far = subst (λ xs. FormsSoFar all xs (drop (i + 1) all)) (sym new_is) (forms_on all (drop (i + 1) all) i t fs f (cut_item all i t h item) is so_far)

pub forms_stop_at : (all : List Term) (i : ℕ) (t : Term) (fs : List Form) → i < length all → t ≡ get_or all i t → linear_form t ≡ None → FormsSoFar all fs (drop i all) → forms_of all ≡ None
forms_stop_at all i t fs h item is so_far = forms_stop all (drop (i + 1) all) i t fs (cut_item all i t h item) is so_far
