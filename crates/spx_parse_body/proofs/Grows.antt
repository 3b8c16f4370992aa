-- With a level more a reader answers the same, or takes the form that was one level too many: by the ways in which readers are made.
use Rattle.std.proofs.Common.{◌≡◌, ℕ, suc, ◌≤◌, ◌<◌, Bool, true, false, cond, ◌&&◌, List, [], ◌∷◌, length, Option, Some, None, Ok, Err, refl, sym, ap, subst, arith, leb}
use Rattle.std.proofs.lemmas.Bool.{leb-false}
use Rattle.std.proofs.lemmas.Bool as bools
use Rattle.spx_tree.specs.declared.token.Kind.{Kind}
use Rattle.spx_tree.specs.Form.{Form, Kept}
use Rattle.spx_tree.specs.Goes.{Expected, TooDeep}
use Rattle.spx_cursor.specs.Reading.{Outcome, Reader, and_then, ◌>>=◌, pure, refuse, peek, same_mark, same_kind, taking, kept_or, deeper}
use Rattle.spx_parse_body.proofs.Callers.Shaped.{AreShaped, IsKept, shaped_rest}
use Rattle.spx_parse_body.proofs.Callers.Lawful.{Lawful, Any, Sees}
use Rattle.spx_parse_body.proofs.Scans.{Scans, AtMost, taking_seen}

-- more was taken than up to where so many forms are left
abbrev pub Under : {A : Type 0} → ℕ → Outcome A → Type 0
Under m (Ok x) = length x.1 < m
Under m (Err (Expected n)) = n < m
Under m (Err (TooDeep n)) = n < m

abbrev pub Follows : {A : Type 0} → Outcome A → Outcome A → Type 0
Follows (Ok x) o = o ≡ Ok x
Follows (Err (Expected n)) o = o ≡ Err (Expected n)
Follows (Err (TooDeep n)) o = Under n o

pub record Grows {A : Type 0} (on : List Form → Type 0) (p p' : Reader A) : Type 0 where
  pub follows : (fs : List Form) → AreShaped fs → on fs → Follows (p fs) (p' fs)

at_most_under : {A : Type 0} (m n : ℕ) (o : Outcome A) → m < n → AtMost m o → Under n o
at_most_under m n (Ok x) lt h = omega arith
at_most_under m n (Err (Expected i)) lt h = omega arith
at_most_under m n (Err (TooDeep i)) lt h = omega (arith, h.1)

pub grows_pure : {A : Type 0} (on : List Form → Type 0) (x : A) → Grows on (pure x) (pure x)
grows_pure on x = record { follows = λ fs s here. refl }

pub grows_refuse : {A : Type 0} (on : List Form → Type 0) → Grows on (refuse {A = A}) refuse
grows_refuse on = record { follows = λ fs s here. refl }

kept_follows : {A : Type 0} (o : Option A) (fs all : List Form) → Follows (kept_or o fs all) (kept_or o fs all)
kept_follows (Some x) fs all = refl
kept_follows None fs all = refl

taking_follows : {A : Type 0} (kept : Kept → Option A) (marked : Bool) (kind : Kind) (fs : List Form) → Follows (taking kept marked kind fs) (taking kept marked kind fs)
unfolding taking
taking_follows kept marked kind [] = refl
taking_follows kept marked kind (f ∷ fs) = kept_follows (cond (same_mark f.marked marked && same_kind f.kind kind) (kept f.kept) None) fs (f ∷ fs)

pub grows_taking : {A : Type 0} (kept : Kept → Option A) (marked : Bool) (kind : Kind) (on : List Form → Type 0) → Grows on (taking kept marked kind) (taking kept marked kind)
grows_taking kept marked kind on = record { follows = λ fs s here. taking_follows kept marked kind fs }

-- what goes on from there leaves no more
pub under_bind : {A B : Type 0} (q : A → Reader B) → ((x : A) → Scans Any (q x)) → (n : ℕ) (o : Outcome A) → Under n o → Under n (and_then o q)
under_bind q scans n (Ok x) h = at_most_under (length x.1) n (q x.0 x.1) h ((scans x.0).within x.1 tt)
under_bind q scans n (Err (Expected m)) h = h
under_bind q scans n (Err (TooDeep m)) h = h

module _ {A B : Type 0} (spell : A → List Form) (fits : A → Type 0) (before : List Form) (on : List Form → Type 0) (p p' : Reader A) (q q' : A → Reader B)
    (law : Lawful spell fits before on p) (grows_p : Grows on p p') (grows_q : (x : A) → fits x → Grows Any (q x) (q' x)) (scans_q : (x : A) → Scans Any (q' x)) where
  bind_follows : (o o' : Outcome A) → ((x : A) (r : List Form) → o ≡ Ok (x, r) → fits x × AreShaped r) → Follows o o' → Follows (and_then o q) (and_then o' q')
  bind_follows (Ok x) o' h e = let f = h x.0 x.1 refl in subst (λ (r : Outcome B). Follows (q x.0 x.1) r) (sym (ap (λ (r : Outcome A). and_then r q') e)) ((grows_q x.0 f.0).follows x.1 f.1 tt)
  bind_follows (Err (Expected n)) o' h e = ap (λ (r : Outcome A). and_then r q') e
  bind_follows (Err (TooDeep n)) o' h e = under_bind q' scans_q n o' e

  pub grows_bind : Grows on (p >>= q) (p' >>= q')
  grows_bind = record { follows = λ fs s here. bind_follows (p fs) (p' fs) (λ x r e. let f = law.found fs r x here e in (f.fit, shaped_rest fs f.taken r f.parts s)) (grows_p.follows fs s here) }

-- where a form is taken less is left
pub under_taking : {A : Type 0} (kept : Kept → Option A) (marked : Bool) (kind : Kind) → IsKept kept kind → (fs : List Form) → AreShaped fs → peek marked fs ≡ Some kind → Under (length fs) (taking kept marked kind fs)
under_taking {A} kept marked kind is fs s here = let v = taking_seen kept marked kind is fs s here in subst (λ (o : Outcome A). Under (length fs) o) (sym v.2) v.3

deep_follows : {A : Type 0} (levels used : ℕ) (b b' : Bool) (p p' : Reader A) (fs : List Form) → leb levels used ≡ b → leb (suc levels) used ≡ b' → used ≤ levels
    → (levels ≡ used → Under (length fs) (p' fs)) → (used < levels → Follows (p fs) (p' fs)) → Follows (cond b (Err (TooDeep (length fs))) (p fs)) (cond b' (Err (TooDeep (length fs))) (p' fs))
deep_follows levels used b true p p' fs e f le under follows = absurd (omega (arith, bools.leb-true (suc levels) used f))
deep_follows levels used true false p p' fs e f le under follows = under (omega (arith, bools.leb-true levels used e))
deep_follows levels used false false p p' fs e f le under follows = follows (leb-false levels used e)

pub grows_deeper : {A : Type 0} (on : List Form → Type 0) (levels used : ℕ) (p p' : Reader A) → used ≤ levels → ((fs : List Form) → AreShaped fs → on fs → Under (length fs) (p' fs)) → (used < levels → Grows on p p')
    → Grows on (deeper levels used p) (deeper (suc levels) used p')
grows_deeper on levels used p p' le under grows = record { follows = λ fs s here. deep_follows levels used (leb levels used) (leb (suc levels) used) p p' fs refl refl le (λ same. under fs s here) (λ low. (grows low).follows fs s here) }

pub grows_choose : {K A : Type 0} (look : List Form → K) (f f' : K → Reader A) → ((kind : K) → Grows (Sees look kind) (f kind) (f' kind)) → Grows Any (λ fs. f (look fs) fs) (λ fs. f' (look fs) fs)
grows_choose look f f' grows = record { follows = λ fs s here. (grows (look fs)).follows fs s refl }

pub grows_fewer : {A : Type 0} (on fewer : List Form → Type 0) (p p' : Reader A) → ((fs : List Form) → fewer fs → on fs) → Grows on p p' → Grows fewer p p'
grows_fewer on fewer p p' h g = record { follows = λ fs s here. g.follows fs s (h fs here) }
