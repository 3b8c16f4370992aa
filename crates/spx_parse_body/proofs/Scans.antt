-- A reader looks at one form past what it takes: by the ways in which readers are made.
use Rattle.std.specs.Prelude.{⊤}
use Rattle.std.proofs.Common.{◌≡◌, ◌⊎◌, inl, inr, ℕ, zero, suc, ◌+◌, ◌≤◌, ◌<◌, Bool, true, false, cond, ◌&&◌, List, [], ◌∷◌, ◌++◌, length, Option, Some, None, Ok, Err, refl, sym, ap, subst, ◌∙◌, arith, leb, length-append}
use Rattle.std.proofs.lemmas.Bool.{leb-false}
use Rattle.spx_tree.specs.declared.token.Kind.{Kind}
use Rattle.spx_tree.specs.Form.{Form, Kept, keeps}
use Rattle.spx_tree.specs.Goes.{Expected, TooDeep}
use Rattle.spx_cursor.specs.Reading.{Outcome, Reader, and_then, ◌>>=◌, pure, refuse, peek, same_mark, same_kind, taking, kept_or, deeper}
use Rattle.spx_parse_body.proofs.Callers.Shaped.{IsKeptAs, AreShaped, IsKept, seen_front, mark_self, kind_self}
use Rattle.spx_parse_body.proofs.Callers.Lawful.{Any, Sees}

-- no more forms are left than stood there
abbrev pub AtMost : {A : Type 0} → ℕ → Outcome A → Type 0
AtMost m (Ok x) = length x.1 ≤ m
AtMost m (Err (Expected n)) = n ≤ m
AtMost m (Err (TooDeep n)) = (0 < n) × (n ≤ m)

-- a form was taken, or was one level too many
abbrev pub Below : {A : Type 0} → ℕ → Outcome A → Type 0
Below m (Ok x) = length x.1 < m
Below m (Err (Expected n)) = n < m
Below m (Err (TooDeep n)) = (0 < n) × (n ≤ m)

-- a value leaves fewer forms
abbrev pub Fewer : {A : Type 0} → ℕ → Outcome A → Type 0
Fewer m (Ok x) = length x.1 < m
Fewer m (Err e) = ⊤

-- a form is taken: with a value always, and otherwise where the forms are those of tokens
abbrev pub Takes : {A : Type 0} → List Form → Outcome A → Type 0
Takes fs o = Fewer (length fs) o × (AreShaped fs → Below (length fs) o)

-- What becomes of an outcome where more forms follow. After a value at the end, a form that is no form of a token may be refused.
abbrev pub ExtendsOk : {A : Type 0} → A → List Form → List Form → Outcome A → Type 0
ExtendsOk x [] ys o = AtMost (length ys) o × (AreShaped ys → (o ≡ Ok (x, ys)) ⊎ Below (length ys) o)
ExtendsOk x (t ∷ r) ys o = o ≡ Ok (x, (t ∷ r) ++ ys)

abbrev pub Extends : {A : Type 0} → List Form → Outcome A → Outcome A → Type 0
Extends ys (Ok x) o = ExtendsOk x.0 x.1 ys o
Extends ys (Err (Expected zero)) o = AtMost (length ys) o
Extends ys (Err (Expected (suc n))) o = o ≡ Err (Expected (suc n + length ys))
Extends ys (Err (TooDeep n)) o = o ≡ Err (TooDeep (n + length ys))

pub record Scans {A : Type 0} (on : List Form → Type 0) (p : Reader A) : Type 0 where
  pub within : (fs : List Form) → on fs → AtMost (length fs) (p fs)
  pub steady : (xs ys : List Form) → on xs → on (xs ++ ys) → Extends ys (p xs) (p (xs ++ ys))

pub below_at_most : {A : Type 0} (m : ℕ) (o : Outcome A) → Below m o → AtMost m o
below_at_most m (Ok x) h = omega arith
below_at_most m (Err (Expected n)) h = omega arith
below_at_most m (Err (TooDeep n)) h = h

at_most_le : {A : Type 0} (m n : ℕ) (o : Outcome A) → m ≤ n → AtMost m o → AtMost n o
at_most_le m n (Ok x) le h = omega arith
at_most_le m n (Err (Expected i)) le h = omega arith
at_most_le m n (Err (TooDeep i)) le h = (h.0, omega arith)

at_most_below : {A : Type 0} (m n : ℕ) (o : Outcome A) → m < n → AtMost m o → Below n o
at_most_below m n (Ok x) lt h = omega arith
at_most_below m n (Err (Expected i)) lt h = omega arith
at_most_below m n (Err (TooDeep i)) lt h = (h.0, omega arith)

at_most_fewer : {A : Type 0} (m n : ℕ) (o : Outcome A) → m < n → AtMost m o → Fewer n o
at_most_fewer m n (Ok x) lt h = omega arith
at_most_fewer m n (Err e) lt h = tt

-- an outcome at the end of the forms
end_extends : {A : Type 0} (ys : List Form) (o p : Outcome A) → AtMost 0 o → AtMost (length ys) p → (AreShaped ys → Extends ys o p ⊎ Below (length ys) p) → Extends ys o p
end_extends ys (Ok (x, [])) p h a g = (a, λ s. elim (g s) [ inl e ↦ e.1 s | inr b ↦ inr b ])
end_extends ys (Ok (x, t ∷ r)) p h a g = absurd (omega (arith, h))
end_extends ys (Err (Expected zero)) p h a g = a
end_extends ys (Err (Expected (suc n))) p h a g = absurd (omega (arith, h))
end_extends ys (Err (TooDeep n)) p h a g = absurd (omega (arith, h.0, h.1))

pub scans_pure : {A : Type 0} (on : List Form → Type 0) (x : A) → Scans on (pure x)
scans_pure on x = record { within = λ fs here. omega arith; steady = λ xs ys here there. pure_steady x xs ys }
  where
    pure_steady : {A : Type 0} (x : A) (xs ys : List Form) → ExtendsOk x xs ys (Ok (x, xs ++ ys))
    pure_steady x [] ys = (omega arith, λ s. inl refl)
    pure_steady x (t ∷ xs) ys = refl

pub scans_refuse : {A : Type 0} (on : List Form → Type 0) → Scans on (refuse {A = A})
scans_refuse {A} on = record { within = λ fs here. omega arith; steady = λ xs ys here there. refuse_steady xs ys }
  where
    refuse_steady : (xs ys : List Form) → Extends {A = A} ys (Err (Expected (length xs))) (Err (Expected (length (xs ++ ys))))
    refuse_steady [] ys = omega arith
    refuse_steady (t ∷ xs) ys = ap (λ (n : ℕ). Err (Expected n)) (length-append (t ∷ xs) ys)

module _ {A B : Type 0} (on : List Form → Type 0) (p : Reader A) (q : A → Reader B) (scans_p : Scans on p) (scans_q : (x : A) → Scans Any (q x)) where
  bind_at_most : (m : ℕ) (o : Outcome A) → AtMost m o → AtMost m (and_then o q)
  bind_at_most m (Ok x) h = at_most_le (length x.1) m (q x.0 x.1) h ((scans_q x.0).within x.1 tt)
  bind_at_most m (Err (Expected n)) h = h
  bind_at_most m (Err (TooDeep n)) h = h

  bind_below : (m : ℕ) (o : Outcome A) → Below m o → Below m (and_then o q)
  bind_below m (Ok x) h = at_most_below (length x.1) m (q x.0 x.1) h ((scans_q x.0).within x.1 tt)
  bind_below m (Err (Expected n)) h = h
  bind_below m (Err (TooDeep n)) h = h

  bind_fewer : (m : ℕ) (o : Outcome A) → Fewer m o → Fewer m (and_then o q)
  bind_fewer m (Ok x) h = at_most_fewer (length x.1) m (q x.0 x.1) h ((scans_q x.0).within x.1 tt)
  bind_fewer m (Err e) h = tt

  bind_extends : (ys : List Form) (o o' : Outcome A) → Extends ys o o' → Extends ys (and_then o q) (and_then o' q)
  bind_extends ys (Ok (x, [])) o' e =
      end_extends ys (q x []) (and_then o' q) ((scans_q x).within [] tt) (bind_at_most (length ys) o' e.0) (λ s. elim (e.1 s) [
        | inl is ↦ inl (subst (λ (r : Outcome A). Extends ys (q x []) (and_then r q)) (sym is) ((scans_q x).steady [] ys tt tt))
        | inr b ↦ inr (bind_below (length ys) o' b)
      ])
  bind_extends ys (Ok (x, t ∷ r)) o' e = subst (λ (s : Outcome A). Extends ys (q x (t ∷ r)) (and_then s q)) (sym e) ((scans_q x).steady (t ∷ r) ys tt tt)
  bind_extends ys (Err (Expected zero)) o' e = bind_at_most (length ys) o' e
  bind_extends ys (Err (Expected (suc n))) o' e = ap (λ (s : Outcome A). and_then s q) e
  bind_extends ys (Err (TooDeep n)) o' e = ap (λ (s : Outcome A). and_then s q) e

  pub scans_bind : Scans on (p >>= q)
  scans_bind = record {
    within = λ fs here. bind_at_most (length fs) (p fs) (scans_p.within fs here);
    steady = λ xs ys here there. bind_extends ys (p xs) (p (xs ++ ys)) (scans_p.steady xs ys here there);
  }

  -- where the first reader takes a form, both do
  pub takes_bind : (fs : List Form) → Takes fs (p fs) → Takes fs ((p >>= q) fs)
  takes_bind fs t = (bind_fewer (length fs) (p fs) t.0, λ s. bind_below (length fs) (p fs) (t.1 s))

deep_extends : {A : Type 0} (b c : Bool) (xs ys : List Form) (p : Reader A) → b ≡ c → (c ≡ false → Extends ys (p xs) (p (xs ++ ys))) → Extends ys (cond b (Err (TooDeep (length xs))) (p xs)) (cond b (Err (TooDeep (length (xs ++ ys)))) (p (xs ++ ys)))
deep_extends true c xs ys p e h = ap (λ (n : ℕ). Err (TooDeep n)) (length-append xs ys)
deep_extends false c xs ys p e h = h (sym e)

deep_at_most : {A : Type 0} (b c : Bool) (fs : List Form) (p : Reader A) → b ≡ c → 0 < length fs → (c ≡ false → AtMost (length fs) (p fs)) → AtMost (length fs) (cond b (Err (TooDeep (length fs))) (p fs))
deep_at_most true c fs p e some h = (some, omega arith)
deep_at_most false c fs p e some h = h (sym e)

deep_below : {A : Type 0} (b c : Bool) (fs : List Form) (p : Reader A) → b ≡ c → 0 < length fs → (c ≡ false → Below (length fs) (p fs)) → Below (length fs) (cond b (Err (TooDeep (length fs))) (p fs))
deep_below true c fs p e some h = (some, omega arith)
deep_below false c fs p e some h = h (sym e)

pub scans_deeper : {A : Type 0} (on : List Form → Type 0) (levels used : ℕ) (p : Reader A) → ((fs : List Form) → on fs → 0 < length fs) → (used < levels → Scans on p) → Scans on (deeper levels used p)
scans_deeper on levels used p some h = record {
  within = λ fs here. deep_at_most (leb levels used) (leb levels used) fs p refl (some fs here) (λ e. (h (leb-false levels used e)).within fs here);
  steady = λ xs ys here there. deep_extends (leb levels used) (leb levels used) xs ys p refl (λ e. (h (leb-false levels used e)).steady xs ys here there);
}

deep_fewer : {A : Type 0} (b c : Bool) (fs : List Form) (p : Reader A) → b ≡ c → (c ≡ false → Fewer (length fs) (p fs)) → Fewer (length fs) (cond b (Err (TooDeep (length fs))) (p fs))
deep_fewer true c fs p e h = tt
deep_fewer false c fs p e h = h (sym e)

pub takes_deeper : {A : Type 0} (levels used : ℕ) (p : Reader A) (fs : List Form) → 0 < length fs → (used < levels → Takes fs (p fs)) → Takes fs (deeper levels used p fs)
takes_deeper levels used p fs some h =
    (deep_fewer (leb levels used) (leb levels used) fs p refl (λ e. (h (leb-false levels used e)).0), λ s. deep_below (leb levels used) (leb levels used) fs p refl some (λ e. (h (leb-false levels used e)).1 s))

-- ---- a choice by the next form

pub sees_some : (marked : Bool) (kind : Kind) (fs : List Form) → peek marked fs ≡ Some kind → 0 < length fs
sees_some marked kind [] e = absurd cc
sees_some marked kind (f ∷ fs) e = omega arith

-- what is seen of forms is seen of the first
abbrev pub AtFirst : {K : Type 0} → (List Form → K) → Type 0
AtFirst look = (t : Form) (xs ys : List Form) → look ((t ∷ xs) ++ ys) ≡ look (t ∷ xs)

choose_steady : {K A : Type 0} (look : List Form → K) (first : AtFirst look) (f : K → Reader A) (law : (kind : K) → Scans (Sees look kind) (f kind)) (at_end : (ys : List Form) → Extends ys (f (look []) []) (f (look ys) ys)) (xs ys : List Form)
    → Extends ys (f (look xs) xs) (f (look (xs ++ ys)) (xs ++ ys))
choose_steady look first f law at_end [] ys = at_end ys
choose_steady look first f law at_end (t ∷ xs) ys =
    let e = first t xs ys in
    subst (λ kind. Extends ys (f (look (t ∷ xs)) (t ∷ xs)) (f kind ((t ∷ xs) ++ ys))) (sym e) ((law (look (t ∷ xs))).steady (t ∷ xs) ys refl e)

pub scans_choose : {K A : Type 0} (look : List Form → K) (first : AtFirst look) (f : K → Reader A) → ((kind : K) → Scans (Sees look kind) (f kind)) → ((ys : List Form) → Extends ys (f (look []) []) (f (look ys) ys)) → Scans Any (λ fs. f (look fs) fs)
scans_choose look first f law at_end = record {
  within = λ fs here. (law (look fs)).within fs refl;
  steady = λ xs ys here there. choose_steady look first f law at_end xs ys;
}

-- ---- single forms

kept_within : {A : Type 0} (o : Option A) (f : Form) (fs : List Form) → AtMost (length (f ∷ fs)) (kept_or o fs (f ∷ fs))
kept_within (Some x) f fs = omega arith
kept_within None f fs = omega arith

kept_steady : {A : Type 0} (o : Option A) (f : Form) (xs ys : List Form) → Extends ys (kept_or o xs (f ∷ xs)) (kept_or o (xs ++ ys) ((f ∷ xs) ++ ys))
kept_steady (Some x) f [] ys = (omega arith, λ s. inl refl)
kept_steady (Some x) f (g ∷ xs) ys = refl
kept_steady None f xs ys = ap (λ (n : ℕ). Err (Expected n)) (length-append (f ∷ xs) ys)

kept_fewer : {A : Type 0} (o : Option A) (f : Form) (fs : List Form) → Fewer (length (f ∷ fs)) (kept_or o fs (f ∷ fs))
kept_fewer (Some x) f fs = omega arith
kept_fewer None f fs = tt

module _ {A : Type 0} (kept : Kept → Option A) (marked : Bool) (kind : Kind) where
  taking_within : (fs : List Form) → AtMost (length fs) (taking kept marked kind fs)
  unfolding taking
  taking_within [] = omega arith
  taking_within (f ∷ fs) = kept_within (cond (same_mark f.marked marked && same_kind f.kind kind) (kept f.kept) None) f fs

  taking_steady : (xs ys : List Form) → Extends ys (taking kept marked kind xs) (taking kept marked kind (xs ++ ys))
  unfolding taking
  taking_steady [] ys = taking_within ys
  taking_steady (f ∷ xs) ys = kept_steady (cond (same_mark f.marked marked && same_kind f.kind kind) (kept f.kept) None) f xs ys

  pub scans_taking : (on : List Form → Type 0) → Scans on (taking kept marked kind)
  scans_taking on = record { within = λ fs here. taking_within fs; steady = λ xs ys here there. taking_steady xs ys }

  taking_fewer : (fs : List Form) → Fewer (length fs) (taking kept marked kind fs)
  unfolding taking
  taking_fewer [] = tt
  taking_fewer (f ∷ fs) = kept_fewer (cond (same_mark f.marked marked && same_kind f.kind kind) (kept f.kept) None) f fs

  -- a form of this mark and kind of which x is kept is taken
  pub taking_front : (f : Form) (fs : List Form) (x : A) → f.marked ≡ marked → f.kind ≡ kind → kept f.kept ≡ Some x → taking kept marked kind (f ∷ fs) ≡ Ok (x, fs)
  unfolding taking
  taking_front f fs x of_mark of_kind is =
      ap (λ (b : Bool). kept_or (cond (b && same_kind f.kind kind) (kept f.kept) None) fs (f ∷ fs)) (ap (λ (m : Bool). same_mark m marked) of_mark ∙ mark_self marked)
      ∙ ap (λ (b : Bool). kept_or (cond b (kept f.kept) None) fs (f ∷ fs)) (ap (λ (j : Kind). same_kind j kind) of_kind ∙ kind_self kind)
      ∙ ap (λ (o : Option A). kept_or o fs (f ∷ fs)) is

  -- a form that was seen is taken, where the forms are those of tokens
  pub taking_seen : IsKept kept kind → (fs : List Form) → AreShaped fs → peek marked fs ≡ Some kind → (x : A) × (rest : List Form) × (taking kept marked kind fs ≡ Ok (x, rest)) × (length rest < length fs)
  taking_seen is fs s here =
      let v = seen_front marked kind fs here in
      let shaped : AreShaped (v.form ∷ v.rest) = subst AreShaped v.parts s in
      let x = is v.form.kept (subst (λ (j : Kind). IsKeptAs (keeps j) v.form.kept) v.of_kind shaped.0) in
      let len = ap length v.parts in
      (x.0, v.rest, ap (taking kept marked kind) v.parts ∙ taking_front v.form v.rest x.0 v.of_mark v.of_kind x.1, omega arith)

  pub takes_taking : IsKept kept kind → (fs : List Form) → peek marked fs ≡ Some kind → Takes fs (taking kept marked kind fs)
  takes_taking is fs here = (taking_fewer fs, λ s. let v = taking_seen is fs s here in subst (Below (length fs)) (sym v.2) v.3)

-- what holds of some forms holds of fewer
pub scans_fewer : {A : Type 0} (on fewer : List Form → Type 0) (p : Reader A) → ((fs : List Form) → fewer fs → on fs) → Scans on p → Scans fewer p
scans_fewer on fewer p h s = record { within = λ fs here. s.within fs (h fs here); steady = λ xs ys here there. s.steady xs ys (h xs here) (h (xs ++ ys) there) }
