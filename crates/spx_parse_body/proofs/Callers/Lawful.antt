-- What a reader finds is a text, and where it stops, the forms before begin a text: by the ways in which readers are made.
use Rattle.std.specs.Prelude.{⊤}
use Rattle.std.proofs.Common.{◌≡◌, ◌⊎◌, inl, inr, ℕ, ◌<◌, Bool, true, false, cond, ◌&&◌, List, [], ◌∷◌, ◌++◌, length, Option, Some, None, Ok, Err, refl, sym, ap, subst, ◌∙◌, append_assoc, leb}
use Rattle.std.proofs.lemmas.Bool.{leb-false}
use Rattle.std.proofs.lemmas.List.{append-nil}
use Rattle.spx_text.specs.declared.place.Place.{Place}
use Rattle.spx_tree.specs.declared.token.Kind.{Kind}
use Rattle.spx_tree.specs.Form.{Form, Kept, bare, placed}
use Rattle.spx_tree.specs.Goes.{Fault, Expected, TooDeep}
use Rattle.spx_cursor.specs.Reading.{Outcome, Reader, and_then, ◌>>=◌, pure, refuse, too_deep, same_mark, same_kind, taking, kept_or, deeper}
use Rattle.spx_parse_body.proofs.Callers.Shaped.{IsSpelling, mark_is, kind_is}

-- ---- outcomes

abbrev found_as : {A : Type 0} → A × List Form → Outcome A
found_as p = Ok p

-- how many forms are left at a fault
abbrev pub left_of : Fault → ℕ
left_of (Expected n) = n
left_of (TooDeep n) = n

abbrev fails : {A : Type 0} → Fault → Outcome A
fails d = Err d

pub pair_is : {A : Type 0} (p q : A × List Form) → found_as p ≡ found_as q → p ≡ q
pair_is p q e = cc

fault_is : (A : Type 0) (c d : Fault) → fails {A = A} c ≡ fails d → c ≡ d
fault_is A c d e = cc

pub left_is : (A : Type 0) (c d : Fault) → fails {A = A} c ≡ fails d → left_of c ≡ left_of d
left_is A c d e = ap left_of (fault_is A c d e)

pub bind_ok : {A B : Type 0} (r : Outcome A) (f : A → Reader B) (y : B × List Form) → and_then r f ≡ Ok y → (x : A × List Form) × (r ≡ Ok x) × (f x.0 x.1 ≡ Ok y)
bind_ok (Ok x) f y e = (x, refl, e)
bind_ok (Err d) f y e = absurd cc

pub bind_err : {A B : Type 0} (r : Outcome A) (f : A → Reader B) (d : Fault) → and_then r f ≡ Err d → (r ≡ Err d) ⊎ ((x : A × List Form) × (r ≡ Ok x) × (f x.0 x.1 ≡ Err d))
bind_err (Ok x) f d e = inr (x, refl, e)
bind_err (Err c) f d e = inl cc

guard_ok : {A : Type 0} (b : Bool) (d : Fault) (r : Outcome A) (y : A × List Form) → cond b (Err d) r ≡ Ok y → (b ≡ false) × (r ≡ Ok y)
guard_ok true d r y e = absurd cc
guard_ok false d r y e = (refl, e)

guard_err : {A : Type 0} (b : Bool) (c : Fault) (r : Outcome A) (d : Fault) → cond b (Err c) r ≡ Err d → (c ≡ d) ⊎ ((b ≡ false) × (r ≡ Err d))
guard_err {A} true c r d e = inl (fault_is A c d e)
guard_err false c r d e = inr (refl, e)

-- ---- laws

module _ {A : Type 0} (spell : A → List Form) (fits : A → Type 0) (before : List Form) where
  -- what was found before and these forms are the text of x
  pub record Found (fs rest : List Form) (x : A) : Type 0 where
    pub taken : List Form
    pub parts : fs ≡ taken ++ rest
    pub text : before ++ taken ≡ spell x
    pub fit : fits x

  -- what was found before and these forms begin a text
  pub record Stopped (fs : List Form) (n : ℕ) : Type 0 where
    pub taken : List Form
    pub rest : List Form
    pub more : List Form
    pub value : A
    pub parts : fs ≡ taken ++ rest
    pub left : length rest ≡ n
    pub text : before ++ (taken ++ more) ≡ spell value
    pub fit : fits value

  -- what was found before begins a text
  pub record Ends : Type 0 where
    pub more : List Form
    pub value : A
    pub text : before ++ more ≡ spell value
    pub fit : fits value

  pub record Lawful (on : List Form → Type 0) (p : Reader A) : Type 0 where
    pub found : (fs rest : List Form) (x : A) → on fs → p fs ≡ Ok (x, rest) → Found fs rest x
    pub stopped : (fs : List Form) (d : Fault) → on fs → p fs ≡ Err d → Stopped fs (left_of d)
    pub ends : Ends

abbrev pub Any : List Form → Type 0
Any fs = ⊤

-- this is seen of the next form
abbrev pub Sees : {K : Type 0} → (List Form → K) → K → List Form → Type 0
Sees look kind fs = look fs ≡ kind

pub stops_here : {A : Type 0} (spell : A → List Form) (fits : A → Type 0) (before fs : List Form) (n : ℕ) → length fs ≡ n → Ends spell fits before → Stopped spell fits before fs n
stops_here spell fits before fs n len e = record { taken = []; rest = fs; more = e.more; value = e.value; parts = refl; left = len; text = e.text; fit = e.fit }

module _ {A : Type 0} (spell : A → List Form) (fits : A → Type 0) where
  pub lawful_before : (a b : List Form) (on : List Form → Type 0) (p : Reader A) → a ≡ b → Lawful spell fits a on p → Lawful spell fits b on p
  lawful_before a b on p e l = subst (λ (x : List Form). Lawful spell fits x on p) e l

  pub lawful_pure : (before : List Form) (on : List Form → Type 0) (x : A) → before ≡ spell x → fits x → Lawful spell fits before on (pure x)
  lawful_pure before on x text fit = record {
    found = λ fs rest y here e. subst (λ (p : A × List Form). Found spell fits before fs p.1 p.0) (pair_is (x, fs) (y, rest) e) (record { taken = []; parts = refl; text = append-nil before ∙ text; fit = fit });
    stopped = λ fs d here e. absurd cc;
    ends = record { more = []; value = x; text = append-nil before ∙ text; fit = fit };
  }

  pub lawful_refuse : (before : List Form) (on : List Form → Type 0) → Ends spell fits before → Lawful spell fits before on refuse
  lawful_refuse before on ends = record {
    found = λ fs rest y here e. absurd cc;
    stopped = λ fs d here e. stops_here spell fits before fs (left_of d) (left_is A (Expected (length fs)) d e) ends;
    ends = ends;
  }

  pub lawful_deeper : (before : List Form) (on : List Form → Type 0) (levels used : ℕ) (p : Reader A) → Ends spell fits before → (used < levels → Lawful spell fits before on p) → Lawful spell fits before on (deeper levels used p)
  lawful_deeper before on levels used p ends law = record {
    found = λ fs rest y here e. let g = guard_ok (leb levels used) (TooDeep (length fs)) (p fs) (y, rest) e in (law (leb-false levels used g.0)).found fs rest y here g.1;
    stopped = λ fs d here e. elim (guard_err (leb levels used) (TooDeep (length fs)) (p fs) d e) [
      | inl same ↦ stops_here spell fits before fs (left_of d) (ap left_of same) ends
      | inr g ↦ (law (leb-false levels used g.0)).stopped fs d here g.1
    ];
    ends = ends;
  }

  pub lawful_choose : {K : Type 0} (look : List Form → K) (before : List Form) (f : K → Reader A) → ((kind : K) → Lawful spell fits before (Sees look kind) (f kind)) → Lawful spell fits before Any (λ fs. f (look fs) fs)
  lawful_choose look before f law = record {
    found = λ fs rest x here e. (law (look fs)).found fs rest x refl e;
    stopped = λ fs d here e. (law (look fs)).stopped fs d refl e;
    ends = (law (look [])).ends;
  }

-- ---- one after the other

join_text : (before a b first whole : List Form) → before ++ a ≡ first → first ++ b ≡ whole → before ++ (a ++ b) ≡ whole
join_text before a b first whole e f = sym (append_assoc before a b) ∙ ap (λ (x : List Form). x ++ b) e ∙ f

module _ {A B : Type 0} (spell1 : A → List Form) (fits1 : A → Type 0) (spell : B → List Form) (fits : B → Type 0) (before : List Form) (on : List Form → Type 0)
    (p : Reader A) (q : A → Reader B) (law_p : Lawful spell1 fits1 before on p) (law_q : (x : A) → fits1 x → Lawful spell fits (spell1 x) Any (q x)) where
  found_then : (fs rest : List Form) (y : B) → on fs → and_then (p fs) q ≡ Ok (y, rest) → Found spell fits before fs rest y
  found_then fs rest y here e =
      let b = bind_ok (p fs) q (y, rest) e in
      let f = law_p.found fs b.0.1 b.0.0 here b.1 in
      let g = (law_q b.0.0 f.fit).found b.0.1 rest y tt b.2 in
      record {
        taken = f.taken ++ g.taken;
        parts = f.parts ∙ ap (λ (x : List Form). f.taken ++ x) g.parts ∙ sym (append_assoc f.taken g.taken rest);
        text = join_text before f.taken g.taken (spell1 b.0.0) (spell y) f.text g.text;
        fit = g.fit;
      }

  ends_after : (x : A) → fits1 x → (taken : List Form) → before ++ taken ≡ spell1 x → (more : List Form) × (y : B) × (before ++ (taken ++ more) ≡ spell y) × fits y
  ends_after x fit taken text =
      let e = (law_q x fit).ends in
      (e.more, e.value, join_text before taken e.more (spell1 x) (spell e.value) text e.text, e.fit)

  stopped_then : (fs : List Form) (c : Fault) → on fs → and_then (p fs) q ≡ Err c → Stopped spell fits before fs (left_of c)
  stopped_then fs c here e =
      elim (bind_err (p fs) q c e) [
        | inl e1 ↦
            let f = law_p.stopped fs c here e1 in
            let d = ends_after f.value f.fit (f.taken ++ f.more) f.text in
            record { taken = f.taken; rest = f.rest; more = f.more ++ d.0; value = d.1; parts = f.parts; left = f.left; text = subst (λ (x : List Form). before ++ x ≡ spell d.1) (append_assoc f.taken f.more d.0) d.2; fit = d.3 }
        | inr b ↦
            let f = law_p.found fs b.0.1 b.0.0 here b.1 in
            let g = (law_q b.0.0 f.fit).stopped b.0.1 c tt b.2 in
            record {
              taken = f.taken ++ g.taken;
              rest = g.rest;
              more = g.more;
              value = g.value;
              parts = f.parts ∙ ap (λ (x : List Form). f.taken ++ x) g.parts ∙ sym (append_assoc f.taken g.taken g.rest);
              left = g.left;
              text = subst (λ (x : List Form). before ++ x ≡ spell g.value) (sym (append_assoc f.taken g.taken g.more)) (join_text before f.taken (g.taken ++ g.more) (spell1 b.0.0) (spell g.value) f.text g.text);
              fit = g.fit;
            }
      ]

  -- what goes on from what stood before
  pub lawful_then : Lawful spell fits before on (p >>= q)
  lawful_then = record {
    found = found_then;
    stopped = stopped_then;
    ends = let e = law_p.ends in let d = ends_after e.value e.fit e.more e.text in record { more = e.more ++ d.0; value = d.1; text = d.2; fit = d.3 };
  }

-- the same reader for another kind of text
pub lawful_as : {A : Type 0} (spell1 : A → List Form) (fits1 : A → Type 0) (spell : A → List Form) (fits : A → Type 0) (before : List Form) (on : List Form → Type 0) (p : Reader A)
    → ((x : A) → fits1 x → (before ++ spell1 x ≡ spell x) × fits x) → Lawful spell1 fits1 [] on p → Lawful spell fits before on p
lawful_as spell1 fits1 spell fits before on p h l = record {
  found = λ fs rest x here e. let r = l.found fs rest x here e in let g = h x r.fit in record { taken = r.taken; parts = r.parts; text = ap (λ (y : List Form). before ++ y) r.text ∙ g.0; fit = g.1 };
  stopped = λ fs d here e. let r = l.stopped fs d here e in let g = h r.value r.fit in record { taken = r.taken; rest = r.rest; more = r.more; value = r.value; parts = r.parts; left = r.left; text = ap (λ (y : List Form). before ++ y) r.text ∙ g.0; fit = g.1 };
  ends = let r = l.ends in let g = h r.value r.fit in record { more = r.more; value = r.value; text = ap (λ (y : List Form). before ++ y) r.text ∙ g.0; fit = g.1 };
}

-- one after the other
pub lawful_bind : {A B : Type 0} (spell1 : A → List Form) (fits1 : A → Type 0) (spell : B → List Form) (fits : B → Type 0) (before : List Form) (on : List Form → Type 0)
    (p : Reader A) (q : A → Reader B) → Lawful spell1 fits1 [] on p → ((x : A) → fits1 x → Lawful spell fits (before ++ spell1 x) Any (q x)) → Lawful spell fits before on (p >>= q)
lawful_bind {A} spell1 fits1 spell fits before on p q law_p law_q =
    let spell2 : A → List Form = λ x. before ++ spell1 x in
    lawful_then spell2 fits1 spell fits before on p q (lawful_as spell1 fits1 spell2 fits1 before on p (λ x f. (refl, f)) law_p) law_q

abbrev pub Always : {A : Type 0} → A → Type 0
Always x = ⊤

-- ---- single forms

abbrev pub single : {A : Type 0} → (A → Form) → A → List Form
single spell x = spell x ∷ []

abbrev pub just : Bool → Kind → ⊤ → List Form
just marked kind u = bare marked kind ∷ []

abbrev pub at_place : Bool → Kind → Place → List Form
at_place marked kind place = placed marked kind place ∷ []

cond_some : {A : Type 0} (b : Bool) (o : Option A) (x : A) → cond b o None ≡ Some x → (b ≡ true) × (o ≡ Some x)
cond_some true o x e = (refl, e)
cond_some false o x e = absurd cc

both_true : (a b : Bool) → (a && b) ≡ true → (a ≡ true) × (b ≡ true)
both_true true b e = (refl, e)
both_true false b e = absurd cc

kept_found : {A : Type 0} (o : Option A) (fs all : List Form) (y : A × List Form) → kept_or o fs all ≡ Ok y → (x : A) × (o ≡ Some x) × (y ≡ (x, fs))
kept_found (Some x) fs all y e = (x, refl, sym (pair_is (x, fs) y e))
kept_found None fs all y e = absurd cc

kept_stopped : {A : Type 0} (o : Option A) (fs all : List Form) (d : Fault) → kept_or o fs all ≡ Err d → length all ≡ left_of d
kept_stopped (Some x) fs all d e = absurd cc
kept_stopped {A} None fs all d e = left_is A (Expected (length all)) d e

module _ {A : Type 0} (kept : Kept → Option A) (marked : Bool) (kind : Kind) (spell : A → Form) (s : IsSpelling kept marked kind spell) where
  pub single_ends : Ends (single spell) Always []
  single_ends = record { more = spell s.some ∷ []; value = s.some; text = refl; fit = tt }

  taken_form : (f : Form) (x : A) → cond (same_mark f.marked marked && same_kind f.kind kind) (kept f.kept) None ≡ Some x → f ≡ spell x
  taken_form f x e =
      let c = cond_some (same_mark f.marked marked && same_kind f.kind kind) (kept f.kept) x e in
      let b = both_true (same_mark f.marked marked) (same_kind f.kind kind) c.0 in
      s.form_is f x (mark_is f.marked marked b.0) (kind_is f.kind kind b.1) c.1

  single_found : (fs rest : List Form) (x : A) → taking kept marked kind fs ≡ Ok (x, rest) → Found (single spell) Always [] fs rest x
  unfolding taking
  single_found [] rest x e = absurd cc
  single_found (f ∷ fs) rest x e =
      let r = kept_found (cond (same_mark f.marked marked && same_kind f.kind kind) (kept f.kept) None) fs (f ∷ fs) (x, rest) e in
      subst (λ (p : A × List Form). Found (single spell) Always [] (f ∷ fs) p.1 p.0) (sym r.2) (record { taken = f ∷ []; parts = refl; text = ap (λ (g : Form). g ∷ []) (taken_form f r.0 r.1); fit = tt })

  single_stopped : (fs : List Form) (d : Fault) → taking kept marked kind fs ≡ Err d → Stopped (single spell) Always [] fs (left_of d)
  unfolding taking
  single_stopped [] d e = stops_here (single spell) Always [] [] (left_of d) (left_is A (Expected 0) d e) single_ends
  single_stopped (f ∷ fs) d e = stops_here (single spell) Always [] (f ∷ fs) (left_of d) (kept_stopped (cond (same_mark f.marked marked && same_kind f.kind kind) (kept f.kept) None) fs (f ∷ fs) d e) single_ends

  pub lawful_taking : (on : List Form → Type 0) → Lawful (single spell) Always [] on (taking kept marked kind)
  lawful_taking on = record { found = λ fs rest x here e. single_found fs rest x e; stopped = λ fs d here e. single_stopped fs d e; ends = single_ends }

pub lawful_weaken : {A : Type 0} (spell : A → List Form) (f g : A → Type 0) (before : List Form) (on : List Form → Type 0) (p : Reader A) → ((x : A) → f x → g x) → Lawful spell f before on p → Lawful spell g before on p
lawful_weaken spell f g before on p h l = record {
  found = λ fs rest x here e. let r = l.found fs rest x here e in record { taken = r.taken; parts = r.parts; text = r.text; fit = h x r.fit };
  stopped = λ fs d here e. let r = l.stopped fs d here e in record { taken = r.taken; rest = r.rest; more = r.more; value = r.value; parts = r.parts; left = r.left; text = r.text; fit = h r.value r.fit };
  ends = let r = l.ends in record { more = r.more; value = r.value; text = r.text; fit = h r.value r.fit };
}

pub lawful_too_deep : {A : Type 0} (spell : A → List Form) (f : A → Type 0) (before : List Form) (on : List Form → Type 0) → Ends spell f before → Lawful spell f before on too_deep
lawful_too_deep {A} spell f before on ends = record { found = λ fs rest x here e. absurd cc; stopped = λ fs d here e. stops_here spell f before fs (left_of d) (left_is A (TooDeep (length fs)) d e) ends; ends = ends }

-- a value that is a text by itself
pub ends_here : {A : Type 0} (spell : A → List Form) (f : A → Type 0) (x : A) → f x → Ends spell f (spell x)
ends_here spell f x is = record { more = []; value = x; text = append-nil (spell x); fit = is }

-- what holds of some forms holds of fewer
pub lawful_fewer : {A : Type 0} (spell : A → List Form) (f : A → Type 0) (before : List Form) (on fewer : List Form → Type 0) (p : Reader A) → ((fs : List Form) → fewer fs → on fs) → Lawful spell f before on p → Lawful spell f before fewer p
lawful_fewer spell f before on fewer p h l = record { found = λ fs rest x here e. l.found fs rest x (h fs here) e; stopped = λ fs d here e. l.stopped fs d (h fs here) e; ends = l.ends }
