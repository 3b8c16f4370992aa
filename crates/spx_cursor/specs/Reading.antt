-- Reading forms from left to right, with one form of look-ahead.
use Rattle.std.specs.Prelude.{⊤, ℕ, zero, suc, Bool, true, false, ◌&&◌, if◌then◌else◌, ℤ, List, [], ◌∷◌, ◌++◌, length, Option, Some, None, Result, Ok, Err, nat_le}
use Rattle.spx_text.specs.declared.place.Place.{Place}
use denote.Enum.Bare.{sameb}
use Rattle.spx_tree.specs.contracts.token.Kind.{the_type}
use Rattle.spx_tree.specs.declared.token.Kind.{Kind}
use Rattle.spx_tree.specs.declared.token.Kind.TheVariants as k
use Rattle.spx_tree.specs.declared.expression.Identifier.{Identifier}
use Rattle.spx_tree.specs.Form.{Form, Kept, Nothing, Where, Spelled, Valued}
use Rattle.spx_tree.specs.Goes.{Fault, Expected, TooDeep}

-- what is found, and the forms after it, or a fault
abbrev pub Outcome : Type 0 → Type 0
Outcome A = Result (A × List Form) Fault

abbrev pub Reader : Type 0 → Type 0
Reader A = List Form → Outcome A

abbrev pub and_then : {A B : Type 0} → Outcome A → (A → Reader B) → Outcome B
and_then (Ok x) q = q x.0 x.1
and_then (Err e) q = Err e

infixl 10 ◌>>=◌
abbrev pub ◌>>=◌ : {A B : Type 0} → Reader A → (A → Reader B) → Reader B
p >>= q = λ fs. and_then (p fs) q

infixl 10 ◌>>◌
abbrev pub ◌>>◌ : {A B : Type 0} → Reader A → Reader B → Reader B
p >> q = p >>= (λ _. q)

abbrev pub pure : {A : Type 0} → A → Reader A
pure x = λ fs. Ok (x, fs)

abbrev pub refuse : {A : Type 0} → Reader A
refuse = λ fs. Err (Expected (length fs))

abbrev pub too_deep : {A : Type 0} → Reader A
too_deep = λ fs. Err (TooDeep (length fs))

-- ---- single forms

abbrev pub same_mark : Bool → Bool → Bool
same_mark true true = true
same_mark false false = true
same_mark _ _ = false

unfoldable pub same_kind : Kind → Kind → Bool
same_kind = sameb the_type

-- the kind of the next form, if it has this mark
abbrev pub peek : Bool → List Form → Option Kind
peek marked [] = None
peek marked (f ∷ fs) = if same_mark f.marked marked then Some f.kind else None

abbrev pub is_kind : Kind → Option Kind → Bool
is_kind kind None = false
is_kind kind (Some other) = same_kind other kind

-- the next form has this mark and kind
abbrev pub sees : Bool → Kind → List Form → Bool
sees marked kind fs = is_kind kind (peek marked fs)

abbrev pub kept_or : {A : Type 0} → Option A → List Form → List Form → Outcome A
kept_or (Some x) fs all = Ok (x, fs)
kept_or None fs all = Err (Expected (length all))

-- a form of this mark and kind, and what is kept of it
unfoldable pub taking : {A : Type 0} → (Kept → Option A) → Bool → Kind → Reader A
taking kept marked kind [] = Err (Expected 0)
taking kept marked kind (f ∷ fs) = kept_or (if same_mark f.marked marked && same_kind f.kind kind then kept f.kept else None) fs (f ∷ fs)

abbrev pub nothing_in : Kept → Option ⊤
nothing_in Nothing = Some tt
nothing_in _ = None

abbrev pub place_in : Kept → Option Place
place_in (Where place) = Some place
place_in _ = None

abbrev pub name_in : Kept → Option Identifier
name_in (Spelled text place) = Some (record { text = text; place = place })
name_in _ = None

abbrev pub value_in : Kept → Option (ℤ × Place)
value_in (Valued value place) = Some (value, place)
value_in _ = None

abbrev pub expect : Bool → Kind → Reader ⊤
expect = taking nothing_in

abbrev pub expect_place : Bool → Kind → Reader Place
expect_place = taking place_in

abbrev pub identifier : Bool → Reader Identifier
identifier marked = taking name_in marked k.Identifier

abbrev pub number : Bool → Reader (ℤ × Place)
number marked = taking value_in marked k.Number

-- ---- what may be left out

abbrev pub optional_by : {A : Type 0} → Reader A → Bool → Reader (Option A)
optional_by p true = p >>= λ x. pure (Some x)
optional_by p false = pure None

-- what starts with a form of this mark and kind, if one comes next
unfoldable pub if_seen : {A : Type 0} → Bool → Kind → Reader A → Reader (Option A)
if_seen marked kind p = λ fs. optional_by p (sees marked kind fs) fs

-- ---- levels

-- what stands one level down, unless no level is left
abbrev pub deeper : {A : Type 0} → ℕ → ℕ → Reader A → Reader A
deeper levels used p = λ fs. if nat_le levels used then too_deep fs else p fs

-- ---- loops

-- one turn: what reads the next state, or the end
abbrev pub turn : {S : Type 0} → (S → Reader S) → S → Option (Reader S) → Reader S
turn go_on s None = pure s
turn go_on s (Some p) = p >>= go_on

-- The step is chosen by the state and by what is seen of the next form.
module _ {K S : Type 0} (look : List Form → K) (step : S → K → Option (Reader S)) where
  unfoldable pub turns : ℕ → S → Reader S
  turns zero s = pure s
  turns (suc n) s = λ fs. turn (turns n) s (step s (look fs)) fs

  -- Each turn takes a form, so the count of forms is enough.
  unfoldable pub loop : S → Reader S
  loop s = λ fs. turns (length fs) s fs

-- one item more, where one stands
abbrev pub item_step : {A : Type 0} → Reader A → List A → Bool → Option (Reader (List A))
item_step item found true = Some (item >>= λ x. pure (found ++ x ∷ []))
item_step item found false = None

-- items after others, as long as the next form begins one
abbrev pub more_items : {A : Type 0} → (List Form → Bool) → Reader A → List A → Reader (List A)
more_items look item found = loop look (item_step item) found
