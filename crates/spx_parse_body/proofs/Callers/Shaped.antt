-- Single forms: those that keep what a token of their kind keeps, and the forms that a reader of one form takes.
use Rattle.std.specs.Prelude.{⊤}
use Rattle.std.proofs.Common.{◌≡◌, ℕ, ℤ, pos, Bool, true, false, cond, List, [], ◌∷◌, ◌++◌, Option, Some, None, refl, ap, subst, ◌∙◌, rules}
use denote.Enum.Bare.{same_true, true_same}
use Rattle.spx_text.specs.declared.place.Place.{Place}
use Rattle.spx_tree.specs.contracts.token.Kind.{the_type}
use Rattle.spx_tree.specs.declared.token.Kind.{Kind}
use Rattle.spx_tree.specs.declared.token.Kind.TheVariants as k
use Rattle.spx_tree.specs.declared.token.Token.{Token}
use Rattle.spx_tree.specs.declared.expression.Identifier.{Identifier}
use Rattle.spx_tree.specs.Form.{Form, Kept, Nothing, Where, Spelled, Valued, Keeps, KindAlone, ItsPlace, ItsSpelling, ItsValue, keeps, kept_as, forms_of, bare, placed, named, literal}
use Rattle.spx_cursor.specs.Reading.{same_mark, same_kind, peek, nothing_in, place_in, name_in, value_in}

-- ---- forms of tokens

-- what is kept is this part of a token
abbrev pub IsKeptAs : Keeps → Kept → Type 0
IsKeptAs KindAlone Nothing = ⊤
IsKeptAs ItsPlace (Where place) = ⊤
IsKeptAs ItsSpelling (Spelled text place) = ⊤
IsKeptAs ItsValue (Valued value place) = ⊤
IsKeptAs _ _ = ⊥

-- a form keeps what a token of its kind keeps
abbrev pub IsShaped : Form → Type 0
IsShaped f = IsKeptAs (keeps f.kind) f.kept

abbrev pub AreShaped : List Form → Type 0
AreShaped [] = ⊤
AreShaped (f ∷ fs) = IsShaped f × AreShaped fs

shaped_as : (part : Keeps) (source : List ℕ) (t : Token) → IsKeptAs part (kept_as part source t)
shaped_as KindAlone source t = tt
shaped_as ItsPlace source t = tt
shaped_as ItsSpelling source t = tt
shaped_as ItsValue source t = tt

pub shaped_forms : (source : List ℕ) (ts : List Token) → AreShaped (forms_of source ts)
shaped_forms source [] = tt
shaped_forms source (t ∷ ts) = (shaped_as (keeps t.kind) source t, shaped_forms source ts)

shaped_following : (taken rest : List Form) → AreShaped (taken ++ rest) → AreShaped rest
shaped_following [] rest s = s
shaped_following (f ∷ taken) rest s = shaped_following taken rest s.1

pub shaped_rest : (fs taken rest : List Form) → fs ≡ taken ++ rest → AreShaped fs → AreShaped rest
shaped_rest fs taken rest e s = shaped_following taken rest (subst AreShaped e s)

-- ---- marks and kinds

pub mark_is : (a b : Bool) → same_mark a b ≡ true → a ≡ b
mark_is true true e = refl
mark_is false false e = refl
mark_is true false e = absurd cc
mark_is false true e = absurd cc

pub mark_self : (a : Bool) → same_mark a a ≡ true
mark_self true = refl
mark_self false = refl

pub kind_is : (a b : Kind) → same_kind a b ≡ true → a ≡ b
unfolding same_kind
kind_is a b e = same_true the_type (search rules) a b e

pub kind_self : (a : Kind) → same_kind a a ≡ true
unfolding same_kind
kind_self a = true_same the_type a a refl

-- the form at the front has this mark and kind
pub record Seen (marked : Bool) (kind : Kind) (fs : List Form) : Type 0 where
  pub form : Form
  pub rest : List Form
  pub parts : fs ≡ form ∷ rest
  pub of_mark : form.marked ≡ marked
  pub of_kind : form.kind ≡ kind

seen_by : (b : Bool) (marked : Bool) (kind : Kind) (f : Form) (fs : List Form) → same_mark f.marked marked ≡ b → cond b (Some f.kind) None ≡ Some kind → Seen marked kind (f ∷ fs)
seen_by true marked kind f fs same e = record { form = f; rest = fs; parts = refl; of_mark = mark_is f.marked marked same; of_kind = cc }
seen_by false marked kind f fs same e = absurd cc

pub seen_front : (marked : Bool) (kind : Kind) (fs : List Form) → peek marked fs ≡ Some kind → Seen marked kind fs
seen_front marked kind [] e = absurd cc
seen_front marked kind (f ∷ fs) e = seen_by (same_mark f.marked marked) marked kind f fs refl e

-- ---- what a reader of one form takes

-- a form of this mark and kind of which x is kept is the form of x
pub record IsSpelling {A : Type 0} (kept : Kept → Option A) (marked : Bool) (kind : Kind) (spell : A → Form) : Type 0 where
  pub of_mark : (x : A) → (spell x).marked ≡ marked
  pub of_kind : (x : A) → (spell x).kind ≡ kind
  pub keeps_it : (x : A) → kept (spell x).kept ≡ Some x
  pub form_is : (f : Form) (x : A) → f.marked ≡ marked → f.kind ≡ kind → kept f.kept ≡ Some x → f ≡ spell x
  pub some : A

-- of a token of this kind something is kept
abbrev pub IsKept : {A : Type 0} → (Kept → Option A) → Kind → Type 0
IsKept {A} kept kind = (part : Kept) → IsKeptAs (keeps kind) part → (x : A) × (kept part ≡ Some x)

form_same : (f g : Form) → f.kind ≡ g.kind → f.marked ≡ g.marked → f.kept ≡ g.kept → f ≡ g
form_same f g a b c =
    ap (λ (x : Kind). record { kind = x; marked = f.marked; kept = f.kept }) a ∙ ap (λ (x : Bool). record { kind = g.kind; marked = x; kept = f.kept }) b ∙ ap (λ (x : Kept). record { kind = g.kind; marked = g.marked; kept = x }) c

nothing_is : (part : Kept) (x : ⊤) → nothing_in part ≡ Some x → part ≡ Nothing
nothing_is Nothing x e = refl
nothing_is (Where place) x e = absurd cc
nothing_is (Spelled text place) x e = absurd cc
nothing_is (Valued value place) x e = absurd cc

place_is : (part : Kept) (x : Place) → place_in part ≡ Some x → part ≡ Where x
place_is Nothing x e = absurd cc
place_is (Where place) x e = cc
place_is (Spelled text place) x e = absurd cc
place_is (Valued value place) x e = absurd cc

some_is : {A : Type 0} (x y : A) → Some x ≡ Some y → x ≡ y
some_is x y e = cc

name_is : (part : Kept) (x : Identifier) → name_in part ≡ Some x → part ≡ Spelled x.text x.place
name_is Nothing x e = absurd cc
name_is (Where place) x e = absurd cc
name_is (Spelled text place) x e = ap (λ (n : Identifier). Spelled n.text n.place) (some_is (record { text = text; place = place }) x e)
name_is (Valued value place) x e = absurd cc

value_is : (part : Kept) (x : ℤ × Place) → value_in part ≡ Some x → part ≡ Valued x.0 x.1
value_is Nothing x e = absurd cc
value_is (Where place) x e = absurd cc
value_is (Spelled text place) x e = absurd cc
value_is (Valued value place) x e = ap (λ (n : ℤ × Place). Valued n.0 n.1) (some_is (value, place) x e)

nowhere : Place
nowhere = record { file = 0; line = 0; column = 0 }

pub bare_spelling : (marked : Bool) (kind : Kind) → IsSpelling nothing_in marked kind (λ u. bare marked kind)
bare_spelling marked kind = record { of_mark = λ x. refl; of_kind = λ x. refl; keeps_it = λ x. refl; form_is = λ f x a b c. form_same f (bare marked kind) b a (nothing_is f.kept x c); some = tt }

pub placed_spelling : (marked : Bool) (kind : Kind) → IsSpelling place_in marked kind (placed marked kind)
placed_spelling marked kind = record { of_mark = λ x. refl; of_kind = λ x. refl; keeps_it = λ x. refl; form_is = λ f x a b c. form_same f (placed marked kind x) b a (place_is f.kept x c); some = nowhere }

pub named_spelling : (marked : Bool) → IsSpelling name_in marked k.Identifier (named marked)
named_spelling marked = record { of_mark = λ x. refl; of_kind = λ x. refl; keeps_it = λ x. refl; form_is = λ f x a b c. form_same f (named marked x) b a (name_is f.kept x c); some = record { text = []; place = nowhere } }

pub literal_spelling : (marked : Bool) → IsSpelling value_in marked k.Number (λ n. literal marked n.0 n.1)
literal_spelling marked = record { of_mark = λ x. refl; of_kind = λ x. refl; keeps_it = λ x. refl; form_is = λ f x a b c. form_same f (literal marked x.0 x.1) b a (value_is f.kept x c); some = (pos 0, nowhere) }

alone_is : (part : Kept) → IsKeptAs KindAlone part → (x : ⊤) × (nothing_in part ≡ Some x)
alone_is Nothing s = (tt, refl)
alone_is (Where place) s = absurd s
alone_is (Spelled text place) s = absurd s
alone_is (Valued value place) s = absurd s

where_is : (part : Kept) → IsKeptAs ItsPlace part → (x : Place) × (place_in part ≡ Some x)
where_is Nothing s = absurd s
where_is (Where place) s = (place, refl)
where_is (Spelled text place) s = absurd s
where_is (Valued value place) s = absurd s

pub bare_kept : (kind : Kind) → keeps kind ≡ KindAlone → IsKept nothing_in kind
bare_kept kind e part s = alone_is part (subst (λ (c : Keeps). IsKeptAs c part) e s)

pub place_kept : (kind : Kind) → keeps kind ≡ ItsPlace → IsKept place_in kind
place_kept kind e part s = where_is part (subst (λ (c : Keeps). IsKeptAs c part) e s)

pub name_kept : IsKept name_in k.Identifier
name_kept Nothing s = absurd s
name_kept (Where place) s = absurd s
name_kept (Spelled text place) s = (record { text = text; place = place }, refl)
name_kept (Valued value place) s = absurd s

pub value_kept : IsKept value_in k.Number
value_kept Nothing s = absurd s
value_kept (Where place) s = absurd s
value_kept (Spelled text place) s = absurd s
value_kept (Valued value place) s = ((value, place), refl)
