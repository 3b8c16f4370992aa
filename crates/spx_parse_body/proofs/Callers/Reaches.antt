-- What is written is read, whatever stands after it: by the ways in which readers are made.
use Rattle.std.specs.Prelude.{⊤}
use Rattle.std.proofs.Common.{◌≡◌, ℕ, ℤ, ◌<◌, Bool, true, false, cond, List, [], ◌∷◌, ◌++◌, length, map, Option, Some, None, Ok, Err, refl, sym, ap, subst, ◌∙◌, append_assoc}
use Rattle.std.proofs.lemmas.Bool.{lt-leb}
use Rattle.std.proofs.lemmas.List.{append-nil}
use Rattle.spx_tree.specs.Grammar.{Each}
use Rattle.spx_text.specs.declared.place.Place.{Place}
use Rattle.spx_tree.specs.declared.token.Kind.{Kind}
use Rattle.spx_tree.specs.declared.token.Kind.TheVariants as k
use Rattle.spx_tree.specs.declared.expression.Identifier.{Identifier}
use Rattle.spx_tree.specs.Form.{Form, Kept, bare, placed, named, literal}
use Rattle.spx_tree.specs.Goes.{TooDeep}
use Rattle.spx_tree.specs.Written.{joined}
use Rattle.spx_cursor.specs.Reading.{Outcome, Reader, and_then, ◌>>=◌, pure, peek, taking, nothing_in, place_in, name_in, value_in, expect, expect_place, identifier, number, deeper, turn, loop, item_step, more_items}
use Rattle.spx_parse_body.proofs.Callers.Shaped.{IsSpelling, bare_spelling, placed_spelling, named_spelling, literal_spelling}
use Rattle.spx_parse_body.proofs.Scans.{taking_front}
use Rattle.spx_parse_body.proofs.Callers.Loops.{Shrinks, loop_is}

-- the reader finds x in fs, and leaves zs
pub record Reaches {A : Type 0} (p : Reader A) (fs : List Form) (x : A) (zs : List Form) : Type 0 where
  pub is : p fs ≡ Ok (x, zs)

pub reaches_bind : {A B : Type 0} {p : Reader A} (q : A → Reader B) {fs : List Form} {x : A} {ys : List Form} {y : B} {zs : List Form} → Reaches p fs x ys → ((us : List Form) → us ≡ ys → Reaches (q x) us y zs) → Reaches (p >>= q) fs y zs
reaches_bind q {ys = ys} a f = record { is = ap (λ (o : Outcome _). and_then o q) a.is ∙ (f ys refl).is }

pub reaches_pure : {A : Type 0} {x : A} {fs zs : List Form} → fs ≡ zs → Reaches (pure x) fs x zs
reaches_pure {x = x} e = record { is = ap (λ (us : List Form). Ok (x, us)) e }

pub reaches_choose : {K A : Type 0} (look : List Form → K) (f : K → Reader A) (kind : K) {fs : List Form} {x : A} {zs : List Form} → look fs ≡ kind → Reaches (f kind) fs x zs → Reaches (λ us. f (look us) us) fs x zs
reaches_choose look f kind {fs} e r = record { is = ap (λ j. f j fs) e ∙ r.is }

pub reaches_deeper : {A : Type 0} {levels used : ℕ} {p : Reader A} {fs : List Form} {x : A} {zs : List Form} → used < levels → Reaches p fs x zs → Reaches (deeper levels used p) fs x zs
reaches_deeper {levels = levels} {used = used} {p = p} {fs = fs} lt r = record { is = ap (λ (b : Bool). cond b (Err (TooDeep (length fs))) (p fs)) (lt-leb levels used lt) ∙ r.is }

-- ---- loops

module _ {K S : Type 0} (look : List Form → K) (step : S → K → Option (Reader S)) (shrinks : Shrinks look step) where
  pub loop_turn : (s x : S) (fs us : List Form) (p : Reader S) → step s (look fs) ≡ Some p → p fs ≡ Ok (x, us) → loop look step s fs ≡ loop look step x us
  loop_turn s x fs us p e f = loop_is look step shrinks s fs ∙ ap (λ (o : Option (Reader S)). turn (loop look step) s o fs) e ∙ ap (λ (r : Outcome S). and_then r (loop look step)) f

  pub loop_over : (s : S) (fs : List Form) → step s (look fs) ≡ None → loop look step s fs ≡ Ok (s, fs)
  loop_over s fs e = loop_is look step shrinks s fs ∙ ap (λ (o : Option (Reader S)). turn (loop look step) s o fs) e

  pub reaches_turn : {s x y : S} {fs ys zs : List Form} {p : Reader S} → step s (look fs) ≡ Some p → Reaches p fs x ys → ((us : List Form) → us ≡ ys → Reaches (loop look step x) us y zs) → Reaches (loop look step s) fs y zs
  reaches_turn {s} {x} {fs = fs} {ys = ys} {p = p} e a f = record { is = loop_turn s x fs ys p e a.is ∙ (f ys refl).is }

  pub reaches_over : {s : S} {fs zs : List Form} → step s (look fs) ≡ None → fs ≡ zs → Reaches (loop look step s) fs s zs
  reaches_over {s} {fs} e f = record { is = loop_over s fs e ∙ ap (λ (us : List Form). Ok (s, us)) f }

-- ---- single forms

-- what is seen of these forms is seen of those
pub peek_front : (marked : Bool) (fs : List Form) {gs : List Form} → fs ≡ gs → peek marked fs ≡ peek marked gs
peek_front marked fs e = ap (peek marked) e

pub reaches_taking : {A : Type 0} (kept : Kept → Option A) (marked : Bool) (kind : Kind) {spell : A → Form} (s : IsSpelling kept marked kind spell) {x : A} {fs zs : List Form} → fs ≡ spell x ∷ zs → Reaches (taking kept marked kind) fs x zs
reaches_taking kept marked kind {spell} s {x} {fs} {zs} e = record { is = ap (taking kept marked kind) e ∙ taking_front kept marked kind (spell x) zs x (s.of_mark x) (s.of_kind x) (s.keeps_it x) }

pub reaches_expect : (marked : Bool) (kind : Kind) {fs zs : List Form} → fs ≡ bare marked kind ∷ zs → Reaches (expect marked kind) fs tt zs
reaches_expect marked kind e = reaches_taking nothing_in marked kind (bare_spelling marked kind) e

pub reaches_expect_place : (marked : Bool) (kind : Kind) {place : Place} {fs zs : List Form} → fs ≡ placed marked kind place ∷ zs → Reaches (expect_place marked kind) fs place zs
reaches_expect_place marked kind e = reaches_taking place_in marked kind (placed_spelling marked kind) e

pub reaches_identifier : (marked : Bool) {name : Identifier} {fs zs : List Form} → fs ≡ named marked name ∷ zs → Reaches (identifier marked) fs name zs
reaches_identifier marked e = reaches_taking name_in marked k.Identifier (named_spelling marked) e

pub reaches_number : (marked : Bool) {value : ℤ} {place : Place} {fs zs : List Form} → fs ≡ literal marked value place ∷ zs → Reaches (number marked) fs (value, place) zs
reaches_number marked {value} {place} e = reaches_taking value_in marked k.Number (literal_spelling marked) {x = (value, place)} e

-- the value that is read is another name of this one
pub reaches_is : {A : Type 0} {p : Reader A} {fs : List Form} {x y : A} {zs : List Form} → x ≡ y → Reaches p fs x zs → Reaches p fs y zs
reaches_is {p = p} {fs = fs} {zs = zs} e r = subst (λ v. Reaches p fs v zs) e r

-- ---- lists

-- An item is read before forms of which Stops holds: what begins an item, and what stands after all.
module _ {A : Type 0} (Stops : List Form → Type 0) (spell1 : A → List Form) (fits1 : A → Type 0) (look : List Form → Bool) (item : Reader A) (shrinks : Shrinks look (item_step item))
    (begun : (x : A) (ws : List Form) → fits1 x → (look (spell1 x ++ ws) ≡ true) × Stops (spell1 x ++ ws)) (again : (x : A) (fs zs : List Form) → fits1 x → Stops zs → fs ≡ spell1 x ++ zs → Reaches item fs x zs) where
  items_stop : (xs : List A) (zs : List Form) → Each fits1 xs → Stops zs → Stops (joined (map spell1 xs) ++ zs)
  items_stop [] zs f stops = stops
  items_stop (y ∷ ys) zs f stops = subst Stops (sym (append_assoc (spell1 y) (joined (map spell1 ys)) zs)) (begun y (joined (map spell1 ys) ++ zs) f.0).1

  -- items after others, up to where no item stands
  pub reaches_items_before : (found xs : List A) (fs zs : List Form) → Each fits1 xs → look zs ≡ false → Stops zs → fs ≡ joined (map spell1 xs) ++ zs → Reaches (more_items look item found) fs (found ++ xs) zs
  reaches_items_before found [] fs zs f over stops h = reaches_is (sym (append-nil found)) (reaches_over look (item_step item) shrinks (ap (item_step item found) (ap look h ∙ over)) h)
  reaches_items_before found (y ∷ ys) fs zs f over stops h =
      let flat = h ∙ append_assoc (spell1 y) (joined (map spell1 ys)) zs in
      reaches_is (append_assoc found (y ∷ []) ys)
      (reaches_turn look (item_step item) shrinks (ap (item_step item found) (ap look flat ∙ (begun y (joined (map spell1 ys) ++ zs) f.0).0))
      (reaches_bind (λ s. pure (found ++ s ∷ [])) (again y fs (joined (map spell1 ys) ++ zs) f.0 (items_stop ys zs f.1 stops) flat) (λ us a. reaches_pure a)) (λ us a. reaches_items_before (found ++ y ∷ []) ys us zs f.1 over stops a))

-- Where an item is read whatever stands after it.
module _ {A : Type 0} (spell1 : A → List Form) (fits1 : A → Type 0) (look : List Form → Bool) (item : Reader A) (shrinks : Shrinks look (item_step item))
    (begun : (x : A) (ws : List Form) → fits1 x → look (spell1 x ++ ws) ≡ true) (again : (x : A) (fs zs : List Form) → fits1 x → fs ≡ spell1 x ++ zs → Reaches item fs x zs) where
  pub reaches_items : (found xs : List A) (fs zs : List Form) → Each fits1 xs → look zs ≡ false → fs ≡ joined (map spell1 xs) ++ zs → Reaches (more_items look item found) fs (found ++ xs) zs
  reaches_items found xs fs zs f over h = reaches_items_before (λ ws. ⊤) spell1 fits1 look item shrinks (λ x ws g. (begun x ws g, tt)) (λ x gs ws g u e. again x gs ws g e) found xs fs zs f over tt h
