-- Taking the form of the first token.
use Rattle.std.proofs.Common.{◌≡◌, ℕ, ◌≤◌, Bool, true, false, cond, ◌&&◌, List, [], ◌∷◌, length, Option, Some, None, Err, refl, sym, ap, ap₂, subst, ◌∙◌}
use Rattle.std.proofs.lemmas.List.Elements.{All-rest}
use Rattle.spx_tree.specs.declared.token.Kind.{Kind}
use Rattle.spx_tree.specs.declared.token.Token.{Token}
use Rattle.spx_tree.specs.Form.{Kept, Form, forms_of, keeps, kept_as}
use Rattle.spx_tree.specs.Mirror.{AreWithin}
use Rattle.spx_tree.specs.Goes.{Expected}
use Rattle.spx_cursor.specs.declared.cursor.Stop.{Stop}
use Rattle.spx_cursor.specs.declared.cursor.Stop.TheVariants as stop
use Rattle.spx_cursor.specs.Answers.{Fails}
use Rattle.spx_cursor.specs.Reading.{same_mark, same_kind, is_kind, sees, taking, kept_or}

-- what is seen of the next form is its mark and its kind
seen_both : (a : Bool) (kind found : Kind) → is_kind kind (cond a (Some found) None) ≡ (a && same_kind found kind)
seen_both true kind found = refl
seen_both false kind found = refl

pub taking_there : {A : Type 0} (g : Kept → Option A) (marked : Bool) (kind : Kind) (source : List ℕ) (ts rest : List Token) (t : Token) → ts ≡ t ∷ rest → t.kind ≡ kind → sees marked kind (forms_of source ts) ≡ true
    → taking g marked kind (forms_of source ts) ≡ kept_or (g (kept_as (keeps kind) source t)) (forms_of source rest) (forms_of source ts)
unfolding taking
taking_there g marked kind source [] rest t parts same seen = cc
taking_there g marked kind source (u ∷ us) rest t parts same seen =
    let there : u ≡ t = cc in
    let following : us ≡ rest = cc in
    ap (λ b. kept_or (cond b (g (kept_as (keeps u.kind) source u)) None) (forms_of source us) (forms_of source (u ∷ us))) (sym (seen_both (same_mark u.marked marked) kind u.kind) ∙ seen)
    ∙ ap (λ (k : Kind). kept_or (g (kept_as (keeps k) source u)) (forms_of source us) (forms_of source (u ∷ us))) (ap (λ (w : Token). w.kind) there ∙ same)
    ∙ ap₂ (λ (w : Token) (ws : List Token). kept_or (g (kept_as (keeps kind) source w)) (forms_of source ws) (forms_of source (u ∷ us))) there following

taking_absent : {A : Type 0} (g : Kept → Option A) (marked : Bool) (kind : Kind) (fs : List Form) → sees marked kind fs ≡ false → taking g marked kind fs ≡ Err (Expected (length fs))
unfolding taking
taking_absent g marked kind [] seen = refl
taking_absent g marked kind (f ∷ fs) seen = ap (λ b. kept_or (cond b (g f.kept) None) fs (f ∷ fs)) (sym (seen_both (same_mark f.marked marked) kind f.kind) ∙ seen)

pub refused : {A : Type 0} (g : Kept → Option A) (marked : Bool) (kind : Kind) (fs all : List Form) → fs ≡ all → sees marked kind fs ≡ false → (s : Stop) → s ≡ stop.Expected (length all) → Fails s (taking g marked kind all)
refused g marked kind fs all e seen s is =
    subst (λ (t : Stop). Fails t (taking g marked kind all)) (sym is) (ap (taking g marked kind) (sym e) ∙ taking_absent g marked kind fs seen ∙ ap (λ (us : List Form). Err (Expected (length us))) e)

pub within_rest : (n : ℕ) (ts rest : List Token) (t : Token) → ts ≡ t ∷ rest → AreWithin n ts → AreWithin n rest
within_rest n ts rest t parts all = All-rest (λ u. (u.first ≤ u.after) × (u.after ≤ n)) t rest ts parts all
