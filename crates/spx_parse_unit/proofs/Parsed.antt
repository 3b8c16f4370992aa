-- What the reader of units answers, before all tokens of a text.
use Rattle.std.proofs.Common.{◌≡◌, ◌⊎◌, ℕ, ◌≤◌, List, [], ◌∷◌, length, Result, Ok, Err, refl, sym, ap, subst, ◌∙◌}
use Rattle.spx_text.specs.declared.place.Place.{Place}
use Rattle.spx_tree.specs.declared.token.Token.{Token}
use Rattle.spx_tree.specs.declared.subprogram.Unit.{Unit}
use Rattle.spx_tree.specs.Form.{Form, forms_of}
use Rattle.spx_tree.specs.Goes.{Answers, place_with}
use Rattle.spx_tree.specs.Grammar.{IsFile}
use Rattle.spx_tree.specs.Written.{written}
use Rattle.spx_cursor.specs.declared.cursor.Stop.{Stop}
use Rattle.spx_parse_unit.specs.declared.fault.ParseFault.{ParseFault}
use Rattle.spx_parse_unit.specs.declared.fault.ParseFault.TheVariants as fault
use Rattle.spx_cursor.specs.Reading.{Outcome}
use Rattle.spx_parse_unit.specs.Units.{file}
use Rattle.spx_cursor.specs.Answers.{Fails}
use Rattle.spx_parse_unit.specs.Answers.{StopsWithin, fault_at, IsUnlessMemory, SaysAll}
use Rattle.spx_parse_body.proofs.Callers.Shaped.{shaped_forms}
use Rattle.spx_parse_unit.proofs.Located.{left_within, stop_within, says_all, says_more, says_stop, only_all, only_more, only_stop}
use Rattle.spx_parse_unit.proofs.UnitsExact.{answers, only_answer}

module _ (end : Place) (source : List ℕ) (all list : List Token) (fs : List Form) (same : list ≡ all) (view : fs ≡ forms_of source list) where
  here : fs ≡ forms_of source all
  here = view ∙ ap (forms_of source) same

  exactly : Answers written IsFile 200 (forms_of source all) (file 200 fs)
  exactly = subst (λ (us : List Form). Answers written IsFile 200 (forms_of source all) (file 200 us)) (sym here) (answers 200 (forms_of source all) (shaped_forms source all))

  no_other : (o : Outcome (List Unit)) → Answers written IsFile 200 (forms_of source all) o → file 200 fs ≡ o
  no_other o a = ap (file 200) here ∙ only_answer 200 (forms_of source all) o (shaped_forms source all) a

  -- units were read
  module _ (units : List Unit) (rest : List Form) (found : file 200 fs ≡ Ok (units, rest)) (left : ℕ) (count : left ≡ length rest) where
    pub left_low : left ≤ length list
    left_low = subst (λ (n : ℕ). n ≤ length list) (sym count) (subst (λ (ts : List Token). length rest ≤ length ts) (sym same) (left_within written IsFile 200 end source all units rest (file 200 fs) exactly found))

    none_left : (us : List Form) → length us ≡ 0 → us ≡ []
    none_left [] e = refl
    none_left (f ∷ us) e = absurd cc

    some_left : (us : List Form) → (length us ≡ 0 → ⊥) → (f : Form) × (more : List Form) × (us ≡ f ∷ more)
    some_left [] h = absurd (h refl)
    some_left (f ∷ us) h = (f, us, refl)

    ended : left ≡ 0 → file 200 fs ≡ Ok (units, [])
    ended zero = found ∙ ap (λ (us : List Form). Ok (units, us)) (none_left rest (sym count ∙ zero))

    pub all_read : left ≡ 0 → SaysAll written IsFile 200 end source all (Ok units)
    all_read zero = says_all written IsFile 200 end source all units (file 200 fs) exactly (ended zero)

    pub only_read : left ≡ 0 → (r : Result (List Unit) ParseFault) → SaysAll written IsFile 200 end source all r → (r ≡ Ok units) ⊎ (r ≡ Err fault.Memory)
    only_read zero r s = only_all written IsFile 200 end source all (file 200 fs) no_other r s units (ended zero)

    module _ (some : left ≡ 0 → ⊥) (place : Place) (at : place ≡ place_with end list left) where
      next : (f : Form) × (more : List Form) × (rest ≡ f ∷ more)
      next = some_left rest (λ e. some (count ∙ e))

      place_is : place ≡ place_with end all (length (next.0 ∷ next.1))
      place_is = at ∙ ap (λ (ts : List Token). place_with end ts left) same ∙ ap (place_with end all) (count ∙ ap length next.2)

      went_on : file 200 fs ≡ Ok (units, next.0 ∷ next.1)
      went_on = found ∙ ap (λ (us : List Form). Ok (units, us)) next.2

      pub more_stand : SaysAll written IsFile 200 end source all (Err (fault.Expected place))
      more_stand = subst (λ (p : Place). SaysAll written IsFile 200 end source all (Err (fault.Expected p))) (sym place_is) (says_more written IsFile 200 end source all units next.0 next.1 (file 200 fs) exactly went_on)

      pub only_more_stand : (r : Result (List Unit) ParseFault) → SaysAll written IsFile 200 end source all r → (r ≡ Err (fault.Expected place)) ⊎ (r ≡ Err fault.Memory)
      only_more_stand r s =
          subst (λ (p : Place). (r ≡ Err (fault.Expected p)) ⊎ (r ≡ Err fault.Memory)) (sym place_is) (only_more written IsFile 200 end source all (file 200 fs) no_other r s units next.0 next.1 went_on)

  -- reading stopped
  module _ (stop : Stop) (stopped : Fails stop (file 200 fs)) where
    pub stop_low : StopsWithin (length list) stop
    stop_low = subst (λ (ts : List Token). StopsWithin (length ts) stop) (sym same) (stop_within written IsFile 200 end source all stop (file 200 fs) exactly stopped)

    module _ (f : ParseFault) (is : f ≡ fault_at end list stop) where
      fault_is : f ≡ fault_at end all stop
      fault_is = is ∙ ap (λ (ts : List Token). fault_at end ts stop) same

      pub stop_said : SaysAll written IsFile 200 end source all (Err f)
      stop_said = subst (λ (g : ParseFault). SaysAll written IsFile 200 end source all (Err g)) (sym fault_is) (says_stop written IsFile 200 end source all stop (file 200 fs) exactly stopped)

      pub only_stop_said : (r : Result (List Unit) ParseFault) → SaysAll written IsFile 200 end source all r → IsUnlessMemory r (Err f)
      only_stop_said r s = subst (λ (g : ParseFault). IsUnlessMemory r (Err g)) (sym fault_is) (only_stop written IsFile 200 end source all (file 200 fs) no_other r s stop stopped)
