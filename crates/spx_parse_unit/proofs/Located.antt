-- What is read of the tokens of a whole text, with the places where reading stops.
use Rattle.std.proofs.Common.{◌≡◌, ◌⊎◌, inl, inr, ℕ, ◌+◌, ◌≤◌, List, [], ◌∷◌, ◌++◌, length, Result, Ok, Err, refl, sym, ap, subst, ◌∙◌, arith, length-append}
use Rattle.spx_text.specs.declared.place.Place.{Place}
use Rattle.spx_tree.specs.declared.token.Token.{Token}
use Rattle.spx_tree.specs.Form.{Form, forms_of}
use Rattle.spx_tree.specs.Goes.{Expected, TooDeep, IsText, IsExpected, IsTooDeep, Answers, place_with}
use Rattle.spx_cursor.specs.declared.cursor.Stop.{Stop}
use Rattle.spx_cursor.specs.declared.cursor.Stop.TheVariants as stop
use Rattle.spx_parse_unit.specs.declared.fault.ParseFault.{ParseFault}
use Rattle.spx_parse_unit.specs.declared.fault.ParseFault.TheVariants as fault
use Rattle.spx_cursor.specs.Reading.{Outcome}
use Rattle.spx_cursor.specs.Answers.{Fails}
use Rattle.spx_cursor.proofs.Counts.{forms_length}
use Rattle.spx_parse_unit.specs.Answers.{StopsWithin, fault_at, IsUnlessMemory, SaysAll}

rest_le : (fs taken rest : List Form) → fs ≡ taken ++ rest → length rest ≤ length fs
rest_le fs taken rest e = let len : length fs ≡ length taken + length rest = ap length e ∙ length-append taken rest in omega arith

module _ {A : Type 0} (spell : A → List Form) (fits : ℕ → A → Type 0) (n : ℕ) (end : Place) (source : List ℕ) (all : List Token) where
  abbrev forms : List Form
  forms = forms_of source all

  -- the answer for a whole text: what stands after a text is one form too many
  abbrev pub located : Outcome A → Result A ParseFault
  located (Ok (x, [])) = Ok x
  located (Ok (x, f ∷ rest)) = Err (fault.Expected (place_with end all (length (f ∷ rest))))
  located (Err (Expected left)) = Err (fault.Expected (place_with end all left))
  located (Err (TooDeep left)) = Err (fault.TooDeep (place_with end all left))

  pub says : (o : Outcome A) → Answers spell fits n forms o → SaysAll spell fits n end source all (located o)
  says (Ok (x, [])) a = a
  says (Ok (x, f ∷ rest)) a = inr (f, rest, x, a, refl)
  says (Err (Expected left)) a = inl (left, a, refl)
  says (Err (TooDeep left)) a = (left, a, refl)

  says_is : (r : Result A ParseFault) → SaysAll spell fits n end source all r → (r ≡ Err fault.Memory) ⊎ ((o : Outcome A) × Answers spell fits n forms o × (r ≡ located o))
  says_is (Ok x) s = inr (Ok (x, []), s, refl)
  says_is (Err fault.Memory) s = inl refl
  says_is (Err (fault.Expected place)) (inl s) = inr (Err (Expected s.0), s.1, ap (λ (p : Place). Err (fault.Expected p)) s.2)
  says_is (Err (fault.Expected place)) (inr s) = inr (Ok (s.2, s.0 ∷ s.1), s.3, ap (λ (p : Place). Err (fault.Expected p)) s.4)
  says_is (Err (fault.TooDeep place)) s = inr (Err (TooDeep s.0), s.1, ap (λ (p : Place). Err (fault.TooDeep p)) s.2)

  -- whatever a reader may answer is what it answers
  pub only_located : (q : Outcome A) → ((o : Outcome A) → Answers spell fits n forms o → q ≡ o) → (r : Result A ParseFault) → SaysAll spell fits n end source all r → (r ≡ located q) ⊎ (r ≡ Err fault.Memory)
  only_located q h r s = elim (says_is r s) [ inl m ↦ inr m | inr a ↦ inl (a.2 ∙ sym (ap located (h a.0 a.1))) ]

  -- what stands where reading stops is among the tokens
  pub stop_within : (s : Stop) (o : Outcome A) → Answers spell fits n forms o → Fails s o → StopsWithin (length all) s
  stop_within stop.Memory o a e = tt
  stop_within (stop.Expected left) o a e =
      let b : IsExpected spell fits n forms left = subst (Answers spell fits n forms) e a in
      let l = rest_le forms b.taken b.rest b.parts in let c = b.count in let d = forms_length source all in omega arith
  stop_within (stop.TooDeep left) o a e =
      let b : IsTooDeep spell fits n forms left = subst (Answers spell fits n forms) e a in
      let l = rest_le forms b.taken (b.form ∷ b.rest) b.parts in let c = b.count in let d = forms_length source all in omega arith

  pub left_within : (x : A) (rest : List Form) (o : Outcome A) → Answers spell fits n forms o → o ≡ Ok (x, rest) → length rest ≤ length all
  left_within x rest o a e =
      let b : IsText spell fits n forms rest x = subst (Answers spell fits n forms) e a in
      let l = rest_le forms b.taken rest b.parts in let d = forms_length source all in omega arith

  -- ---- what the code answers, by what its reader stops with

  stop_located : (s : Stop) (o : Outcome A) → Fails s o → (fault_at end all s ≡ fault.Memory) ⊎ (located o ≡ Err (fault_at end all s))
  stop_located stop.Memory o e = inl refl
  stop_located (stop.Expected left) o e = inr (ap located e)
  stop_located (stop.TooDeep left) o e = inr (ap located e)

  pub says_stop : (s : Stop) (o : Outcome A) → Answers spell fits n forms o → Fails s o → SaysAll spell fits n end source all (Err (fault_at end all s))
  says_stop stop.Memory o a e = tt
  says_stop (stop.Expected left) o a e = subst (SaysAll spell fits n end source all) (ap located e) (says o a)
  says_stop (stop.TooDeep left) o a e = subst (SaysAll spell fits n end source all) (ap located e) (says o a)

  pub says_all : (x : A) (o : Outcome A) → Answers spell fits n forms o → o ≡ Ok (x, []) → SaysAll spell fits n end source all (Ok x)
  says_all x o a e = subst (SaysAll spell fits n end source all) (ap located e) (says o a)

  pub says_more : (x : A) (f : Form) (rest : List Form) (o : Outcome A) → Answers spell fits n forms o → o ≡ Ok (x, f ∷ rest) → SaysAll spell fits n end source all (Err (fault.Expected (place_with end all (length (f ∷ rest)))))
  says_more x f rest o a e = subst (SaysAll spell fits n end source all) (ap located e) (says o a)

  -- and no other answer fits

  module _ (q : Outcome A) (h : (o : Outcome A) → Answers spell fits n forms o → q ≡ o) (r : Result A ParseFault) (s : SaysAll spell fits n end source all r) where
    pub only_all : (x : A) → q ≡ Ok (x, []) → (r ≡ Ok x) ⊎ (r ≡ Err fault.Memory)
    only_all x e = subst (λ (o : Outcome A). (r ≡ located o) ⊎ (r ≡ Err fault.Memory)) e (only_located q h r s)

    pub only_more : (x : A) (f : Form) (rest : List Form) → q ≡ Ok (x, f ∷ rest) → (r ≡ Err (fault.Expected (place_with end all (length (f ∷ rest))))) ⊎ (r ≡ Err fault.Memory)
    only_more x f rest e = subst (λ (o : Outcome A). (r ≡ located o) ⊎ (r ≡ Err fault.Memory)) e (only_located q h r s)

    pub only_stop : (stop : Stop) → Fails stop q → IsUnlessMemory r (Err (fault_at end all stop))
    only_stop stop.Memory e = tt
    only_stop (stop.Expected left) e = subst (λ (o : Outcome A). (r ≡ located o) ⊎ (r ≡ Err fault.Memory)) e (only_located q h r s)
    only_stop (stop.TooDeep left) e = subst (λ (o : Outcome A). (r ≡ located o) ⊎ (r ≡ Err fault.Memory)) e (only_located q h r s)
