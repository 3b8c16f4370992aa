-- What is read of the tokens from an index on, with indices and places.
use Rattle.std.proofs.Common.{◌≡◌, ◌⊎◌, inl, inr, ℕ, ◌+◌, ◌-◌, ◌≤◌, List, [], ◌∷◌, ◌++◌, length, drop, Result, Ok, Err, refl, sym, ap, subst, ◌∙◌, arith, length-append}
use Rattle.std.proofs.lemmas.List.{length-drop, drop-drop}
use Rattle.spx_text.specs.declared.place.Place.{Place}
use Rattle.spx_tree.specs.declared.token.Token.{Token}
use Rattle.spx_tree.specs.Form.{Form, forms_of}
use Rattle.spx_tree.specs.Goes.{Expected, TooDeep, IsText, IsExpected, IsTooDeep, Answers, place_with}
use Rattle.spx_cursor.specs.declared.cursor.Stop.{Stop}
use Rattle.spx_cursor.specs.declared.cursor.Stop.TheVariants as stop
use Rattle.spx_parse_unit.specs.declared.fault.ParseFault.{ParseFault}
use Rattle.spx_parse_unit.specs.declared.fault.ParseFault.TheVariants as fault
use Rattle.spx_cursor.specs.Reading.{Outcome}
use Rattle.spx_cursor.specs.Answers.{Fails}
use Rattle.spx_parse_unit.specs.Answers.{StopsWithin, fault_at, IsUnlessMemory, SaysFrom}
use Rattle.spx_cursor.proofs.Counts.{forms_length}

-- what is left of the forms of tokens are the forms of the tokens that are left
forms_after : (source : List ℕ) (ts : List Token) (taken rest : List Form) → forms_of source ts ≡ taken ++ rest → forms_of source (drop (length taken) ts) ≡ rest
forms_after source ts [] rest e = e
forms_after source [] (f ∷ taken) rest e = absurd cc
forms_after source (t ∷ ts) (f ∷ taken) rest e = forms_after source ts taken rest (tail_is e)
  where
    tail_is : {f g : Form} {fs gs : List Form} → f ∷ fs ≡ g ∷ gs → fs ≡ gs
    tail_is e = cc

module _ {A : Type 0} (spell : A → List Form) (fits : ℕ → A → Type 0) (n : ℕ) (end : Place) (source : List ℕ) (all : List Token) (from : ℕ) (low : from ≤ length all) where
  abbrev forms : List Form
  forms = forms_of source (drop from all)

  forms_count : length forms ≡ length all - from
  forms_count = forms_length source (drop from all) ∙ length-drop from all

  taken_count : (taken rest : List Form) → forms ≡ taken ++ rest → length all - from ≡ length taken + length rest
  taken_count taken rest e = sym forms_count ∙ ap length e ∙ length-append taken rest

  -- the forms that are left are those of the tokens from their index on
  rest_is : (taken rest : List Form) → forms ≡ taken ++ rest → rest ≡ forms_of source (drop (length all - length rest) all)
  rest_is taken rest e =
      let count = taken_count taken rest e in
      let index : from + length taken ≡ length all - length rest = omega arith in
      sym (forms_after source (drop from all) taken rest e) ∙ ap (forms_of source) (drop-drop (length taken) from all ∙ ap (λ (i : ℕ). drop i all) index)

  -- the answer from this index on
  abbrev pub indexed : Outcome A → Result (A × ℕ) ParseFault
  indexed (Ok x) = Ok (x.0, length all - length x.1)
  indexed (Err (Expected left)) = Err (fault.Expected (place_with end all left))
  indexed (Err (TooDeep left)) = Err (fault.TooDeep (place_with end all left))

  says : (o : Outcome A) → Answers spell fits n forms o → SaysFrom spell fits n end source all from (indexed o)
  says (Ok x) a =
      let count = taken_count a.taken x.1 a.parts in
      (omega arith, omega arith, subst (λ (us : List Form). IsText spell fits n forms us x.0) (rest_is a.taken x.1 a.parts) a)
  says (Err (Expected left)) a = (left, a, refl)
  says (Err (TooDeep left)) a = (left, a, refl)

  says_is : (r : Result (A × ℕ) ParseFault) → SaysFrom spell fits n end source all from r → (r ≡ Err fault.Memory) ⊎ ((o : Outcome A) × Answers spell fits n forms o × (r ≡ indexed o))
  says_is (Ok x) s =
      let index : x.1 ≡ length all - length (forms_of source (drop x.1 all)) = let count = forms_length source (drop x.1 all) ∙ length-drop x.1 all in let le = s.1 in omega arith in
      inr (Ok (x.0, forms_of source (drop x.1 all)), s.2, ap (λ (i : ℕ). Ok (x.0, i)) index)
  says_is (Err fault.Memory) s = inl refl
  says_is (Err (fault.Expected place)) s = inr (Err (Expected s.0), s.1, ap (λ (p : Place). Err (fault.Expected p)) s.2)
  says_is (Err (fault.TooDeep place)) s = inr (Err (TooDeep s.0), s.1, ap (λ (p : Place). Err (fault.TooDeep p)) s.2)

-- this is what a reader answers from an index on, and nothing else is
pub record Exactly {A : Type 0} (spell : A → List Form) (fits : ℕ → A → Type 0) (n : ℕ) (source : List ℕ) (all : List Token) (from : ℕ) (q : Outcome A) : Type 0 where
  pub low : from ≤ length all
  pub answers : Answers spell fits n (forms_of source (drop from all)) q
  pub only : (o : Outcome A) → Answers spell fits n (forms_of source (drop from all)) o → q ≡ o

-- What the code answers.
module _ {A : Type 0} {spell : A → List Form} {fits : ℕ → A → Type 0} {n : ℕ} {source : List ℕ} {all : List Token} {from : ℕ} {q : Outcome A} (end : Place) (is : Exactly spell fits n source all from q) where
  -- the answer from this index on
  abbrev answer : Outcome A → Result (A × ℕ) ParseFault
  answer o = indexed spell fits n end source all from is.low o

  abbrev Says : Result (A × ℕ) ParseFault → Type 0
  Says r = SaysFrom spell fits n end source all from r

  abbrev OrMemory : Result (A × ℕ) ParseFault → Outcome A → Type 0
  OrMemory r o = (r ≡ answer o) ⊎ (r ≡ Err fault.Memory)

  answered : Says (answer q)
  answered = says spell fits n end source all from is.low q is.answers

  only_answered : (r : Result (A × ℕ) ParseFault) → Says r → OrMemory r q
  only_answered r s = elim (says_is spell fits n end source all from is.low r s) [ inl m ↦ inr m | inr a ↦ inl (a.2 ∙ sym (ap answer (is.only a.0 a.1))) ]

  -- a value was read
  module _ (x : A) (rest : List Form) (found : q ≡ Ok (x, rest)) (left : ℕ) (count : left ≡ length rest) where
    value_is : answer q ≡ Ok (x, length all - left)
    value_is = ap answer found ∙ ap (λ (i : ℕ). Ok (x, length all - i)) (sym count)

    pub left_low : left ≤ length all
    left_low =
        let a : IsText spell fits n (forms_of source (drop from all)) rest x = subst (Answers spell fits n (forms_of source (drop from all))) found is.answers in
        let taken = taken_count spell fits n end source all from is.low a.taken rest a.parts in omega arith

    pub found_said : Says (Ok (x, length all - left))
    found_said = subst Says value_is answered

    pub only_found : (r : Result (A × ℕ) ParseFault) → Says r → (r ≡ Ok (x, length all - left)) ⊎ (r ≡ Err fault.Memory)
    only_found r s = subst (λ (p : Result (A × ℕ) ParseFault). (r ≡ p) ⊎ (r ≡ Err fault.Memory)) value_is (only_answered r s)

  -- reading stopped
  pub stop_low : (s : Stop) → Fails s q → StopsWithin (length all) s
  stop_low stop.Memory e = tt
  stop_low (stop.Expected left) e =
      let a : IsExpected spell fits n (forms_of source (drop from all)) left = subst (Answers spell fits n (forms_of source (drop from all))) e is.answers in
      let taken = taken_count spell fits n end source all from is.low a.taken a.rest a.parts in let count = a.count in omega arith
  stop_low (stop.TooDeep left) e =
      let a : IsTooDeep spell fits n (forms_of source (drop from all)) left = subst (Answers spell fits n (forms_of source (drop from all))) e is.answers in
      let taken = taken_count spell fits n end source all from is.low a.taken (a.form ∷ a.rest) a.parts in let count = a.count in omega arith

  stopped : (s : Stop) → Fails s q → Says (Err (fault_at end all s))
  stopped stop.Memory e = tt
  stopped (stop.Expected left) e = subst Says (ap answer e) answered
  stopped (stop.TooDeep left) e = subst Says (ap answer e) answered

  only_stopped : (s : Stop) → Fails s q → (r : Result (A × ℕ) ParseFault) → Says r → IsUnlessMemory r (Err (fault_at end all s))
  only_stopped stop.Memory e r said = tt
  only_stopped (stop.Expected left) e r said = subst (OrMemory r) e (only_answered r said)
  only_stopped (stop.TooDeep left) e r said = subst (OrMemory r) e (only_answered r said)

  module _ (s : Stop) (fails : Fails s q) (f : ParseFault) (at : f ≡ fault_at end all s) where
    pub stop_said : Says (Err f)
    stop_said = subst (λ (g : ParseFault). Says (Err g)) (sym at) (stopped s fails)

    pub only_stop : (r : Result (A × ℕ) ParseFault) → Says r → IsUnlessMemory r (Err f)
    only_stop r said = subst (λ (g : ParseFault). IsUnlessMemory r (Err g)) (sym at) (only_stopped s fails r said)
