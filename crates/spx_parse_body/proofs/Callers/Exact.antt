-- A reader answers exactly, if it is lawful, finds each text and looks at one form past what it takes.
use Rattle.std.proofs.Common.{◌≡◌, inl, inr, ℕ, zero, suc, ◌≤◌, ◌<◌, List, [], ◌∷◌, ◌++◌, length, Ok, Err, refl, sym, ap, subst, ◌∙◌, append_assoc, arith, length-append}
use Rattle.std.proofs.lemmas.List.{append-nil}
use Rattle.std.proofs.lemmas.Bool.{cases_lt}
use Rattle.spx_tree.specs.Form.{Form}
use Rattle.spx_tree.specs.Goes.{Expected, TooDeep, Begins, Ends, IsTooDeep, Answers}
use Rattle.spx_cursor.specs.Reading.{Outcome, Reader}
use Rattle.spx_parse_body.proofs.Callers.Shaped.{AreShaped, shaped_rest}
use Rattle.spx_parse_body.proofs.Callers.Lawful.{Lawful, Any, pair_is}
use Rattle.spx_parse_body.proofs.Grows.{Grows, Follows, Under}
use Rattle.spx_parse_body.proofs.Scans.{Scans, AtMost, Below, Extends}

head_is : (a b : Form) (x y : List Form) → a ∷ x ≡ b ∷ y → a ≡ b
head_is a b x y e = cc

tail_is : (a b : Form) (x y : List Form) → a ∷ x ≡ b ∷ y → x ≡ y
tail_is a b x y e = cc

module _ {A : Type 0} (spell : A → List Form) (fits : A → Type 0) (p : Reader A)
    (again : (x : A) (fs : List Form) → fits x → fs ≡ spell x → p fs ≡ Ok (x, [])) (scans : Scans Any p) where
  not_nil : (x y : A) (t : Form) (r : List Form) (o : Outcome A) → o ≡ Ok (y, t ∷ r) → o ≡ Ok (x, []) → ⊥
  not_nil x y t r o e f = let tail : t ∷ r ≡ [] = ap (λ (q : A × List Form). q.1) (pair_is (y, t ∷ r) (x, []) (sym e ∙ f)) in absurd cc

  from_front : (o : Outcome A) (more rest : List Form) (x : A) (p' q' : Outcome A) → Extends more o p' → p' ≡ Ok (x, []) → Extends rest o q' → AtMost (length rest) q'
  from_front (Ok (y, [])) more rest x p' q' e f g = g.0
  from_front (Ok (y, t ∷ r)) more rest x p' q' e f g = absurd (not_nil x y t (r ++ more) p' e f)
  from_front (Err (Expected zero)) more rest x p' q' e f g = g
  from_front (Err (Expected (suc n))) more rest x p' q' e f g = absurd cc
  from_front (Err (TooDeep n)) more rest x p' q' e f g = absurd cc

  -- forms that begin a text are all taken
  pub goes_on : (fs more rest : List Form) (x : A) → fits x → fs ++ more ≡ spell x → AtMost (length rest) (p (fs ++ rest))
  goes_on fs more rest x fit e =
      from_front (p fs) more rest x (p (fs ++ more)) (p (fs ++ rest)) (scans.steady fs more tt tt) (again x (fs ++ more) fit e) (scans.steady fs rest tt tt)

  not_expected : (rest : List Form) (o q : Outcome A) (x : A) → AreShaped rest → q ≡ Ok (x, []) → Extends rest q o → o ≡ Err (Expected (length rest)) → ⊥
  not_expected rest o (Ok (y, [])) x sh h s g = elim (s.1 sh) [ inl is ↦ absurd cc | inr b ↦ let c = subst (Below (length rest)) g b in omega (arith, c) ]
  not_expected rest o (Ok (y, t ∷ r)) x sh h s g = not_nil x y t r (Ok (y, t ∷ r)) refl h
  not_expected rest o (Err d) x sh h s g = absurd cc

  -- a text is no place to stop
  pub no_text : (fs rest : List Form) (x : A) → AreShaped rest → fits x → fs ≡ spell x → p (fs ++ rest) ≡ Err (Expected (length rest)) → ⊥
  no_text fs rest x sh fit e g = not_expected rest (p (fs ++ rest)) (p fs) x sh (again x fs fit e) (scans.steady fs rest tt tt) g

-- ---- over all levels

plus : ℕ → ℕ → ℕ
plus zero n = n
plus (suc k) n = suc (plus k n)

plus_is : (k n : ℕ) → (k ≤ plus k n) × (n ≤ plus k n)
unfolding plus
plus_is zero n = (omega arith, omega arith)
plus_is (suc k) n = let h = plus_is k n in (omega arith, omega arith)

-- of two fronts of one list, the one with less after it begins with the other
pub front_of : (a b c d : List Form) → a ++ b ≡ c ++ d → length d ≤ length b → (v : List Form) × (c ≡ a ++ v)
front_of [] b c d e le = (c, refl)
front_of (x ∷ a) b [] d e le = let len = ap length e in absurd (omega (arith, len, length-append (x ∷ a) b))
front_of (x ∷ a) b (y ∷ c) d e le =
    let h = front_of a b c d (tail_is x y (a ++ b) (c ++ d) e) le in
    (h.0, ap (λ (z : Form). z ∷ c) (sym (head_is x y (a ++ b) (c ++ d) e)) ∙ ap (λ (z : List Form). x ∷ z) h.1)

same_front : (a b c d : List Form) → a ++ b ≡ c ++ d → length d ≡ length b → a ≡ c
same_front [] b [] d e len = refl
same_front [] b (y ∷ c) d e len = let l = ap length e in absurd (omega (arith, l, length-append (y ∷ c) d))
same_front (x ∷ a) b [] d e len = let l = ap length e in absurd (omega (arith, l, length-append (x ∷ a) b))
same_front (x ∷ a) b (y ∷ c) d e len = ap (λ (z : Form). z ∷ a) (head_is x y (a ++ b) (c ++ d) e) ∙ ap (λ (z : List Form). y ∷ z) (same_front a b c d (tail_is x y (a ++ b) (c ++ d) e) len)

module _ {A : Type 0} (spell : A → List Form) (fits : ℕ → A → Type 0) (p : ℕ → Reader A) (law : (n : ℕ) → Lawful spell (fits n) [] Any (p n))
    (again : (n : ℕ) (x : A) (fs : List Form) → fits n x → fs ≡ spell x → p n fs ≡ Ok (x, [])) (scans : (n : ℕ) → Scans Any (p n))
    (grows : (n : ℕ) → Grows Any (p n) (p (suc n))) (up : (m n : ℕ) (x : A) → m ≤ n → fits m x → fits n x) where
  ok_above : (k n : ℕ) (fs : List Form) (x : A × List Form) → AreShaped fs → p n fs ≡ Ok x → p (plus k n) fs ≡ Ok x
  unfolding plus
  ok_above zero n fs x sh e = e
  ok_above (suc k) n fs x sh e = subst (λ (o : Outcome A). Follows o (p (suc (plus k n)) fs)) (ok_above k n fs x sh e) ((grows (plus k n)).follows fs sh tt)

  expected_above : (k n : ℕ) (fs : List Form) (m : ℕ) → AreShaped fs → p n fs ≡ Err (Expected m) → p (plus k n) fs ≡ Err (Expected m)
  unfolding plus
  expected_above zero n fs m sh e = e
  expected_above (suc k) n fs m sh e = subst (λ (o : Outcome A). Follows o (p (suc (plus k n)) fs)) (expected_above k n fs m sh e) ((grows (plus k n)).follows fs sh tt)

  -- what begins a text is taken, at each level that is enough
  taken_at : (n : ℕ) (taken : List Form) (t : Form) (rest fs : List Form) → fs ≡ taken ++ t ∷ rest → Begins spell fits n (taken ++ t ∷ []) → AtMost (length rest) (p n fs)
  taken_at n taken t rest fs parts b =
      subst (λ (us : List Form). AtMost (length rest) (p n us)) (append_assoc taken (t ∷ []) rest ∙ sym parts)
      (goes_on spell (fits n) (p n) (again n) (scans n) (taken ++ t ∷ []) b.0 rest b.1 b.2 b.3)

  begins_up : (m n : ℕ) (fs : List Form) → m ≤ n → Begins spell fits m fs → Begins spell fits n fs
  begins_up m n fs le b = (b.0, b.1, up m n b.1 le b.2, b.3)

  ends_ok : (n : ℕ) (fs taken rest : List Form) (x : A) → AreShaped fs → fs ≡ taken ++ rest → p n fs ≡ Ok (x, rest) → Ends spell fits taken rest
  ends_ok n fs taken [] x sh parts e = tt
  ends_ok n fs taken (t ∷ r) x sh parts e = λ m b.
      let h = taken_at (plus m n) taken t r fs parts (begins_up m (plus m n) (taken ++ t ∷ []) (plus_is m n).0 b) in
      let c : AtMost (length r) (Ok (x, t ∷ r)) = subst (AtMost (length r)) (ok_above m n fs (x, t ∷ r) sh e) h in
      omega (arith, c)

  ends_expected : (n : ℕ) (fs taken rest : List Form) (m : ℕ) → AreShaped fs → fs ≡ taken ++ rest → length rest ≡ m → p n fs ≡ Err (Expected m) → Ends spell fits taken rest
  ends_expected n fs taken [] i sh parts len e = tt
  ends_expected n fs taken (t ∷ r) i sh parts len e = λ m b.
      let h = taken_at (plus m n) taken t r fs parts (begins_up m (plus m n) (taken ++ t ∷ []) (plus_is m n).0 b) in
      let c : i ≤ length r = subst (AtMost (length r)) (expected_above m n fs i sh e) h in
      omega (arith, c, len)

  -- enough levels, at which the form is taken that was one level too many
  Reached : List Form → ℕ → Type 0
  Reached fs left = (m : ℕ) × (taken rest more : List Form) × (x : A) × (fs ≡ taken ++ rest) × (length rest < left) × fits m x × (taken ++ more ≡ spell x)

  reached_by : (b n : ℕ) (fs : List Form) (left : ℕ) (o : Outcome A) → AreShaped fs → left ≤ b → p (suc n) fs ≡ o → Under left o → Reached fs left
  unfolding Reached
  reached_by b n fs left (Ok x) sh le e u = let f = (law (suc n)).found fs x.1 x.0 tt e in (suc n, f.taken, x.1, [], x.0, f.parts, u, f.fit, (append-nil f.taken) ∙ f.text)
  reached_by b n fs left (Err (Expected m)) sh le e u = let f = (law (suc n)).stopped fs (Expected m) tt e in (suc n, f.taken, f.rest, f.more, f.value, f.parts, omega (arith, f.left), f.fit, f.text)
  reached_by zero n fs left (Err (TooDeep m)) sh le e u = absurd (omega arith)
  reached_by (suc b) n fs left (Err (TooDeep m)) sh le e u =
      let r = reached_by b (suc n) fs m (p (suc (suc n)) fs) sh (omega arith) refl (subst (λ (o : Outcome A). Follows o (p (suc (suc n)) fs)) e ((grows (suc n)).follows fs sh tt)) in
      (r.0, r.1, r.2, r.3, r.4, r.5, omega (arith, r.6), r.7, r.8)

  begins_from : (m : ℕ) (fs taken rest more front following : List Form) (x : A) → fs ≡ taken ++ rest → fs ≡ front ++ following → length rest ≤ length following → fits m x → taken ++ more ≡ spell x → Begins spell fits m front
  begins_from m fs taken rest more front following x e f le fit text =
      let v = front_of front following taken rest (sym f ∙ e) le in
      (v.0 ++ more, x, fit, (sym (append_assoc front v.0 more) ∙ ap (λ (us : List Form). us ++ more) (sym v.1)) ∙ text)

  some_rest : (rest : List Form) (n : ℕ) → length rest ≡ n → 0 < n → (t : Form) × (r : List Form) × (rest ≡ t ∷ r)
  some_rest [] n e h = absurd (omega arith)
  some_rest (t ∷ r) n e h = (t, r, refl)

  answers_by : (n : ℕ) (fs : List Form) (o : Outcome A) → AreShaped fs → p n fs ≡ o → Answers spell fits n fs o
  unfolding Reached
  answers_by n fs (Ok x) sh e =
      let f = (law n).found fs x.1 x.0 tt e in
      record { taken = f.taken; parts = f.parts; text = f.text; fit = f.fit; ends = ends_ok n fs f.taken x.1 x.0 sh f.parts e }
  answers_by n fs (Err (Expected m)) sh e =
      let f = (law n).stopped fs (Expected m) tt e in
      record {
        taken = f.taken;
        rest = f.rest;
        parts = f.parts;
        count = f.left;
        begins = (f.more, f.value, f.fit, f.text);
        no_text = λ l x fit text. no_text spell (fits (plus l n)) (p (plus l n)) (again (plus l n)) (scans (plus l n)) f.taken f.rest x (shaped_rest fs f.taken f.rest f.parts sh) (up l (plus l n) x (plus_is l n).0 fit) text
            (ap (p (plus l n)) (sym f.parts) ∙ expected_above l n fs m sh e ∙ ap (λ (i : ℕ). Err (Expected i)) (sym f.left));
        ends = ends_expected n fs f.taken f.rest m sh f.parts f.left e;
      }
  answers_by n fs (Err (TooDeep m)) sh e =
      let f = (law n).stopped fs (TooDeep m) tt e in
      let w : AtMost {A = A} (length fs) (Err (TooDeep m)) = subst (AtMost (length fs)) e ((scans n).within fs tt) in
      let s = some_rest f.rest m f.left w.0 in
      let parts : fs ≡ f.taken ++ s.0 ∷ s.1 = f.parts ∙ ap (λ (us : List Form). f.taken ++ us) s.2 in
      let count : length (s.0 ∷ s.1) ≡ m = ap length (sym s.2) ∙ f.left in
      let r = reached_by m n fs m (p (suc n) fs) sh (omega arith) refl (subst (λ (o : Outcome A). Follows o (p (suc n) fs)) e ((grows n).follows fs sh tt)) in
      record {
        taken = f.taken;
        form = s.0;
        rest = s.1;
        parts = parts;
        count = count;
        begins = (f.more, f.value, f.fit, f.text);
        deep = λ b. let h : AtMost {A = A} (length s.1) (Err (TooDeep m)) = subst (AtMost (length s.1)) e (taken_at n f.taken s.0 s.1 fs parts b) in omega (arith, h.1, count);
        deeper = (r.0, begins_from r.0 fs r.1 r.2 r.3 (f.taken ++ s.0 ∷ []) s.1 r.4 r.5 (parts ∙ sym (append_assoc f.taken (s.0 ∷ []) s.1)) (omega (arith, r.6, count)) r.7 r.8);
      }

  pub answers : (n : ℕ) (fs : List Form) → AreShaped fs → Answers spell fits n fs (p n fs)
  answers n fs sh = answers_by n fs (p n fs) sh refl

  -- ---- and there is no other answer

  longer : (n : ℕ) (a b c d fs : List Form) → fs ≡ a ++ b → fs ≡ c ++ d → length d < length b → (m : ℕ) → Begins spell fits m c → Ends spell fits a b → ⊥
  longer n a [] c d fs e f lt m begins ends = omega arith
  longer n a (t ∷ b) c d fs e f lt m begins ends =
      ends m (begins_from m fs c d begins.0 (a ++ t ∷ []) b begins.1 f (e ∙ sym (append_assoc a (t ∷ []) b)) (omega arith) begins.2 begins.3)

  same_rest : (a b c d : List Form) → a ++ b ≡ c ++ d → length d ≡ length b → b ≡ d
  same_rest [] b [] d e len = e
  same_rest [] b (y ∷ c) d e len = let l = ap length e in absurd (omega (arith, l, length-append (y ∷ c) d))
  same_rest (x ∷ a) b [] d e len = let l = ap length e in absurd (omega (arith, l, length-append (x ∷ a) b))
  same_rest (x ∷ a) b (y ∷ c) d e len = same_rest a b c d (tail_is x y (a ++ b) (c ++ d) e) len

  -- a longest front is one
  one_front : (a b c d fs : List Form) (m n : ℕ) → fs ≡ a ++ b → fs ≡ c ++ d → Begins spell fits m a → Begins spell fits n c → Ends spell fits a b → Ends spell fits c d → length d ≡ length b
  one_front a b c d fs m n e f ba bc ea ec =
      elim (cases_lt (length d) (length b)) [
        | inl lt ↦ absurd (longer 0 a b c d fs e f lt n bc ea)
        | inr le ↦ elim (cases_lt (length b) (length d)) [ inl lt ↦ absurd (longer 0 c d a b fs f e lt m ba ec) | inr ge ↦ omega arith ]
      ]

  text_begins : (n : ℕ) (taken : List Form) (x : A) → fits n x → taken ≡ spell x → Begins spell fits n taken
  text_begins n taken x fit text = ([], x, fit, (append-nil taken) ∙ text)

  -- the front that is one level too deep is longer than no text, and no stop
  not_deep : (n : ℕ) (fs a b : List Form) (left : ℕ) → fs ≡ a ++ b → Begins spell fits n a → Ends spell fits a b → IsTooDeep spell fits n fs left → ⊥
  not_deep n fs a b left e begins ends d =
      elim (cases_lt (length d.rest) (length b)) [
        | inl lt ↦ longer 0 a b (d.taken ++ d.form ∷ []) d.rest fs e (d.parts ∙ sym (append_assoc d.taken (d.form ∷ []) d.rest)) lt d.deeper.0 d.deeper.1 ends
        | inr le ↦ d.deep (begins_from n fs a b begins.0 (d.taken ++ d.form ∷ []) d.rest begins.1 e (d.parts ∙ sym (append_assoc d.taken (d.form ∷ []) d.rest)) le begins.2 begins.3)
      ]

  one_by : (n : ℕ) (fs : List Form) (o q : Outcome A) → Answers spell fits n fs o → Answers spell fits n fs q → o ≡ q
  one_by n fs (Ok x) (Ok y) a b =
      let len = one_front a.taken x.1 b.taken y.1 fs n n a.parts b.parts (text_begins n a.taken x.0 a.fit a.text) (text_begins n b.taken y.0 b.fit b.text) a.ends b.ends in
      let fronts = same_front a.taken x.1 b.taken y.1 (sym a.parts ∙ b.parts) len in
      let rests = same_rest a.taken x.1 b.taken y.1 (sym a.parts ∙ b.parts) len in
      let values : (x.0, []) ≡ (y.0, []) = pair_is (x.0, []) (y.0, []) (sym (again n x.0 a.taken a.fit a.text) ∙ again n y.0 a.taken b.fit (fronts ∙ b.text)) in
      let value : x.0 ≡ y.0 = ap (λ (p : A × List Form). p.0) values in
      let both : x ≡ y = ap (λ (v : A). (v, x.1)) value ∙ ap (λ (r : List Form). (y.0, r)) rests in
      ap (λ (p : A × List Form). Ok p) both
  one_by n fs (Ok x) (Err (Expected m)) a b =
      let len = one_front a.taken x.1 b.taken b.rest fs n n a.parts b.parts (text_begins n a.taken x.0 a.fit a.text) b.begins a.ends b.ends in
      absurd (b.no_text n x.0 a.fit ((sym (same_front a.taken x.1 b.taken b.rest (sym a.parts ∙ b.parts) len)) ∙ a.text))
  one_by n fs (Ok x) (Err (TooDeep m)) a b = absurd (not_deep n fs a.taken x.1 m a.parts (text_begins n a.taken x.0 a.fit a.text) a.ends b)
  one_by n fs (Err (Expected m)) (Ok y) b a =
      let len = one_front a.taken y.1 b.taken b.rest fs n n a.parts b.parts (text_begins n a.taken y.0 a.fit a.text) b.begins a.ends b.ends in
      absurd (b.no_text n y.0 a.fit ((sym (same_front a.taken y.1 b.taken b.rest (sym a.parts ∙ b.parts) len)) ∙ a.text))
  one_by n fs (Err (Expected l)) (Err (Expected m)) a b =
      let len = one_front a.taken a.rest b.taken b.rest fs n n a.parts b.parts a.begins b.begins a.ends b.ends in
      ap (λ (i : ℕ). Err (Expected i)) (sym a.count ∙ sym len ∙ b.count)
  one_by n fs (Err (Expected l)) (Err (TooDeep m)) a b = absurd (not_deep n fs a.taken a.rest m a.parts a.begins a.ends b)
  one_by n fs (Err (TooDeep l)) (Ok y) b a = absurd (not_deep n fs a.taken y.1 l a.parts (text_begins n a.taken y.0 a.fit a.text) a.ends b)
  one_by n fs (Err (TooDeep l)) (Err (Expected m)) b a = absurd (not_deep n fs a.taken a.rest l a.parts a.begins a.ends b)
  one_by n fs (Err (TooDeep l)) (Err (TooDeep m)) a b = ap (λ (i : ℕ). Err (TooDeep i)) (deep_same n fs l m a b)
    where
      deep_le : (n : ℕ) (fs : List Form) (l m : ℕ) → IsTooDeep spell fits n fs l → IsTooDeep spell fits n fs m → l ≤ m
      deep_le n fs l m a b =
          elim (cases_lt m l) [
            | inl lt ↦ absurd (a.deep (begins_from n fs b.taken (b.form ∷ b.rest) b.begins.0 (a.taken ++ a.form ∷ []) a.rest b.begins.1 b.parts (a.parts ∙ sym (append_assoc a.taken (a.form ∷ []) a.rest)) (omega (arith, a.count, b.count)) b.begins.2 b.begins.3))
            | inr le ↦ le
          ]

      deep_same : (n : ℕ) (fs : List Form) (l m : ℕ) → IsTooDeep spell fits n fs l → IsTooDeep spell fits n fs m → l ≡ m
      deep_same n fs l m a b = let c = deep_le n fs l m a b in let d = deep_le n fs m l b a in omega arith

  pub only_answer : (n : ℕ) (fs : List Form) (o : Outcome A) → AreShaped fs → Answers spell fits n fs o → p n fs ≡ o
  only_answer n fs o sh a = one_by n fs (p n fs) o (answers n fs sh) a
