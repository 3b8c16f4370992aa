-- The parts that are read are those of the value that the tokens are.
use Rattle.std.proofs.Common.{◌≡◌, ℕ, zero, suc, ◌+◌, ◌-◌, ◌≤◌, pos, Bool, true, false, not, ◌&&◌, List, [], ◌∷◌, ◌++◌, length, Option, Some, None, refl, sym, ap, ap₂, subst, ◌∙◌, append_assoc, length-append, rules, arith}
use Rattle.std.specs.Prelude.{◌-ℤ◌, ◌==◌, if◌then◌else◌, option_and_then}
use Rattle.std.proofs.lemmas.List.{append-nil}
use Rattle.spx_tree.specs.declared.token.Kind.{Kind}
use Rattle.spx_tree.specs.declared.token.Kind.TheVariants as kind
use Rattle.spx_tree.specs.declared.token.Token.{Token}
use Rattle.spx_tree.specs.Form.{spelling}
use Rattle.spx_run.specs.declared.inputs.InputPart.{InputPart}
use Rattle.spx_run.specs.declared.inputs.InputPart.TheVariants as part
use Rattle.spx_run.specs.declared.values.Expected.TheVariants as expected
use Rattle.spx_run.specs.declared.values.Reading.{Reading}
use Rattle.spx_run.specs.Inputs.{IsToken, AreOneValue, number, negative, word, listed, AreValues, last, next}
use Rattle.spx_run.specs.Mirror.{same_kind, is_token, begin_value, negate_number, end_value, step, parts_after, parts_in}
use Rattle.spx_run.proofs.TokenLaws.{token_is}

-- ---- readings

-- a reading with these parts and open parentheses, when a value, a number after `-` or what follows a value comes next
abbrev at_value : List InputPart → ℕ → Reading
at_value parts depth = record { parts = parts; depth = depth; expected = expected.Value }

abbrev at_number : List InputPart → ℕ → Reading
at_number parts depth = record { parts = parts; depth = depth; expected = expected.Number }

abbrev at_mark : List InputPart → ℕ → Reading
at_mark parts depth = record { parts = parts; depth = depth; expected = expected.Mark }

inside : (d : ℕ) → (suc d == 0) ≡ false
inside d = search (rules, arith)

less_one : (d : ℕ) → suc d - 1 ≡ d
less_one d = omega arith

some_same : {X : Type 0} (x y : X) → Some x ≡ Some y → x ≡ y
some_same x y e = cc

bound : {A B : Type 0} (o : Option A) (f : A → Option B) (b : B) → option_and_then f o ≡ Some b → (a : A) × (o ≡ Some a) × (f a ≡ Some b)
bound (Some a) f b e = (a, refl, e)
bound None f b e = absurd (cc)

-- inside of parentheses no value is at its end
none_finished : (outside : Bool) (parts all : List InputPart) → outside ≡ false → (if outside then Some parts else None) ≡ Some all → ⊥
none_finished true parts all is e = absurd (cc)
none_finished false parts all is e = absurd (cc)

shorter : (n : ℕ) (tokens first : List Token) (t : Token) (ts : List Token) → length tokens ≤ suc n → tokens ≡ first ++ t ∷ ts → length ts ≤ n
shorter n tokens first t ts within split =
    let size : length tokens ≡ length first + length (t ∷ ts) = ap length split ∙ length-append first (t ∷ ts) in omega arith

-- ---- each value is read

module _ (source : List ℕ) where
  -- tokens after one that makes this of a reading
  after : (r later : Reading) (t : Token) (ts : List Token) → step source r.expected r t ≡ Some later → parts_after source r (t ∷ ts) ≡ parts_after source later ts
  after r later t ts e = ap (option_and_then (λ n. parts_after source n ts)) e

  -- what a token makes of a reading, by its kind
  begun_by : List InputPart → ℕ → Token → Kind → Bool → Option Reading
  begun_by before d t k m =
      if same_kind k kind.LeftParenthesis && not m then Some (at_value (before ++ part.Open ∷ []) (suc d))
      else if same_kind k kind.Minus && not m then Some (at_number before d)
      else if same_kind k kind.Number && not m then Some (at_mark (before ++ part.Number t.number ∷ []) d)
      else if same_kind k kind.Identifier && not m then Some (at_mark (before ++ part.Word (spelling source t) ∷ []) d) else None

  begun : (before : List InputPart) (d : ℕ) (t : Token) (what : Kind) → IsToken what t → begin_value source (at_value before d) t ≡ begun_by before d t what false
  unfolding begun_by
  begun before d t what is = ap₂ (λ (k : Kind) (m : Bool). begun_by before d t k m) is.of_kind is.in_code

  opened : (before : List InputPart) (d : ℕ) (t : Token) → IsToken kind.LeftParenthesis t → begin_value source (at_value before d) t ≡ Some (at_value (before ++ part.Open ∷ []) (suc d))
  unfolding begun_by same_kind
  opened before d t is = begun before d t kind.LeftParenthesis is

  signed : (before : List InputPart) (d : ℕ) (t : Token) → IsToken kind.Minus t → begin_value source (at_value before d) t ≡ Some (at_number before d)
  unfolding begun_by same_kind
  signed before d t is = begun before d t kind.Minus is

  counted : (before : List InputPart) (d : ℕ) (t : Token) → IsToken kind.Number t → begin_value source (at_value before d) t ≡ Some (at_mark (before ++ part.Number t.number ∷ []) d)
  unfolding begun_by same_kind
  counted before d t is = begun before d t kind.Number is

  spelled : (before : List InputPart) (d : ℕ) (t : Token) → IsToken kind.Identifier t → begin_value source (at_value before d) t ≡ Some (at_mark (before ++ part.Word (spelling source t) ∷ []) d)
  unfolding begun_by same_kind
  spelled before d t is = begun before d t kind.Identifier is

  negated : (before : List InputPart) (d : ℕ) (t : Token) → IsToken kind.Number t → negate_number (at_number before d) t ≡ Some (at_mark (before ++ part.Number (pos 0 -ℤ t.number) ∷ []) d)
  unfolding same_kind
  negated before d t is =
      ap₂ (λ (k : Kind) (m : Bool). if same_kind k kind.Number && not m then Some (at_mark (before ++ part.Number (pos 0 -ℤ t.number) ∷ []) d) else None) is.of_kind is.in_code

  ended_by : List InputPart → ℕ → Bool → ℕ → Kind → Bool → Option Reading
  ended_by before d outside less k m =
      if outside then None
      else if same_kind k kind.Comma && not m then Some (at_value before d)
      else if same_kind k kind.RightParenthesis && not m then Some (at_mark (before ++ part.Close ∷ []) less) else None

  ended : (before : List InputPart) (d : ℕ) (t : Token) (what : Kind) → IsToken what t → end_value (at_mark before (suc d)) t ≡ ended_by before (suc d) false d what false
  unfolding ended_by
  ended before d t what is =
      ap₂ (λ (outside : Bool) (less : ℕ). ended_by before (suc d) outside less t.kind t.marked) (inside d) (less_one d)
      ∙ ap₂ (λ (k : Kind) (m : Bool). ended_by before (suc d) false d k m) is.of_kind is.in_code

  parted : (before : List InputPart) (d : ℕ) (t : Token) → IsToken kind.Comma t → end_value (at_mark before (suc d)) t ≡ Some (at_value before (suc d))
  unfolding ended_by same_kind
  parted before d t is = ended before d t kind.Comma is

  closed : (before : List InputPart) (d : ℕ) (t : Token) → IsToken kind.RightParenthesis t → end_value (at_mark before (suc d)) t ≡ Some (at_mark (before ++ part.Close ∷ []) d)
  unfolding ended_by same_kind
  closed before d t is = ended before d t kind.RightParenthesis is

  -- parts in parentheses after others
  in_parentheses : (before parts : List InputPart) → ((before ++ part.Open ∷ []) ++ parts) ++ part.Close ∷ [] ≡ before ++ part.Open ∷ (parts ++ part.Close ∷ [])
  in_parentheses before parts = append_assoc (before ++ part.Open ∷ []) parts (part.Close ∷ []) ∙ append_assoc before (part.Open ∷ []) (parts ++ part.Close ∷ [])

  mutual
    -- a value is read with its parts, whatever tokens come after it
    one_read : (tokens : List Token) (parts : List InputPart) → AreOneValue source tokens parts → (before : List InputPart) (d : ℕ) (rest : List Token)
        → parts_after source (at_value before d) (tokens ++ rest) ≡ parts_after source (at_mark (before ++ parts) d) rest
    one_read tokens parts (number t is) before d rest = after (at_value before d) _ t rest (counted before d t is)
    one_read tokens parts (negative minus t is_minus is) before d rest =
        after (at_value before d) _ minus (t ∷ rest) (signed before d minus is_minus) ∙ after (at_number before d) _ t rest (negated before d t is)
    one_read tokens parts (word t is) before d rest = after (at_value before d) _ t rest (spelled before d t is)
    one_read tokens parts (listed left right inside inner is_left are is_right) before d rest =
        after (at_value before d) _ left ((inside ++ right ∷ []) ++ rest) (opened before d left is_left)
        ∙ ap (parts_after source (at_value (before ++ part.Open ∷ []) (suc d))) (append_assoc inside (right ∷ []) rest)
        ∙ values_read inside inner are (before ++ part.Open ∷ []) d (right ∷ rest)
        ∙ after (at_mark ((before ++ part.Open ∷ []) ++ inner) (suc d)) _ right rest (closed ((before ++ part.Open ∷ []) ++ inner) d right is_right)
        ∙ ap (λ (ps : List InputPart). parts_after source (at_mark ps d) rest) (in_parentheses before inner)

    -- and so are values after each other, in parentheses
    values_read : (tokens : List Token) (parts : List InputPart) → AreValues source tokens parts → (before : List InputPart) (d : ℕ) (rest : List Token)
        → parts_after source (at_value before (suc d)) (tokens ++ rest) ≡ parts_after source (at_mark (before ++ parts) (suc d)) rest
    values_read tokens parts (last ts ps are) before d rest = one_read ts ps are before (suc d) rest
    values_read tokens parts (next first others comma ps qs are is_comma are_others) before d rest =
        ap (parts_after source (at_value before (suc d))) (append_assoc first (comma ∷ others) rest)
        ∙ one_read first ps are before (suc d) (comma ∷ others ++ rest)
        ∙ after (at_mark (before ++ ps) (suc d)) _ comma (others ++ rest) (parted (before ++ ps) d comma is_comma)
        ∙ values_read others qs are_others (before ++ ps) d rest
        ∙ ap (λ (all : List InputPart). parts_after source (at_mark all (suc d)) rest) (append_assoc before ps qs)

  pub parts_found : (tokens : List Token) (parts : List InputPart) → AreOneValue source tokens parts → parts_in source tokens ≡ Some parts
  parts_found tokens parts are = ap (parts_after source (at_value [] 0)) (sym (append-nil tokens)) ∙ one_read tokens parts are [] 0 []

  -- ---- what is read is a value

  -- what a token is that begins a value, and what it makes of a reading
  data Begins (before : List InputPart) (d : ℕ) (t : Token) (later : Reading) : Type 0 where
    opens : IsToken kind.LeftParenthesis t → at_value (before ++ part.Open ∷ []) (suc d) ≡ later → Begins before d t later
    signs : IsToken kind.Minus t → at_number before d ≡ later → Begins before d t later
    counts : IsToken kind.Number t → at_mark (before ++ part.Number t.number ∷ []) d ≡ later → Begins before d t later
    spells : IsToken kind.Identifier t → at_mark (before ++ part.Word (spelling source t) ∷ []) d ≡ later → Begins before d t later

  begins_by : (before : List InputPart) (d : ℕ) (t : Token) (later : Reading) (a b c e : Bool)
      → is_token kind.LeftParenthesis t ≡ a → is_token kind.Minus t ≡ b → is_token kind.Number t ≡ c → is_token kind.Identifier t ≡ e
      → (if a then Some (at_value (before ++ part.Open ∷ []) (suc d)) else if b then Some (at_number before d) else if c then Some (at_mark (before ++ part.Number t.number ∷ []) d)
      else if e then Some (at_mark (before ++ part.Word (spelling source t) ∷ []) d) else None) ≡ Some later → Begins before d t later
  begins_by before d t later true b c e is_left is_minus is_number is_word same = opens (token_is kind.LeftParenthesis t is_left) (cc)
  begins_by before d t later false true c e is_left is_minus is_number is_word same = signs (token_is kind.Minus t is_minus) (cc)
  begins_by before d t later false false true e is_left is_minus is_number is_word same = counts (token_is kind.Number t is_number) (cc)
  begins_by before d t later false false false true is_left is_minus is_number is_word same = spells (token_is kind.Identifier t is_word) (cc)
  begins_by before d t later false false false false is_left is_minus is_number is_word same = absurd (cc)

  begins : (before : List InputPart) (d : ℕ) (t : Token) (later : Reading) → begin_value source (at_value before d) t ≡ Some later → Begins before d t later
  begins before d t later e =
      begins_by before d t later (is_token kind.LeftParenthesis t) (is_token kind.Minus t) (is_token kind.Number t) (is_token kind.Identifier t) refl refl refl refl e

  -- what a token is that follows a value in parentheses
  data Ends (before : List InputPart) (d : ℕ) (t : Token) (later : Reading) : Type 0 where
    goes_on : IsToken kind.Comma t → at_value before (suc d) ≡ later → Ends before d t later
    closes : IsToken kind.RightParenthesis t → at_mark (before ++ part.Close ∷ []) d ≡ later → Ends before d t later

  ends_by : (before : List InputPart) (d less : ℕ) (t : Token) (later : Reading) (a b : Bool) → suc d - 1 ≡ less → less ≡ d → is_token kind.Comma t ≡ a → is_token kind.RightParenthesis t ≡ b
      → (if a then Some (at_value before (suc d)) else if b then Some (at_mark (before ++ part.Close ∷ []) less) else None) ≡ Some later → Ends before d t later
  ends_by before d less t later true b down is is_comma is_right same = goes_on (token_is kind.Comma t is_comma) (cc)
  ends_by before d less t later false true down is is_comma is_right same = closes (token_is kind.RightParenthesis t is_right) (cc)
  ends_by before d less t later false false down is is_comma is_right same = absurd (cc)

  ends_inside : (before : List InputPart) (d : ℕ) (t : Token) (later : Reading) (outside : Bool) → (suc d == 0) ≡ outside → outside ≡ false
      → (if outside then None else if is_token kind.Comma t then Some (at_value before (suc d)) else if is_token kind.RightParenthesis t then Some (at_mark (before ++ part.Close ∷ []) (suc d - 1)) else None) ≡ Some later
      → Ends before d t later
  ends_inside before d t later true e is same = absurd (cc)
  ends_inside before d t later false e is same = ends_by before d (suc d - 1) t later (is_token kind.Comma t) (is_token kind.RightParenthesis t) refl (less_one d) refl refl same

  ends : (before : List InputPart) (d : ℕ) (t : Token) (later : Reading) → end_value (at_mark before (suc d)) t ≡ Some later → Ends before d t later
  ends before d t later e = ends_inside before d t later (suc d == 0) refl (inside d) e

  -- what is read of tokens first, where a value comes next: one value, and then the rest
  record OneRead (before : List InputPart) (d : ℕ) (tokens : List Token) (all : List InputPart) : Type 0 where
    pub first : List Token
    pub rest : List Token
    pub parts : List InputPart
    pub split : tokens ≡ first ++ rest
    pub are : AreOneValue source first parts
    pub later : parts_after source (at_mark (before ++ parts) d) rest ≡ Some all

  -- and in parentheses: values after each other, what closes them, and then the rest
  record ValuesRead (before : List InputPart) (d : ℕ) (tokens : List Token) (all : List InputPart) : Type 0 where
    pub inner : List Token
    pub right : Token
    pub rest : List Token
    pub parts : List InputPart
    pub split : tokens ≡ inner ++ right ∷ rest
    pub are : AreValues source inner parts
    pub closed_by : IsToken kind.RightParenthesis right
    pub later : parts_after source (at_mark ((before ++ parts) ++ part.Close ∷ []) d) rest ≡ Some all

  -- so it is with this number of tokens at most
  abbrev AreReadWithin : ℕ → Type 0
  AreReadWithin n = (before : List InputPart) (d : ℕ) (tokens : List Token) (all : List InputPart) → length tokens ≤ n → parts_after source (at_value before (suc d)) tokens ≡ Some all → ValuesRead before d tokens all

  number_by : (before : List InputPart) (d : ℕ) (minus t : Token) (ts : List Token) (all : List InputPart) (later : Reading) (b : Bool) → IsToken kind.Minus minus → is_token kind.Number t ≡ b
      → (if b then Some (at_mark (before ++ part.Number (pos 0 -ℤ t.number) ∷ []) d) else None) ≡ Some later → parts_after source later ts ≡ Some all → OneRead before d (minus ∷ t ∷ ts) all
  number_by before d minus t ts all later true is_minus is_number same e = record {
    first = minus ∷ t ∷ [];
    rest = ts;
    parts = part.Number (pos 0 -ℤ t.number) ∷ [];
    split = refl;
    are = negative minus t is_minus (token_is kind.Number t is_number);
    later = ap (λ (r : Reading). parts_after source r ts) (some_same _ later same) ∙ e;
  }
  number_by before d minus t ts all later false is_minus is_number same e = absurd (cc)

  number_is : (before : List InputPart) (d : ℕ) (minus : Token) (ts : List Token) (all : List InputPart) → IsToken kind.Minus minus → parts_after source (at_number before d) ts ≡ Some all → OneRead before d (minus ∷ ts) all
  number_is before d minus [] all is_minus e = absurd (cc)
  number_is before d minus (t ∷ ts) all is_minus e =
      let parts = bound (negate_number (at_number before d) t) (λ r. parts_after source r ts) all e in
      number_by before d minus t ts all parts.0 (is_token kind.Number t) is_minus refl parts.1 parts.2

  one_by : (n : ℕ) → AreReadWithin n → (before : List InputPart) (d : ℕ) (t : Token) (ts : List Token) (all : List InputPart) (later : Reading) → length ts ≤ n → Begins before d t later → parts_after source later ts ≡ Some all
      → OneRead before d (t ∷ ts) all
  one_by n values before d t ts all later within (opens is same) e =
      let v = values (before ++ part.Open ∷ []) d ts all within (ap (λ (r : Reading). parts_after source r ts) same ∙ e) in
      record {
        first = t ∷ (v.inner ++ v.right ∷ []);
        rest = v.rest;
        parts = part.Open ∷ (v.parts ++ part.Close ∷ []);
        split = ap (λ us. t ∷ us) (v.split ∙ sym (append_assoc v.inner (v.right ∷ []) v.rest));
        are = listed t v.right v.inner v.parts is v.are v.closed_by;
        later = ap (λ (ps : List InputPart). parts_after source (at_mark ps d) v.rest) (sym (in_parentheses before v.parts)) ∙ v.later;
      }
  one_by n values before d t ts all later within (signs is same) e = number_is before d t ts all is (ap (λ (r : Reading). parts_after source r ts) same ∙ e)
  one_by n values before d t ts all later within (counts is same) e = record {
    first = t ∷ [];
    rest = ts;
    parts = part.Number t.number ∷ [];
    split = refl;
    are = number t is;
    later = ap (λ (r : Reading). parts_after source r ts) same ∙ e;
  }
  one_by n values before d t ts all later within (spells is same) e = record {
    first = t ∷ [];
    rest = ts;
    parts = part.Word (spelling source t) ∷ [];
    split = refl;
    are = word t is;
    later = ap (λ (r : Reading). parts_after source r ts) same ∙ e;
  }

  one_is : (n : ℕ) → AreReadWithin n → (before : List InputPart) (d : ℕ) (t : Token) (ts : List Token) (all : List InputPart) → length ts ≤ n → parts_after source (at_value before d) (t ∷ ts) ≡ Some all → OneRead before d (t ∷ ts) all
  one_is n values before d t ts all within e =
      let parts = bound (begin_value source (at_value before d) t) (λ r. parts_after source r ts) all e in
      one_by n values before d t ts all parts.0 within (begins before d t parts.0 parts.1) parts.2

  values_end : (n : ℕ) → AreReadWithin n → (before : List InputPart) (d : ℕ) (tokens first : List Token) (parts : List InputPart) (t : Token) (ts : List Token) (all : List InputPart) (later : Reading) → length ts ≤ n
      → tokens ≡ first ++ t ∷ ts → AreOneValue source first parts → Ends (before ++ parts) d t later → parts_after source later ts ≡ Some all → ValuesRead before d tokens all
  values_end n values before d tokens first parts t ts all later within split are (goes_on is same) e =
      let v = values (before ++ parts) d ts all within (ap (λ (r : Reading). parts_after source r ts) same ∙ e) in
      record {
        inner = first ++ t ∷ v.inner;
        right = v.right;
        rest = v.rest;
        parts = parts ++ v.parts;
        split = split ∙ ap (λ us. first ++ t ∷ us) v.split ∙ sym (append_assoc first (t ∷ v.inner) (v.right ∷ v.rest));
        are = next first v.inner t parts v.parts are is v.are;
        closed_by = v.closed_by;
        later = ap (λ (ps : List InputPart). parts_after source (at_mark (ps ++ part.Close ∷ []) d) v.rest) (sym (append_assoc before parts v.parts)) ∙ v.later;
      }
  values_end n values before d tokens first parts t ts all later within split are (closes is same) e = record {
    inner = first;
    right = t;
    rest = ts;
    parts = parts;
    split = split;
    are = last first parts are;
    closed_by = is;
    later = ap (λ (r : Reading). parts_after source r ts) same ∙ e;
  }

  values_by : (n : ℕ) → AreReadWithin n → (before : List InputPart) (d : ℕ) (tokens first rest : List Token) (parts all : List InputPart) → length tokens ≤ suc n
      → tokens ≡ first ++ rest → AreOneValue source first parts → parts_after source (at_mark (before ++ parts) (suc d)) rest ≡ Some all → ValuesRead before d tokens all
  values_by n values before d tokens first [] parts all within split are e = absurd (none_finished (suc d == 0) (before ++ parts) all (inside d) e)
  values_by n values before d tokens first (t ∷ ts) parts all within split are e =
      let end = bound (end_value (at_mark (before ++ parts) (suc d)) t) (λ r. parts_after source r ts) all e in
      values_end n values before d tokens first parts t ts all end.0 (shorter n tokens first t ts within split) split are (ends (before ++ parts) d t end.0 end.1) end.2

  values_are : (n : ℕ) → AreReadWithin n
  values_are n before d [] all within e = absurd (cc)
  values_are zero before d (t ∷ ts) all within e = absurd (omega arith)
  values_are (suc n) before d (t ∷ ts) all within e =
      let one = one_is n (values_are n) before (suc d) t ts all (omega arith) e in
      values_by n (values_are n) before d (t ∷ ts) one.first one.rest one.parts all within one.split one.are one.later

  -- at the end of a value outside of parentheses there is nothing more
  whole_by : (tokens first rest : List Token) (parts all : List InputPart) → tokens ≡ first ++ rest → AreOneValue source first parts → parts_after source (at_mark parts 0) rest ≡ Some all → AreOneValue source tokens all
  whole_by tokens first [] parts all split are e =
      subst (λ (ps : List InputPart). AreOneValue source tokens ps) (some_same parts all e) (subst (λ ts. AreOneValue source ts parts) (sym (split ∙ append-nil first)) are)
  whole_by tokens first (t ∷ ts) parts all split are e = absurd (cc)

  -- the parts that are read are those of the value that the tokens are
  pub parts_are : (tokens : List Token) (parts : List InputPart) → parts_in source tokens ≡ Some parts → AreOneValue source tokens parts
  parts_are [] parts e = absurd (cc)
  parts_are (t ∷ ts) parts e =
      let one = one_is (length ts) (values_are (length ts)) [] 0 t ts parts (omega arith) e in
      whole_by (t ∷ ts) one.first one.rest one.parts parts one.split one.are one.later
