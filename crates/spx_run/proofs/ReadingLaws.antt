-- What tokens are read as is what their line says.
use Rattle.std.proofs.Common.{◌≡◌, ℕ, ◌^◌, pos, Bool, true, false, ◌&&◌, List, [], ◌∷◌, Option, Some, None, refl, sym, ap, ap₂, ◌∙◌}
use Rattle.std.specs.Prelude.{◌-ℤ◌, if◌then◌else◌, option_map, IfOk, Result, Ok, Err}
use Rattle.spx_tree.specs.declared.token.Kind.TheVariants as kind
use Rattle.spx_tree.specs.declared.token.Token.{Token}
use Rattle.spx_tree.specs.Form.{spelling}
use Rattle.spx_tree.specs.Spells.{Spells}
use Rattle.spx_tree.specs.Stops.{HasMoreTokens, most_tokens}
use Rattle.spx_lexer.specs.Least.{EndsInLeast}
use Rattle.spx_run.specs.declared.inputs.InputValue.{InputValue}
use Rattle.spx_run.specs.declared.inputs.InputValue.TheVariants.{Number}
use Rattle.spx_run.specs.declared.inputs.InputPart.{InputPart}
use Rattle.spx_run.specs.declared.inputs.InputLine.{InputLine}
use Rattle.spx_run.specs.Inputs.{IsValue, value_of, IsSpelled, IsLeast, IsLine, spelled, least}
use Rattle.spx_run.specs.Mirror.{is_token, parts_in, value_in, named_value, line_in, least_line, IsReadAs}
use Rattle.spx_run.proofs.TokenLaws.{token_is, token_tested}
use Rattle.spx_run.proofs.PartLaws.{parts_are, parts_found}

-- ---- values

some_is : {X : Type 0} (x y : X) → Some x ≡ Some y → y ≡ x
some_is x y e = cc

-- the value that is found is one that the tokens say
value_by : (source : List ℕ) (tokens : List Token) (value : InputValue) (found : Option (List InputPart)) → parts_in source tokens ≡ found → option_map value_of found ≡ Some value → IsValue source tokens value
value_by source tokens value (Some parts) is e = record { parts = parts; written = parts_are source tokens parts is; valued = some_is (value_of parts) value e }
value_by source tokens value None is e = absurd cc

value_is : (source : List ℕ) (tokens : List Token) (value : InputValue) → value_in source tokens ≡ Some value → IsValue source tokens value
value_is source tokens value e = value_by source tokens value (parts_in source tokens) refl e

-- each value that the tokens say is found
value_found : (source : List ℕ) (tokens : List Token) (value : InputValue) → IsValue source tokens value → value_in source tokens ≡ Some value
value_found source tokens value is = ap (option_map value_of) (parts_found source tokens is.parts is.written) ∙ ap Some (sym is.valued)

-- ---- lines

-- the line whose value is found
named : (n : ℕ) (name : List ℕ) (found : Option InputValue) (line : InputLine) → named_value n name found ≡ Some line → (line.line ≡ n) × (line.name ≡ name) × (found ≡ Some line.value)
named n name (Some value) line e =
    let is : line ≡ record { line = n; name = name; value = value } = some_is (record { line = n; name = name; value = value }) line e in
    (ap (λ (l : InputLine). l.line) is, ap (λ (l : InputLine). l.name) is, ap (λ (l : InputLine). Some l.value) (sym is))
named n name None line e = absurd cc

line_by : (n : ℕ) (source : List ℕ) (t equal : Token) (value : List Token) (line : InputLine) → Spells 0 source (t ∷ equal ∷ value) → ¬ HasMoreTokens most_tokens 0 source
    → (a b : Bool) → is_token kind.Identifier t ≡ a → is_token kind.Equal equal ≡ b
    → (if a && b then named_value n (spelling source t) (value_in source value) else None) ≡ Some line → IsLine source line × (line.line ≡ n)
line_by n source t equal value line spells few true true is_name is_equal e =
    let parts = named n (spelling source t) (value_in source value) line e in (
      spelled (record {
        name = t;
        equal = equal;
        value = value;
        spelled = spells;
        few = few;
        is_name = token_is kind.Identifier t is_name;
        is_equal = token_is kind.Equal equal is_equal;
        named = parts.1;
        valued = value_is source value line.value parts.2;
      }),
      parts.0,
    )
line_by n source t equal value line spells few true false is_name is_equal e = absurd cc
line_by n source t equal value line spells few false b is_name is_equal e = absurd cc

pub line_is : (n : ℕ) (source : List ℕ) (tokens : List Token) (line : InputLine) → Spells 0 source tokens → ¬ HasMoreTokens most_tokens 0 source → line_in n source tokens ≡ Some line → IsLine source line × (line.line ≡ n)
line_is n source [] line spells few e = absurd cc
line_is n source (t ∷ []) line spells few e = absurd cc
line_is n source (t ∷ equal ∷ value) line spells few e = line_by n source t equal value line spells few (is_token kind.Identifier t) (is_token kind.Equal equal) refl refl e

-- a line that bytes are is found among its tokens
pub line_found : (source : List ℕ) (line : InputLine) (is : IsSpelled source line) → line_in line.line source (is.name ∷ is.equal ∷ is.value) ≡ Some line
line_found source line is =
    ap₂ (λ a b. if a && b then named_value line.line (spelling source is.name) (value_in source is.value) else None) (token_tested kind.Identifier is.name is.is_name) (token_tested kind.Equal is.equal is.is_equal)
    ∙ ap₂ (λ (name : List ℕ) found. named_value line.line name found) (sym is.named) (value_found source is.value line.value is.valued)

-- ---- lines whose value is the least one

least_by : (n : ℕ) (source : List ℕ) (t equal minus : Token) (line : InputLine) → EndsInLeast 0 source (t ∷ equal ∷ minus ∷ []) → ¬ HasMoreTokens most_tokens 0 source
    → (a b c : Bool) → is_token kind.Identifier t ≡ a → is_token kind.Equal equal ≡ b → is_token kind.Minus minus ≡ c
    → (if a && b && c then Some (record { line = n; name = spelling source t; value = Number (pos 0 -ℤ pos (2 ^ 127)) }) else None) ≡ Some line → IsLine source line × (line.line ≡ n)
least_by n source t equal minus line ends few true true true is_name is_equal is_minus e =
    let is : line ≡ record { line = n; name = spelling source t; value = Number (pos 0 -ℤ pos (2 ^ 127)) } = some_is (record { line = n; name = spelling source t; value = Number (pos 0 -ℤ pos (2 ^ 127)) }) line e in (
      least (record {
        name = t;
        equal = equal;
        minus = minus;
        ends = ends;
        few = few;
        is_name = token_is kind.Identifier t is_name;
        is_equal = token_is kind.Equal equal is_equal;
        is_minus = token_is kind.Minus minus is_minus;
        named = ap (λ (l : InputLine). l.name) is;
        valued = ap (λ (l : InputLine). l.value) is;
      }),
      ap (λ (l : InputLine). l.line) is,
    )
least_by n source t equal minus line ends few true true false is_name is_equal is_minus e = absurd cc
least_by n source t equal minus line ends few true false c is_name is_equal is_minus e = absurd cc
least_by n source t equal minus line ends few false b c is_name is_equal is_minus e = absurd cc

least_is : (n : ℕ) (source : List ℕ) (tokens : List Token) (line : InputLine) → EndsInLeast 0 source tokens → ¬ HasMoreTokens most_tokens 0 source → least_line n source tokens ≡ Some line → IsLine source line × (line.line ≡ n)
least_is n source [] line ends few e = absurd cc
least_is n source (t ∷ []) line ends few e = absurd cc
least_is n source (t ∷ equal ∷ []) line ends few e = absurd cc
least_is n source (t ∷ equal ∷ minus ∷ []) line ends few e = least_by n source t equal minus line ends few (is_token kind.Identifier t) (is_token kind.Equal equal) (is_token kind.Minus minus) refl refl refl e
least_is n source (t ∷ equal ∷ minus ∷ u ∷ more) line ends few e = absurd cc

least_rule : ℕ → Bool → Bool → Bool → List ℕ → InputValue → Option InputLine
least_rule n a b c name value = if a && b && c then Some (record { line = n; name = name; value = value }) else None

least_found : (n : ℕ) (source : List ℕ) (line : InputLine) (is : IsLeast source line) → least_line n source (is.name ∷ is.equal ∷ is.minus ∷ []) ≡ Some (record { line = n; name = line.name; value = line.value })
unfolding least_rule
least_found n source line is =
    let value : InputValue = Number (pos 0 -ℤ pos (2 ^ 127)) in
    ap₂ (λ (a b : Bool). least_rule n a b (is_token kind.Minus is.minus) (spelling source is.name) value) (token_tested kind.Identifier is.name is.is_name) (token_tested kind.Equal is.equal is.is_equal)
    ∙ ap₂ (λ (c : Bool) (name : List ℕ). least_rule n true true c name value) (token_tested kind.Minus is.minus is.is_minus) (sym is.named)
    ∙ ap (λ (v : InputValue). least_rule n true true true line.name v) (sym is.valued)

-- ---- the same bytes are one line

abbrev pub OneSpelling : Type 0
OneSpelling = (file : ℕ) (bytes : List ℕ) (a b : List Token) → Spells file bytes a → Spells file bytes b → a ≡ b

abbrev pub OneLeast : Type 0
OneLeast = (file : ℕ) (bytes : List ℕ) (a b : List Token) → EndsInLeast file bytes a → EndsInLeast file bytes b → a ≡ b

-- a line with another number
numbered : (n : ℕ) (source : List ℕ) (line : InputLine) (is : IsSpelled source line) → line_in n source (is.name ∷ is.equal ∷ is.value) ≡ Some (record { line = n; name = line.name; value = line.value })
numbered n source line is =
    line_found source (record { line = n; name = line.name; value = line.value }) (record { name = is.name; equal = is.equal; value = is.value; spelled = is.spelled; few = is.few; is_name = is.is_name; is_equal = is.is_equal; named = is.named; valued = is.valued })

not_found : {X : Type 0} (o : Option X) (x : X) → o ≡ Some x → o ≡ None → ⊥
not_found o x is none = absurd cc

-- no tokens spell a text that ends in 2**127
abbrev pub NeverBoth : List ℕ → Type 0
NeverBoth source = (a b : List Token) → EndsInLeast 0 source a → Spells 0 source b → ⊥

-- two lines with one number that the same bytes are
pub one_line : OneSpelling → OneLeast → (source : List ℕ) → NeverBoth source → (a b : InputLine) → IsLine source a → IsLine source b → a.line ≡ b.line → a ≡ b
one_line one only source never a b (spelled is_a) (spelled is_b) same =
    let tokens = one 0 source (is_a.name ∷ is_a.equal ∷ is_a.value) (is_b.name ∷ is_b.equal ∷ is_b.value) is_a.spelled is_b.spelled in
    let both : Some a ≡ Some b = sym (line_found source a is_a) ∙ ap₂ (λ n ts. line_in n source ts) same tokens ∙ line_found source b is_b in
    some_is b a (sym both)
one_line one only source never a b (least is_a) (least is_b) same =
    let tokens = only 0 source (is_a.name ∷ is_a.equal ∷ is_a.minus ∷ []) (is_b.name ∷ is_b.equal ∷ is_b.minus ∷ []) is_a.ends is_b.ends in
    let both : Some a ≡ Some b = sym (least_found a.line source a is_a) ∙ ap₂ (λ n ts. least_line n source ts) same tokens ∙ least_found b.line source b is_b in
    some_is b a (sym both)
one_line one only source never a b (spelled is_a) (least is_b) same = absurd (never _ _ is_b.ends is_a.spelled)
one_line one only source never a b (least is_a) (spelled is_b) same = absurd (never _ _ is_a.ends is_b.spelled)

-- bytes that tokens spell which say no line are none
unsaid : OneSpelling → (n : ℕ) (source : List ℕ) → ((others : List Token) → ¬ EndsInLeast 0 source others) → (tokens : List Token) → Spells 0 source tokens → line_in n source tokens ≡ None → (line : InputLine) → IsLine source line → ⊥
unsaid one n source never tokens spells nothing line (spelled is) =
    let same = one 0 source (is.name ∷ is.equal ∷ is.value) tokens is.spelled spells in
    not_found (line_in n source (is.name ∷ is.equal ∷ is.value)) (record { line = n; name = line.name; value = line.value }) (numbered n source line is) (ap (line_in n source) same ∙ nothing)
unsaid one n source never tokens spells nothing line (least is) = never (is.name ∷ is.equal ∷ is.minus ∷ []) is.ends

-- tokens that spell bytes say what line these are
pub read_as : OneSpelling → (n : ℕ) (source : List ℕ) → ((others : List Token) → ¬ EndsInLeast 0 source others) → (tokens : List Token) → Spells 0 source tokens → ¬ HasMoreTokens most_tokens 0 source
    → (found : Option InputLine) → found ≡ line_in n source tokens → IsReadAs n source found
read_as one n source never tokens spells few (Some line) e = line_is n source tokens line spells few (sym e)
read_as one n source never tokens spells few None e = unsaid one n source never tokens spells (sym e)

-- bytes that end in 2**127 after tokens which say no line are none
least_unsaid : OneLeast → (n : ℕ) (source : List ℕ) → ((others : List Token) → ¬ Spells 0 source others) → (tokens : List Token) → EndsInLeast 0 source tokens → least_line n source tokens ≡ None → (line : InputLine) → IsLine source line → ⊥
least_unsaid only n source never tokens ends nothing line (spelled is) = never (is.name ∷ is.equal ∷ is.value) is.spelled
least_unsaid only n source never tokens ends nothing line (least is) =
    let same = only 0 source (is.name ∷ is.equal ∷ is.minus ∷ []) tokens is.ends ends in
    not_found (least_line n source (is.name ∷ is.equal ∷ is.minus ∷ [])) (record { line = n; name = line.name; value = line.value }) (least_found n source line is) (ap (least_line n source) same ∙ nothing)

-- tokens before 2**127 say what line these bytes are
pub least_as : OneLeast → (n : ℕ) (source : List ℕ) → ((others : List Token) → ¬ Spells 0 source others) → (tokens : List Token) → EndsInLeast 0 source tokens → ¬ HasMoreTokens most_tokens 0 source
    → (found : Option InputLine) → found ≡ least_line n source tokens → IsReadAs n source found
least_as only n source never tokens ends few (Some line) e = least_is n source tokens line ends few (sym e)
least_as only n source never tokens ends few None e = least_unsaid only n source never tokens ends (sym e)

-- bytes that no tokens spell, and that do not end in 2**127, are no line
pub unspelled : (n : ℕ) (source : List ℕ) → ((tokens : List Token) → Spells 0 source tokens → ¬ HasMoreTokens most_tokens 0 source → ⊥) → ((tokens : List Token) → EndsInLeast 0 source tokens → ¬ HasMoreTokens most_tokens 0 source → ⊥) → IsReadAs n source None
unspelled n source never also line (spelled is) = never (is.name ∷ is.equal ∷ is.value) is.spelled is.few
unspelled n source never also line (least is) = also (is.name ∷ is.equal ∷ is.minus ∷ []) is.ends is.few

-- ---- results

-- what a call answers has what follows from what it ensures
pub if_ok : {X E : Type 0} (r : Result X E) (P Q : X → Type 0) → ((x : X) → P x → Q x) → IfOk r P → IfOk r Q
if_ok (Ok x) P Q follows is = follows x is
if_ok (Err e) P Q follows is = tt
