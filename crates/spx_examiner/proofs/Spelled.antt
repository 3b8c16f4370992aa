-- The one program that a file spells, and the one reading of its text.
use Rattle.std.proofs.Common.{◌≡◌, ℕ, List, [], ◌∷◌, ◌++◌, Ok, Err, inl, inr, length, refl, sym, ap, ap₂, subst, ◌∙◌}
use Rattle.std.specs.Prelude.{◌⊎◌, Result, IfOk}
use Rattle.std.proofs.lemmas.List.{append-nil, append_assoc}
use Rattle.spx_text.specs.declared.place.Place.{Place}
use Rattle.spx_tree.specs.declared.token.Token.{Token}
use Rattle.spx_tree.specs.declared.subprogram.Unit.{Unit}
use Rattle.spx_tree.specs.Places.{place_after_bytes}
use Rattle.spx_tree.specs.Spells.{Spells}
use Rattle.spx_tree.specs.Stops.{Cause, StopsAt, HasMoreTokens, most_tokens}
use Rattle.spx_tree.specs.Form.{Form, forms_of}
use Rattle.spx_tree.specs.Written.{written}
use Rattle.spx_tree.specs.Grammar.{IsFile}
use Rattle.spx_tree.specs.Goes as goes
use Rattle.spx_tree.specs.Goes.{Fault, Expected, TooDeep, Begins, Ends, Answers, place_with}
use Rattle.spx_core.specs.declared.program.Program.{Program}
use Rattle.spx_core.specs.Erased.{erased}
use Rattle.spx_report.specs.declared.report.Finding.{Finding}
use Rattle.spx_examiner.specs.declared.reading.Reading.{Reading}
use Rattle.spx_examiner.specs.declared.reading.Reading.TheVariants.{Units, Broken, TooManyTokens, TooNested}
use Rattle.spx_examiner.specs.Reading.{stopped_at, expected_at, GoesNoFurther, AreTokens, IsRead, crowded, stopped, ended, nested, whole}
use Rattle.spx_core.specs.Contents.{Is, IsText, AreTexts, IsMadeFrom}
use Rattle.spx_examiner.specs.Laws.{Parsed, OneSpelling, OneStop, OneAnswer, OneTree}

-- ---- texts

-- the units of one file are all
pub one_file_is_all : (bytes : List ℕ) (units : List Unit) → IsText 0 bytes units → AreTexts 0 (bytes ∷ []) units
one_file_is_all bytes units text = (units, [], sym (append-nil units), text, refl)

pub all_is_one_file : (bytes : List ℕ) (units : List Unit) → AreTexts 0 (bytes ∷ []) units → IsText 0 bytes units
all_is_one_file bytes units (front, following, parts, text, none) = subst (IsText 0 bytes) (sym (parts ∙ ap (λ (us : List Unit). front ++ us) none ∙ append-nil front)) text

-- the units of a text are written with the tokens that spell it
pub forms_of_text : OneSpelling → (bytes : List ℕ) (tokens : List Token) (units : List Unit) → Spells 0 bytes tokens → IsText 0 bytes units → written units ≡ forms_of bytes tokens
forms_of_text one bytes tokens units spelled text = text.as_written ∙ ap (forms_of bytes) (one 0 bytes text.tokens tokens text.spelled spelled)

-- a text has one list of units
pub one_text : OneSpelling → OneTree → (bytes : List ℕ) (a b : List Unit) → IsText 0 bytes a → IsText 0 bytes b → a ≡ b
one_text one tree bytes a b s t = tree s.levels t.levels a b s.grammatical t.grammatical (forms_of_text one bytes t.tokens a t.spelled s ∙ sym t.as_written)

-- what is read whole is a text
pub text_of_whole : (bytes : List ℕ) (tokens : List Token) (units : List Unit) → Spells 0 bytes tokens → goes.IsText written IsFile 200 (forms_of bytes tokens) [] units → IsText 0 bytes units
text_of_whole bytes tokens units spelled text = record {
  tokens = tokens;
  spelled = spelled;
  levels = 200;
  grammatical = text.fit;
  as_written = sym (text.parts ∙ append-nil text.taken ∙ text.text);
}

-- a program that is made from the units of a file is spelled by it
pub spelled_by : (bytes : List ℕ) (units : List Unit) (p : Program) → IsText 0 bytes units → IsMadeFrom units p → Is (bytes ∷ []) p
spelled_by bytes units p text made = record {
  texts = one_file_is_all bytes (erased p) (subst (IsText 0 bytes) (sym made.made) text);
  visible = made.visible;
  typed = made.typed;
}

pub units_spelled : (bytes : List ℕ) (p : Program) → Is (bytes ∷ []) p → IsText 0 bytes (erased p)
units_spelled bytes p spelled = all_is_one_file bytes (erased p) spelled.texts

-- ---- a text goes on to its end

not_ended : (taken : List Form) (f : Form) (rest : List Form) (n : ℕ) (units : List Unit) → Ends written IsFile taken (f ∷ rest) → IsFile n units → ¬ (taken ++ f ∷ rest ≡ written units)
not_ended taken f rest n units ends fit is = ends n (rest, units, fit, append_assoc taken (f ∷ []) rest ∙ is)

not_before : (taken rest : List Form) (n : ℕ) (units : List Unit) → ((m : ℕ) (x : List Unit) → IsFile m x → ¬ (taken ≡ written x)) → Ends written IsFile taken rest → IsFile n units → ¬ (taken ++ rest ≡ written units)
not_before taken [] n units none ends fit is = none n units fit (sym (append-nil taken) ∙ is)
not_before taken (f ∷ rest) n units none ends fit is = not_ended taken f rest n units ends fit is

pub goes_on : (fs : List Form) (left n : ℕ) (units : List Unit) → GoesNoFurther fs left → IsFile n units → ¬ (fs ≡ written units)
goes_on fs left n units (inl e) fit is = not_before e.taken e.rest n units e.no_text e.ends fit (sym e.parts ∙ is)
goes_on fs left n units (inr (f, rest, x, text, count)) fit is = not_ended text.taken f rest n units text.ends fit (sym text.parts ∙ is)

-- ---- one reading

-- what an answer of syntax comes to
reading_by : List ℕ → List Token → Parsed → Reading
reading_by bytes tokens (Ok (units, [])) = Units units
reading_by bytes tokens (Ok (units, f ∷ rest)) = Broken (expected_at (place_with (place_after_bytes 0 bytes) tokens (length (f ∷ rest))))
reading_by bytes tokens (Err (Expected left)) = Broken (expected_at (place_with (place_after_bytes 0 bytes) tokens left))
reading_by bytes tokens (Err (TooDeep left)) = TooNested

record IsParsed (bytes : List ℕ) (reading : Reading) : Type 0 where
  tokens : List Token
  lexed : AreTokens bytes tokens
  answer : Parsed
  answers : Answers written IsFile 200 (forms_of bytes tokens) answer
  is : reading ≡ reading_by bytes tokens answer

ended_is_parsed : (bytes : List ℕ) (reading : Reading) (tokens : List Token) (left : ℕ) → AreTokens bytes tokens → GoesNoFurther (forms_of bytes tokens) left → reading ≡ Broken (expected_at (place_with (place_after_bytes 0 bytes) tokens left)) → IsParsed bytes reading
unfolding reading_by
ended_is_parsed bytes reading tokens left spelled (inl e) is = record { tokens = tokens; lexed = spelled; answer = Err (Expected left); answers = e; is = is }
ended_is_parsed bytes reading tokens left spelled (inr (f, rest, units, text, count)) is = record {
  tokens = tokens;
  lexed = spelled;
  answer = Ok (units, f ∷ rest);
  answers = text;
  is = is ∙ ap (λ (n : ℕ). Broken (expected_at (place_with (place_after_bytes 0 bytes) tokens n))) count;
}

nested_is_parsed : (bytes : List ℕ) (reading : Reading) (tokens : List Token) (left : ℕ) → AreTokens bytes tokens → goes.IsTooDeep written IsFile 200 (forms_of bytes tokens) left → reading ≡ TooNested → IsParsed bytes reading
unfolding reading_by
nested_is_parsed bytes reading tokens left spelled deep is = record { tokens = tokens; lexed = spelled; answer = Err (TooDeep left); answers = deep; is = is }

whole_is_parsed : (bytes : List ℕ) (reading : Reading) (tokens : List Token) (units : List Unit) → AreTokens bytes tokens → goes.IsText written IsFile 200 (forms_of bytes tokens) [] units → reading ≡ Units units → IsParsed bytes reading
unfolding reading_by
whole_is_parsed bytes reading tokens units spelled text is = record { tokens = tokens; lexed = spelled; answer = Ok (units, []); answers = text; is = is }

one_parsed : OneSpelling → OneAnswer → (bytes : List ℕ) (r s : Reading) → IsParsed bytes r → IsParsed bytes s → r ≡ s
one_parsed one answer bytes r s a b =
    let tokens : a.tokens ≡ b.tokens = one 0 bytes a.tokens b.tokens a.lexed.spelled b.lexed.spelled in
    let answers = subst (λ (ts : List Token). Answers written IsFile 200 (forms_of bytes ts) b.answer) (sym tokens) b.answers in
    a.is ∙ ap₂ (reading_by bytes) tokens (answer bytes a.tokens a.answer b.answer a.answers answers) ∙ sym b.is

parsed_is_not_stopped : OneStop → (bytes : List ℕ) (s : Reading) (c : Cause) (p : Place) → StopsAt 0 bytes c p → ¬ IsParsed bytes s
parsed_is_not_stopped stop bytes s c p at b = stop.unspelled 0 bytes c p b.tokens at b.lexed.spelled

-- a text has too many tokens, or it is stopped, or it is parsed
data Phase (bytes : List ℕ) (reading : Reading) : Type 0 where
  overflows : HasMoreTokens most_tokens 0 bytes → reading ≡ TooManyTokens → Phase bytes reading
  stops : (cause : Cause) (place : Place) → StopsAt 0 bytes cause place → ¬ HasMoreTokens most_tokens 0 bytes → reading ≡ Broken (stopped_at cause place) → Phase bytes reading
  parses : IsParsed bytes reading → Phase bytes reading

phase_of : (bytes : List ℕ) (reading : Reading) → IsRead bytes reading → Phase bytes reading
phase_of bytes reading (crowded many is) = overflows many is
phase_of bytes reading (stopped cause place at few is) = stops cause place at few is
phase_of bytes reading (ended tokens left spelled further is) = parses (ended_is_parsed bytes reading tokens left spelled further is)
phase_of bytes reading (nested tokens left spelled deep is) = parses (nested_is_parsed bytes reading tokens left spelled deep is)
phase_of bytes reading (whole tokens units spelled text is) = parses (whole_is_parsed bytes reading tokens units spelled text is)

one_phase : OneSpelling → OneStop → OneAnswer → (bytes : List ℕ) (r s : Reading) → Phase bytes r → Phase bytes s → r ≡ s
one_phase one stop answer bytes r s (overflows many is) (overflows many' is') = is ∙ sym is'
one_phase one stop answer bytes r s (overflows many is) (stops d q at few is') = absurd (few many)
one_phase one stop answer bytes r s (overflows many is) (parses b) = absurd (b.lexed.few many)
one_phase one stop answer bytes r s (stops c p at few is) (overflows many is') = absurd (few many)
one_phase one stop answer bytes r s (stops c p at few is) (stops d q at' few' is') =
    is ∙ ap₂ (λ (cause : Cause) (place : Place). Broken (stopped_at cause place)) (stop.cause 0 bytes c d p q at at') (stop.place 0 bytes c d p q at at') ∙ sym is'
one_phase one stop answer bytes r s (stops c p at few is) (parses b) = absurd (parsed_is_not_stopped stop bytes s c p at b)
one_phase one stop answer bytes r s (parses a) (overflows many is) = absurd (a.lexed.few many)
one_phase one stop answer bytes r s (parses a) (stops d q at few is) = absurd (parsed_is_not_stopped stop bytes r d q at a)
one_phase one stop answer bytes r s (parses a) (parses b) = one_parsed one answer bytes r s a b

-- lexis and syntax say one thing of a text
pub one_reading : OneSpelling → OneStop → OneAnswer → (bytes : List ℕ) (r s : Reading) → IsRead bytes r → IsRead bytes s → r ≡ s
one_reading one stop answer bytes r s a b = one_phase one stop answer bytes r s (phase_of bytes r a) (phase_of bytes s b)

-- where syntax expects another token
pub expected_is_read : (bytes : List ℕ) (tokens : List Token) (end place : Place) (found : Finding) → AreTokens bytes tokens → end ≡ place_after_bytes 0 bytes → ((left : ℕ) × goes.IsExpected written IsFile 200 (forms_of bytes tokens) left × (place ≡ place_with end tokens left)) ⊎ ((f : Form) × (rest : List Form) × (units : List Unit) × goes.IsText written IsFile 200 (forms_of bytes tokens) (f ∷ rest) units × (place ≡ place_with end tokens (length (f ∷ rest)))) → found ≡ expected_at place → IsRead bytes (Broken found)
expected_is_read bytes tokens end place found spelled at_end (inl (left, e, at)) is =
    ended tokens left spelled (inl e) (ap (λ f. Broken f) (is ∙ ap expected_at (at ∙ ap (λ (p : Place). place_with p tokens left) at_end)))
expected_is_read bytes tokens end place found spelled at_end (inr (f, rest, units, text, at)) is =
    ended tokens (length (f ∷ rest)) spelled (inr (f, rest, units, text, refl)) (ap (λ f. Broken f) (is ∙ ap expected_at (at ∙ ap (λ (p : Place). place_with p tokens (length (f ∷ rest))) at_end)))

-- what holds of a result in place of another fact
pub if_ok : {A E : Type 0} (r : Result A E) (P Q : A → Type 0) → ((x : A) → P x → Q x) → IfOk r P → IfOk r Q
if_ok (Ok x) P Q f h = f x h
if_ok (Err e) P Q f h = h
