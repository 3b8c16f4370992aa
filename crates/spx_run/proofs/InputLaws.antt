-- A text of inputs is read in one way, and in some way.
use Rattle.std.proofs.Common.{◌≡◌, ◌⊎◌, inl, inr, ⊎_elim, ℕ, suc, List, [], ◌∷◌, Option, Some, None, Ok, Err, refl, sym, ap, ap₂, ◌∙◌}
use Rattle.spx_text.specs.declared.place.Place.{Place}
use Rattle.spx_tree.specs.declared.token.Token.{Token}
use Rattle.spx_tree.specs.Spells.{Spells}
use Rattle.spx_tree.specs.Stops.{Cause, too_wide, StopsAt, HasMoreTokens, most_tokens}
use Rattle.spx_lexer.specs.Least.{EndsInLeast}
use Rattle.spx_run.specs.declared.inputs.InputLine.{InputLine}
use Rattle.spx_run.specs.Lines.{lines_of}
use Rattle.spx_run.specs.Inputs.{AreLines, IsFirstBad}
use Rattle.spx_run.specs.Laws.{OneReading, SomeReading}
use Rattle.spx_run.specs.Mirror.{IsReadAs, line_in, least_line}
use Rattle.spx_run.proofs.ReadingLaws.{OneSpelling, OneLeast, NeverBoth, one_line, read_as, least_as, unspelled}

-- ---- laws of the lexer

abbrev pub SomeSpelling : Type 0
SomeSpelling =
    (file : ℕ) (bytes : List ℕ)
    → ((tokens : List Token) × Spells file bytes tokens × (¬ HasMoreTokens most_tokens file bytes))
    ⊎ (((cause : Cause) × (place : Place) × StopsAt file bytes cause place × (¬ HasMoreTokens most_tokens file bytes)) ⊎ HasMoreTokens most_tokens file bytes)

abbrev pub StoppedUnspelled : Type 0
StoppedUnspelled = (file : ℕ) (bytes : List ℕ) (cause : Cause) (place : Place) (tokens : List Token) → StopsAt file bytes cause place → Spells file bytes tokens → ⊥

abbrev pub LeastStopped : Type 0
LeastStopped = (file : ℕ) (bytes : List ℕ) (tokens : List Token) → EndsInLeast file bytes tokens → (place : Place) × StopsAt file bytes too_wide place

abbrev pub SomeLeast : Type 0
SomeLeast = (file : ℕ) (bytes : List ℕ) → ((tokens : List Token) × EndsInLeast file bytes tokens) ⊎ ((tokens : List Token) → ¬ EndsInLeast file bytes tokens)

never_both : StoppedUnspelled → LeastStopped → (bytes : List ℕ) → NeverBoth bytes
never_both stopped least bytes a b ends spells = let stop = least 0 bytes a ends in stopped 0 bytes too_wide stop.0 b stop.1 spells

-- ---- one way

module _ (one : OneSpelling) (only : OneLeast) (never : (bytes : List ℕ) → NeverBoth bytes) where
  one_list : (n : ℕ) (texts : List (List ℕ)) (a b : List InputLine) → AreLines n texts a → AreLines n texts b → a ≡ b
  one_list n [] [] [] is_a is_b = refl
  one_list n [] [] (y ∷ ys) is_a is_b = absurd is_b
  one_list n [] (x ∷ xs) b is_a is_b = absurd is_a
  one_list n (text ∷ texts) [] b is_a is_b = absurd is_a
  one_list n (text ∷ texts) (x ∷ xs) [] is_a is_b = absurd is_b
  one_list n (text ∷ texts) (x ∷ xs) (y ∷ ys) is_a is_b =
      ap₂ (λ (l : InputLine) ls. l ∷ ls) (one_line one only text (never text) x y is_a.0 is_b.0 (is_a.1 ∙ sym is_b.1)) (one_list (suc n) texts xs ys is_a.2 is_b.2)

-- lines that all are lines have no first one that is none
not_both : (n : ℕ) (texts : List (List ℕ)) (a : List InputLine) (bad : ℕ) → AreLines n texts a → IsFirstBad n texts bad → ⊥
not_both n [] a bad lines first = first
not_both n (text ∷ texts) [] bad lines first = lines
not_both n (text ∷ texts) (x ∷ xs) bad lines (inl here) = here.1 x lines.0
not_both n (text ∷ texts) (x ∷ xs) bad lines (inr later) = not_both (suc n) texts xs bad lines.2 later.1

one_bad : (n : ℕ) (texts : List (List ℕ)) (a b : ℕ) → IsFirstBad n texts a → IsFirstBad n texts b → a ≡ b
one_bad n [] a b is_a is_b = absurd is_a
one_bad n (text ∷ texts) a b (inl here) (inl also) = here.0 ∙ sym also.0
one_bad n (text ∷ texts) a b (inl here) (inr later) = absurd (here.1 later.0.0 later.0.1)
one_bad n (text ∷ texts) a b (inr later) (inl here) = absurd (here.1 later.0.0 later.0.1)
one_bad n (text ∷ texts) a b (inr later) (inr also) = one_bad (suc n) texts a b later.1 also.1

pub one_reading : OneSpelling → OneLeast → StoppedUnspelled → LeastStopped → OneReading
one_reading one only stopped least bytes (Ok a) (Ok b) is_a is_b = ap Ok (one_list one only (never_both stopped least) 1 (lines_of bytes) a b is_a is_b)
one_reading one only stopped least bytes (Ok a) (Err b) is_a is_b = absurd (not_both 1 (lines_of bytes) a b is_a is_b)
one_reading one only stopped least bytes (Err a) (Ok b) is_a is_b = absurd (not_both 1 (lines_of bytes) b a is_b is_a)
one_reading one only stopped least bytes (Err a) (Err b) is_a is_b = ap Err (one_bad 1 (lines_of bytes) a b is_a is_b)

-- ---- some way

module _ (one : OneSpelling) (only : OneLeast) (stopped : StoppedUnspelled) (least : LeastStopped) (some : SomeSpelling) (some_least : SomeLeast) where
  -- bytes that are stopped are a line whose value is the least one, or none
  read_stopped : (n : ℕ) (bytes : List ℕ) (cause : Cause) (place : Place) → StopsAt 0 bytes cause place → ¬ HasMoreTokens most_tokens 0 bytes → (found : Option InputLine) × IsReadAs n bytes found
  read_stopped n bytes cause place stop few =
      let unspelled_here : (tokens : List Token) → ¬ Spells 0 bytes tokens = λ tokens is. stopped 0 bytes cause place tokens stop is in
      ⊎_elim
      (λ ends. (least_line n bytes ends.0, least_as only n bytes unspelled_here ends.0 ends.1 few (least_line n bytes ends.0) refl))
      (λ never. (None, unspelled n bytes (λ tokens is _. unspelled_here tokens is) (λ tokens ends _. never tokens ends)))
      (some_least 0 bytes)

  -- bytes are a line or none
  read_line : (n : ℕ) (bytes : List ℕ) → (found : Option InputLine) × IsReadAs n bytes found
  read_line n bytes =
      ⊎_elim
      (λ spelled. (line_in n bytes spelled.0, read_as one n bytes (λ others ends. never_both stopped least bytes others spelled.0 ends spelled.1) spelled.0 spelled.1 spelled.2 (line_in n bytes spelled.0) refl))
      (λ others. ⊎_elim
      (λ stop. read_stopped n bytes stop.0 stop.1 stop.2 stop.3)
      (λ many. (None, unspelled n bytes (λ tokens is few. few many) (λ tokens ends few. few many)))
      others)
      (some 0 bytes)

  abbrev SomeLines : ℕ → List (List ℕ) → Type 0
  SomeLines n texts = ((lines : List InputLine) × AreLines n texts lines) ⊎ ((bad : ℕ) × IsFirstBad n texts bad)

  some_lines_by : (n : ℕ) (text : List ℕ) (texts : List (List ℕ)) → (found : Option InputLine) → IsReadAs n text found → SomeLines (suc n) texts → SomeLines n (text ∷ texts)
  some_lines_by n text texts None never rest = inr (n, inl (refl, never))
  some_lines_by n text texts (Some line) is (inl rest) = inl (line ∷ rest.0, (is.0, is.1, rest.1))
  some_lines_by n text texts (Some line) is (inr rest) = inr (rest.0, inr ((line, is.0), rest.1))

  some_lines : (n : ℕ) (texts : List (List ℕ)) → SomeLines n texts
  some_lines n [] = inl ([], tt)
  some_lines n (text ∷ texts) = let read = read_line n text in some_lines_by n text texts read.0 read.1 (some_lines (suc n) texts)

  pub some_reading : SomeReading
  some_reading bytes = ⊎_elim (λ all. (Ok all.0, all.1)) (λ first. (Err first.0, first.1)) (some_lines 1 (lines_of bytes))
