-- What the functions of the parser answer.
use Rattle.std.specs.Prelude.{◌≡◌, ◌⊎◌, ⊤, ℕ, ◌≤◌, Bool, List, [], ◌∷◌, length, drop, Result, Ok, Err}
use Rattle.spx_text.specs.declared.place.Place.{Place}
use Rattle.spx_tree.specs.declared.token.Token.{Token}
use Rattle.spx_tree.specs.Form.{Form, forms_of}
use Rattle.spx_tree.specs.Written.{program}
use Rattle.spx_tree.specs.Goes.{IsText, IsExpected, IsTooDeep, place_with}
use Rattle.spx_cursor.specs.declared.cursor.Stop.{Stop}
use Rattle.spx_cursor.specs.declared.cursor.Stop.TheVariants as stop
use Rattle.spx_parse_unit.specs.declared.fault.ParseFault.{ParseFault}
use Rattle.spx_parse_unit.specs.declared.fault.ParseFault.TheVariants as fault

-- so many tokens may be left
abbrev pub StopsWithin : ℕ → Stop → Type 0
StopsWithin n stop.Memory = ⊤
StopsWithin n (stop.Expected left) = left ≤ n
StopsWithin n (stop.TooDeep left) = left ≤ n

-- a fault with its place among these tokens
abbrev pub fault_at : Place → List Token → Stop → ParseFault
fault_at end all stop.Memory = fault.Memory
fault_at end all (stop.Expected left) = fault.Expected (place_with end all left)
fault_at end all (stop.TooDeep left) = fault.TooDeep (place_with end all left)

-- the second is the first, or memory ran out
abbrev pub IsUnlessMemory : {X : Type 0} → Result X ParseFault → Result X ParseFault → Type 0
IsUnlessMemory r (Err fault.Memory) = ⊤
IsUnlessMemory r result = (r ≡ result) ⊎ (r ≡ Err fault.Memory)

-- the mark of the first of these tokens, or that of program text
abbrev pub mark_of : List Token → Bool
mark_of [] = program
mark_of (t ∷ ts) = t.marked

-- What a function answers that reads all tokens of a text: the value that they are written from,
-- or the place where the longest front of them that begins a text ends, the first token more, or the end.
module _ {A : Type 0} (spell : A → List Form) (fits : ℕ → A → Type 0) where
  abbrev pub SaysAll : ℕ → Place → List ℕ → List Token → Result A ParseFault → Type 0
  SaysAll levels end source all (Ok x) = IsText spell fits levels (forms_of source all) [] x
  SaysAll levels end source all (Err fault.Memory) = ⊤
  SaysAll levels end source all (Err (fault.Expected place)) =
      ((left : ℕ) × IsExpected spell fits levels (forms_of source all) left × (place ≡ place_with end all left))
      ⊎ ((f : Form) × (rest : List Form) × (x : A) × IsText spell fits levels (forms_of source all) (f ∷ rest) x × (place ≡ place_with end all (length (f ∷ rest))))
  SaysAll levels end source all (Err (fault.TooDeep place)) = (left : ℕ) × IsTooDeep spell fits levels (forms_of source all) left × (place ≡ place_with end all left)

  -- What a function answers that reads from the token at an index on: the value, and the index of the first token that it does not take;
  -- or the place where the longest front of these tokens that begins a text ends.
  abbrev pub SaysFrom : ℕ → Place → List ℕ → List Token → ℕ → Result (A × ℕ) ParseFault → Type 0
  SaysFrom levels end source all from (Ok x) = (from ≤ x.1) × (x.1 ≤ length all) × IsText spell fits levels (forms_of source (drop from all)) (forms_of source (drop x.1 all)) x.0
  SaysFrom levels end source all from (Err fault.Memory) = ⊤
  SaysFrom levels end source all from (Err (fault.Expected place)) = (left : ℕ) × IsExpected spell fits levels (forms_of source (drop from all)) left × (place ≡ place_with end all left)
  SaysFrom levels end source all from (Err (fault.TooDeep place)) = (left : ℕ) × IsTooDeep spell fits levels (forms_of source (drop from all)) left × (place ≡ place_with end all left)
