-- What the functions that read answer.
use Rattle.std.specs.Prelude.{◌≡◌, ⊤, List, Result, Ok, Err}
use Rattle.spx_tree.specs.Form.{Form}
use Rattle.spx_tree.specs.Goes.{Expected, TooDeep}
use Rattle.spx_cursor.specs.declared.cursor.Stop.{Stop}
use Rattle.spx_cursor.specs.declared.cursor.Stop.TheVariants as stop
use Rattle.spx_cursor.specs.Reading.{Outcome}

-- what a reader stops with, unless memory ran out
abbrev pub Fails : {A : Type 0} → Stop → Outcome A → Type 0
Fails stop.Memory outcome = ⊤
Fails (stop.Expected left) outcome = outcome ≡ Err (Expected left)
Fails (stop.TooDeep left) outcome = outcome ≡ Err (TooDeep left)

-- what a reader finds, and the forms that are left
abbrev pub Reads : {A : Type 0} → Outcome A → Result A Stop → List Form → Type 0
Reads outcome (Ok x) left = outcome ≡ Ok (x, left)
Reads outcome (Err s) left = Fails s outcome
