-- What inputs give to the imports of a subprogram.
use Rattle.std.specs.Prelude.{ℕ, ◌==◌, Bool, true, false, not, ◌&&◌, if◌then◌else◌, List, [], ◌∷◌, ◌++◌, map, filter, filter_map, find, position, Option, Some, None, is_none, option_and_then, slice_get, codes}
use Rattle.std.specs.List.{list_any, cons_option}
use Rattle.std.specs.Str.{str_eq_ignore_ascii_case}
use Rattle.spx_text.specs.declared.place.Place.{Place}
use Rattle.spx_core.specs.declared.entity.Class.{Class}
use Rattle.spx_core.specs.declared.entity.Class.TheVariants.{Integer, Boolean, Enumeration, Composite}
use Rattle.spx_core.specs.declared.entity.Subtype.{Subtype}
use Rattle.spx_core.specs.declared.entity.VarId.{VarId}
use Rattle.spx_core.specs.declared.program.Program.{Program}
use Rattle.spx_core.specs.declared.program.Var.{Var}
use Rattle.spx_core.specs.declared.subprogram.Sub.{Sub}
use Rattle.spx_core.specs.Dependency.{imports}
use Rattle.spx_core.specs.Formals.{formals}
use Rattle.spx_term.specs.declared.value.Value.{Value}
use Rattle.spx_term.specs.declared.value.Value.TheVariants as value
use Rattle.spx_meaning.specs.Stores.{Store, lies_in, look, put, type_of}
use Rattle.spx_run.specs.declared.inputs.InputValue.{InputValue}
use Rattle.spx_run.specs.declared.inputs.InputValue.TheVariants.{Number, Word, Parts}
use Rattle.spx_run.specs.declared.inputs.InputLine.{InputLine}
use Rattle.spx_run.specs.declared.result.InputFinding.{InputFinding}
use Rattle.spx_run.specs.declared.result.InputFinding.TheVariants.{NoImport, NotOfType, NoValue}

-- two spellings of one word: letter case does not count
abbrev pub is_word : List ℕ → List ℕ → Bool
is_word = str_eq_ignore_ascii_case

-- ---- names

-- the position of the subprogram of this name
abbrev pub entry_named : Program → List ℕ → Option ℕ
entry_named p name = position (λ (sub : Sub). is_word sub.name.name.text name) p.subs

-- the name of a variable; without a variable, nothing
abbrev pub name_in : Option Var → List ℕ
name_in (Some var) = var.name
name_in None = []

-- the name of a variable as it is declared
abbrev pub var_name : Program → VarId → List ℕ
var_name p v = name_in (slice_get p.vars v.0)

-- the import of this name among the formals
abbrev pub import_named : Program → Sub → List ℕ → Option VarId
import_named p sub name = find (λ v. imports v sub && is_word (var_name p v) name) (formals sub)

-- the two are one variable
abbrev pub same_var : VarId → VarId → Bool
same_var v w = v.0 == w.0

-- ---- values

-- the value of a class that is written; a literal of an enumeration, and a value with parts, is that of no import yet, since no formal has such a type
abbrev pub written : Class → InputValue → Option Value
written Integer (Number n) = Some (value.Number n)
written Integer (Word w) = None
written Integer (Parts parts) = None
written Boolean (Number n) = None
written Boolean (Word w) = if is_word w (codes "true") then Some (value.Truth true) else if is_word w (codes "false") then Some (value.Truth false) else None
written Boolean (Parts parts) = None
written Enumeration given = None
written Composite given = None

-- a value of the type, if this is one
abbrev pub in_type : Subtype → Value → Option Value
in_type subtype x = if lies_in subtype x then Some x else None

-- the value that a line gives to an import of this type, if it is one of its values
abbrev pub typed : Subtype → InputValue → Option Value
typed subtype given = option_and_then (in_type subtype) (written subtype.base.class given)

-- ---- findings

-- the place of a line in the inputs file: its first column
abbrev pub line_place : ℕ → InputLine → Place
line_place file line = record { file = file; line = line.line; column = 1 }

-- what is wrong with a line whose name is that of this import, after lines for those imports
abbrev pub finding_for : Program → (file : ℕ) → List VarId → InputLine → Option VarId → Option InputFinding
finding_for p file earlier line None = Some (NoImport (line_place file line))
finding_for p file earlier line (Some v) =
    if list_any (same_var v) earlier then Some (NoImport (line_place file line))
    else if is_none (typed (type_of p v) line.value) then Some (NotOfType (line_place file line)) else None

-- the findings on lines, in their order, at most one on each
abbrev pub findings_on : Program → Sub → (file : ℕ) → List VarId → List InputLine → List InputFinding
findings_on p sub file earlier [] = []
findings_on p sub file earlier (line ∷ lines) =
    cons_option (finding_for p file earlier line (import_named p sub line.name))
    (findings_on p sub file (earlier ++ cons_option (import_named p sub line.name) []) lines)

-- the imports that lines name
abbrev pub named_by : Program → Sub → List InputLine → List VarId
named_by p sub lines = filter_map (λ (line : InputLine). import_named p sub line.name) lines

-- an import that has no value, and that no line names
abbrev pub is_missing : Sub → Store → List VarId → VarId → Bool
is_missing sub s named v = imports v sub && not (list_any (same_var v) named) && is_none (look s v)

-- a finding for each of these
abbrev pub findings_without : Program → Sub → Store → List InputLine → List InputFinding
findings_without p sub s lines = map (λ v. NoValue (var_name p v)) (filter (is_missing sub s (named_by p sub lines)) (formals sub))

-- all findings on inputs, over the store with which the program begins
abbrev pub findings_of : Program → Sub → Store → (file : ℕ) → List InputLine → List InputFinding
findings_of p sub s file lines = findings_on p sub file [] lines ++ findings_without p sub s lines

-- ---- the store

-- a store in which the variable has the value, where there is one
abbrev pub put_given : Store → VarId → Option Value → Store
put_given s v (Some x) = put s v (Some x)
put_given s v None = s

-- a store in which the import has the value, where both are there
abbrev pub given_to : Program → Option VarId → InputValue → Store → Store
given_to p None given s = s
given_to p (Some v) given s = put_given s v (typed (type_of p v) given)

-- the store that the lines make of one, in their order
abbrev pub store_with : Program → Sub → List InputLine → Store → Store
store_with p sub [] s = s
store_with p sub (line ∷ lines) s = store_with p sub lines (given_to p (import_named p sub line.name) line.value s)
