-- The row that a declaration adds to the table of types.
use Rattle.std.specs.Prelude.{◌≡◌, ⊤, Result, Ok, Err}
use Rattle.spx_core.specs.declared.statement.CoreDecl.{CoreDecl}
use Rattle.spx_core.specs.declared.statement.CoreDecl.TheVariants.{Variables, Constants, FullType, Subtype}
use Rattle.spx_core.specs.declared.program.TypeForm.TheVariants.{Scalar}
use Rattle.spx_core.specs.declared.program.TypeRow.{TypeRow}
use Rattle.spx_core.specs.declared.rule.RuleName.TheVariants.{N3}
use Rattle.spx_core.specs.Judged.{Judged, ◌>>=◌}
use Rattle.spx_core.specs.Places.{place_of}
use Rattle.spx_core.specs.ResolvedDeclarations.{form_of, row_with}
use Rattle.spx_core.specs.Statements.{judged_decl}
use Rattle.spx_typing.specs.declared.row.TypeFault.{TypeFault}
use Rattle.spx_typing.specs.declared.row.TypeFault.TheVariants.{Breach, Memory}

-- that of its name, where it declares a type
abbrev pub row_by : CoreDecl → Judged TypeRow
row_by (FullType name definition) = Ok (row_with (form_of definition) name)
row_by (Subtype name parent range) = Ok (row_with Scalar name)
row_by (Variables names type_name value) = Err (record { rule = N3; place = type_name.root.name.place })
row_by (Constants names type_name value) = Err (record { rule = N3; place = place_of value })

abbrev pub row_declared : CoreDecl → Judged TypeRow
row_declared d = judged_decl d >>= λ _. row_by d

-- this is what was judged, unless memory ran out
abbrev pub Gives : Judged TypeRow → Result TypeRow TypeFault → Type 0
Gives judged (Ok row) = judged ≡ Ok row
Gives judged (Err (Breach breach)) = judged ≡ Err breach
Gives judged (Err Memory) = ⊤
