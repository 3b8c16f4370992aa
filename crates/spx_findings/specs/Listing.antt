-- What `conditions` prints: the verification conditions of each subprogram, in the order of the bodies.
use Rattle.std.specs.Prelude.{ℕ, suc, List, [], ◌∷◌, ◌++◌, map, flat_map, Option, Some, None, codes}
use Rattle.std.specs.Fmt.{decimal}
use Rattle.spx_core.specs.declared.program.Program.{Program}
use Rattle.spx_core.specs.declared.program.Field.{Field}
use Rattle.spx_core.specs.declared.program.TypeForm.{TypeForm}
use Rattle.spx_core.specs.declared.program.TypeForm.TheVariants.{Scalar, Array, Record}
use Rattle.spx_core.specs.declared.program.TypeRow.{TypeRow}
use Rattle.spx_core.specs.declared.program.Var.{Var}
use Rattle.spx_core.specs.declared.subprogram.Sub.{Sub}
use Rattle.spx_core.specs.Bodies.{bodies_of}
use Rattle.spx_term.specs.declared.condition.Condition.{Condition}
use Rattle.spx_term.specs.declared.term.Term.{Term}
use Rattle.spx_term.specs.declared.printing.Names.{Names}
use Rattle.spx_term.specs.declared.printing.TypeNames.{TypeNames}
use Rattle.spx_term.specs.Printing.{text_of}
use Rattle.spx_paths.specs.Conditions.{conditions_of}
use Rattle.spx_findings.specs.Findings.{kind_text}
use Rattle.spx_report.specs.Report.{spot_text}

-- the names of the variables of a program as they are declared, by their positions
abbrev pub declared_names : Program → List (List ℕ)
declared_names p = map (λ (var : Var). var.name) p.vars

-- the names of fields
abbrev pub names_of : List Field → List (List ℕ)
names_of fields = map (λ (field : Field). field.name) fields

-- the names of the fields of a type, which only a record type has
abbrev pub field_names : TypeForm → List (List ℕ)
field_names Scalar = []
field_names (Array index element) = []
field_names (Record fields) = names_of fields

-- the names of a type and of its fields
abbrev pub type_names : TypeRow → TypeNames
type_names row = record { name = row.name; fields = field_names row.form }

-- the names that the terms of a program are printed with
abbrev pub names_in : Program → Names
names_in p = record { variables = declared_names p; types = map type_names p.types }

-- `H1 TERM`, or with another letter and number
unfoldable pub term_line : Names → List ℕ → ℕ → Term → List ℕ
term_line declared letter n t = letter ++ (decimal n ++ (codes " " ++ (text_of declared t ++ codes "\n")))

-- a line for each term, numbered from this number on
abbrev pub term_lines : Names → List ℕ → ℕ → List Term → List ℕ
term_lines declared letter n [] = []
term_lines declared letter n (t ∷ ts) = term_line declared letter n t ++ term_lines declared letter (suc n) ts

-- `NAME KIND PLACE`
unfoldable pub header_line : List (List ℕ) → Condition → List ℕ
header_line names c = c.name ++ (codes " " ++ (kind_text c.kind ++ (codes " " ++ (spot_text names c.place ++ codes "\n"))))

-- a condition: its header, its hypotheses, its goals
unfoldable pub condition_lines : List (List ℕ) → Names → Condition → List ℕ
condition_lines names declared c = header_line names c ++ (term_lines declared (codes "H") 1 c.hyps ++ term_lines declared (codes "G") 1 c.goals)

-- these conditions, one after another
abbrev pub lines_of_conditions : List (List ℕ) → Names → List Condition → List ℕ
lines_of_conditions names declared conditions = flat_map (condition_lines names declared) conditions

-- the conditions of a subprogram, in the order of their names
abbrev pub listed : List (List ℕ) → Program → Sub → List ℕ
listed names p sub = lines_of_conditions names (names_in p) (conditions_of p sub)

-- the conditions of a program, whose files have these names
unfoldable pub conditions_text : Program → List (List ℕ) → List ℕ
conditions_text p names = flat_map (listed names p) (bodies_of p)

-- what one body adds to that: nothing where no subprogram has its id
abbrev pub listed_at : List (List ℕ) → Program → Option Sub → List ℕ
listed_at names p (Some sub) = listed names p sub
listed_at names p None = []
