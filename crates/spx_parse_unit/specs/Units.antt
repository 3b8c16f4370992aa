-- Reading declarations, annotations, subprograms and units (Ada 95 RM 3, 6 and 10.1; Barnes, High Integrity Software).
use Rattle.std.specs.Prelude.{ℕ, Bool, true, false, List, [], ◌∷◌, Option, Some, None}
use Rattle.spx_text.specs.declared.place.Place.{Place}
use Rattle.spx_tree.specs.declared.token.Kind.{Kind}
use Rattle.spx_tree.specs.declared.token.Kind.TheVariants as k
use Rattle.spx_tree.specs.declared.expression.Identifier.{Identifier}
use Rattle.spx_tree.specs.declared.expression.Name.{Name}
use Rattle.spx_tree.specs.declared.expression.Expr.{Expr}
use Rattle.spx_tree.specs.declared.declaration.Decl.{Decl}
use Rattle.spx_tree.specs.declared.declaration.Decl.TheVariants as decl
use Rattle.spx_tree.specs.declared.declaration.FieldDecl.{FieldDecl}
use Rattle.spx_tree.specs.declared.declaration.TypeDef.{TypeDef}
use Rattle.spx_tree.specs.declared.declaration.TypeDef.TheVariants as defined
use Rattle.spx_tree.specs.declared.annotation.Exports.TheVariants as exported
use Rattle.spx_tree.specs.declared.annotation.Imports.{Imports}
use Rattle.spx_tree.specs.declared.annotation.DerivesItem.{DerivesItem}
use Rattle.spx_tree.specs.declared.annotation.Derives.{Derives}
use Rattle.spx_tree.specs.declared.subprogram.WrittenMode.{WrittenMode}
use Rattle.spx_tree.specs.declared.subprogram.WrittenMode.TheVariants as modes
use Rattle.spx_tree.specs.declared.subprogram.Param.{Param}
use Rattle.spx_tree.specs.declared.subprogram.FormalPart.{FormalPart}
use Rattle.spx_tree.specs.declared.subprogram.Subprogram.{Subprogram}
use Rattle.spx_tree.specs.declared.subprogram.Unit.{Unit}
use Rattle.spx_tree.specs.declared.subprogram.Unit.TheVariants as unit
use Rattle.spx_tree.specs.Form.{Form}
use Rattle.spx_tree.specs.Written.{program, annotation}
use Rattle.spx_parse_unit.specs.declared.subprograms.HeadingParts.{HeadingParts}
use Rattle.spx_parse_unit.specs.declared.subprograms.BodyParts.{BodyParts}
use Rattle.spx_cursor.specs.Reading.{Reader, ◌>>=◌, ◌>>◌, pure, refuse, peek, sees, expect, expect_place, identifier, if_seen, more_items}
use Rattle.spx_parse_body.specs.Expressions.{name, expression, predicate_after}
use Rattle.spx_parse_body.specs.Statements.{constraint, stmts}

-- ---- names

-- {"," identifier}
unfoldable pub more_identifiers : Bool → List Identifier → Reader (List Identifier)
more_identifiers marked found = more_items (sees marked k.Comma) (expect marked k.Comma >> identifier marked) found

-- identifier {"," identifier}
unfoldable pub identifiers : Bool → Reader (List Identifier)
identifiers marked = identifier marked >>= λ x. more_identifiers marked (x ∷ [])

-- {"," name}
unfoldable pub more_names : Bool → ℕ → List Name → Reader (List Name)
more_names marked levels found = more_items (sees marked k.Comma) (expect marked k.Comma >> name marked levels) found

-- name {"," name}
unfoldable pub names : Bool → ℕ → Reader (List Name)
names marked levels = name marked levels >>= λ x. more_names marked levels (x ∷ [])

-- ---- annotations

-- "*" {"," name}
unfoldable pub starred : ℕ → Reader Imports
starred levels = do
  place ← expect_place annotation k.Asterisk
  names ← more_names annotation levels []
  pure (record { itself = Some place; names = names })

unfoldable pub unstarred : ℕ → Reader Imports
unstarred levels = do
  names ← names annotation levels
  pure (record { itself = None; names = names })

abbrev pub imports_by : ℕ → Option Kind → Reader Imports
imports_by levels (Some k.Asterisk) = starred levels
imports_by levels (Some k.Identifier) = unstarred levels
imports_by levels _ = pure (record { itself = None; names = [] })

-- ["*" {"," name} | names]
unfoldable pub imports : ℕ → Reader Imports
imports levels = λ fs. imports_by levels (peek annotation fs) fs

-- names "from" imports
unfoldable pub named_item : ℕ → Reader DerivesItem
named_item levels = do
  exports ← names annotation levels
  expect annotation k.From
  imports ← imports levels
  pure (record { exports = exported.Names exports; imports = imports })

-- "null" "from" names
unfoldable pub null_item : ℕ → Reader DerivesItem
null_item levels = do
  place ← expect_place annotation k.Null
  expect annotation k.From
  imports ← unstarred levels
  pure (record { exports = exported.Null place; imports = imports })

abbrev pub item_by : ℕ → Option Kind → Reader DerivesItem
item_by levels (Some k.Identifier) = named_item levels
item_by levels (Some k.Null) = null_item levels
item_by levels _ = refuse

-- names "from" imports | "null" "from" names
unfoldable pub item : ℕ → Reader DerivesItem
item levels = λ fs. item_by levels (peek annotation fs) fs

unfoldable pub more_derives : ℕ → List DerivesItem → Reader (List DerivesItem)
more_derives levels found = more_items (sees annotation k.Ampersand) (expect annotation k.Ampersand >> item levels) found

-- item {"&" item}
unfoldable pub items : ℕ → Reader (List DerivesItem)
items levels = item levels >>= λ x. more_derives levels (x ∷ [])

-- "derives" item {"&" item} ";"
unfoldable pub derives : ℕ → Reader Derives
derives levels = do
  place ← expect_place annotation k.Derives
  items ← items levels
  expect annotation k.Semicolon
  pure (record { place = place; items = items })

-- ---- formal parameters

abbrev pub in_by : Place → Option Kind → Reader WrittenMode
in_by place (Some k.Out) = expect program k.Out >> pure (modes.InOut place)
in_by place _ = pure (modes.In place)

-- what stands after "in"
unfoldable pub following_in : Place → Reader WrittenMode
following_in place = λ fs. in_by place (peek program fs) fs

abbrev pub mode_by : Option Kind → Reader WrittenMode
mode_by (Some k.In) = expect_place program k.In >>= following_in
mode_by (Some k.Out) = expect program k.Out >> pure modes.Out
mode_by _ = pure modes.Unwritten

-- ["in"] ["out"]
unfoldable pub mode : Reader WrittenMode
mode = λ fs. mode_by (peek program fs) fs

-- identifiers ":" mode name
unfoldable pub param : ℕ → Reader Param
param levels = do
  names ← identifiers program
  expect program k.Colon
  mode ← mode
  type_name ← name program levels
  pure (record { names = names; mode = mode; type_name = type_name })

unfoldable pub more_params : ℕ → List Param → Reader (List Param)
more_params levels found = more_items (sees program k.Semicolon) (expect program k.Semicolon >> param levels) found

-- param {";" param}
unfoldable pub params : ℕ → Reader (List Param)
params levels = param levels >>= λ x. more_params levels (x ∷ [])

-- "(" params ")"
unfoldable pub formal_part : ℕ → Reader FormalPart
formal_part levels = do
  place ← expect_place program k.LeftParenthesis
  params ← params levels
  expect program k.RightParenthesis
  pure (record { place = place; params = params })

-- ---- declarations

-- "range" range
unfoldable pub integer : ℕ → Reader TypeDef
integer levels = constraint levels >>= λ range. pure (defined.Integer range)

-- "(" identifiers ")"
unfoldable pub enumeration : Reader TypeDef
enumeration = do
  place ← expect_place program k.LeftParenthesis
  literals ← identifiers program
  expect program k.RightParenthesis
  pure (defined.Enumeration place literals)

-- "array" "(" name ")" "of" name
unfoldable pub array : ℕ → Reader TypeDef
array levels = do
  expect program k.Array
  place ← expect_place program k.LeftParenthesis
  index ← name program levels
  expect program k.RightParenthesis
  expect program k.Of
  element ← name program levels
  pure (defined.Array place index element)

-- identifiers ":" name ";"
unfoldable pub field : ℕ → Reader FieldDecl
field levels = do
  names ← identifiers program
  expect program k.Colon
  type_name ← name program levels
  expect program k.Semicolon
  pure (record { names = names; type_name = type_name })

-- {field}
unfoldable pub more_fields : ℕ → List FieldDecl → Reader (List FieldDecl)
more_fields levels found = more_items (sees program k.Identifier) (field levels) found

-- field {field}
unfoldable pub fields : ℕ → Reader (List FieldDecl)
fields levels = field levels >>= λ x. more_fields levels (x ∷ [])

-- "record" fields "end" "record"
unfoldable pub record_definition : ℕ → Reader TypeDef
record_definition levels = do
  expect program k.Record
  fields ← fields levels
  place ← expect_place program k.End
  expect program k.Record
  pure (defined.Record fields place)

abbrev pub definition_by : ℕ → Option Kind → Reader TypeDef
definition_by levels (Some k.Range) = integer levels
definition_by levels (Some k.LeftParenthesis) = enumeration
definition_by levels (Some k.Array) = array levels
definition_by levels (Some k.Record) = record_definition levels
definition_by levels _ = refuse

-- "range" range | "(" identifiers ")" | array | record
unfoldable pub definition : ℕ → Reader TypeDef
definition levels = λ fs. definition_by levels (peek program fs) fs

-- "type" identifier "is" definition ";"
unfoldable pub full_type : ℕ → Reader Decl
full_type levels = do
  expect program k.Type
  name ← identifier program
  expect program k.Is
  definition ← definition levels
  expect program k.Semicolon
  pure (decl.FullType name definition)

-- "subtype" identifier "is" name ["range" range] ";"
unfoldable pub subtype : ℕ → Reader Decl
subtype levels = do
  expect program k.Subtype
  subject ← identifier program
  expect program k.Is
  parent ← name program levels
  range ← if_seen program k.Range (constraint levels)
  expect program k.Semicolon
  pure (decl.Subtype subject parent range)

-- ":=" expression
unfoldable pub initial : ℕ → Reader Expr
initial levels = expect program k.Assignment >> expression program levels

-- name [":=" expression] ";"
unfoldable pub variables : ℕ → List Identifier → Reader Decl
variables levels names = do
  type_name ← name program levels
  value ← if_seen program k.Assignment (initial levels)
  expect program k.Semicolon
  pure (decl.Variables names type_name value)

-- "constant" [name] ":=" expression ";"
unfoldable pub constants : ℕ → List Identifier → Reader Decl
constants levels names = do
  expect program k.Constant
  type_name ← if_seen program k.Identifier (name program levels)
  expect program k.Assignment
  value ← expression program levels
  expect program k.Semicolon
  pure (decl.Constants names type_name value)

abbrev pub objects_by : ℕ → List Identifier → Option Kind → Reader Decl
objects_by levels names (Some k.Identifier) = variables levels names
objects_by levels names (Some k.Constant) = constants levels names
objects_by levels names _ = refuse

-- what stands after identifiers and ":"
unfoldable pub objects_after : ℕ → List Identifier → Reader Decl
objects_after levels names = λ fs. objects_by levels names (peek program fs) fs

-- identifiers ":" name [":=" expression] ";" | identifiers ":" "constant" [name] ":=" expression ";"
unfoldable pub objects : ℕ → Reader Decl
objects levels = do
  names ← identifiers program
  expect program k.Colon
  objects_after levels names

abbrev pub declaration_by : ℕ → Option Kind → Reader Decl
declaration_by levels (Some k.Identifier) = objects levels
declaration_by levels (Some k.Type) = full_type levels
declaration_by levels (Some k.Subtype) = subtype levels
declaration_by levels _ = refuse

-- objects | full type | subtype
unfoldable pub declaration : ℕ → Reader Decl
declaration levels = λ fs. declaration_by levels (peek program fs) fs

-- a declaration starts with a form of this kind
abbrev pub starts_declaration : Option Kind → Bool
starts_declaration (Some k.Identifier) = true
starts_declaration (Some k.Type) = true
starts_declaration (Some k.Subtype) = true
starts_declaration _ = false

-- a declaration comes next
abbrev pub sees_declaration : List Form → Bool
sees_declaration fs = starts_declaration (peek program fs)

unfoldable pub more_declarations : ℕ → List Decl → Reader (List Decl)
more_declarations levels found = more_items sees_declaration (declaration levels) found

-- {declaration}
unfoldable pub declarations : ℕ → Reader (List Decl)
declarations levels = more_declarations levels []

-- ---- subprograms and units

-- "procedure" identifier [formal part] [derives] [pre] [post]
unfoldable pub heading : ℕ → Reader HeadingParts
heading levels = do
  place ← expect_place program k.Procedure
  name ← identifier program
  formal_part ← if_seen program k.LeftParenthesis (formal_part levels)
  derives ← if_seen annotation k.Derives (derives levels)
  pre ← if_seen annotation k.Pre (predicate_after k.Pre levels)
  post ← if_seen annotation k.Post (predicate_after k.Post levels)
  pure (record { place = place; name = name; formal_part = formal_part; derives = derives; pre = pre; post = post })

-- "is" declarations "begin" statements "end" [identifier] ";"
unfoldable pub body : ℕ → Reader BodyParts
body levels = do
  expect program k.Is
  declarations ← declarations levels
  expect program k.Begin
  statements ← stmts levels
  end ← expect_place program k.End
  end_name ← if_seen program k.Identifier (identifier program)
  expect program k.Semicolon
  pure (record { declarations = declarations; statements = statements; end = end; end_name = end_name })

abbrev pub whole : HeadingParts → BodyParts → Subprogram
whole h b = record { place = h.place; name = h.name; formal_part = h.formal_part; derives = h.derives; pre = h.pre; post = h.post; declarations = b.declarations; statements = b.statements; end = b.end; end_name = b.end_name }

-- heading body
unfoldable pub subprogram : ℕ → Reader Subprogram
subprogram levels = do
  heading ← heading levels
  body ← body levels
  pure (whole heading body)

-- subprogram
unfoldable pub unit_at : ℕ → Reader Unit
unit_at levels = subprogram levels >>= λ sub. pure (unit.Subprogram sub)

unfoldable pub more_units : ℕ → List Unit → Reader (List Unit)
more_units levels found = more_items (sees program k.Procedure) (unit_at levels) found

-- {unit}
unfoldable pub file : ℕ → Reader (List Unit)
file levels = more_units levels []
