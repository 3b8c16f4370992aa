-- Which part of an object a name denotes (Ada 95 RM 4.1.1, 4.1.3): the steps after its first identifier, one by one.
use Rattle.std.specs.Prelude.{ℕ, zero, suc, ◌+◌, List, [], ◌∷◌, Option, Some, None, option_map, slice_get, if◌then◌else◌}
use Rattle.std.specs.Str.{str_eq_ignore_ascii_case}
use Rattle.spx_tree.specs.declared.expression.Arguments.TheVariants.{Positional}
use Rattle.spx_tree.specs.declared.expression.NameStep.{NameStep}
use Rattle.spx_tree.specs.declared.expression.NameStep.TheVariants as step
use Rattle.spx_core.specs.declared.entity.Subtype.{Subtype}
use Rattle.spx_core.specs.declared.entity.TypeId.{TypeId}
use Rattle.spx_core.specs.declared.expression.CoreExpr.{CoreExpr}
use Rattle.spx_core.specs.declared.expression.CoreExpr.TheVariants as expr
use Rattle.spx_core.specs.declared.name.NameFault.{NameFault}
use Rattle.spx_core.specs.declared.name.NameFault.TheVariants.{NoField, WrongArguments, NoPart}
use Rattle.spx_core.specs.declared.part.PartStep.{PartStep}
use Rattle.spx_core.specs.declared.part.PartStep.TheVariants as part
use Rattle.spx_core.specs.declared.part.Selection.{Selection}
use Rattle.spx_core.specs.declared.program.Field.{Field}
use Rattle.spx_core.specs.declared.program.TypeForm.{TypeForm}
use Rattle.spx_core.specs.declared.program.TypeForm.TheVariants.{Array, Record}
use Rattle.spx_core.specs.declared.program.TypeRow.{TypeRow}

-- what the values of the type at a position are made of, by a table of types
abbrev pub form_in : List TypeRow → TypeId → Option TypeForm
form_in types id = option_map (λ (row : TypeRow). row.form) (slice_get types id.0)

-- the first of these fields with this name, where the first of them has this position; letter case does not count
abbrev pub field_named : TypeId → ℕ → List Field → List ℕ → Option Selection
field_named id k [] word = None
field_named id k (field ∷ fields) word =
    if str_eq_ignore_ascii_case word field.name then Some (record { «record» = id; position = k; field = field.subtype }) else field_named id (k + 1) fields word

-- a step to a part, the type of that part, and the expressions of the name that are left
pub record OneStep : Type 0 where
  pub step : PartStep
  pub of : Subtype
  pub parts : List CoreExpr

-- to a field of its type
abbrev pub field_step : NameStep → List CoreExpr → Option Selection → Option OneStep
field_step (step.Selected field) parts (Some x) = Some (record { step = part.Field field x; of = x.field; parts = parts })
field_step _ parts _ = None

-- The part to which a step of a name leads from an object whose type, with this id, is made of this, if it leads to one: an array has an element
-- at one index, and a record the fields that are declared in it.
abbrev pub part_step : Option TypeForm → TypeId → NameStep → List CoreExpr → Option OneStep
part_step (Some (Array index element)) id (step.Applied place (Positional (suc zero))) (i ∷ parts) =
    Some (record { step = part.Index place i (record { array = id; index = index; element = element }); of = element; parts = parts })
part_step (Some (Record fields)) id (step.Selected field) parts = field_step (step.Selected field) parts (field_named id 0 fields field.text)
part_step form id s parts = None

-- a way to a part, the type of that part, and the steps and expressions of the name that are left
pub record Along : Type 0 where
  pub way : List PartStep
  pub of : Subtype
  pub rest : List NameStep
  pub parts : List CoreExpr

-- nothing more leads to a part
abbrev pub ends_at : Subtype → List NameStep → List CoreExpr → Along
ends_at of rest parts = record { way = []; of = of; rest = rest; parts = parts }

-- a way with one step more before it
abbrev pub after_step : PartStep → Along → Along
after_step s x = record { way = s ∷ x.way; of = x.of; rest = x.rest; parts = x.parts }

-- what follows a step, or what there is without one
abbrev pub going : Option OneStep → Along → (OneStep → Along) → Along
going (Some one) otherwise more = after_step one.step (more one)
going None otherwise more = otherwise

-- the longest way from an object of this type along the steps of a name, which have these expressions
abbrev pub along : List TypeRow → Subtype → List NameStep → List CoreExpr → Along
along types of [] parts = ends_at of [] parts
along types of (s ∷ steps) parts = going (part_step (form_in types of.base.id) of.base.id s parts) (ends_at of (s ∷ steps) parts) (λ one. along types one.of steps one.parts)

-- why the first of these steps leads to nothing from an object that is made of this
abbrev pub fault_at : Option TypeForm → List NameStep → NameFault
fault_at (Some (Array index element)) (step.Applied place arguments ∷ steps) = WrongArguments
fault_at (Some (Record fields)) (step.Selected field ∷ steps) = NoField
fault_at form steps = NoPart

-- the part to which a way leads from what an expression is
abbrev pub followed : CoreExpr → List PartStep → CoreExpr
followed a [] = a
followed a (part.Index place i x ∷ way) = followed (expr.Element a place i x) way
followed a (part.Field field x ∷ way) = followed (expr.Selected a field x) way
