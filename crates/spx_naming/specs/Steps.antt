-- Steps to parts, as the code has them.
use Rattle.std.specs.Prelude.{suc, zero, List, Option, Some, None}
use Rattle.spx_text.specs.declared.place.Place.{Place}
use Rattle.spx_tree.specs.declared.expression.Arguments.TheVariants.{Positional}
use Rattle.spx_tree.specs.declared.expression.Identifier.{Identifier}
use Rattle.spx_tree.specs.declared.expression.NameStep.{NameStep}
use Rattle.spx_tree.specs.declared.expression.NameStep.TheVariants as step
use Rattle.spx_core.specs.declared.entity.Subtype.{Subtype}
use Rattle.spx_core.specs.declared.expression.CoreExpr.{CoreExpr}
use Rattle.spx_core.specs.declared.part.PartStep.{PartStep}
use Rattle.spx_core.specs.declared.part.PartStep.TheVariants as part
use Rattle.spx_core.specs.declared.part.Selection.{Selection}
use Rattle.spx_core.specs.NamedParts.{OneStep}
use Rattle.spx_naming.specs.declared.steps.Part.{Part}
use Rattle.spx_naming.specs.declared.steps.Part.TheVariants.{Element, Field}

-- the step to a part
abbrev pub step_of : Part → PartStep
step_of (Element place i x) = part.Index place i x
step_of (Field field x) = part.Field field.now x

-- the type of the part
abbrev pub type_of : Part → Subtype
type_of (Element place i x) = x.element
type_of (Field field x) = x.field

-- a step, if there is one, after which these expressions are left
abbrev pub after : Option Part → List CoreExpr → Option OneStep
after (Some p) parts = Some (record { step = step_of p; of = type_of p; parts = parts })
after None parts = None

-- the parenthesis of a step with one argument that has no name
abbrev pub one_argument : NameStep → Option Place
one_argument (step.Applied place (Positional (suc zero))) = Some place
one_argument other = None

-- the type of the part to which a step leads
abbrev pub step_type : PartStep → Subtype
step_type (part.Index place i x) = x.element
step_type (part.Field field x) = x.field
