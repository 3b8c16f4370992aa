-- Names as a declarative region declares them: each with its declared entity, at the position that is its id.
use Rattle.std.specs.Prelude.{ℕ, ◌+◌, pos, List, [], ◌∷◌, Option, Some}
use Rattle.spx_tree.specs.declared.expression.Identifier.{Identifier}
use Rattle.spx_core.specs.declared.entity.TheConstants.{UNIVERSAL}
use Rattle.spx_core.specs.declared.entity.Meaning.{Meaning}
use Rattle.spx_core.specs.declared.entity.Meaning.TheVariants as meaning
use Rattle.spx_core.specs.declared.entity.Subtype.{Subtype}
use Rattle.spx_core.specs.declared.entity.VarKind.{VarKind}
use Rattle.spx_core.specs.declared.entity.Object.{Object}
use Rattle.spx_core.specs.declared.entity.Entity.{Entity}
use Rattle.spx_core.specs.declared.entity.Entity.TheVariants as entity
use Rattle.spx_core.specs.declared.name.Defining.{Defining}
use Rattle.spx_core.specs.declared.name.Reference.{Reference}
use Rattle.spx_core.specs.Regions.{Region, Regions, hidden, is_declared, with_declaration}

-- ---- declared names

-- the subtype that a name denotes; where it denotes none, a rule is broken, and it counts as that of universal numbers
abbrev pub subtype_of : Option Entity → Subtype
subtype_of (Some (entity.TypeName subtype)) = subtype
subtype_of _ = UNIVERSAL

-- what is declared of the objects of a declaration with this type name
abbrev pub object_of : VarKind → Reference → Object
object_of kind type_name = record { kind = kind; subtype = subtype_of type_name.root.entity }

-- the variable at this position
abbrev pub variable_at : ℕ → Object → Entity
variable_at position object = entity.Variable (record { 0 = position }) object

-- what the name at this position denotes
abbrev pub meant_at : Meaning → ℕ → Entity
meant_at (meaning.Variables object) position = variable_at position object
meant_at (meaning.Literals subtype) position = entity.Literal subtype (pos position)
meant_at (meaning.Each entity) position = entity

-- a name that is declared in a region
abbrev pub defining : Region → Entity → Identifier → Defining
defining region entity name = record { name = name; entity = entity; again = is_declared region name.text }

-- a region with what a name declares
abbrev pub declaring : Region → Defining → Region
declaring region d = with_declaration (record { word = d.name.text; entity = Some d.entity }) region

-- a region with what these names declare, in their order
abbrev pub declaring_all : Region → List Defining → Region
declaring_all region [] = region
declaring_all region (d ∷ ds) = declaring_all (declaring region d) ds

-- the names of a declaration, the first of which has this position
abbrev pub defining_all : Region → Meaning → ℕ → List Identifier → List Defining
defining_all region meaning position [] = []
defining_all region meaning position (name ∷ names) =
    defining region (meant_at meaning position) name ∷ defining_all (declaring region (defining region (meant_at meaning position) name)) meaning (position + 1) names

-- around what a declaration of these names in a region says: there they are hidden
abbrev pub around_names : Regions → Region → List Identifier → Regions
around_names outer region names = hidden names ∷ region ∷ outer
