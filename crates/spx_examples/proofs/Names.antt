-- What names without parts are resolved to.
use Rattle.std.proofs.Common.{◌≡◌, [], Option, Some, None, map, refl, ◌∙◌}
use Rattle.spx_tree.specs.declared.expression.Expr.{Expr-F}
use Rattle.spx_tree.specs.declared.expression.Expr.TheVariants.{outs-Name}
use Rattle.spx_tree.specs.declared.expression.Identifier.{Identifier}
use Rattle.spx_tree.specs.declared.expression.Name.{Name}
use Rattle.spx_core.specs.declared.entity.Entity.{Entity}
use Rattle.spx_core.specs.declared.entity.Entity.TheVariants as entity
use Rattle.spx_core.specs.declared.expression.CoreExpr.TheVariants as expr
use Rattle.spx_core.specs.Regions.{Regions, denoted}
use Rattle.spx_core.specs.ResolvedExpressions.{Scene, resolved_in, resolved_name, resolved_value, value_of_path}
use Rattle.spx_examples.specs.Names.{path_of, simple, value_named, without_parts}
use Rattle.spx_examples.proofs.Contexts.{resolution_is, resolved_at}

-- a name, by the expressions of its steps
pub named_is : (scene : Scene) (around : Regions) (name : Name) → resolved_in scene around (value_named name) ≡ resolved_value scene around name.path (map (resolved_in scene around) name.parts)
named_is scene around name = resolved_at scene around (value_named name) (Expr-F.Name name.path name.parts) (outs-Name name.path name.parts)

-- an identifier alone is a name of what it denotes, whatever that is
alone_is : (scene : Scene) (root : Identifier) (e : Option Entity) → value_of_path scene (record { name = root; entity = e }) (path_of root []) [] ≡ expr.Name (record { name = root; entity = e })
alone_is scene root None = refl
alone_is scene root (Some (entity.Variable v object)) = refl
alone_is scene root (Some (entity.Constant subtype n)) = refl
alone_is scene root (Some (entity.NamedNumber n)) = refl
alone_is scene root (Some (entity.Literal subtype n)) = refl
alone_is scene root (Some (entity.TypeName subtype)) = refl
alone_is scene root (Some (entity.Subprogram sub)) = refl
alone_is scene root (Some (entity.Field subtype)) = refl

pub simple_is : (scene : Scene) (around : Regions) (root : Identifier) → resolved_in scene around (value_named (simple root)) ≡ expr.Name (resolved_name around root)
simple_is scene around root = named_is scene around (simple root) ∙ alone_is scene root (denoted around root.text)

-- the same of a name as a pattern
pub alone_as : (scene : Scene) (around : Regions) (root : Identifier) → resolved_in scene around (without_parts (path_of root [])) ≡ expr.Name (resolved_name around root)
alone_as scene around root = resolution_is scene around (without_parts (path_of root [])) ∙ alone_is scene root (denoted around root.text)
