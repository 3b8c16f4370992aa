-- The statements of a body, in the scene that its declarations make.
use Rattle.std.proofs.Common.{◌≡◌, ℕ, ◌+◌, ◌-◌, List, ap, ◌∙◌, arith}
use Rattle.spx_tree.specs.declared.statement.Stmt.{Stmt}
use Rattle.spx_core.specs.declared.dependency.CoreDerivesItem.{CoreDerivesItem}
use Rattle.spx_core.specs.declared.program.TypeRow.{TypeRow}
use Rattle.spx_core.specs.declared.statement.CoreStmt.{CoreStmt}
use Rattle.spx_core.specs.Regions.{Region, Regions}
use Rattle.spx_core.specs.ResolvedExpressions.{Scene, in_annotation}
use Rattle.spx_core.specs.ResolvedStatements.{resolved_stmts}

pub in_scene : (scene : Scene) (types : List TypeRow) (items : List CoreDerivesItem) (outer : Regions) (given stmts : List Stmt) (region : Region) (vars after : ℕ) (made : List CoreStmt)
    → scene ≡ in_annotation types items → given ≡ stmts → (made, after) ≡ resolved_stmts scene.types scene.items outer given region vars
    → made ≡ (resolved_stmts types items outer stmts region vars).0
in_scene scene types items outer given stmts region vars after made is same are =
    ap (λ (p : List CoreStmt × ℕ). p.0) are ∙ (λ i. (resolved_stmts (is i).types (is i).items outer (same i) region vars).0)

pub after_declarations : (types types' : List TypeRow) (items : List CoreDerivesItem) (outer : Regions) (stmts : List Stmt) (region region' : Region) (vars vars' : ℕ) (made : List CoreStmt)
    → types ≡ types' → region ≡ region' → vars ≡ vars' → made ≡ (resolved_stmts types items outer stmts region vars).0
    → made ≡ (resolved_stmts types' items outer stmts region' vars').0
after_declarations types types' items outer stmts region region' vars vars' made is same count are = are ∙ (λ i. (resolved_stmts (is i) items outer stmts (same i) (count i)).0)

-- the number of variables before the statements
pub counted : (before added after : ℕ) → after ≡ before + added → after ≡ before + (after - before)
counted before added after is = omega (arith, is)
