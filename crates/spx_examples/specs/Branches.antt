-- The arms of an `if`.
use Rattle.std.specs.Prelude.{List}
use Rattle.spx_text.specs.declared.place.Place.{Place}
use Rattle.spx_core.specs.declared.expression.CoreExpr.{CoreExpr}
use Rattle.spx_core.specs.declared.statement.CoreStmt.{CoreStmt}
use Rattle.spx_core.specs.declared.statement.CoreArm.{CoreArm}

-- `if condition then` and statements, at the word `if` or `elsif`
abbrev pub arm : Place → CoreExpr → List CoreStmt → CoreArm
arm at condition body = record { place = at; condition = condition; body = body }
