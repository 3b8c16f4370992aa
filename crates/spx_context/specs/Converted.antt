-- Whether an expression is converted as a whole.
use Rattle.std.specs.Prelude.{Bool, false, Option, Some, None}
use Rattle.spx_core.specs.declared.entity.BaseType.{BaseType}
use Rattle.spx_core.specs.declared.expression.CoreExpr.{CoreExpr}
use Rattle.spx_core.specs.Contexts.{is_static}
use Rattle.spx_core.specs.Judged.{judged}

-- it takes a type, and is static
abbrev pub is_converted : Option BaseType → CoreExpr → Bool
is_converted (Some base) e = is_static (judged e)
is_converted None e = false
