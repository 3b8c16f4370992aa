-- The sets of variables that the rules look up in a subprogram.
use Rattle.std.specs.Prelude.{◌≡◌, ℕ, List}
use Rattle.spx_core.specs.declared.entity.VarId.{VarId}
use Rattle.spx_core.specs.declared.subprogram.Sub.{Sub}
use Rattle.spx_core.specs.Dependency as dependency
use Rattle.spx_core.specs.Formals.{is_formal}
use Rattle.spx_core.specs.Mirror.VarSets.{holds}

pub record AreSetsOf (sub : Sub) (exports imports formals : List ℕ) : Type 0 where
  pub exported : (v : VarId) → holds exports v ≡ dependency.exports v sub
  pub imported : (v : VarId) → holds imports v ≡ dependency.imports v sub
  pub formal : (v : VarId) → holds formals v ≡ is_formal v sub
