use Rattle.std.proofs.Common.{◌≡◌, ◌++◌, drop, map}
use Rattle.spx_core.specs.DeclaredNames.{declaring_all}
use Rattle.spx_core.specs.ResolvedDeclarations.{declared_by_decls, resolved_decls, rows_by_decls, variables_by_decls}
use Rattle.spx_core.specs.Resolved.{var_of}
use Rattle.spx_scope.specs.Seen.{seen}
use Rattle.spx_naming.specs.Before.{before_in}
use Rattle.spx_naming.proofs.declaration.resolve_decls.Given as goal

abbrev pub invariant-loop-decl : goal.invariant-loop-decl
invariant-loop-decl l =
    (l.resolved ++ resolved_decls (seen l.outer) l.region (before_in l.tables) (drop l.decl-index l.decls) ≡ resolved_decls (seen l.outer) l.initial.region (before_in l.initial.tables) l.decls)
    × (declaring_all l.region (declared_by_decls (resolved_decls (seen l.outer) l.region (before_in l.tables) (drop l.decl-index l.decls)))
    ≡ declaring_all l.initial.region (declared_by_decls (resolved_decls (seen l.outer) l.initial.region (before_in l.initial.tables) l.decls)))
    × (l.tables.vars ++ map var_of (variables_by_decls (resolved_decls (seen l.outer) l.region (before_in l.tables) (drop l.decl-index l.decls)))
    ≡ l.initial.tables.vars ++ map var_of (variables_by_decls (resolved_decls (seen l.outer) l.initial.region (before_in l.initial.tables) l.decls)))
    × (l.tables.types ++ rows_by_decls (resolved_decls (seen l.outer) l.region (before_in l.tables) (drop l.decl-index l.decls))
    ≡ l.initial.tables.types ++ rows_by_decls (resolved_decls (seen l.outer) l.initial.region (before_in l.initial.tables) l.decls))
