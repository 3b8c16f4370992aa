use Rattle.std.proofs.Common.{◌≡◌, ◌+◌, ◌-◌, length, map, sym, ap, ◌∙◌, arith, length-append}
use Rattle.spx_core.specs.DeclaredNames.{declaring_all}
use Rattle.spx_core.specs.ResolvedStatements.{resolved_stmts}
use Rattle.spx_core.specs.ResolvedDeclarations.{declared_by_decls, variables_by_decls}
use Rattle.spx_core.specs.Resolved.{var_of}
use Rattle.spx_scope.specs.Seen.{seen}
use Rattle.spx_naming.proofs.BodyForms.{after_declarations, counted}
use Rattle.spx_naming.proofs.Results.{holds_of}
use Rattle.spx_naming.proofs.unit.resolve_body.Goals as goal

pub returns-clause-statements : goal.returns-clause-statements
returns-clause-statements c =
    let before = c.args.tables.now.vars in
    let more = map var_of (variables_by_decls c.in_ok-declarations.declarations) in
    let grown = ap length c.in_ok-declarations.ensures.vars ∙ length-append before more in
    let sum = counted (length before) (length more) (length c.resolve_decls.new.tables.vars) grown in
    let count : length c.resolve_decls.new.tables.vars ≡ length before + (c.len.result - c.len-first.result) = omega (arith, sum, c.len.ensures, c.len-first.ensures) in
    holds_of _ _ _ c.new.ensures
    (after_declarations c.resolve_decls.new.tables.types c.resolve_statements.new.tables.types c.args.changed.now (seen c.args.outer.now) c.args.subprogram.now.statements
    c.resolve_decls.new.region (declaring_all c.args.formals (declared_by_decls c.in_ok-declarations.declarations)) (length c.resolve_decls.new.tables.vars) (length before + (c.len.result - c.len-first.result))
    c.in_ok-statements.statements (sym c.in_ok-statements.ensures.types) c.in_ok-declarations.ensures.region count c.in_ok-statements.ensures.statements)
