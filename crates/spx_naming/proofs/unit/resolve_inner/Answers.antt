use Rattle.std.proofs.Common.{◌≡◌, ◌∷◌, ◌+◌, length, option_map, ap, ap₂, ◌∙◌}
use Rattle.spx_core.specs.Dependency.{items_of}
use Rattle.spx_core.specs.ResolvedExpressions.{in_annotation}
use Rattle.spx_core.specs.DeclaredNames.{declaring_all}
use Rattle.spx_core.specs.ResolvedStatements.{resolved_predicate, resolved_stmts}
use Rattle.spx_core.specs.ResolvedDeclarations.{declared_by_decls}
use Rattle.spx_core.specs.Resolved.{around_body}
use Rattle.spx_scope.specs.Seen.{seen}
use Rattle.spx_naming.proofs.Results.{holds_of}
use Rattle.spx_naming.proofs.unit.resolve_inner.Goals as goal

pub returns-clause-post : goal.returns-clause-post
returns-clause-post c =
    let around : seen c.inside-outer.result ≡ around_body c.args.name.now = c.inside-outer.ensures ∙ ap₂ (λ region outer. region ∷ outer) c.in_ok-own_name.ensures c.outermost-outermost.ensures in
    let items = items_of c.in_ok-derives.derives in
    holds_of _ _ _ c.new.ensures
    (c.in_ok-body.ensures.post ∙ ap (λ outer. option_map (resolved_predicate (in_annotation c.args.tables.now.types items) (c.args.formals ∷ outer)) c.args.subprogram.now.post) around)

pub returns-clause-statements : goal.returns-clause-statements
returns-clause-statements c =
    let around : seen c.inside-outer.result ≡ around_body c.args.name.now = c.inside-outer.ensures ∙ ap₂ (λ region outer. region ∷ outer) c.in_ok-own_name.ensures c.outermost-outermost.ensures in
    let items = items_of c.in_ok-derives.derives in
    let body = c.in_ok-body.body in
    let region = declaring_all c.args.formals (declared_by_decls body.declarations) in
    holds_of _ _ _ c.new.ensures
    (c.in_ok-body.ensures.statements ∙ ap (λ outer. (resolved_stmts c.resolve_under.new.tables.types items outer c.args.subprogram.now.statements region (length c.args.tables.now.vars + body.local_count)).0) around)
