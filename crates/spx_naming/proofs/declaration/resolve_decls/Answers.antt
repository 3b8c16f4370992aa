use Rattle.spx_scope.specs.Seen.{seen}
use Rattle.spx_naming.proofs.Declarations.{decl_step}
use Rattle.spx_naming.proofs.declaration.resolve_decls.Goals as goal

pub loop-decl-preserved : goal.loop-decl-preserved
loop-decl-preserved c =
    let made = c.in_ok-resolve_decl.ensures in
    decl_step (seen c.args.outer.now) c.args.decls.now c.loop-decl.decl-index c.loop-decl.region _ _ c.loop-decl.tables _ c.loop-decl.resolved _ _ _ _ c.decl-item.result _
    c.loop-decl-test.true c.decl-item.is made.decl made.region made.vars made.types c.in_ok-push.ensures.ok c.loop-decl.invariant
