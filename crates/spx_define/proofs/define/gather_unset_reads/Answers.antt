use Rattle.std.proofs.Common.{subst, sym}
use Rattle.std.proofs.lemmas.Result.{IfOk-weaker}
use Rattle.spx_core.specs.Effects.{effects}
use Rattle.spx_define.specs.declared.reached.Reached.TheVariants as reached
use Rattle.spx_define.specs.Passes.{Finds, Passes, exports_at}
use Rattle.spx_define.specs.UnsetReads.{AreUnsetReads}
use Rattle.spx_define.proofs.UnsetReads.{are_unset}
use Rattle.spx_define.proofs.define.gather_unset_reads.Goals as goal

pub returns : goal.returns
returns c =
    let p = c.args.program.now in
    let sub = c.args.sub.now in
    let imported = c.in_ok-imports.imports in
    let start = c.in_ok-here.here in
    let after = c.go_over_all.new in
    let read = after.found.keys in
    let kept = c.leave_out_initialized.new.found.keys in
    let found = c.add_unset_exports.new.found.keys in
    let body = subst (λ keys. Passes (effects sub.statements) start after.here reached.NoWay after.exits keys read) c.requires.none
    (subst (λ e. Passes e start after.here reached.NoWay after.exits c.args.found.now.keys read) c.requires.items c.in_ok-go_over_all.ensures) in
    let end = subst (λ items. Finds after.here (exports_at sub.end items) kept found) c.relation.ensures c.in_ok-add_unset_exports.ensures in
    IfOk-weaker c.listed.result _ (λ v. AreUnsetReads p sub v.items)
    (λ v is. subst (AreUnsetReads p sub) (sym is) (are_unset p sub imported read kept found c.in_ok-imports.ensures c.in_ok-here.ensures body c.leave_out_initialized.ensures end c.listed.ensures.once))
    c.listed.ensures.items
