use Rattle.std.proofs.Common.{◌≡◌, ◌++◌, sym, subst}
use Rattle.std.proofs.lemmas.Result.{IfOk-weaker}
use Rattle.spx_core.specs.Resolved.{own_types, own_vars, resolved_sub}
use Rattle.spx_naming.specs.Before.{before_in}
use Rattle.spx_naming.proofs.Subprograms.{whole}
use Rattle.spx_naming.proofs.unit.resolve_subprogram.Goals as goal

pub returns : goal.returns
returns c =
    let before = c.args.tables.now in
    let after = c.resolve_inner.new.tables in
    let made =
    whole c.get.result.now c.args.subprogram.now _ _ _ _ _ _ _ _ _ _ _ _ _ _ _ _ _ _
    c.len-first.ensures c.len.ensures c.len-2.ensures c.in_ok-formal_part.ensures
    c.in_ok-inner.ensures.derives c.in_ok-inner.ensures.pre c.in_ok-inner.ensures.post c.in_ok-inner.ensures.declarations c.in_ok-inner.ensures.local_count c.in_ok-inner.ensures.statements
    c.in_ok-inner.ensures.vars c.in_ok-inner.ensures.types
    c.in_ok-end_name.ensures c.in_ok-vars.ensures in
    IfOk-weaker c.new-2.result _ _
    (λ sub is.
    subst (λ s. (s ≡ resolved_sub c.args.name (before_in before) c.args.subprogram.now) × (after.vars ≡ before.vars ++ own_vars s) × (after.types ≡ before.types ++ own_types s))
    (sym (rw (c.into_inner.ensures, c.into_inner-body.ensures, c.into_inner-inner.ensures) at is)) (rw c.get.ensures at made)) c.new-2.ensures
