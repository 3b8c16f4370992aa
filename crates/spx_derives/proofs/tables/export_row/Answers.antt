use Rattle.std.proofs.Common.{◌∙◌, ◌+◌, is_some, length, sym, ap, subst, arith}
use Rattle.std.proofs.lemmas.Option.{slice_get-get_or, slice_get_within}
use Rattle.indexmap.specs.IndexMap.{get}
use Rattle.spx_core.specs.declared.entity.VarId.{VarId}
use Rattle.spx_derives.specs.Tables.{same_var}
use Rattle.spx_derives.proofs.TableLaws.{Passed, passes_more, passes_not}
use Rattle.spx_derives.proofs.tables.export_row.Goals as goal
use Rattle.spx_derives.proofs.tables.export_row.Goals.{then-contains_key, else-contains_key}

pub loop-w-preserved : goal.loop-w-preserved
loop-w-preserved c =
    let vars = c.args.vars.now in
    let exported = λ (y : VarId). is_some (get same_var c.args.exports.now y) in
    elim c.if-contains_key.branch [
      | then-contains_key w ↦ (
        ap length w.row-is ∙ w.add.ensures.size ∙ c.loop-w.invariant.0,
        subst (Passed vars exported (c.loop-w.w + 1)) (sym w.row-is)
            (passes_more vars exported c.loop-w.w _ c.loop-w.row w.add.new.self (slice_get-get_or vars c.loop-w.w _ c.loop-w-test.true) (sym c.contains_key.ensures ∙ w.if-contains_key.true) w.add.ensures.numbers c.loop-w.invariant.1),
      )
      | else-contains_key w ↦ (
        ap length w.row-is ∙ c.loop-w.invariant.0,
        subst (Passed vars exported (c.loop-w.w + 1)) (sym w.row-is) (passes_not vars exported c.loop-w.w _ c.loop-w.row (slice_get-get_or vars c.loop-w.w _ c.loop-w-test.true) (sym c.contains_key.ensures ∙ w.if-contains_key.false) c.loop-w.invariant.1),
      )
    ]

pub returns-clause-row : goal.returns-clause-row
returns-clause-row c k = (
  λ h. let p = (c.loop-w.invariant.1 k).0 h in (p.0, p.2, p.3),
  λ h. (c.loop-w.invariant.1 k).1 (h.0, (let lt = slice_get_within c.args.vars.now k h.0 h.1 in omega arith), h.1, h.2),
)
