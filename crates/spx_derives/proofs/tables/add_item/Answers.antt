use Rattle.std.proofs.Common.{◌∙◌, ◌&&◌, ◌||◌, ◌==◌, ◌+◌, drop, is_some, length, sym, ap}
use Rattle.spx_core.specs.declared.entity.VarId.{VarId}
use Rattle.spx_core.specs.declared.name.Reference.{Reference}
use Rattle.spx_core.specs.Uses.{denotes, is_same, mentions}
use Rattle.spx_rows.specs.Relations.{Matrix}
use Rattle.spx_derives.specs.Tables.{pair_in}
use Rattle.spx_derives.proofs.Steps.{any_more, export_step}
use Rattle.spx_derives.proofs.tables.add_item.Goals as goal
use Rattle.spx_derives.proofs.tables.add_item.Goals.{in-Some, in_default}

pub loop-name-preserved : goal.loop-name-preserved
loop-name-preserved c =
    let old = c.loop-name.declared in
    let names = c.as_slice-name-items.result.now in
    let rest = drop (c.loop-name.name-index + 1) names in
    let imports = λ (x y : VarId). mentions x c.args.item.now.imports || (is_some c.args.item.now.itself && (x.0 == y.0)) in
    let kept = λ (y : VarId). ap (λ ns. mentions y (drop (c.loop-name.name-index + 1) ns)) (sym c.as_slice-name-items.ensures) in
    let more = λ (y : VarId).
    sym (any_more (λ (name : Reference). denotes y name.root) names c.loop-name.name-index c.name-item.result c.loop-name-test.true c.name-item.is)
    ∙ ap (λ ns. mentions y (drop c.loop-name.name-index ns)) c.as_slice-name-items.ensures in
    elim c.match-variable_of.branch [
      | in-Some w ↦ (
        ap (length {A = _}) w.declared-is ∙ w.add_pairs_to.ensures.size ∙ c.loop-name.invariant.0,
        λ u k x y at_u at_k.
            let pair = imports x y in
            ap (λ b. (b && pair) || pair_in c.match-variable_of.declared u k) (kept y)
            ∙ ap (λ (m : Matrix). (mentions y rest && pair) || pair_in m u k) w.declared-is
            ∙ ap (λ b. (mentions y rest && pair) || b) (w.add_pairs_to.ensures.pairs u k x y at_u at_k)
            ∙ export_step (w.in-Some.export.0 == y.0) pair (mentions y rest) (pair_in old u k)
            ∙ ap (λ b. ((b || mentions y rest) && pair) || pair_in old u k) (sym (ap (is_same y) (sym c.variable_of.ensures ∙ w.in-Some.is)))
            ∙ ap (λ b. (b && pair) || pair_in old u k) (more y)
            ∙ c.loop-name.invariant.1 u k x y at_u at_k,
      )
      | in_default w ↦ (
        ap (length {A = _}) w.declared-is ∙ c.loop-name.invariant.0,
        λ u k x y at_u at_k.
            let pair = imports x y in
            ap (λ b. (b && pair) || pair_in c.match-variable_of.declared u k) (kept y)
            ∙ ap (λ (m : Matrix). (mentions y rest && pair) || pair_in m u k) w.declared-is
            ∙ ap (λ b. ((b || mentions y rest) && pair) || pair_in old u k) (sym (ap (is_same y) (sym c.variable_of.ensures ∙ w.in_default.is)))
            ∙ ap (λ b. (b && pair) || pair_in old u k) (more y)
            ∙ c.loop-name.invariant.1 u k x y at_u at_k,
      )
    ]
