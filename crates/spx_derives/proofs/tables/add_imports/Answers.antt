use Rattle.std.proofs.Common.{◌∙◌, ◌&&◌, ◌||◌, ◌==◌, ◌+◌, drop, length, sym, ap}
use Rattle.spx_core.specs.declared.entity.VarId.{VarId}
use Rattle.spx_core.specs.declared.name.Reference.{Reference}
use Rattle.spx_core.specs.Uses.{denotes, is_same, mentions}
use Rattle.spx_rows.specs.Relations.{Matrix}
use Rattle.spx_derives.specs.Tables.{pair_in}
use Rattle.spx_derives.proofs.Steps.{any_more, import_step}
use Rattle.spx_derives.proofs.tables.add_imports.Goals as goal
use Rattle.spx_derives.proofs.tables.add_imports.Goals.{in-Some, in_default}

pub loop-name-preserved : goal.loop-name-preserved
loop-name-preserved c =
    let old = c.loop-name.declared in
    let rest = drop (c.loop-name.name-index + 1) c.args.imports.now in
    let more = λ (x : VarId). any_more (λ (name : Reference). denotes x name.root) c.args.imports.now c.loop-name.name-index c.name-item.result c.loop-name-test.true c.name-item.is in
    elim c.match-variable_of.branch [
      | in-Some w ↦ (
        ap (length {A = _}) w.declared-is ∙ w.add_pair.ensures.size ∙ c.loop-name.invariant.0,
        λ u k x y at_u at_k.
            let to = c.args.export.0 == y.0 in
            ap (λ (m : Matrix). (to && mentions x rest) || pair_in m u k) w.declared-is
            ∙ ap (λ b. (to && mentions x rest) || b) (w.add_pair.ensures.pairs u k x y at_u at_k)
            ∙ import_step to (w.in-Some.import.0 == x.0) (mentions x rest) (pair_in old u k)
            ∙ ap (λ b. (to && (b || mentions x rest)) || pair_in old u k) (sym (ap (is_same x) (sym c.variable_of.ensures ∙ w.in-Some.is)))
            ∙ ap (λ b. (to && b) || pair_in old u k) (sym (more x))
            ∙ c.loop-name.invariant.1 u k x y at_u at_k,
      )
      | in_default w ↦ (
        ap (length {A = _}) w.declared-is ∙ c.loop-name.invariant.0,
        λ u k x y at_u at_k.
            let to = c.args.export.0 == y.0 in
            ap (λ (m : Matrix). (to && mentions x rest) || pair_in m u k) w.declared-is
            ∙ ap (λ b. (to && (b || mentions x rest)) || pair_in old u k) (sym (ap (is_same x) (sym c.variable_of.ensures ∙ w.in_default.is)))
            ∙ ap (λ b. (to && b) || pair_in old u k) (sym (more x))
            ∙ c.loop-name.invariant.1 u k x y at_u at_k,
      )
    ]
