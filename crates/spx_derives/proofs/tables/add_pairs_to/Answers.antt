use Rattle.std.proofs.Common.{◌∙◌, ◌&&◌, ◌||◌, ◌==◌, sym, ap}
use Rattle.spx_core.specs.Uses.{mentions}
use Rattle.spx_rows.specs.Relations.{Matrix}
use Rattle.spx_derives.specs.Tables.{pair_in}
use Rattle.spx_derives.proofs.Steps.{pair_with_itself, with_itself, without_itself}
use Rattle.spx_derives.proofs.tables.add_pairs_to.Goals as goal
use Rattle.spx_derives.proofs.tables.add_pairs_to.Goals.{then-is_some, else-is_some}

pub returns-clause-pairs : goal.returns-clause-pairs
returns-clause-pairs c u k x y at_u at_k =
    let item = c.args.item.now in
    let to = c.args.export.0 == y.0 in
    let imported = mentions x item.imports in
    let old = pair_in c.args.declared.now u k in
    let imports =
    c.add_imports.ensures.pairs u k x y at_u at_k
    ∙ ap (λ names. (to && mentions x names) || pair_in c.if-is_some.declared u k) c.as_slice.ensures in
    imports
    ∙ elim c.if-is_some.branch [
      | then-is_some w ↦
          ap (λ (m : Matrix). (to && imported) || pair_in m u k) w.declared-is
          ∙ ap (λ b. (to && imported) || b) (w.add_pair.ensures.pairs u k x y at_u at_k)
          ∙ ap (λ b. (to && imported) || (b || old)) (pair_with_itself c.args.export.0 x.0 y.0)
          ∙ with_itself to imported (x.0 == y.0) old
          ∙ ap (λ b. (to && (imported || (b && (x.0 == y.0)))) || old) (sym w.if-is_some.true ∙ c.is_some.ensures)
      | else-is_some w ↦
          ap (λ (m : Matrix). (to && imported) || pair_in m u k) w.declared-is
          ∙ without_itself to imported (x.0 == y.0) old
          ∙ ap (λ b. (to && (imported || (b && (x.0 == y.0)))) || old) (sym w.if-is_some.false ∙ c.is_some.ensures)
    ]
