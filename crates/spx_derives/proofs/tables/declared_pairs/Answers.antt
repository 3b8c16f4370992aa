use Rattle.std.proofs.Common.{◌∙◌, ◌||◌, ◌+◌, drop, sym, ap}
use Rattle.std.specs.List.{list_any}
use Rattle.std.proofs.lemmas.List.{drop_all}
use Rattle.spx_core.specs.Mirror.DerivesItems.{has_pair}
use Rattle.spx_derives.specs.Tables.{pair_in}
use Rattle.spx_derives.proofs.Steps.{any_more, item_step}
use Rattle.spx_derives.proofs.tables.declared_pairs.Goals as goal

pub loop-item-preserved : goal.loop-item-preserved
loop-item-preserved c =
    let items = c.args.items.now in (
      c.add_item.ensures.size ∙ c.loop-item.invariant.0,
      λ u k x y at_u at_k.
          let rest = list_any (has_pair x y) (drop (c.loop-item.item-index + 1) items) in
          ap (λ b. rest || b) (c.add_item.ensures.pairs u k x y at_u at_k)
          ∙ item_step (has_pair x y c.item-item.result) rest (pair_in c.loop-item.declared u k)
          ∙ ap (λ b. b || pair_in c.loop-item.declared u k) (sym (any_more (has_pair x y) items c.loop-item.item-index c.item-item.result c.loop-item-test.true c.item-item.is))
          ∙ c.loop-item.invariant.1 u k x y at_u at_k,
    )

pub returns-clause-pairs : goal.returns-clause-pairs
returns-clause-pairs c u k x y at_u at_k =
    ap (λ items. list_any (has_pair x y) items || pair_in c.loop-item.declared u k) (sym (drop_all c.loop-item.item-index c.args.items.now c.loop-item-test.false)) ∙ c.loop-item.invariant.1 u k x y at_u at_k
