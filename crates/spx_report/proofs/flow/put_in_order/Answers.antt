use Rattle.std.proofs.Common.{◌≡◌, sym, subst, rules}
use Rattle.std.specs.List.{dedup}
use Rattle.std.specs.List.Sorted.{IsSorted}
use Rattle.std.specs.Ordering.{eq_by_cmp, is_lt}
use Rattle.std.proofs.lemmas.Fn.{always_returns_same, dedup_same}
use Rattle.std.proofs.lemmas.List.Sorted.{ranks_by}
use Rattle.spx_report.specs.declared.report.Finding.{Finding}
use Rattle.spx_report.specs.LineLists.{line_cmp, AreInOrderOf}
use Rattle.spx_report.proofs.LineOrder.{line_cmp_total}
use Rattle.spx_report.proofs.LinesInOrder.{in_order_of}
use Rattle.spx_report.proofs.flow.put_in_order.Goals as goal

pub returns : goal.returns
returns c =
    let old = c.args.lines.now.items in
    let sorted = c.sort_unstable_by.new.self.items in
    let ascend : IsSorted line_cmp sorted =
    c.sort_unstable_by.ensures.sorted (λ a b. is_lt (line_cmp a b)) (ranks_by line_cmp_total (λ (line : Finding). line)) (always_returns_same _ _ _ (λ a r f' k. search rules)) in
    let kept : c.dedup_by.new.self.items ≡ dedup (eq_by_cmp line_cmp) sorted = dedup_same _ (eq_by_cmp line_cmp) _ (λ x y b f' x' y' k. search rules) _ _ c.dedup_by.ensures.filtered in
    subst (AreInOrderOf old) (sym kept) (in_order_of old sorted c.sort_unstable_by.ensures.permutation ascend)
