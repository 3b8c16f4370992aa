use Rattle.std.proofs.Common.{◌<◌, length, subst, sym}
use Rattle.spx_passes.specs.Loops.{Carries}
use Rattle.spx_passes.proofs.RowLaws.{star_same}
use Rattle.spx_passes.proofs.turns.turned.Goals as goal

pub returns : goal.returns
returns c =
    let turn = c.args.turn.now.flow in
    let last = c.args.last.now in
    let copy = c.in_ok-turns in
    let head = c.in_ok-head in
    let inner = c.args.turn.now.inner in
    let before = c.args.list.now in
    let carried = subst (λ n. Carries n head.head inner before c.carry.new.list) head.ensures.0 (subst (λ list. Carries (length head.head) head.head list before c.carry.new.list) c.as_slice.ensures c.in_ok-carry.ensures) in record {
      size = head.ensures.0;
      pairs = λ a b. (
        λ h.
            let v = (head.ensures.1 a b).0 h in
            let k = (c.close_turns.ensures.pairs a v.0).0 v.1 in
            (subst (λ n. a < n) copy.ensures.0 k.0, v.0, star_same copy.turns turn (λ x y. (copy.ensures.1 x y).0) k.1, v.2),
        λ h. (head.ensures.1 a b).1 (h.1, (c.close_turns.ensures.pairs a h.1).1 (subst (λ n. a < n) (sym copy.ensures.0) h.0, star_same turn copy.turns (λ x y. (copy.ensures.1 x y).1) h.2), h.3),
      );
      carried = carried;
    }
