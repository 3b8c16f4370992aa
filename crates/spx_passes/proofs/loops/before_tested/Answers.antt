use Rattle.std.proofs.Common.{sym, subst, ◌∙◌}
use Rattle.spx_core.specs.Mirror.VarSets.{holds}
use Rattle.spx_passes.specs.Occurrences.{AreRows}
use Rattle.spx_passes.specs.Loops.{read_points}
use Rattle.spx_passes.specs.Points.{on_variables}
use Rattle.spx_passes.proofs.LoopPasses.{back_while}
use Rattle.spx_passes.proofs.PassLaws.{back_turn}
use Rattle.spx_passes.proofs.loops.before_tested.Goals as goal

pub spread-requires-clause-beside : goal.spread-requires-clause-beside
spread-requires-clause-beside c = record { once = c.requires.once; size = c.requires.size; ends = c.in_ok-last.ensures.size; rows = c.requires.rows }

pub turned-requires-clause-size : goal.turned-requires-clause-size
turned-requires-clause-size c =
    let keys = c.args.targets.now.keys in
    let test = c.in_ok-spread.ensures (on_variables (λ v. holds keys v)) (read_points c.args.reads.now) (rw (sym c.as_slice-to.ensures.value) at c.in_ok-to.ensures.exact) (rw (sym c.as_slice-from.ensures.value) at c.in_ok-from.ensures.exact) in
    c.requires.turn ∙ sym (test.size ∙ c.in_ok-last.ensures.size)

pub turned-requires-clause-inner : goal.turned-requires-clause-inner
turned-requires-clause-inner c =
    let keys = c.args.targets.now.keys in
    let test = c.in_ok-spread.ensures (on_variables (λ v. holds keys v)) (read_points c.args.reads.now) (rw (sym c.as_slice-to.ensures.value) at c.in_ok-to.ensures.exact) (rw (sym c.as_slice-from.ensures.value) at c.in_ok-from.ensures.exact) in
    subst (λ n. AreRows n c.args.turn.now.inner) (sym (test.size ∙ c.in_ok-last.ensures.size)) c.requires.inner

pub turned-requires-clause-list : goal.turned-requires-clause-list
turned-requires-clause-list c =
    let keys = c.args.targets.now.keys in
    let test = c.in_ok-spread.ensures (on_variables (λ v. holds keys v)) (read_points c.args.reads.now) (rw (sym c.as_slice-to.ensures.value) at c.in_ok-to.ensures.exact) (rw (sym c.as_slice-from.ensures.value) at c.in_ok-from.ensures.exact) in
    subst (λ n. AreRows n c.spread.new.list) (sym (test.size ∙ c.in_ok-last.ensures.size)) test.rows

pub replace-requires-clause-head : goal.replace-requires-clause-head
replace-requires-clause-head c =
    let keys = c.args.targets.now.keys in
    let test = c.in_ok-spread.ensures (on_variables (λ v. holds keys v)) (read_points c.args.reads.now) (rw (sym c.as_slice-to.ensures.value) at c.in_ok-to.ensures.exact) (rw (sym c.as_slice-from.ensures.value) at c.in_ok-from.ensures.exact) in
    c.in_ok-head.ensures.size ∙ test.size ∙ c.in_ok-last.ensures.size ∙ sym c.requires.size

pub returns : goal.returns
returns c stays body start covers known leaves begins steps =
    let frame = c.args.frame.now in
    let reads = c.args.reads.now in
    let keys = c.args.targets.now.keys in
    let turn = c.args.turn.now in
    let first = c.in_ok-last in
    let head = c.in_ok-head in
    let test = c.in_ok-spread.ensures (on_variables (λ v. holds keys v)) (read_points reads) (rw (sym c.as_slice-to.ensures.value) at c.in_ok-to.ensures.exact) (rw (sym c.as_slice-from.ensures.value) at c.in_ok-from.ensures.exact) in
    back_while frame reads body c.args.place covers (λ v. holds keys v) known turn.flow turn.inner c.args.rho.now first.last c.spread.new.rows head.head c.replace.new.rows c.args.mu.now c.spread.new.list c.turned.new.list
    c.requires.rows c.requires.size first.ensures.size first.ensures.pairs test (back_turn frame body start turn.flow turn.inner begins.0 begins.1 steps) head.ensures c.replace.ensures.size c.replace.ensures.pairs
