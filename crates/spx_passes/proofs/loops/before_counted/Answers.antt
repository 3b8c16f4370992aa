use Rattle.std.proofs.Common.{◌∙◌, subst, sym}
use Rattle.spx_core.specs.Mirror.VarSets.{holds}
use Rattle.spx_passes.specs.Occurrences.{AreRows}
use Rattle.spx_passes.proofs.AssignLaws.{kept_back, takes_cleared}
use Rattle.spx_passes.proofs.LoopPasses.{back_count, parameter_placed}
use Rattle.spx_passes.proofs.PositionLaws.{place_stands}
use Rattle.spx_passes.proofs.loops.before_counted.Goals as goal

pub returns-in_default : goal.returns-in_default
returns-in_default c stays body start covers known leaves begins steps = absurd (parameter_placed c.args.frame.now c.args.parameter c.args.bounds.now body c.args.place covers (sym c.position.ensures ∙ c.in_default.is))

pub before_bounds-requires-clause-parameter : goal.before_bounds-requires-clause-parameter
before_bounds-requires-clause-parameter c = place_stands c.args.frame.now.vars c.args.parameter c.in-Some.position (sym c.in-Some.ensures)

pub before_bounds-requires-clause-beside : goal.before_bounds-requires-clause-beside
before_bounds-requires-clause-beside c = record {
  once = c.requires.once;
  size = c.clear_row.ensures.size ∙ c.in_ok-past.ensures.0 ∙ c.requires.size;
  ends = c.in_ok-head.ensures.0 ∙ c.in_ok-rest.ensures.size ∙ c.in_ok-last.ensures.size;
  rows = subst (λ n. AreRows n c.turned.new.list) c.in_ok-last.ensures.size c.in_ok-rest.ensures.carried.rows;
}

pub returns : goal.returns
returns c stays body start covers known leaves begins steps =
    let frame = c.args.frame.now in
    let parameter = c.args.parameter in
    let bounds = c.args.bounds.now in
    let keys = c.args.targets.now.keys in
    let at = c.in-Some.position in
    let here = place_stands frame.vars parameter at (sym c.in-Some.ensures) in
    let turn = c.args.turn in
    let past = c.in_ok-past in
    let last = c.in_ok-last in
    let rest = c.in_ok-rest in
    let head = c.in_ok-head in
    let cleared = begins at here in
    let kept = kept_back frame covers.once parameter at here body cleared.0 cleared.1.1 start turn.flow c.add.new.self turn.inner (c.add.ensures.size ∙ c.requires.turn) cleared.3 steps c.add.ensures.pairs in
    let gone = takes_cleared frame covers.once parameter at here c.args.rho.now past.past c.clear_row.new.self past.ensures.1 c.clear_row.ensures.pairs in
    back_count frame parameter body c.args.place (λ v. holds keys v) known at here c.add.new.self turn.inner bounds covers c.args.rho.now c.clear_row.new.self last.last rest.rest head.head c.before_bounds.new.head c.replace.new.rows c.args.mu.now c.turned.new.list c.before_bounds.new.mu
    c.requires.size (c.clear_row.ensures.size ∙ past.ensures.0) last.ensures.size gone last.ensures.pairs kept rest.ensures head.ensures.0 head.ensures.1 c.in_ok-before_bounds.ensures c.replace.ensures.size c.replace.ensures.pairs
