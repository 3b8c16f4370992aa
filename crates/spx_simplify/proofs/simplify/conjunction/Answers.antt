use Rattle.std.proofs.Common.{◌-◌, ◌<◌, length, refl, arith}
use Rattle.spx_simplify.specs.Folds.{place_of}
use Rattle.spx_simplify.proofs.Claims.{last_goal, next_goal, join_requires}
use Rattle.spx_arena.proofs.Growth.{grows_twice, grows_not}
use Rattle.spx_simplify.proofs.simplify.conjunction.Goals as goal

pub join-init : goal.join-init
join-init c =
    let some : 0 < length c.args.goals.now = omega arith in
    record {
      within = omega (arith, some);
      grown = grows_not c.args.terms.now;
      all = last_goal c.args.terms.now c.args.goals.now (length c.args.goals.now - 1) (place_of 0) c.requires (omega (arith, some));
    }

pub infix-requires : goal.infix-requires
infix-requires c =
    let w : c.join.at - 1 < length c.args.goals.now = omega (arith, c.join.invariant.within) in
    join_requires c.args.terms.now c.join.terms c.args.goals.now (c.join.at - 1) (place_of 0) c.join.all c.requires c.join.invariant.grown w c.join.invariant.all

pub join-preserved : goal.join-preserved
join-preserved c = record {
  within = omega (arith, c.join.invariant.within);
  grown = grows_twice c.join.invariant.grown c.in_ok-all.ensures.added.grown;
  all = next_goal c.args.terms.now c.join.terms c.infix.new.self c.args.goals.now c.join.at (c.join.at - 1) (place_of 0) c.join.all c.in_ok-all.all c.requires c.join.invariant.grown c.join.invariant.within c.join-test.true refl c.join.invariant.all c.in_ok-all.ensures.added;
}
