use Rattle.std.proofs.Common.{◌≢◌, ℕ, ◌↔◌, subst, sym}
use Rattle.spx_core.specs.Mirror.VarSets.{place_in_set}
use Rattle.spx_rows.specs.Relations.{Holds}
use Rattle.spx_passes.proofs.PositionLaws.{not_both, one_place, place_of_standing, place_stands}
use Rattle.spx_passes.proofs.loops.kept_start.Goals as goal

pub returns-in-Some-clause-kept : goal.returns-in-Some-clause-kept
returns-in-Some-clause-kept c to stands =
    let vars = c.args.frame.now.vars in
    let parameter = c.args.parameter in
    let at = c.in-Some.position in
    let same = one_place vars at to parameter c.requires.once (place_stands vars parameter at (sym c.in-Some.ensures)) stands in
    (c.args.itself, c.requires.itself, c.clear_row.ensures.size, subst (λ k. (a b : ℕ) → Holds c.clear_row.new.self a b ↔ ((k ≢ a) × Holds c.args.itself a b)) same c.clear_row.ensures.pairs)

pub returns-in-None-clause-kept : goal.returns-in-None-clause-kept
returns-in-None-clause-kept c to stands =
    let vars = c.args.frame.now.vars in
    absurd (not_both (place_in_set vars c.args.parameter) to (sym c.in-None.ensures) (place_of_standing vars c.args.parameter to c.requires.once stands))
