use Rattle.std.proofs.Common.{◌≡◌, ap, ◌∙◌, cond, eqb, length, rules}
use Rattle.std.proofs.lemmas.Int.{to_z-of_z}
use Rattle.spx_term.specs.Intervals.{bounds_before, meet, allowed}
use Rattle.spx_arena.specs.Sharing.{tree_at}
use Rattle.spx_simplify.specs.Folds.{place_of}
use Rattle.spx_simplify.specs.Tables.{interval_at, set_to}
use Rattle.spx_simplify.proofs.Meets.{one_bound}
use Rattle.spx_simplify.proofs.Places.{sets_along, set_met}
use Rattle.spx_simplify.proofs.known.Known.bound_before.Goals as goal

pub returns-in-Number : goal.returns-in-Number
returns-in-Number c =
    let ts = c.args.terms.now in
    let bs = c.args.self.now.bounds in
    let a = c.args.left in
    let e : c.meet-bounds.result ≡ meet (interval_at bs a.0) (allowed c.args.op c.in-Number.value) = search (rules, to_z-of_z) in
    sets_along (set_to bs a c.meet-bounds.result) (λ i. meet (interval_at bs i) (bounds_before c.args.op (tree_at ts a) (tree_at ts c.args.right) (tree_at ts (place_of i))))
    (c.set_bounds.ensures (length ts) c.requires.sized)
    (λ i w.
    ap (λ x. cond (eqb a.0 i) x (interval_at bs i)) e ∙ set_met bs a (allowed c.args.op c.in-Number.value) i
    ∙ ap (meet (interval_at bs i)) (one_bound ts c.distinct.ensures c.args.op a c.args.right c.in-Number.value c.requires.within.0 c.in-Number.ensures.tree i w))
