use Rattle.std.proofs.Common.{◌≡◌, ap, ◌∙◌, refl, length, slice_set, rules}
use Rattle.spx_term.specs.Intervals.{meet}
use Rattle.spx_simplify.proofs.Tables.{knows_made}
use Rattle.spx_simplify.proofs.known.Known.make.Goals as goal

pub returns-clause-knows : goal.returns-clause-knows
returns-clause-knows c = λ hyps knows.
    let trees = c.args.terms.now in
    let form = c.structural-form.result in
    let count : c.len-count.result ≡ length c.args.self.now.made.items = search rules in
    knows_made trees hyps c.args.self.now _ c.args.id c.args.node form c.meet-interval.result knows c.in_default.ensures c.requires.form c.requires.ready refl refl refl c.in_ok-push.ensures.items
    (c.set.ensures ∙ ap (slice_set c.args.self.now.places c.args.id.0) count) (c.structural-form.ensures hyps knows) (c.meet-interval.ensures ∙ ap (meet form) c.bounds_at.ensures)
