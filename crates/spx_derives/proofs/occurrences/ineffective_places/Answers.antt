use Rattle.std.proofs.Common.{◌∙◌, ◌&&◌, not, ap}
use Rattle.std.specs.List.{list_any}
use Rattle.spx_derives.specs.Tables.{stands_at}
use Rattle.spx_derives.proofs.TableLaws.{others_are}
use Rattle.spx_derives.proofs.occurrences.ineffective_places.Goals as goal

pub returns-clause-places : goal.returns-clause-places
returns-clause-places c q =
    (rw c.get.ensures at (c.in_ok-places.ensures.places q))
    ∙ others_are c.in_ok-effective.effective.keys q c.args.occurrences.now
    ∙ ap (λ b. list_any (stands_at q) c.args.occurrences.now && not b) (c.in_ok-effective.ensures q)
