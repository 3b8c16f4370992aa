use Rattle.spx_derives.proofs.TableLaws.{meets_is, same_truth}
use Rattle.spx_derives.proofs.occurrences.reaches.Goals as goal

pub returns : goal.returns
returns c =
    let is = meets_is c.args.occurrence.now.vars c.args.exports.now in
    same_truth c.meets.result _ (λ h. is.1 (c.meets.ensures.0 h), λ h. c.meets.ensures.1 (is.0 h))
