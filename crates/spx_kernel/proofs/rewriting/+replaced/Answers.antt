use Rattle.std.proofs.Common.{◌≡◌, true}
use Rattle.spx_term.specs.Equality.{same_term}
use Rattle.spx_term.specs.Substitution.{raised}
use Rattle.spx_kernel.proofs.OccurrenceForms.{replaced_itself}
use Rattle.spx_kernel.proofs.rewriting.+replaced.Goals as goal

pub returns-then-same : goal.returns-then-same
returns-then-same t c =
    let is : same_term c.args.term.now (raised c.args.depth c.args.from.now) ≡ true = cc in
    rw (replaced_itself c.args.depth c.args.from.now c.args.to.now c.args.term.now is) c.raised.ensures
