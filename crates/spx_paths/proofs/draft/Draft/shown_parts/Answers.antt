use Rattle.std.proofs.Common.{ap}
use Rattle.std.proofs.lemmas.Result.{IfOk-weaker}
use Rattle.spx_term.specs.Conjuncts.{conjuncts}
use Rattle.spx_formula.specs.Terms.{entry_term, term_of}
use Rattle.spx_paths.proofs.KnownLaws.{meant_on_entry, terms_along}
use Rattle.spx_paths.proofs.draft.Draft.shown_parts.Goals as goal

pub returns : goal.returns
returns c =
    let p = c.args.body.now.program.now in
    let sub = c.args.body.now.sub.now in
    let e = c.args.condition.now in
    let is = meant_on_entry p sub c.args.body.now.interface e c.requires.interface in
    IfOk-weaker c.parts.result _ _ (λ ids m. terms_along (conjuncts (term_of p (entry_term p sub) e)) m (ap conjuncts is)) c.parts.ensures
