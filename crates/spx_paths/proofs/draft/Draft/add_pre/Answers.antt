use Rattle.std.proofs.Common.{ap, sym, ◌∙◌}
use Rattle.spx_core.specs.declared.expression.CoreExpr.{CoreExpr}
use Rattle.spx_term.specs.Conjuncts.{conjuncts}
use Rattle.spx_formula.specs.EntryNames.{meant}
use Rattle.spx_paths.specs.Drafts.{pre_parts}
use Rattle.spx_paths.proofs.KnownLaws.{parts_more, terms_along}
use Rattle.spx_paths.proofs.draft.Draft.add_pre.Goals as goal

pub returns-in_ok-append : goal.returns-in_ok-append
returns-in_ok-append c =
    let p = c.args.body.now.program.now in
    let entered = c.args.entered.now in
    let facts = pre_parts p entered c.args.body.now.sub.now.pre in
    let known = ap (λ (e : CoreExpr). conjuncts (meant p entered e)) c.get.ensures ∙ ap (pre_parts p entered) (sym c.in-Some.is) in
    parts_more c.args.facts.now c.in_ok-parts.field-0 facts c.requires.facts (terms_along facts c.in_ok-parts.ensures known) c.in_ok-append.ensures
