use Rattle.std.proofs.Common.{ap, subst}
use Rattle.std.proofs.lemmas.Result.{on_ok_weaker}
use Rattle.spx_core.specs.declared.function.Mapping.{Mapping}
use Rattle.spx_core.specs.Judged.{Judged}
use Rattle.spx_paths.specs.Checks.{mapping_check}
use Rattle.spx_formula.specs.Terms.{moved_term}
use Rattle.spx_formula.specs.Functions.{shift_in}
use Rattle.spx_paths.specs.Waiting.{Means}
use Rattle.spx_paths.proofs.CheckSteps.{keeps_not, finds_along, finds_not}
use Rattle.spx_paths.proofs.draft.Draft.check_mapping.Goals as goal

pub returns-in-Ok-clause-walks : goal.returns-in-Ok-clause-walks
returns-in-Ok-clause-walks c =
    on_ok_weaker c.check_bounds.result
    (λ walks ls t ml m. finds_along (λ rest. ap (λ (j : Judged Mapping). mapping_check ls j c.args.place t rest) c.in-Ok.is)
    (walks ls (moved_term c.in-Ok.mapping.shift t) ml (subst (λ (j : Judged Mapping). Means c.args.self.now c.args.value (moved_term (shift_in j) t)) c.in-Ok.is m))) c.check_bounds.ensures.walks

pub returns-in-Err-clause-keeps : goal.returns-in-Err-clause-keeps
returns-in-Err-clause-keeps c = keeps_not c.requires.whole

pub returns-in-Err-clause-walks : goal.returns-in-Err-clause-walks
returns-in-Err-clause-walks c = λ ls t ml m. finds_along (λ rest. ap (λ (j : Judged Mapping). mapping_check ls j c.args.place t rest) c.in-Err.is) (finds_not c.args.self.now)
