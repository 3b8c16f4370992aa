use Rattle.std.proofs.Common.{ap}
use Rattle.std.proofs.lemmas.Result.{on_ok_weaker}
use Rattle.spx_tree.specs.declared.expression.PrefixOp.{PrefixOp}
use Rattle.spx_paths.specs.Checks.{sign_check}
use Rattle.spx_paths.proofs.CheckSteps.{keeps_not, finds_along, finds_not}
use Rattle.spx_paths.proofs.draft.Draft.check_sign.Goals as goal

pub returns-in-Plus-clause-keeps : goal.returns-in-Plus-clause-keeps
returns-in-Plus-clause-keeps c = keeps_not c.requires.whole

pub returns-in-Plus-clause-walks : goal.returns-in-Plus-clause-walks
returns-in-Plus-clause-walks c = λ ls t ml m. finds_along (λ rest. ap (λ (x : PrefixOp). sign_check ls x c.args.base c.args.place t rest) c.in-Plus.is) (finds_not c.args.self.now)

pub returns-in-Minus-clause-walks : goal.returns-in-Minus-clause-walks
returns-in-Minus-clause-walks c = on_ok_weaker c.check_base.result (λ walks ls t ml m. finds_along (λ rest. ap (λ (x : PrefixOp). sign_check ls x c.args.base c.args.place t rest) c.in-Minus.is) (walks ls t ml m)) c.check_base.ensures.walks

pub returns-in-Abs-clause-walks : goal.returns-in-Abs-clause-walks
returns-in-Abs-clause-walks c = on_ok_weaker c.check_base-in-Abs.result (λ walks ls t ml m. finds_along (λ rest. ap (λ (x : PrefixOp). sign_check ls x c.args.base c.args.place t rest) c.in-Abs.is) (walks ls t ml m)) c.check_base-in-Abs.ensures.walks

pub returns-in-Not-clause-keeps : goal.returns-in-Not-clause-keeps
returns-in-Not-clause-keeps c = keeps_not c.requires.whole

pub returns-in-Not-clause-walks : goal.returns-in-Not-clause-walks
returns-in-Not-clause-walks c = λ ls t ml m. finds_along (λ rest. ap (λ (x : PrefixOp). sign_check ls x c.args.base c.args.place t rest) c.in-Not.is) (finds_not c.args.self.now)
