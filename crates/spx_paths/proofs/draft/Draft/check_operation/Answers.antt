use Rattle.std.proofs.Common.{◌≡◌, true, ap, arith}
use Rattle.std.proofs.lemmas.Result.{on_ok_weaker}
use Rattle.spx_tree.specs.declared.expression.InfixOp.{InfixOp}
use Rattle.spx_paths.specs.Checks.{operation_check}
use Rattle.spx_paths.proofs.Operators.{is_base, is_rest, op_base, op_free, op_rest}
use Rattle.spx_paths.proofs.CheckSteps.{all_kept, ids_kept, keeps_not, keeps_twice, means_kept, finds_along, finds_not, finds_twice}
use Rattle.spx_paths.proofs.draft.Draft.check_operation.Goals as goal

pub returns-in-Add-clause-walks : goal.returns-in-Add-clause-walks
returns-in-Add-clause-walks c =
    let o = c.args.operation in
    let is : is_base o.op ≡ true = grind (arith, c.in-Add.is) in
    on_ok_weaker c.check_base.result (λ walks ls b t ml mb mt. finds_along (op_base ls o.op o.base o.place o.at b t is) (walks ls t ml mt)) c.check_base.ensures.walks

pub returns-in_ok-check_base-in-Divide-clause-keeps : goal.returns-in_ok-check_base-in-Divide-clause-keeps
returns-in_ok-check_base-in-Divide-clause-keeps c = keeps_twice c.in_ok-check_divisor-in-Divide.ensures.keeps c.in_ok-check_base-in-Divide.ensures.keeps

pub returns-in_ok-check_base-in-Divide-clause-walks : goal.returns-in_ok-check_base-in-Divide-clause-walks
returns-in_ok-check_base-in-Divide-clause-walks c = λ ls b t ml mb mt.
    let o = c.args.operation in
    let k = c.in_ok-check_divisor-in-Divide.ensures.keeps in
    finds_along (λ rest. ap (λ (x : InfixOp). operation_check ls x o.base o.place o.at b t rest) c.in-Divide.is)
    (finds_twice (c.in_ok-check_divisor-in-Divide.ensures.walks ls b ml mb) (c.in_ok-check_base-in-Divide.ensures.walks ls t (all_kept k c.requires.lefts ml) (means_kept k c.requires.within.1 mt)))

pub returns-in-Mod-clause-walks : goal.returns-in-Mod-clause-walks
returns-in-Mod-clause-walks c =
    let o = c.args.operation in
    let is : is_rest o.op ≡ true = grind (arith, c.in-Mod.is) in
    on_ok_weaker c.check_divisor-in-Mod.result (λ walks ls b t ml mb mt. finds_along (op_rest ls o.op o.base o.place o.at b t is) (walks ls b ml mb)) c.check_divisor-in-Mod.ensures.walks

pub returns-in_ok-check_base-in-Power-clause-keeps : goal.returns-in_ok-check_base-in-Power-clause-keeps
returns-in_ok-check_base-in-Power-clause-keeps c = keeps_twice c.in_ok-check_exponent-in-Power.ensures.keeps c.in_ok-check_base-in-Power.ensures.keeps

pub returns-in_ok-check_base-in-Power-clause-walks : goal.returns-in_ok-check_base-in-Power-clause-walks
returns-in_ok-check_base-in-Power-clause-walks c = λ ls b t ml mb mt.
    let o = c.args.operation in
    let k = c.in_ok-check_exponent-in-Power.ensures.keeps in
    finds_along (λ rest. ap (λ (x : InfixOp). operation_check ls x o.base o.place o.at b t rest) c.in-Power.is)
    (finds_twice (c.in_ok-check_exponent-in-Power.ensures.walks ls b ml mb) (c.in_ok-check_base-in-Power.ensures.walks ls t (all_kept k c.requires.lefts ml) (means_kept k c.requires.within.1 mt)))

pub returns-in_default-clause-keeps : goal.returns-in_default-clause-keeps
returns-in_default-clause-keeps c = keeps_not c.requires.whole

pub returns-in_default-clause-walks : goal.returns-in_default-clause-walks
returns-in_default-clause-walks c = λ ls b t ml mb mt.
    let o = c.args.operation in
    let d = c.in_default in
    finds_along (op_free ls o.op o.base o.place o.at b t d.not-Add d.not-Subtract d.not-Multiply d.not-Divide d.not-Mod d.not-Rem d.not-Power) (finds_not c.args.self.now)

pub check_base-requires-in-Divide-clause-lefts : goal.check_base-requires-in-Divide-clause-lefts
check_base-requires-in-Divide-clause-lefts c = ids_kept c.in_ok-check_divisor-in-Divide.ensures.keeps c.args.lefts.now c.requires.lefts

pub check_base-requires-in-Power-clause-lefts : goal.check_base-requires-in-Power-clause-lefts
check_base-requires-in-Power-clause-lefts c = ids_kept c.in_ok-check_exponent-in-Power.ensures.keeps c.args.lefts.now c.requires.lefts
