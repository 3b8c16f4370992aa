-- The procedure `Next` breaks no static rule.
use Rattle.std.proofs.Common.{◌≡◌, pos, [], ◌∷◌, Ok, None, ap, ap₂, ◌∙◌}
use Rattle.std.specs.Prelude.{⊤}
use Rattle.spx_tree.specs.declared.expression.InfixOp.TheVariants as op
use Rattle.spx_core.specs.declared.entity.TheConstants.{BOOLEAN}
use Rattle.spx_core.specs.declared.expression.CoreExpr.TheVariants as expr
use Rattle.spx_core.specs.declared.rule.ExprType.TheVariants.{Of}
use Rattle.spx_core.specs.declared.rule.Typing.{Typing}
use Rattle.spx_core.specs.Commands.{Command, Skip, Then, Choose, commands}
use Rattle.spx_core.specs.Judged.{Judged, ◌>>=◌, condition, expr_step, judged, typing}
use Rattle.spx_core.specs.Statements.{Typed, judged_command}
use Rattle.spx_core.specs.declared.statement.Around.TheVariants.{Other}
use Rattle.spx_core.specs.Obeyed.{Obeys, obeyed_command}
use Rattle.spx_core.proofs.Callers.Expressions.{fold-Number, fold-Infix}
use Rattle.spx_meaning.specs.Literals.{literal, literal_in}
use Rattle.spx_examples.specs.Increment.{place, x_at, successor}
use Rattle.spx_examples.specs.Names.{target_to}
use Rattle.spx_examples.specs.Next.{closing, below_hundred, step, branch, next_program}
use Rattle.spx_examples.proofs.Statements.{assignment_is, if_is, operating, and_no_more}
use Rattle.spx_examples.proofs.Successor.{judged_x, step_command, step_typed}

-- where X is below 100, X := X + 1
abbrev pub branch_command : Command
branch_command = Choose (place 5 4) below_hundred (Then (step_command 6 7 12) Skip) Skip

pub next_command : commands (branch ∷ []) ≡ Then branch_command Skip
next_command =
    if_is (place 5 4) below_hundred (step ∷ []) closing
    ∙ ap (λ body. Then (Choose (place 5 4) below_hundred body Skip) Skip) (assignment_is (target_to (x_at 6 7)) (successor 6 12))

pub judged_below : judged below_hundred ≡ Ok (typing (Of BOOLEAN.base) None (place 5 9))
judged_below =
    fold-Infix expr_step op.Less (place 5 9) (expr.Name (x_at 5 7)) (expr.Number (pos 100) (place 5 11))
    ∙ ap₂ (operating op.Less (place 5 9)) (judged_x 5 7) (fold-Number expr_step (pos 100) (place 5 11))

pub below_is_not : literal below_hundred ≡ None
below_is_not = ap literal_in judged_below

-- the branch, where its condition and its assignment are judged to be this
abbrev branch_judged : Judged Typing → Judged ⊤ → Judged ⊤
branch_judged test body = (test >>= λ t. condition t) >>= λ _. and_no_more body >>= λ _. Ok tt

pub typed : Typed next_program
typed =
    ap (λ body. and_no_more (and_no_more (judged_command body))) next_command
    ∙ ap₂ (λ test body. and_no_more (and_no_more (and_no_more (branch_judged test body)))) judged_below (step_typed 6 7 12)

pub obeys : Obeys next_program
obeys = ap (λ body. and_no_more (obeyed_command Other body)) next_command
