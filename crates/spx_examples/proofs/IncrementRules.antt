-- The procedure `Inc` breaks no static rule.
use Rattle.std.proofs.Common.{◌≡◌, [], ◌∷◌, List, ◌++◌, Ok, ap, ap₂, ◌∙◌}
use Rattle.std.specs.Prelude.{⊤, codes}
use Rattle.spx_tree.specs.declared.expression.InfixOp.TheVariants as op
use Rattle.spx_core.specs.declared.name.CoreName.{CoreName}
use Rattle.spx_core.specs.declared.expression.CoreExpr.TheVariants as expr
use Rattle.spx_core.specs.declared.rule.Typing.{Typing}
use Rattle.spx_core.specs.Judged.{Judged, ◌>>=◌, condition, each}
use Rattle.spx_core.specs.Commands.{Skip, Then, commands}
use Rattle.spx_core.specs.Statements.{Typed, judged_command}
use Rattle.spx_core.specs.declared.statement.Around.TheVariants.{Other}
use Rattle.spx_core.specs.Obeyed.{Obeys, obeyed_command, reads_import}
use Rattle.spx_core.specs.Reads.{names_read, names_step}
use Rattle.spx_core.proofs.Callers.Expressions.{fold-Name, fold-Attribute, fold-Infix}
use Rattle.spx_examples.specs.Increment.{place, word, x_at, integer_at, integer_last, below_last, successor, step, inc, increment}
use Rattle.spx_examples.proofs.Statements.{assignment_is, and_no_more}
use Rattle.spx_examples.proofs.IncrementTypes.{judged_below}
use Rattle.spx_examples.proofs.Successor.{step_command, step_typed}
use Rattle.spx_examples.specs.Names.{target_to}

pub inc_command : commands (step ∷ []) ≡ Then (step_command 6 4 9) Skip
inc_command = assignment_is (target_to (x_at 6 4)) (successor 6 9)

-- the procedure, where its precondition and its body are judged to be this
abbrev sub_judged : Judged Typing → Judged ⊤ → Judged ⊤
sub_judged pre body = and_no_more ((pre >>= λ t. condition t) >>= λ _. and_no_more body)

pub typed : Typed increment
typed = ap₂ (λ pre body. sub_judged pre (judged_command body)) judged_below inc_command ∙ ap and_no_more (ap and_no_more (ap and_no_more (step_typed 6 4 9)))

-- the precondition names an import
reads : each (reads_import inc) (names_read below_last) ≡ Ok tt
reads =
    ap (each (reads_import inc))
    (fold-Infix names_step op.Less (place 3 11) (expr.Name (x_at 3 9)) integer_last
    ∙ ap₂ (λ (a b : List CoreName). a ++ b) (fold-Name names_step (x_at 3 9)) (fold-Attribute names_step (integer_at 3 13) (word (codes "Last") 3 21)))

pub obeys : Obeys increment
obeys = ap₂ (λ (pre : Judged ⊤) body. and_no_more (pre >>= λ _. obeyed_command Other body)) reads inc_command
