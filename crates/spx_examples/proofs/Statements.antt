-- What the examples share: statements as commands, and parts of judgements and of runs.
use Rattle.std.proofs.Common.{◌≡◌, List, [], ◌∷◌, Option, None, Some, refl, ap, ap₂, ◌∙◌, Ok}
use Rattle.std.specs.Prelude.{⊤}
use denote.Hole.Carrier.{roll}
use Rattle.spx_text.specs.declared.place.Place.{Place}
use Rattle.spx_tree.specs.declared.statement.AssertionKind.{AssertionKind}
use Rattle.spx_tree.specs.declared.statement.Closing.{Closing}
use Rattle.spx_tree.specs.declared.expression.InfixOp.{InfixOp}
use Rattle.spx_core.specs.declared.part.Target.{Target}
use Rattle.spx_core.specs.declared.expression.CoreExpr.{CoreExpr}
use Rattle.spx_core.specs.declared.statement.CoreStmt.{CoreStmt, CoreStmt-F, roll-CoreStmt, fold-roll-CoreStmt}
use Rattle.spx_core.specs.declared.statement.CoreStmt.TheVariants as stmt
use Rattle.spx_core.specs.declared.statement.CoreArm.{fold-roll-CoreArm}
use Rattle.spx_core.specs.declared.statement.CoreChoice.{CoreChoice}
use Rattle.spx_core.specs.declared.statement.CoreScheme.TheVariants as scheme
use Rattle.spx_core.specs.declared.rule.Typing.{Typing}
use Rattle.spx_core.specs.declared.subprogram.Sub.{Sub}
use Rattle.spx_core.specs.Judged.{Judged, ◌>>=◌, operation}
use Rattle.spx_core.specs.Commands.{Command, Skip, Set, Then, Choose, Assertion, Repeat, Tested, alternative_step, arm_step, stmt_step, commands}
use Rattle.spx_core.proofs.Callers.CommandForms.{command-Assertion, command-Assignment, command-Null, command-While}
use Rattle.spx_meaning.specs.declared.bad.BadKind.TheVariants.{Unset}
use Rattle.spx_meaning.specs.Runs.{Outcome, Ended, then_do, demand, exports_set}
use Rattle.spx_examples.specs.Branches.{arm}

pub null_is : (at : Place) → commands (stmt.Null at ∷ []) ≡ Then Skip Skip
null_is at = ap (λ c. Then c Skip) (command-Null at)

pub assertion_is : (kind : AssertionKind) (at : Place) (condition : CoreExpr) → commands (stmt.Assertion kind at condition ∷ []) ≡ Then (Assertion kind at condition) Skip
assertion_is kind at condition = ap (λ c. Then c Skip) (command-Assertion kind at condition)

pub assignment_is : (target : Target) (value : CoreExpr) → commands (stmt.Assignment target value ∷ []) ≡ Then (Set target value) Skip
assignment_is target value = ap (λ c. Then c Skip) (command-Assignment target value)

pub while_is : (at : Place) (condition : CoreExpr) (loop_word : Place) (body : List CoreStmt) (closing : Closing)
    → commands (stmt.Loop (scheme.While at condition) loop_word body closing ∷ []) ≡ Then (Repeat (Tested at condition) (commands body)) Skip
while_is at condition loop_word body closing =
    ap (λ c. Then c Skip) (command-While (stmt.Loop (scheme.While at condition) loop_word body closing) (scheme.While at condition) loop_word body closing at condition refl refl)

-- an `if` of one arm and no `else` chooses between the arm and nothing
pub if_is : (at : Place) (condition : CoreExpr) (body : List CoreStmt) (closing : Closing) → commands (stmt.If (arm at condition body ∷ []) None closing ∷ []) ≡ Then (Choose at condition (commands body) Skip) Skip
unfolding roll-CoreStmt roll
if_is at condition body closing =
    ap (λ c. Then c Skip)
    (fold-roll-CoreStmt Command (Option (List CoreChoice) × Command) (Command → Command) stmt_step alternative_step arm_step (CoreStmt-F.If (arm at condition body ∷ []) None closing)
    ∙ ap (λ choose. choose Skip) (fold-roll-CoreArm Command (Option (List CoreChoice) × Command) (Command → Command) stmt_step alternative_step arm_step (record { place = at; condition = condition; body = body })))

-- `elsif` is an `if` in the `else` before it
pub elsif_is : (p q : Place) (first second : CoreExpr) (a b c : List CoreStmt) (closing : Closing)
    → commands (stmt.If (arm p first a ∷ arm q second b ∷ []) (Some c) closing ∷ []) ≡ Then (Choose p first (commands a) (Choose q second (commands b) (commands c))) Skip
unfolding roll-CoreStmt roll
elsif_is p q first second a b c closing =
    ap (λ choose. Then choose Skip)
    (fold-roll-CoreStmt Command (Option (List CoreChoice) × Command) (Command → Command) stmt_step alternative_step arm_step (CoreStmt-F.If (arm p first a ∷ arm q second b ∷ []) (Some c) closing)
    ∙ ap₂ (λ (f g : Command → Command). f (g (commands c)))
    (fold-roll-CoreArm Command (Option (List CoreChoice) × Command) (Command → Command) stmt_step alternative_step arm_step (record { place = p; condition = first; body = a }))
    (fold-roll-CoreArm Command (Option (List CoreChoice) × Command) (Command → Command) stmt_step alternative_step arm_step (record { place = q; condition = second; body = b })))

-- ---- judgements

-- nothing is broken in what follows
abbrev pub and_no_more : Judged ⊤ → Judged ⊤
and_no_more first = first >>= λ _. Ok tt

-- an operation on what its operands are judged to be
abbrev pub operating : InfixOp → Place → Judged Typing → Judged Typing → Judged Typing
operating op place left right = left >>= λ l. right >>= λ r. operation op place l r

-- ---- runs

-- the end of a body without a postcondition, after this outcome
abbrev pub to_end : Sub → Outcome → Outcome
to_end sub outcome = then_do outcome (λ t. then_do (demand (exports_set sub t) Unset sub.end t) Ended)
