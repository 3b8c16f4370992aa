-- The first breach of a rule on variables, in a program of which the first procedure has one statement.
use Rattle.std.proofs.Common.{◌≡◌, pos, List, [], ◌∷◌, ◌++◌, None, Some, refl, ap, ap₂, ◌∙◌}
use Rattle.std.specs.Prelude.{⊤, Option}
use Rattle.spx_text.specs.declared.place.Place.{Place}
use Rattle.spx_tree.specs.declared.expression.InfixOp.TheVariants.{Greater}
use Rattle.spx_core.specs.declared.expression.CoreExpr.{CoreExpr}
use Rattle.spx_core.specs.declared.expression.CoreExpr.TheVariants.{Name, Number, Infix}
use Rattle.spx_core.specs.declared.name.CoreName.{CoreName}
use Rattle.spx_core.specs.declared.program.Program.{Program}
use Rattle.spx_core.specs.declared.rule.Breach.{Breach}
use Rattle.spx_core.specs.declared.subprogram.Sub.{Sub}
use Rattle.spx_core.specs.Commands.{Command, Skip, Then, Choose, Set, commands}
use Rattle.spx_core.specs.Dependency.{relation}
use Rattle.spx_core.specs.Judged.{Judged, ◌>>=◌, breach_in, each, if_there}
use Rattle.spx_core.specs.declared.statement.Around.TheVariants.{Other}
use Rattle.spx_core.specs.Obeyed.{first_rule_breach, obeyed_command, obeyed_item, obeyed_post, obeyed_pre, obeyed_relation, obeyed_sub, reads_formal, reads_import}
use Rattle.spx_core.specs.Reads.{names_read, names_step}
use Rattle.spx_core.proofs.Callers.Expressions.{fold-Name, fold-Number, fold-Infix}
use Rattle.spx_examples.specs.Assertions.{positive_name, post_on}
use Rattle.spx_examples.specs.Increment.{place}
use Rattle.spx_examples.specs.Flag.{x_at, y_at, positive, one, closing, flag}
use Rattle.spx_examples.specs.Names.{target_to}
use Rattle.spx_examples.specs.Operators.{true_at}
use Rattle.spx_examples.specs.VariableRules.{only, pre_on, requiring_true, setting_x, branch_of}
use Rattle.spx_examples.proofs.Flag.{flag_command}
use Rattle.spx_examples.proofs.Statements.{assignment_is, if_is}

-- that a name is positive reads the name
positive_reads : (at zero : Place) (name : CoreName) → names_read (Infix Greater at (Name name) (Number (pos 0) zero)) ≡ name ∷ []
positive_reads at zero name = fold-Infix names_step Greater at (Name name) (Number (pos 0) zero) ∙ ap₂ (λ (a b : List CoreName). a ++ b) (fold-Name names_step name) (fold-Number names_step (pos 0) zero)

-- as does the precondition
names_are : (name : CoreName) → names_read (pre_on name).condition ≡ name ∷ []
names_are name = positive_reads (place 3 11) (place 3 13) name

-- `X := 1` in an arm
pub branch_is : (condition : CoreExpr) → commands (branch_of condition ∷ []) ≡ Then (Choose (place 5 4) condition (Then (Set (target_to (x_at 6 7)) one) Skip) Skip) Skip
branch_is condition =
    if_is (place 5 4) condition (setting_x ∷ []) closing
    ∙ ap (λ body. Then (Choose (place 5 4) condition body Skip) Skip) (assignment_is (target_to (x_at 6 7)) one)

-- a procedure whose precondition and postcondition obey as these do, and whose body is this
abbrev sub_with : Sub → (pre post : Judged ⊤) → Command → Judged ⊤
sub_with sub pre post body = do
  _ ← obeyed_relation sub
  _ ← each (obeyed_item sub) (relation sub)
  _ ← pre
  _ ← post
  obeyed_command Other body

-- the first breach in this procedure, and the others after it
abbrev pub breach_with : Sub → List Sub → (pre post : Judged ⊤) → Command → Option Breach
breach_with sub others pre post body = breach_in (sub_with sub pre post body >>= λ _. each obeyed_sub others)

-- what its postcondition obeys
abbrev pub post_of : Sub → Judged ⊤
post_of sub = if_there (obeyed_post sub) sub.post

pub breach_is : (p : Program) (sub : Sub) (others : List Sub) (body : Command) → p.subs ≡ sub ∷ others → commands sub.statements ≡ body
    → first_rule_breach p ≡ breach_with sub others (if_there (obeyed_pre sub) sub.pre) (post_of sub) body
unfolding first_rule_breach
breach_is p sub others body subs_are body_is =
    ap (λ subs. breach_in (each obeyed_sub subs)) subs_are
    ∙ ap (breach_with sub others (if_there (obeyed_pre sub) sub.pre) (post_of sub)) body_is

-- where the precondition reads this name
pub breach_reading : (p : Program) (sub : Sub) (others : List Sub) (name : CoreName) (body : Command) → p.subs ≡ sub ∷ others → sub.pre ≡ Some (pre_on name) → commands sub.statements ≡ body
    → first_rule_breach p ≡ breach_with sub others (each (reads_import sub) (name ∷ [])) (post_of sub) body
breach_reading p sub others name body subs_are pre_is body_is =
    breach_is p sub others body subs_are body_is
    ∙ ap (λ pre. breach_with sub others (if_there (obeyed_pre sub) pre) (post_of sub) body) pre_is
    ∙ ap (λ names. breach_with sub others (each (reads_import sub) names) (post_of sub) body) (names_are name)

-- a literal is no variable
pub true_obeys : first_rule_breach (only (requiring_true flag)) ≡ None
true_obeys =
    let sub : Sub = requiring_true flag in
    let body : Command = Then (Choose (place 5 4) positive (Then (Set (target_to (y_at 6 7)) one) Skip) Skip) Skip in
    breach_is (only sub) sub [] body refl flag_command
    ∙ ap (λ names. breach_with sub [] (each (reads_import sub) names) (post_of sub) body) (fold-Name names_step (true_at 3 9))

-- where the postcondition is that this name is positive
pub breach_promising : (p : Program) (sub : Sub) (others : List Sub) (name : CoreName) (body : Command) → p.subs ≡ sub ∷ others → sub.post ≡ Some (post_on (positive_name name)) → commands sub.statements ≡ body
    → first_rule_breach p ≡ breach_with sub others (if_there (obeyed_pre sub) sub.pre) (each (reads_formal sub) (name ∷ [])) body
breach_promising p sub others name body subs_are post_is body_is =
    let pre : Judged ⊤ = if_there (obeyed_pre sub) sub.pre in
    breach_is p sub others body subs_are body_is
    ∙ ap (λ post. breach_with sub others pre (if_there (obeyed_post sub) post) body) post_is
    ∙ ap (λ names. breach_with sub others pre (each (reads_formal sub) names) body) (positive_reads (place 3 12) (place 3 14) name)
