-- The paths of the procedure `Next`, and its verification conditions, which need no proof.
use Rattle.std.proofs.Common.{◌≡◌, ℕ, pos, List, [], ◌∷◌, refl, sym, ap, subst, ◌∙◌}
use Rattle.std.specs.List.{flat_map}
use Rattle.std.specs.Fmt.{digits}
use Rattle.std.proofs.lemmas.List.Elements.{All-cons, All-nil}
use Rattle.spx_num.specs.Widths.{fits}
use Rattle.spx_tree.specs.declared.expression.InfixOp.TheVariants as op
use Rattle.spx_core.specs.declared.expression.CoreExpr.{CoreExpr}
use Rattle.spx_core.specs.declared.expression.CoreExpr.TheVariants as expr
use Rattle.spx_core.specs.declared.program.Program.{Program}
use Rattle.spx_core.specs.declared.subprogram.Sub.{Sub}
use Rattle.spx_core.specs.Commands.{commands}
use Rattle.spx_term.specs.declared.condition.Condition.{Condition}
use Rattle.spx_term.specs.declared.term.TermOp.TheVariants as sign
use Rattle.spx_term.specs.declared.term.TermPrefix.TheVariants.{Not}
use Rattle.spx_term.specs.declared.term.Term.TheVariants as term
use Rattle.spx_term.specs.Conjuncts.{conjuncts, conjuncts-Infix}
use Rattle.spx_term.specs.Goals.{goal_of}
use Rattle.spx_term.specs.Intervals.{allowed, structural}
use Rattle.spx_term.specs.Paths.{branches}
use Rattle.spx_term.specs.Plain.{Plain}
use Rattle.spx_term.specs.Steps.{Tree, Cut, Assume, Assign, Split, assume_all}
use Rattle.spx_formula.specs.Terms.{now_term, term_of, term_with-Number}
use Rattle.spx_paths.specs.Checks.{checks, checks-Infix, checks-Name, checks-Number, unless_static}
use Rattle.spx_paths.specs.Walks.{ending, start_tree, tested, trees_of, walk}
use Rattle.spx_paths.specs.Conditions.{ArePlain, conditions_of, paths}
use Rattle.spx_examples.specs.Increment.{place, x_at, entry_x}
use Rattle.spx_examples.specs.Next.{below_hundred, branch, next_sub, next_program, below_now, forked, path_through_arm, path_past_arm, overflow_condition, range_condition, next_conditions}
use Rattle.spx_examples.proofs.NextRules.{next_command, below_is_not}
use Rattle.spx_examples.proofs.Successor.{step_command}
use Rattle.spx_examples.proofs.Sums.{now_name, now_x, in_integer, program_with, summed, term_of_operation, walk_step, claims_are}
use Rattle.spx_examples.proofs.Trees.{conditions_from, trees_are}
use Rattle.spx_examples.proofs.SumsPlain.{Fits, range_plain, overflow_plain}

-- ---- the tree of steps

module _ (subs : List Sub) where
  abbrev p : Program
  p = program_with subs

  pub term_of_below : term_of p (now_term p) below_hundred ≡ below_now
  term_of_below =
      term_of_operation p (now_term p) op.Less (place 5 9) 5 7 (expr.Number (pos 100) (place 5 11)) below_is_not
      ∙ ap (term.Infix sign.Less now_x) (term_with-Number (now_term p) (now_term p) (pos 100) (place 5 11))

  -- the condition asks for nothing
  pub checks_below : (rest : Tree) → checks p (now_term p) [] below_hundred rest ≡ rest
  checks_below rest =
      let hundred : CoreExpr = expr.Number (pos 100) (place 5 11) in
      checks-Infix p (now_term p) [] op.Less (place 5 9) (expr.Name (x_at 5 7)) hundred rest
      ∙ ap (λ l. unless_static l rest (checks p (now_term p) [] (expr.Name (x_at 5 7)) (checks p (now_term p) [] hundred rest))) below_is_not
      ∙ checks-Name p (now_term p) [] (x_at 5 7) (checks p (now_term p) [] hundred rest)
      ∙ checks-Number p (now_term p) [] (pos 100) (place 5 11) rest

  pub tested_below : (holds fails : ℕ → Tree) (made : ℕ) → tested p below_hundred holds fails made ≡ forked (holds made) (fails made)
  tested_below holds fails made =
      checks_below _
      ∙ ap (λ test. Split (assume_all (conjuncts test) (holds made)) (Assume (term.Prefix Not test) (fails made))) term_of_below
      ∙ ap (λ parts. Split (assume_all parts (holds made)) (Assume (term.Prefix Not below_now) (fails made))) (conjuncts-Infix sign.Less now_x (term.Number (pos 100)))

body_walk : walk next_program next_sub (commands (branch ∷ [])) (ending next_program next_sub) (ending next_program next_sub) 0 ≡ forked (summed (place 6 14) Cut) Cut
body_walk =
    let last : ℕ → Tree = ending next_program next_sub in
    ap (λ c. walk next_program next_sub c last last 0) next_command
    ∙ tested_below (next_sub ∷ []) (walk next_program next_sub (step_command 6 7 12) last last) last 0
    ∙ ap (λ arm. forked arm Cut) (walk_step (next_sub ∷ []) next_sub 6 7 12 last last 0)

tree_is : start_tree next_program next_sub ≡ Assign now_name entry_x (assume_all (in_integer now_x) (forked (summed (place 6 14) Cut) Cut))
tree_is = ap (λ rest. Assign now_name entry_x (assume_all (in_integer now_x) rest)) body_walk

-- ---- paths and conditions

the_trees : trees_of next_program next_sub ≡ Assign now_name entry_x (assume_all (in_integer now_x) (forked (summed (place 6 14) Cut) Cut)) ∷ []
the_trees = trees_are next_program next_sub _ _ [] next_command tree_is refl

pub paths_are : paths next_program next_sub ≡ path_through_arm ∷ path_past_arm ∷ []
paths_are = ap (flat_map branches) the_trees

pub conditions_are : conditions_of next_program next_sub ≡ next_conditions
unfolding digits
conditions_are = conditions_from next_program next_sub _ _ the_trees (claims_are (pos 100) (place 6 14))

below_hundred_fits : Fits (pos 100) (pos 99)
unfolding allowed structural fits
below_hundred_fits = record { below = refl; sums = refl; in_type = refl }

abbrev IsPlain : Condition → Type 0
IsPlain c = Plain c.hyps (goal_of c.goals)

conditions_plain : ArePlain next_conditions
conditions_plain = All-cons IsPlain overflow_condition (range_condition ∷ []) (overflow_plain (pos 100) (pos 99) below_hundred_fits) (All-cons IsPlain range_condition [] (range_plain (pos 100)) (All-nil IsPlain))

pub plain : ArePlain (conditions_of next_program next_sub)
plain = subst ArePlain (sym conditions_are) conditions_plain
