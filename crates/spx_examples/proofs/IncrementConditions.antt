-- The verification conditions of the procedure `Inc`.
use Rattle.std.proofs.Common.{◌≡◌, pos, [], ◌∷◌, ◌++◌, refl, ap, ap₂, ◌∙◌}
use Rattle.std.specs.Prelude.{codes}
use Rattle.std.specs.Fmt.{digits}
use Rattle.spx_tree.specs.declared.expression.InfixOp.TheVariants as op
use Rattle.spx_core.specs.declared.entity.TheConstants.{INTEGER_LAST}
use Rattle.spx_core.specs.Commands.{commands}
use Rattle.spx_term.specs.declared.term.TermOp.TheVariants as sign
use Rattle.spx_term.specs.declared.term.Term.{Term}
use Rattle.spx_term.specs.declared.term.Term.TheVariants as term
use Rattle.spx_term.specs.Conjuncts.{conjuncts, conjuncts-Infix}
use Rattle.spx_term.specs.Steps.{Tree, Cut, Assign, assume_all}
use Rattle.spx_formula.specs.Terms.{now_term, entry_term, term_of, term_with-Attribute, literal_or}
use Rattle.spx_paths.specs.Walks.{ending, start_tree, walk}
use Rattle.spx_paths.specs.Conditions.{conditions_of}
use Rattle.spx_examples.specs.Increment.{place, word, integer_at, integer_last, below_last, step, inc, increment, entry_x, inc_conditions}
use Rattle.spx_examples.proofs.IncrementRules.{inc_command}
use Rattle.spx_examples.proofs.IncrementTypes.{last_is_static, below_is_not}
use Rattle.spx_examples.proofs.Sums.{now_name, now_x, in_integer, below_now, summed, path_below, term_of_operation, walk_step, claims_are}
use Rattle.spx_examples.proofs.Trees.{conditions_from, trees_are}

term_of_below : term_of increment (entry_term increment inc) below_last ≡ below_now INTEGER_LAST
term_of_below =
    let entered = entry_term increment inc in
    term_of_operation increment entered op.Less (place 3 11) 3 9 integer_last below_is_not
    ∙ ap (term.Infix sign.Less now_x) (term_with-Attribute (now_term increment) entered (integer_at 3 13) (word (codes "Last") 3 21) ∙ ap (λ l. literal_or l (term.Number (pos 0))) last_is_static)

-- from the entry on, with the term of the precondition
abbrev path : Term → Tree → Tree
path pre rest = Assign now_name entry_x (assume_all (in_integer now_x ++ conjuncts pre) rest)

body_walk : walk increment inc (commands (step ∷ [])) (ending increment inc) (ending increment inc) 0 ≡ summed (place 6 11) Cut
body_walk = ap (λ c. walk increment inc c (ending increment inc) (ending increment inc) 0) inc_command ∙ walk_step (inc ∷ []) inc 6 4 9 (ending increment inc) (ending increment inc) 0

tree_is : start_tree increment inc ≡ path_below INTEGER_LAST (summed (place 6 11) Cut)
tree_is =
    ap₂ path term_of_below body_walk
    ∙ ap (λ parts. Assign now_name entry_x (assume_all (in_integer now_x ++ parts) (summed (place 6 11) Cut))) (conjuncts-Infix sign.Less now_x (term.Number INTEGER_LAST))

pub conditions_are : conditions_of increment inc ≡ inc_conditions
unfolding digits
conditions_are = conditions_from increment inc (path_below INTEGER_LAST (summed (place 6 11) Cut) ∷ []) _ (trees_are increment inc _ _ [] inc_command tree_is refl) (claims_are INTEGER_LAST (place 6 11))
