use denote.Hole.Carrier.{out, shown, hidden}
use Rattle.spx_term.specs.declared.term.Term.{out-Term}
use Rattle.spx_term.specs.declared.term.Term.TheBlock.{shown-the_row-Term-0, hidden-the_row-Term-0}
use Rattle.spx_examples.proofs.StepSearches.{number_found, variable_found, infix_found, binary_found, ternary_found, elem_by}
use Rattle.spx_examples.proofs.step_laws.elem_takes_an_element_of_an_update.Goals as goal

pub returns : goal.returns
unfolding out-Term out shown-the_row-Term-0 shown hidden-the_row-Term-0 hidden
returns c = record {
  only = elem_by _ _ (infix_found _ _ _ (binary_found _ _ _ (ternary_found _ _ _ _ variable_found variable_found variable_found) variable_found) number_found);
  leftmost = elem_by _ _ (infix_found _ _ _ (binary_found _ _ _ (ternary_found _ _ _ _ variable_found variable_found variable_found) variable_found) (binary_found _ _ _ (ternary_found _ _ _ _ variable_found variable_found variable_found) variable_found));
  no_update = elem_by _ _ (infix_found _ _ _ (binary_found _ _ _ variable_found variable_found) number_found);
  in_a_hypothesis = elem_by _ _ (infix_found _ _ _ (binary_found _ _ _ variable_found variable_found) number_found);
  in_a_quantifier = elem_by _ _ (ternary_found _ _ _ _ number_found variable_found (infix_found _ _ _ (binary_found _ _ _ (ternary_found _ _ _ _ variable_found variable_found variable_found) variable_found) number_found));
}
