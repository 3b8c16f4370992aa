-- The steps that prove the sequent after the loop, and that it is valid.
use Rattle.std.proofs.Common.{◌≡◌, pos, negsuc, [], ◌∷◌, refl, Ok}
use denote.Hole.Carrier.{out, fold, shown, hidden}
use denote.Hole.Rolled.{depth}
use Rattle.spx_num.specs.Widths.{fits}
use Rattle.spx_term.specs.declared.condition.Sequent.{Sequent}
use Rattle.spx_term.specs.declared.term.Term.{out-Term}
use Rattle.spx_term.specs.declared.term.Term.TheBlock.{the_depth, shown-the_row-Term-0, hidden-the_row-Term-0}
use Rattle.spx_term.specs.Equality.{same_term, same_by}
use Rattle.spx_term.specs.Negation as negation
use Rattle.spx_term.specs.Sorts.{sort_of_op}
use Rattle.spx_term.specs.Values.{Types}
use Rattle.spx_linear.specs.Forms.{with_part, joined, scaled_part, scaled}
use Rattle.spx_linear.specs.Linear.{is_comparison, form_of, linear_form}
use Rattle.spx_linear.specs.Refutation.{with_multiple, is_never, refutation}
use Rattle.spx_kernel.specs.declared.rule.RuleOf.TheVariants as rule
use Rattle.spx_kernel.specs.Certificates.{opposite_of, is_equation, certified}
use Rattle.spx_kernel.specs.Steps.{Rule, step}
use Rattle.spx_kernel.specs.Sequents.{IsValid}
use Rattle.spx_kernel.proofs.AllSteps.{steps_valid}
use Rattle.spx_examples.specs.LinearExamples.{integer_s, equal, at_most, at_least}
use Rattle.spx_examples.specs.ScriptExamples.{twice_n, sequent, after_loop, of_hyp, of_goal}
use Rattle.spx_examples.proofs.ScriptFolding.{none_stay, and_stays, linear_is, stay}
use Rattle.spx_examples.proofs.ScriptSorts.{sorted}

-- the sequent and the two that `split` leaves
abbrev is_twice : Sequent
is_twice = sequent after_loop (equal integer_s twice_n)

abbrev is_at_most : Sequent
is_at_most = sequent after_loop (at_most integer_s twice_n)

abbrev is_at_least : Sequent
is_at_least = sequent after_loop (at_least integer_s twice_n)

-- the steps that close those
abbrev closes_at_most : Rule
closes_at_most = rule.Linear (of_goal (pos 1) ∷ of_hyp 11 (negsuc 0) ∷ of_hyp 12 (negsuc 1) ∷ [])

abbrev closes_at_least : Rule
closes_at_least = rule.Linear (of_goal (pos 1) ∷ of_hyp 11 (pos 1) ∷ of_hyp 12 (pos 2) ∷ [])

pub record LoopSteps : Type 0 where
  pub split : step is_twice rule.Split ≡ Ok (is_at_most ∷ is_at_least ∷ [])
  pub at_most : step is_at_most closes_at_most ≡ Ok []
  pub at_least : step is_at_least closes_at_least ≡ Ok []

pub loop_steps : LoopSteps
unfolding step certified opposite_of is_equation negation.opposite negation.form_of refutation is_never with_multiple is_comparison linear_form form_of joined scaled with_part scaled_part fits same_term same_by out-Term out the_depth depth fold shown-the_row-Term-0 shown hidden-the_row-Term-0 hidden
loop_steps = record {
  split = refl;
  at_most = linear_is (pos 1) (negsuc 0 ∷ negsuc 1 ∷ []) stay.s_at_most (and_stays stay.s_doubled (and_stays stay.i_last none_stay));
  at_least = linear_is (pos 1) (pos 1 ∷ pos 2 ∷ []) stay.s_at_least (and_stays stay.s_doubled (and_stays stay.i_last none_stay));
}

pub after_loop_valid : (types : Types) → IsValid types is_twice
unfolding sort_of_op
after_loop_valid types =
    let most = steps_valid types is_at_most closes_at_most (sorted types _ refl) tt [] loop_steps.at_most tt in
    let least = steps_valid types is_at_least closes_at_least (sorted types _ refl) tt [] loop_steps.at_least tt in
    steps_valid types is_twice rule.Split (sorted types _ refl) tt _ loop_steps.split (most, (least, tt))
