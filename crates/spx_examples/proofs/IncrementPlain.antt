-- The verification conditions of the procedure `Inc` need no proof.
use Rattle.std.proofs.Common.{pos, [], ◌∷◌, refl, sym, subst}
use Rattle.std.proofs.lemmas.List.Elements.{All-cons, All-nil}
use Rattle.spx_num.specs.Widths.{fits}
use Rattle.spx_core.specs.declared.entity.TheConstants.{INTEGER_LAST}
use Rattle.spx_term.specs.declared.condition.Condition.{Condition}
use Rattle.spx_term.specs.Goals.{goal_of}
use Rattle.spx_term.specs.Intervals.{allowed, structural}
use Rattle.spx_term.specs.Plain.{Plain}
use Rattle.spx_paths.specs.Conditions.{conditions_of, ArePlain}
use Rattle.spx_examples.specs.Increment.{inc, increment, overflow_condition, range_condition, inc_conditions}
use Rattle.spx_examples.proofs.IncrementConditions.{conditions_are}
use Rattle.spx_examples.proofs.SumsPlain.{Fits, range_plain, overflow_plain}

below_last_fits : Fits INTEGER_LAST (pos 2147483646)
unfolding allowed structural fits
below_last_fits = record { below = refl; sums = refl; in_type = refl }

abbrev IsPlain : Condition → Type 0
IsPlain c = Plain c.hyps (goal_of c.goals)

conditions_plain : ArePlain inc_conditions
conditions_plain = All-cons IsPlain overflow_condition (range_condition ∷ []) (overflow_plain INTEGER_LAST (pos 2147483646) below_last_fits) (All-cons IsPlain range_condition [] (range_plain INTEGER_LAST) (All-nil IsPlain))

pub plain : ArePlain (conditions_of increment inc)
plain = subst ArePlain (sym conditions_are) conditions_plain
