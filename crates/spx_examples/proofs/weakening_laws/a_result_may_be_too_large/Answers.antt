use Rattle.spx_examples.proofs.Weakened.{power_fits, least_fits, product_fits, power_is_large, product_is_large, negation_is_large}
use Rattle.spx_examples.proofs.weakening_laws.a_result_may_be_too_large.Goals as goal

pub returns-clause-power_fits : goal.returns-clause-power_fits
returns-clause-power_fits c = power_fits

pub returns-clause-least_fits : goal.returns-clause-least_fits
returns-clause-least_fits c = least_fits

pub returns-clause-product_fits : goal.returns-clause-product_fits
returns-clause-product_fits c = product_fits

pub returns-clause-power : goal.returns-clause-power
returns-clause-power c = power_is_large

pub returns-clause-product : goal.returns-clause-product
returns-clause-product c = product_is_large

pub returns-clause-negation : goal.returns-clause-negation
returns-clause-negation c = negation_is_large
