use Rattle.spx_examples.proofs.NumberValues as value
use Rattle.spx_examples.proofs.text_laws.numbers_have_values.Goals as goal

pub returns-clause-underscores : goal.returns-clause-underscores
returns-clause-underscores c = value.thousand

pub returns-clause-exponent : goal.returns-clause-exponent
returns-clause-exponent c = value.thousand_by_exponent

pub returns-clause-base : goal.returns-clause-base
returns-clause-base c = value.all_bits

pub returns-clause-both : goal.returns-clause-both
returns-clause-both c = value.fifteen_sixteens
