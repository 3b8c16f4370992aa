use Rattle.spx_examples.proofs.Weakened.{most_in_bits, least_in_bits, none_in_bits, most_not_valid, least_not_valid, some_past, no_most, no_least}
use Rattle.spx_examples.proofs.weakening_laws.numbers_past_128_bits_count.Goals as goal

pub returns-clause-most_in_bits : goal.returns-clause-most_in_bits
returns-clause-most_in_bits c = most_in_bits

pub returns-clause-least_in_bits : goal.returns-clause-least_in_bits
returns-clause-least_in_bits c = least_in_bits

pub returns-clause-none_in_bits : goal.returns-clause-none_in_bits
returns-clause-none_in_bits c = none_in_bits

pub returns-clause-most : goal.returns-clause-most
returns-clause-most c = most_not_valid

pub returns-clause-least : goal.returns-clause-least
returns-clause-least c = least_not_valid

pub returns-clause-some : goal.returns-clause-some
returns-clause-some c = some_past

pub returns-clause-no_most : goal.returns-clause-no_most
returns-clause-no_most c = no_most

pub returns-clause-no_least : goal.returns-clause-no_least
returns-clause-no_least c = no_least
