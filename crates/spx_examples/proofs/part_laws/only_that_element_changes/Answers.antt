use Rattle.spx_examples.proofs.PartValues.{second_is, second_put, put_digit}
use Rattle.spx_examples.specs.CompositeExamples.{numbers_of}
use Rattle.spx_examples.proofs.part_laws.only_that_element_changes.Goals as goal

pub returns : goal.returns
returns c = record { before = second_is 1 2 3 4; whole = second_put 1 2 3 4 5; other_field = put_digit (numbers_of 1 2 3) 4 5 }
