use Rattle.std.proofs.Common.{refl}
use Rattle.spx_examples.proofs.part_name_laws.a_name_that_leads_nowhere_is_kept.Goals as goal

pub returns-clause-no_field : goal.returns-clause-no_field
returns-clause-no_field c = refl

pub returns-clause-two : goal.returns-clause-two
returns-clause-two c i k = refl

pub returns-clause-by_name : goal.returns-clause-by_name
returns-clause-by_name c i = refl

pub returns-clause-of_number : goal.returns-clause-of_number
returns-clause-of_number c = refl

pub returns-clause-of_record : goal.returns-clause-of_record
returns-clause-of_record c i = refl

pub returns-clause-of_array : goal.returns-clause-of_array
returns-clause-of_array c = refl

pub returns-clause-of_element : goal.returns-clause-of_element
returns-clause-of_element c i = refl

pub returns-clause-after_element : goal.returns-clause-after_element
returns-clause-after_element c i = refl

pub returns-clause-after_entry : goal.returns-clause-after_entry
returns-clause-after_entry c = refl
