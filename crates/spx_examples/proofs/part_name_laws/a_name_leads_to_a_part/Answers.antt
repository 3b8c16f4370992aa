use Rattle.std.proofs.Common.{refl}
use Rattle.spx_examples.proofs.part_name_laws.a_name_leads_to_a_part.Goals as goal

pub returns-clause-element : goal.returns-clause-element
returns-clause-element c i = refl

pub returns-clause-field : goal.returns-clause-field
returns-clause-field c = refl

pub returns-clause-second_field : goal.returns-clause-second_field
returns-clause-second_field c = refl

pub returns-clause-field_of_element : goal.returns-clause-field_of_element
returns-clause-field_of_element c i = refl

pub returns-clause-on_entry : goal.returns-clause-on_entry
returns-clause-on_entry c = refl

pub returns-clause-whole : goal.returns-clause-whole
returns-clause-whole c = refl
