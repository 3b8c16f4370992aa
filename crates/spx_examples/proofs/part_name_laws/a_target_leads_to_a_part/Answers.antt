use Rattle.std.proofs.Common.{refl}
use Rattle.spx_examples.proofs.part_name_laws.a_target_leads_to_a_part.Goals as goal

pub returns-clause-field : goal.returns-clause-field
returns-clause-field c = refl

pub returns-clause-whole : goal.returns-clause-whole
returns-clause-whole c = refl

pub returns-clause-no_field : goal.returns-clause-no_field
returns-clause-no_field c = refl

pub returns-clause-two : goal.returns-clause-two
returns-clause-two c i k = refl

pub returns-clause-of_number : goal.returns-clause-of_number
returns-clause-of_number c = refl

pub returns-clause-attribute : goal.returns-clause-attribute
returns-clause-attribute c = refl

pub returns-clause-on_entry : goal.returns-clause-on_entry
returns-clause-on_entry c = refl

pub returns-clause-of_type : goal.returns-clause-of_type
returns-clause-of_type c = refl
