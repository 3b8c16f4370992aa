use Rattle.spx_sound.proofs.CleanConditions.{clean_is_fit}
use Rattle.spx_sound.proofs.NeverBad.{never_bad}
use Rattle.spx_examples.specs.Next.{next_program}
use Rattle.spx_examples.proofs.branch_laws.next_is_never_bad.Goals as goal

pub returns-clause-fit : goal.returns-clause-fit
returns-clause-fit c =
    let clean = c.next_is_clean.ensures in
    clean_is_fit next_program (c.types_are_made.ensures next_program clean.visible clean.typed) (c.names_are_scoped.ensures next_program clean.visible) (c.initial_values_fit.ensures next_program clean.visible clean.typed) clean

pub returns-clause-never_bad : goal.returns-clause-never_bad
returns-clause-never_bad c =
    let clean = c.next_is_clean.ensures in
    let scoped = c.names_are_scoped.ensures next_program clean.visible in
    let initial = c.initial_values_fit.ensures next_program clean.visible clean.typed in
    let made = c.types_are_made.ensures next_program clean.visible clean.typed in
    never_bad next_program scoped initial (c.types_have_values.ensures next_program clean.visible clean.typed) made (c.rules_hold.ensures next_program clean.visible clean.obeys) (clean_is_fit next_program made scoped initial clean)
