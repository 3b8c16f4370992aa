use Rattle.spx_sound.proofs.CleanConditions.{clean_is_fit}
use Rattle.spx_sound.proofs.NeverBad.{never_bad}
use Rattle.spx_examples.specs.Increment.{increment}
use Rattle.spx_examples.proofs.laws.increment_is_never_bad.Goals as goal

pub returns-clause-fit : goal.returns-clause-fit
returns-clause-fit c =
    let clean = c.increment_is_clean.ensures.clean in
    clean_is_fit increment (c.types_are_made.ensures increment clean.visible clean.typed) (c.names_are_scoped.ensures increment clean.visible) (c.initial_values_fit.ensures increment clean.visible clean.typed) clean

pub returns-clause-never_bad : goal.returns-clause-never_bad
returns-clause-never_bad c =
    let clean = c.increment_is_clean.ensures.clean in
    let scoped = c.names_are_scoped.ensures increment clean.visible in
    let initial = c.initial_values_fit.ensures increment clean.visible clean.typed in
    let made = c.types_are_made.ensures increment clean.visible clean.typed in
    never_bad increment scoped initial (c.types_have_values.ensures increment clean.visible clean.typed) made (c.rules_hold.ensures increment clean.visible clean.obeys) (clean_is_fit increment made scoped initial clean)
