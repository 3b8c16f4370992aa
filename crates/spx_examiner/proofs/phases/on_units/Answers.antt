use Rattle.std.proofs.Common.{Err, ap}
use Rattle.spx_resolve.specs.declared.fault.ResolveFault.{ResolveFault}
use Rattle.spx_examiner.specs.Outcome.{of_breach, of_program}
use Rattle.spx_examiner.proofs.Spelled.{if_ok}
use Rattle.spx_examiner.proofs.phases.on_units.Goals as goal

pub returns-in-Ok : goal.returns-in-Ok
returns-in-Ok c = λ given are.
    if_ok c.on_program.result _ _ (λ j report. of_program c.args.inputs.now c.in-Ok.program are c.in-Ok.ensures.made c.in-Ok.ensures.obeys report) c.on_program.ensures

pub returns-in-Err-Breach : goal.returns-in-Err-Breach
returns-in-Err-Breach c = λ given are.
    let first = c.in-Err-Breach.ensures.broken c.in-Err-Breach.breach (ap (λ (fault : ResolveFault). Err fault) c.in-Err-Breach.field-0-is) in
    if_ok c.refused_by.result _ _ (λ j is. of_breach c.args.inputs.now c.in-Err-Breach.breach are first is) c.refused_by.ensures
