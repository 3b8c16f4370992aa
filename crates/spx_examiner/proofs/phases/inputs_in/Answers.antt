use Rattle.std.proofs.Common.{ℕ, Vec, Err, ap, arith, subst, ◌∙◌}
use Rattle.std.specs.Global.{Global}
use Rattle.spx_run.specs.Inputs.{AreInputs}
use Rattle.spx_examiner.proofs.Endings.{inputs_of_first}
use Rattle.spx_examiner.proofs.phases.inputs_in.Goals as goal

pub returns-in-len1-up-clause-bad : goal.returns-in-len1-up-clause-bad
returns-in-len1-up-clause-bad c = λ place is.
    let found = c.read_inputs.ensures.bad place is in
    let same = c.as_slice.ensures.value ∙ ap (λ (v : Vec ℕ Global). v.items) c.bytes-item.is in
    (inputs_of_first c.args.given.now c.bytes-item.result (Err place.line) (omega arith) (subst (λ bytes. AreInputs bytes (Err place.line)) same found.0), found.1)
