use Rattle.std.proofs.Common.{◌≡◌, true, false, ap, sym, subst, ◌∙◌, Err}
use Rattle.std.specs.Prelude.{if◌then◌else◌}
use Rattle.spx_interp.specs.declared.fault.RunFault.{RunFault}
use Rattle.spx_interp.specs.declared.fault.RunFault.TheVariants as fault
use Rattle.spx_interp.specs.declared.fault.RunLimit.TheVariants as limit
use Rattle.spx_interp.specs.Calls.{IsCall}
use Rattle.spx_meaning.specs.Elements.{has_many_elements}
use Rattle.spx_meaning.specs.Runs as runs
use Rattle.spx_meaning.specs.Limits.{call_passes}
use Rattle.spx_report.specs.declared.limit.LimitName.TheVariants.{Bits, Elements}
use Rattle.spx_run.specs.declared.result.RunResult.TheVariants.{TooLarge}
use Rattle.spx_run.specs.Results.{ended_as}
use Rattle.spx_run.proofs.entry.run_call.Goals as goal

pub returns-in-Err-TooLarge-Elements : goal.returns-in-Err-TooLarge-Elements
returns-in-Err-TooLarge-Elements c =
    let p = c.args.program.now in
    let sub = c.args.sub.now in
    let here = c.in-Err-TooLarge-Elements in
    let why : here.field-0 ≡ fault.TooLarge limit.Elements = here.field-0-is ∙ ap fault.TooLarge (rw here.field-0-is at here.field-0-0-is) in
    let is = subst (λ (f : RunFault). IsCall p sub c.args.turns c.args.store (Err f) c.call.new.store) why (here.ensures.runs sub c.requires.sub) in
    let many : has_many_elements p sub ≡ true = is.0 in
    sym (ap (λ b. if b then TooLarge Elements else if call_passes p c.args.turns sub c.args.store then TooLarge Bits else ended_as p sub c.args.turns (runs.call p c.args.turns sub c.args.store)) many)

pub returns-in-Err-TooLarge-Bits : goal.returns-in-Err-TooLarge-Bits
returns-in-Err-TooLarge-Bits c =
    let p = c.args.program.now in
    let sub = c.args.sub.now in
    let here = c.in-Err-TooLarge-Bits in
    let why : here.field-0 ≡ fault.TooLarge limit.Bits = here.field-0-is ∙ ap fault.TooLarge (rw here.field-0-is at here.field-0-0-is) in
    let is = subst (λ (f : RunFault). IsCall p sub c.args.turns c.args.store (Err f) c.call.new.store) why (here.ensures.runs sub c.requires.sub) in
    let few : has_many_elements p sub ≡ false = is.0 in
    let passes : call_passes p c.args.turns sub c.args.store ≡ true = is.1 in
    sym
    (ap (λ b. if b then TooLarge Elements else if call_passes p c.args.turns sub c.args.store then TooLarge Bits else ended_as p sub c.args.turns (runs.call p c.args.turns sub c.args.store)) few
    ∙ ap (λ b. if b then TooLarge Bits else ended_as p sub c.args.turns (runs.call p c.args.turns sub c.args.store)) passes)
