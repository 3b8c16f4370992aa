use Rattle.std.proofs.Common.{◌∙◌, ap, arith}
use Rattle.spx_run.specs.declared.inputs.InputLine.{InputLine}
use Rattle.spx_run.specs.Given.{import_named}
use Rattle.spx_run.proofs.GivenLaws.{kept_more}
use Rattle.spx_run.proofs.given.named_by.Goals as goal

pub loop-line-preserved : goal.loop-line-preserved
loop-line-preserved c =
    let named = λ (line : InputLine). import_named c.args.entry.now.program.now c.args.entry.now.sub.now line.name in
    kept_more named c.args.lines.now c.loop-line.line-index c.line-item.result c.loop-line.named c.add_var.new.vars c.import_named.result (omega arith) c.loop-line.invariant (c.import_named.ensures ∙ ap named c.line-item.is) c.in_ok-add_var.ensures
