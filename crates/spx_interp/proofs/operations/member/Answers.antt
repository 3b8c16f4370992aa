use Rattle.std.proofs.Common.{◌∙◌, ap, not}
use Rattle.spx_term.specs.declared.value.Value.TheVariants.{Truth}
use Rattle.spx_interp.proofs.BitLaws.{member-NotIn}
use Rattle.spx_interp.proofs.operations.member.Goals as goal

pub returns-in-NotIn : goal.returns-in-NotIn
returns-in-NotIn c =
    rw (c.in-NotIn.is, member-NotIn c.in-NotIn.field-0 c.args.tested.now c.args.low.now c.args.high.now)
    (c.truth-in-NotIn.ensures ∙ ap (λ b. Truth (not b)) c.lies_between-within.ensures)
