use Rattle.std.proofs.Common.{arith, sym, ◌∙◌}
use Rattle.spx_meaning.proofs.PartValues.{put_field_past}
use Rattle.spx_meaning.proofs.values.with_field.Goals as goal

pub returns-then-place-len : goal.returns-then-place-len
returns-then-place-len c =
    sym c.in-Fields.is ∙ sym (put_field_past c.args.value c.args.part c.args.place c.args.value c.in-Fields.fields c.in-Fields.is (omega arith))
