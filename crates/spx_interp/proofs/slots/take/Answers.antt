use Rattle.std.proofs.Common.{ap, sym, ◌∙◌}
use Rattle.std.proofs.lemmas.Option.{slice_get-get_or}
use Rattle.spx_meaning.proofs.StoreValues.{joined, look_is}
use Rattle.spx_interp.proofs.slots.take.Goals as goal

pub returns-clause-value : goal.returns-clause-value
returns-clause-value c =
    let s = c.args.slots.now in
    let v = c.args.var in
    c.take.ensures.value ∙ sym (look_is s v ∙ ap joined (slice_get-get_or s v.0 c.index-slots-var.result c.requires))
