use Rattle.std.proofs.Common.{refl}
use Rattle.spx_paths.proofs.KnownLaws.{value_more}
use Rattle.spx_paths.proofs.draft.Draft.add_value.Goals as goal

pub returns : goal.returns
returns c =
    value_more c.args.body.now.program.now c.args.var c.type_of-subtype.result c.in_ok-value.value c.args.name c.args.facts.now c.in_ok-known.known c.requires.order c.requires.facts c.in_ok-value.ensures.grown c.in_ok-value.ensures.made.tree c.type_of-subtype.ensures
    c.in_ok-known.ensures refl refl c.in_ok-append.ensures
