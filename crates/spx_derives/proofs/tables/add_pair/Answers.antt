use Rattle.std.proofs.Common.{◌∙◌, sym}
use Rattle.spx_derives.proofs.TableLaws.{added, no_export, no_import}
use Rattle.spx_derives.proofs.tables.add_pair.Goals as goal

pub returns-in_default-position-clause-pairs : goal.returns-in_default-position-clause-pairs
returns-in_default-position-clause-pairs c = no_export c.args.vars.now c.args.declared.now c.args.import c.args.export (sym c.position-2.ensures ∙ c.in_default-position.is)

pub returns-in_default-clause-pairs : goal.returns-in_default-clause-pairs
returns-in_default-clause-pairs c = no_import c.args.vars.now c.args.declared.now c.args.import c.args.export (sym c.position.ensures ∙ c.in_default.is)

pub returns-clause-pairs : goal.returns-clause-pairs
returns-clause-pairs c =
    added c.args.vars.now c.args.declared.now c.add.new.self c.args.import c.args.export c.in-Some.u c.in-Some-position.w (sym c.position.ensures ∙ c.in-Some.is)
    (sym c.position-2.ensures ∙ c.in-Some-position.is) c.add.ensures.pairs
