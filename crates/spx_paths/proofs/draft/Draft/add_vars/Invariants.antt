use Rattle.std.proofs.Common.{take}
use Rattle.std.specs.List.{flat_map}
use Rattle.spx_paths.specs.Drafts.{AddsMore}
use Rattle.spx_paths.specs.Walks.{var_facts}
use Rattle.spx_paths.proofs.draft.Draft.add_vars.Given as goal

abbrev pub invariant-loop-var : goal.invariant-loop-var
invariant-loop-var l = AddsMore l.initial.self l.self l.initial.facts l.facts (flat_map (var_facts l.body.program.now) (take l.var-index l.vars))
