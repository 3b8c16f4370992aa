use Rattle.std.proofs.Common.{take}
use Rattle.std.specs.List.{flat_map}
use Rattle.spx_core.specs.Formals.{formals}
use Rattle.spx_paths.specs.Drafts.{AddsMore}
use Rattle.spx_paths.specs.Walks.{entry_facts}
use Rattle.spx_paths.proofs.draft.Draft.add_entries.Given as goal

abbrev pub invariant-loop-var : goal.invariant-loop-var
invariant-loop-var l = AddsMore l.initial.self l.self l.initial.facts l.facts (flat_map (entry_facts l.body.program.now l.body.sub.now) (take l.var-index (formals l.body.sub.now)))
