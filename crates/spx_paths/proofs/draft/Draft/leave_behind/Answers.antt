use Rattle.std.proofs.Common.{rules, ap, ◌∙◌}
use Rattle.std.proofs.lemmas.Int.{to_z-of_z}
use Rattle.std.proofs.lemmas.Result.{MatchResult-weaker}
use Rattle.std.specs.Int.{w128}
use Rattle.spx_core.specs.declared.entity.Subtype.{Subtype}
use Rattle.spx_paths.proofs.BoundLaws.{order_terms, parameter_given}
use Rattle.spx_paths.proofs.draft.Draft.leave_behind.Goals as goal

pub assign-requires-clause-whole : goal.assign-requires-clause-whole
assign-requires-clause-whole c = order_terms c.requires.ready.order c.in_ok-first.ensures.grown

pub returns : goal.returns
returns c =
    let is = to_z-of_z w128 c.type_of-least.result.first (search rules) ∙ ap (λ (s : Subtype). s.first) c.type_of-least.ensures in
    MatchResult-weaker c.assign.result c.assign.ensures (λ id s. parameter_given c.args.body.now.program.now c.args.count.now c.now.result c.args.next c.requires.ready c.requires.within c.in_ok-first.ensures.grown c.in_ok-first.ensures.made is c.now.ensures s) (λ _ _. _)
