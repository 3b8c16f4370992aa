use Rattle.std.proofs.Common.{ap, reverse, ◌∙◌}
use Rattle.spx_paths.specs.Enclosing.{counts}
use Rattle.spx_paths.proofs.BodyLaws.{roots_are}
use Rattle.spx_paths.proofs.BuildLaws.{builds_within}
use Rattle.spx_paths.proofs.draft.Draft.roots.Goals as goal

pub start-requires-clause-within : goal.start-requires-clause-within
start-requires-clause-within c =
    let end = c.in_ok-end.ensures.made.within in
    builds_within c.args.body.now.program.now c.args.body.now.sub.now c.in_ok-end.end c.in_ok-end.end end end c.in_ok-first.ensures.made

pub returns : goal.returns
returns c =
    roots_are c.args.body.now.program.now c.args.body.now.sub.now c.as_slice-stmts.result.now (counts c.outermost.result) c.in_ok-end.ensures c.as_slice-stmts.ensures c.outermost.ensures c.new-last_first.ensures c.in_ok-first.ensures.cuts c.in_ok-first.ensures.made
    c.in_ok-start.ensures c.in_ok-known.ensures (c.in_ok-cuts.ensures ∙ ap reverse c.as_slice.ensures)
