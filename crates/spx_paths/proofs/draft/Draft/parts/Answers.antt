use Rattle.std.proofs.Common.{ap, refl, ◌∙◌}
use Rattle.spx_term.specs.Conjuncts.{conjuncts}
use Rattle.spx_paths.proofs.KnownLaws.{as_terms}
use Rattle.spx_paths.proofs.draft.Draft.parts.Goals as goal

pub returns : goal.returns
returns c =
    let t = c.in_ok-whole.ensures in
    let parts = c.in_ok-parts.ensures in
    as_terms c.requires.order (record { grown = t.grown; within = parts.ids; trees = parts.trees ∙ ap conjuncts t.made.tree }) refl refl
