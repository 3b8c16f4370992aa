use Rattle.std.proofs.Common.{◌≡◌, ◌<◌, ◌+◌, ◌∷◌, ◌++◌, ◌∙◌, [], All, ap, length, subst, sym}
use Rattle.spx_passes.specs.Points.{Places, is_testing, size_of}
use Rattle.spx_passes.proofs.RowLaws.{testing_places, testing_within}
use Rattle.spx_passes.proofs.rows.testing.Goals as goal

pub returns-clause-within : goal.returns-clause-within
returns-clause-within c =
    let frame = c.args.frame.now in
    let is : c.push.new.self.items ≡ (length frame.vars + length frame.vars) ∷ [] =
    rw c.len-count.ensures at (c.in_ok-push.ensures.items ∙ ap (λ xs. xs ++ (c.len-count.result + c.len-count.result) ∷ []) c.new-only.ensures.items) in
    subst (All (λ k. k < size_of frame)) (sym is) (testing_within frame c.requires.exits)

pub returns-clause-exact : goal.returns-clause-exact
returns-clause-exact c =
    let frame = c.args.frame.now in
    let is : c.push.new.self.items ≡ (length frame.vars + length frame.vars) ∷ [] =
    rw c.len-count.ensures at (c.in_ok-push.ensures.items ∙ ap (λ xs. xs ++ (c.len-count.result + c.len-count.result) ∷ []) c.new-only.ensures.items) in
    subst (λ found. Places frame found is_testing) (sym is) (testing_places frame c.requires.exits)
