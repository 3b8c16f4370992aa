use Rattle.std.proofs.Common.{◌≡◌, ◌∙◌, ◌||◌, ap, sym}
use Rattle.std.proofs.lemmas.Bool.{or_left}
use Rattle.spx_lower.specs.Meaning.{effect_in}
use Rattle.spx_passes.specs.Positions.{exits_in}
use Rattle.spx_passes.specs.Targets.{arms_exit}
use Rattle.spx_passes.proofs.ExitLaws.{exits_branch}
use Rattle.spx_passes.proofs.exits.+exits.Goals as goal

pub exits-returns-then-arms_exit : goal.exits-returns-then-arms_exit
exits-returns-then-arms_exit t c =
    let here = c.in-Branch in
    let deep = c.args.deep in
    let arms : c.arms_exit.result ≡ arms_exit deep here.arms = c.arms_exit.ensures ∙ ap (arms_exit deep) (c.as_slice.ensures ∙ c.get.ensures) in
    c.if-arms_exit.true ∙ sym (exits_branch deep c.args.item.now here.field-0 here.arms here.field-2 here.otherwise here.is ∙ or_left (arms_exit deep here.arms) (exits_in deep (effect_in here.otherwise)) (sym arms ∙ c.if-arms_exit.true))

pub exits-returns-else-arms_exit : goal.exits-returns-else-arms_exit
exits-returns-else-arms_exit t c =
    let here = c.in-Branch in
    let deep = c.args.deep in
    let arms : c.arms_exit.result ≡ arms_exit deep here.arms = c.arms_exit.ensures ∙ ap (arms_exit deep) (c.as_slice.ensures ∙ c.get.ensures) in
    c.have_exits.ensures ∙ ap (λ xs. exits_in deep (effect_in xs)) (c.as_slice-else-arms_exit.ensures ∙ c.get-else-arms_exit.ensures)
    ∙ sym (exits_branch deep c.args.item.now here.field-0 here.arms here.field-2 here.otherwise here.is ∙ ap (λ b. b || exits_in deep (effect_in here.otherwise)) (sym arms ∙ c.if-arms_exit.false))
