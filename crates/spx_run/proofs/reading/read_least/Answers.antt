use Rattle.std.proofs.Common.{List, ap, ◌∙◌}
use Rattle.spx_tree.specs.declared.token.Token.{Token}
use Rattle.spx_lexer.specs.Least.{EndsInLeast}
use Rattle.spx_run.specs.Mirror.{least_line}
use Rattle.spx_run.proofs.ReadingLaws.{if_ok, least_as, unspelled}
use Rattle.spx_run.proofs.reading.read_least.Goals as goal

-- where the bytes do not end in the number
pub returns-in_default-found : goal.returns-in_default-found
returns-in_default-found c =
    let never : (tokens : List Token) → ¬ EndsInLeast 0 c.args.bytes.now tokens = rw c.in_default-found.is at c.in-Ok.ensures.least in
    unspelled c.args.number c.args.bytes.now (λ tokens is _. c.requires.unspelled tokens is) (λ tokens ends _. never tokens ends)

-- where they do
pub returns : goal.returns
returns c =
    let bytes = c.args.bytes.now in
    let tokens = c.in-Some.tokens.items in
    let ends : EndsInLeast 0 bytes tokens = rw c.in-Some.is at c.in-Ok.ensures.least in
    if_ok c.least_line.result _ _
    (λ found is. least_as c.one_least.ensures.one c.args.number bytes c.requires.unspelled tokens ends c.requires.few found (is ∙ ap (least_line c.args.number bytes) c.as_slice.ensures.value))
    c.least_line.ensures
