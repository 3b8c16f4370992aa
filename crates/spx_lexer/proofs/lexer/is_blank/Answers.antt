use Rattle.std.proofs.Common.{◌≡◌, []}
use Rattle.spx_tree.specs.Stops.{most_tokens}
use Rattle.spx_lexer.specs.declared.lexer.LexFault.TheVariants.{Memory}
use Rattle.spx_lexer.proofs.TokenCount.{none_few}
use Rattle.spx_lexer.proofs.lexer.is_blank.Goals as goal

pub returns-in-Err-BadByte : goal.returns-in-Err-BadByte
returns-in-Err-BadByte c =
    λ s. let e : c.in-Err-BadByte.field-0 ≡ Memory = c.in-Err-BadByte.ensures.spelled [] s (none_few most_tokens c.args.file c.args.source.now s) in absurd cc

pub returns-in-Err-BadNumber : goal.returns-in-Err-BadNumber
returns-in-Err-BadNumber c =
    λ s. let e : c.in-Err-BadNumber.field-0 ≡ Memory = c.in-Err-BadNumber.ensures.spelled [] s (none_few most_tokens c.args.file c.args.source.now s) in absurd cc

pub returns-in-Err-TooWide : goal.returns-in-Err-TooWide
returns-in-Err-TooWide c =
    λ s. let e : c.in-Err-TooWide.field-0 ≡ Memory = c.in-Err-TooWide.ensures.spelled [] s (none_few most_tokens c.args.file c.args.source.now s) in absurd cc

pub returns-in-Err-TooMany : goal.returns-in-Err-TooMany
returns-in-Err-TooMany c =
    λ s. let e : c.in-Err-TooMany.field-0 ≡ Memory = c.in-Err-TooMany.ensures.spelled [] s (none_few most_tokens c.args.file c.args.source.now s) in absurd cc
