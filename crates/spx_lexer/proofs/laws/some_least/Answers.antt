use Rattle.spx_lexer.proofs.SomeLeast as least
use Rattle.spx_lexer.proofs.laws.some_least.Goals as goal

pub returns : goal.returns
returns c = least.some_least
