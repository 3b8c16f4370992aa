use Rattle.spx_lexer.proofs.SomeSpelling as spelling
use Rattle.spx_lexer.proofs.laws.some_spelling.Goals as goal

pub returns : goal.returns
returns c = spelling.some_spelling
