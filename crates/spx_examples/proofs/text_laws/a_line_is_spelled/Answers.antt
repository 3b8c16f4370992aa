use Rattle.spx_examples.proofs.SpelledLine as example
use Rattle.spx_examples.proofs.text_laws.a_line_is_spelled.Goals as goal

pub returns : goal.returns
returns c = example.line_spelled
