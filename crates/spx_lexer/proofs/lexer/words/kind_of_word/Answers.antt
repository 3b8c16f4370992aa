use Rattle.std.proofs.Common.{ap, ◌∙◌, map, arith}
use Rattle.spx_tree.specs.declared.token.TheConstants.{RESERVED_WORDS}
use Rattle.spx_tree.specs.Lexemes.{kind_among, kind_of_word}
use Rattle.spx_lexer.proofs.LongWords.{long_word}
use Rattle.spx_lexer.proofs.lexer.words.kind_of_word.Goals as goal

pub returns-then-word-gt-MOST_RESERVED_LEN : goal.returns-then-word-gt-MOST_RESERVED_LEN
returns-then-word-gt-MOST_RESERVED_LEN c = long_word c.args.marked c.args.word.now (omega arith)

pub returns : goal.returns
unfolding kind_of_word
returns c = c.kind_among.ensures ∙ ap (λ k. kind_among (map (λ w. (w.0.now, w.1)) RESERVED_WORDS) c.args.word.now k) c.unreserved.ensures
