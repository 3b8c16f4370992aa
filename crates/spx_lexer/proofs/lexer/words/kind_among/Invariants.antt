use Rattle.std.proofs.Common.{◌≡◌, length, map}
use Rattle.spx_tree.specs.Lexemes.{kind_among}
use Rattle.spx_lexer.proofs.lexer.words.kind_among.Given as goal

abbrev pub invariant-loop-table : goal.invariant-loop-table
invariant-loop-table l =
    kind_among (map (λ w. (w.0.now, w.1)) l.table) l.word l.otherwise ≡ kind_among (map (λ w. (w.0.now, w.1)) l.initial.table) l.word l.otherwise

abbrev pub decreases-loop-table : goal.decreases-loop-table
decreases-loop-table l = length l.table
