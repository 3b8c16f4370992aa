use Rattle.std.proofs.Common.{◌≡◌, ◌+◌, ◌≤◌, length}
use Rattle.spx_tree.specs.Stops.{most_tokens}
use Rattle.spx_lexer.specs.Reading.{HasRead}
use Rattle.spx_lexer.proofs.lexer.reading.read_tokens.Given as goal

abbrev pub invariant-loop-rest : goal.invariant-loop-rest
invariant-loop-rest l = record {
  read : HasRead l.file l.source l.list.items l.at l.rest;
  few : length l.list.items ≤ most_tokens;
  offset : l.at.offset + length l.rest ≡ length l.source;
  line : l.at.place.line ≤ l.at.offset + 1;
  column : l.at.place.column ≤ l.at.offset + 1;
}

abbrev pub decreases-loop-rest : goal.decreases-loop-rest
decreases-loop-rest l = length l.rest
