use Rattle.std.proofs.Common.{◌≡◌, [], drop, map}
use Rattle.spx_meaning.specs.Elements.{elements_after}
use Rattle.spx_meaning.specs.Mirror.{capped}
use Rattle.spx_meaning.proofs.elements.elements_by_type.Given as goal

abbrev pub invariant-loop-row : goal.invariant-loop-row
invariant-loop-row l = record {
  known : map capped l.counts ≡ l.counts;
  rest : map capped (elements_after l.counts (drop l.row-index l.program.types)) ≡ map capped (elements_after [] l.program.types);
}
