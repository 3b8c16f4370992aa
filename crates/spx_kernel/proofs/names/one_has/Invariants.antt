use Rattle.std.proofs.Common.{◌≡◌, drop}
use Rattle.std.specs.List.{list_any, flat_map}
use Rattle.spx_term.specs.Equality.{same_name}
use Rattle.spx_kernel.specs.Names.{names_of}
use Rattle.spx_kernel.proofs.names.one_has.Given as goal

abbrev pub invariant-loop-term : goal.invariant-loop-term
invariant-loop-term l = list_any (same_name l.name) (flat_map names_of l.terms) ≡ list_any (same_name l.name) (flat_map names_of (drop l.term-index l.terms))
