use Rattle.std.proofs.Common.{◌≡◌, ◌++◌, [], map, drop}
use Rattle.spx_run.specs.Results.{value_text}
use Rattle.spx_run.proofs.TextLaws.{texts_after}
use Rattle.spx_run.proofs.printing.+put_value.Given as goal

abbrev pub invariant-put_list-loop-value : goal.invariant-put_list-loop-value
invariant-put_list-loop-value l = l.out.items ++ texts_after l.mark (map value_text (drop l.value-index l.values)) ≡ l.initial.out.items ++ texts_after [] (map value_text l.values)
