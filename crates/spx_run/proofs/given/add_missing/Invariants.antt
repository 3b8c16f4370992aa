use Rattle.std.proofs.Common.{◌≡◌, ◌++◌, map, take}
use Rattle.std.specs.List.{filter}
use Rattle.spx_core.specs.declared.entity.VarId.{VarId}
use Rattle.spx_run.specs.declared.result.InputFinding.TheVariants.{NoValue}
use Rattle.spx_run.specs.Given.{is_missing, var_name}
use Rattle.spx_run.proofs.given.add_missing.Given as goal

abbrev pub invariant-loop-var : goal.invariant-loop-var
invariant-loop-var l =
    l.found ≡ l.initial.found ++ map (λ (v : VarId). NoValue (var_name l.entry.program.now v)) (filter (is_missing l.entry.sub.now l.store l.named) (take l.var-index l.var-items))
