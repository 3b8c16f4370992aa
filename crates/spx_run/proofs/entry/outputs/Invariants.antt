use Rattle.std.proofs.Common.{◌≡◌, None, take}
use Rattle.std.specs.Prelude.{if◌then◌else◌}
use Rattle.std.specs.List.{filter_map}
use Rattle.spx_core.specs.declared.entity.VarId.{VarId}
use Rattle.spx_core.specs.Dependency.{exports}
use Rattle.spx_run.specs.Results.{output_of}
use Rattle.spx_run.proofs.entry.outputs.Given as goal

abbrev pub invariant-loop-var : goal.invariant-loop-var
invariant-loop-var l = l.outputs ≡ filter_map (λ (v : VarId). if exports v l.sub then output_of l.program l.store v else None) (take l.var-index l.var-items)
