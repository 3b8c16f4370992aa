use Rattle.std.proofs.Common.{◌≡◌, drop}
use Rattle.std.specs.Prelude.{◌&&◌}
use Rattle.std.specs.List.{find}
use Rattle.spx_core.specs.declared.entity.VarId.{VarId}
use Rattle.spx_core.specs.Dependency.{imports}
use Rattle.spx_run.specs.Given.{import_named, is_word, var_name}
use Rattle.spx_run.proofs.given.import_named.Given as goal

abbrev pub invariant-loop-var : goal.invariant-loop-var
invariant-loop-var l =
    import_named l.entry.program.now l.entry.sub.now l.name ≡ find (λ (v : VarId). imports v l.entry.sub.now && is_word (var_name l.entry.program.now v) l.name) (drop l.var-index l.var-items)
