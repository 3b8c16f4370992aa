use Rattle.std.proofs.Common.{◌≡◌, ◌≤◌, ◌+◌, drop}
use Rattle.std.specs.List.{sum_by}
use Rattle.spx_core.specs.declared.entity.VarId.{VarId}
use Rattle.spx_meaning.specs.Elements.{elements_at}
use Rattle.spx_meaning.specs.Mirror.{capped}
use Rattle.spx_meaning.specs.Stores.{type_of}
use Rattle.spx_meaning.proofs.elements.elements_of.Given as goal

abbrev pub invariant-loop-var : goal.invariant-loop-var
invariant-loop-var l = record {
  least : l.total ≤ 1000001;
  total : capped (l.total + sum_by (λ (v : VarId). elements_at l.counts (type_of l.fn.program v).base.id) (drop l.var-index l.sub.vars)) ≡ capped (sum_by (λ (v : VarId). elements_at l.counts (type_of l.fn.program v).base.id) l.sub.vars);
}
