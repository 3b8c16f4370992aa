-- The procedure `Inc` is clean.
use Rattle.std.proofs.Common.{[], List, subst}
use Rattle.std.proofs.lemmas.List.Elements.{All-cons, All-nil}
use Rattle.spx_tree.specs.declared.subprogram.Unit.{Unit}
use Rattle.spx_core.specs.declared.subprogram.Sub.{Sub}
use Rattle.spx_core.specs.Resolved.{resolved}
use Rattle.spx_core.specs.Erased.{Visible}
use Rattle.spx_paths.specs.Conditions.{conditions_of, ArePlain}
use Rattle.spx_paths.specs.Fit.{Clean}
use Rattle.spx_examples.specs.Increment.{inc_units, inc, increment}
use Rattle.spx_examples.proofs.IncrementNames.{increment_is_resolved}
use Rattle.spx_examples.proofs.IncrementRules.{typed, obeys}
use Rattle.spx_examples.proofs.IncrementFlows.{flows}
use Rattle.spx_examples.proofs.IncrementPlain.{plain}

-- where units are resolved to programs whose names are visible
pub clean : ((units : List Unit) → Visible (resolved units)) → Clean increment
clean visible = record {
  visible = subst Visible increment_is_resolved (visible inc_units);
  typed = typed;
  obeys = obeys;
  flows = flows inc.pre;
  conditions = All-cons (λ (sub : Sub). ArePlain (conditions_of increment sub)) inc [] plain (All-nil (λ (sub : Sub). ArePlain (conditions_of increment sub)));
}
