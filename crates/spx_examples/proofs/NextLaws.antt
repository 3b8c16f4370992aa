-- The procedure `Next` is clean.
use Rattle.std.proofs.Common.{[], List, subst}
use Rattle.std.proofs.lemmas.List.Elements.{All-cons, All-nil}
use Rattle.spx_tree.specs.declared.subprogram.Unit.{Unit}
use Rattle.spx_core.specs.declared.subprogram.Sub.{Sub}
use Rattle.spx_core.specs.Resolved.{resolved}
use Rattle.spx_core.specs.Erased.{Visible}
use Rattle.spx_paths.specs.Conditions.{conditions_of, ArePlain}
use Rattle.spx_paths.specs.Fit.{Clean}
use Rattle.spx_examples.specs.Next.{next_units, next_sub, next_program}
use Rattle.spx_examples.proofs.NextNames.{next_is_resolved}
use Rattle.spx_examples.proofs.NextRules.{typed, obeys}
use Rattle.spx_examples.proofs.NextFlows.{flows}
use Rattle.spx_examples.proofs.NextConditions.{plain}

-- where units are resolved to programs whose names are visible
pub clean : ((units : List Unit) → Visible (resolved units)) → Clean next_program
clean visible = record {
  visible = subst Visible next_is_resolved (visible next_units);
  typed = typed;
  obeys = obeys;
  flows = flows;
  conditions = All-cons (λ (sub : Sub). ArePlain (conditions_of next_program sub)) next_sub [] plain (All-nil (λ (sub : Sub). ArePlain (conditions_of next_program sub)));
}
