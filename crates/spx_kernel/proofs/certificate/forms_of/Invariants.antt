use Rattle.std.proofs.Common.{drop}
use Rattle.spx_kernel.proofs.ListedForms.{FormsSoFar}
use Rattle.spx_kernel.proofs.certificate.forms_of.Given as goal

abbrev pub invariant-loop-comparison : goal.invariant-loop-comparison
invariant-loop-comparison l = FormsSoFar l.terms l.forms (drop l.comparison-index l.terms)
