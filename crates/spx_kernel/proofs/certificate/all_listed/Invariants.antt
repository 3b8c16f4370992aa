use Rattle.std.proofs.Common.{◌≡◌, drop}
use Rattle.spx_kernel.specs.Certificates.{all_listed}
use Rattle.spx_kernel.proofs.ListedForms.{after}
use Rattle.spx_kernel.proofs.certificate.all_listed.Given as goal

abbrev pub invariant-loop-entry : goal.invariant-loop-entry
invariant-loop-entry l = all_listed l.sequent l.entries ≡ after l.terms (all_listed l.sequent (drop l.entry-index l.entries))
