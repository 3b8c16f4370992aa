use Rattle.std.proofs.lemmas.Result.{IfOk-weaker}
use Rattle.spx_naming.proofs.declaration.resolve_decl.Goals as goal

pub returns-in-Constants-clause-decl : goal.returns-in-Constants-clause-decl
returns-in-Constants-clause-decl c =
    IfOk-weaker c.resolve_constants.result _ _
    (λ d made. rw c.in-Constants.is (rw (c.as_slice-types-in-Constants.ensures, c.as_slice-names-in-Constants.ensures, c.get-in-Constants.ensures, c.get-in-Constants-2.ensures) at made.0)) c.resolve_constants.ensures
