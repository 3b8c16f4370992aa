use Rattle.std.proofs.Common.{sym, subst}
use Rattle.spx_linear.specs.Answers.{Answers}
use Rattle.spx_linear.proofs.TermForms.{other_is_atom}
use Rattle.spx_linear.proofs.comparison.+form.Goals as goal

pub returns-in_default : goal.returns-in_default
returns-in_default t c =
    let d = c.in_default in
    subst (Answers c.atom_form-in_default.result) (sym (other_is_atom c.args.term.now d.not-Number d.not-Prefix d.not-Infix)) c.atom_form-in_default.ensures
