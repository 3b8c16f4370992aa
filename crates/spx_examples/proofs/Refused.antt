-- The procedure `Inc` without its precondition: a call of it from the last value.
use Rattle.std.proofs.Common.{◌≡◌, ℕ, zero, suc, refl, ap, subst, ◌∙◌}
use Rattle.std.specs.Prelude.{IsTrue, IsSome, IfSome}
use Rattle.spx_core.specs.declared.entity.VarId.{VarId}
use Rattle.spx_core.specs.declared.statement.Around.TheVariants.{Other}
use Rattle.spx_core.specs.Obeyed.{Obeys, obeyed_command}
use Rattle.spx_core.specs.Statements.{Typed, judged_command}
use Rattle.spx_term.specs.Meaning.{value_of_op}
use Rattle.spx_meaning.specs.declared.bad.BadKind.TheVariants.{Overflow}
use Rattle.spx_meaning.specs.Frames.{around}
use Rattle.spx_meaning.specs.Laws.{Start}
use Rattle.spx_meaning.specs.Runs.{Bad, call}
use Rattle.spx_meaning.specs.Stores.{look, type_of, is_in, types_of}
use Rattle.spx_examples.specs.Increment.{place}
use Rattle.spx_examples.specs.Refused.{inc_without_pre, increment_without_pre, x_is_last}
use Rattle.spx_examples.proofs.IncrementFlows.{only_import}
use Rattle.spx_examples.proofs.Statements.{and_no_more, to_end}
use Rattle.spx_examples.proofs.IncrementRules.{inc_command}
use Rattle.spx_examples.proofs.Successor.{step_typed}
use Rattle.spx_examples.proofs.IncrementRuns.{body_runs}

pub typed : Typed increment_without_pre
typed = ap (λ body. and_no_more (and_no_more (judged_command body))) inc_command ∙ ap and_no_more (ap and_no_more (ap and_no_more (step_typed 6 4 9)))

pub obeys : Obeys increment_without_pre
obeys = ap (λ body. and_no_more (obeyed_command Other body)) inc_command

-- each variable that has a value has one of its type
in_type : (k : ℕ) → let v : VarId = record { 0 = k } in IfSome (look x_is_last v) (λ y. IsTrue (is_in (types_of increment_without_pre) (type_of increment_without_pre v) y))
in_type zero = refl
in_type (suc k) = tt

pub starts : Start increment_without_pre inc_without_pre x_is_last
starts = record {
  precondition = refl;
  imports_set = λ v imported. subst (λ w. IsSome (look x_is_last w)) (only_import v imported) refl;
  in_types = λ v. in_type v.0;
}

pub overflows : (n : ℕ) → call increment_without_pre n inc_without_pre x_is_last ≡ Bad Overflow (place 6 11)
unfolding value_of_op
overflows n = ap (to_end inc_without_pre) (body_runs (around increment_without_pre inc_without_pre x_is_last) n x_is_last)
