use Rattle.std.proofs.Common.{◌≡◌, ap₂, ◌∙◌, pos}
use Rattle.spx_term.specs.declared.term.Name.{Name}
use Rattle.spx_term.specs.declared.term.Sort.TheVariants.{Integer}
use Rattle.spx_term.specs.declared.term.Symbol.TheVariants.{Bound}
use Rattle.spx_term.specs.declared.term.TermOp.TheVariants as op
use Rattle.spx_term.specs.declared.term.Term.TheVariants.{Infix, Ternary}
use Rattle.spx_term.specs.declared.term.TernaryOp.TheVariants as ternary
use Rattle.spx_term.specs.declared.term.Quantifier.TheVariants as quantifier
use Rattle.spx_term.specs.Equality.{same_name, same_by}
use Rattle.spx_term.specs.Steps.{substituted_step}
use Rattle.spx_term.specs.Substitution.{put_under, raised}
use Rattle.spx_term.proofs.Terms.{fold-Number, fold-Variable, fold-Infix, fold-Ternary}
use Rattle.spx_term.proofs.SubstitutionLaws.{put-Number, put-Variable, put-Infix, put-Ternary, raised-Variable}
use Rattle.spx_examples.specs.CompositeExamples.{name_x, bound_k, integer_k, integer_x, deeper_k}
use Rattle.spx_examples.proofs.composite_laws.a_bound_variable_is_not_captured.Goals as goal

name_k : Name
name_k = record { symbol = Bound bound_k; sort = Integer }

under : put_under 1 name_x integer_k (Infix op.Equal integer_k integer_x) ≡ Infix op.Equal integer_k deeper_k
unfolding same_name same_by raised name_k
under =
    put-Infix name_x integer_k op.Equal integer_k integer_x 1
    ∙ ap₂ (Infix op.Equal) (put-Variable name_x integer_k name_k 1) (put-Variable name_x integer_k name_x 1 ∙ raised-Variable 1 name_k)

pub returns : goal.returns
unfolding same_name same_by name_k
returns c = record {
  renamed = put-Ternary name_x integer_k _ _ _ _ 0 ∙ (λ i. Ternary (ternary.Quantified quantifier.All bound_k) (put-Number name_x integer_k (pos 1) 0 i) (put-Number name_x integer_k (pos 1) 0 i) (under i));
  captured =
      fold-Ternary (substituted_step name_x integer_k) _ _ _ _
      ∙ (λ i. Ternary (ternary.Quantified quantifier.All bound_k) (fold-Number (substituted_step name_x integer_k) (pos 1) i) (fold-Number (substituted_step name_x integer_k) (pos 1) i)
      ((fold-Infix (substituted_step name_x integer_k) op.Equal integer_k integer_x ∙ ap₂ (Infix op.Equal) (fold-Variable (substituted_step name_x integer_k) name_k) (fold-Variable (substituted_step name_x integer_k) name_x)) i));
}
