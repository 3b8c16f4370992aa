use Rattle.spx_term.proofs.SubstitutionLaws.{put_is_meant, substitution_is_meant, substitution_keeps_sorts}
use Rattle.spx_term.proofs.laws.substitution_is_meant.Goals as goal

pub returns : goal.returns
returns c = record { put = put_is_meant; meant = substitution_is_meant; sorts = substitution_keeps_sorts }
