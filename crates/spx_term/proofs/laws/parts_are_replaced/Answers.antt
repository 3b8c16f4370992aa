use Rattle.spx_term.proofs.PartLaws.{parts_are_meant, parts_are_sorted, parts_are_replaced, other_parts_stay}
use Rattle.spx_term.proofs.laws.parts_are_replaced.Goals as goal

pub returns : goal.returns
returns c = record { meant = parts_are_meant; sorted = parts_are_sorted; replaced = parts_are_replaced; others = other_parts_stay }
