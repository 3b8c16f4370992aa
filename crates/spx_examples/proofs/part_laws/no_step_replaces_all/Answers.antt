use Rattle.std.proofs.Common.{refl}
use Rattle.spx_examples.proofs.PartValues.{put_fourth}
use Rattle.spx_examples.proofs.part_laws.no_step_replaces_all.Goals as goal

pub returns : goal.returns
returns c = record { all = λ u w. refl; out_of_range = put_fourth 1 2 3 }
