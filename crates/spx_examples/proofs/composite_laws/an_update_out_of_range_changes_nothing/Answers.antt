use Rattle.spx_examples.proofs.CompositeMeaning.{outside_is_kept, inside_is_read}
use Rattle.spx_examples.proofs.composite_laws.an_update_out_of_range_changes_nothing.Goals as goal

pub returns : goal.returns
returns c = record {
  outside = outside_is_kept;
  inside = inside_is_read;
}
