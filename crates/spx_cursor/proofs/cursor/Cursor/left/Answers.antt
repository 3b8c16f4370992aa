use Rattle.std.proofs.Common.{length, sym, ap, ◌∙◌}
use Rattle.spx_cursor.proofs.Counts.{forms_length}
use Rattle.spx_cursor.proofs.cursor.Cursor.left.Goals as goal

pub returns : goal.returns
returns c = sym (forms_length c.self.inside.source.now c.self.inside.rest.now) ∙ ap length c.self.view_is
