-- How the list of flow lines is made: findings are gathered, and their lines are sorted.
use Rattle.std.specs.Prelude.{◌↔◌, ℕ, List, Any, Contains}
use Rattle.std.specs.declared.cmp.Ordering.{Ordering}
use Rattle.std.specs.Ordering.{nat_cmp, ordering_then}
use Rattle.std.specs.Cmp.Lexicographic.{slice_cmp}
use Rattle.spx_text.specs.declared.place.Place.{Place}
use Rattle.spx_core.specs.declared.program.Program.{Program}
use Rattle.spx_core.specs.declared.subprogram.Sub.{Sub}
use Rattle.spx_derives.specs.declared.finding.FlowFinding.{FlowFinding}
use Rattle.spx_derives.specs.FlowFindings.{Finds}
use Rattle.spx_report.specs.declared.report.Finding.{Finding}
use Rattle.spx_report.specs.Report.{code}
use Rattle.spx_report.specs.FlowLines.{AreInOrder}

-- these are the findings of these subprograms of the program
abbrev pub AreFindingsIn : Program → List Sub → List FlowFinding → Type 0
AreFindingsIn p subs found = (f : FlowFinding) → Contains found f ↔ Any (λ sub. Finds p sub f) subs

-- ---- the order of lines, as comparisons

-- places by file, then line, then column
abbrev pub place_cmp : Place → Place → Ordering
place_cmp a b = ordering_then (ordering_then (nat_cmp a.file b.file) (nat_cmp a.line b.line)) (nat_cmp a.column b.column)

-- texts by their bytes, as in a dictionary
abbrev pub text_cmp : List ℕ → List ℕ → Ordering
text_cmp = slice_cmp nat_cmp

-- findings by place, then rule, then text
abbrev pub line_cmp : Finding → Finding → Ordering
line_cmp a b = ordering_then (ordering_then (place_cmp a.place b.place) (text_cmp (code a.rule) (code b.rule))) (text_cmp a.text b.text)

-- the new list has the lines of the old one, each once, in order
pub record AreInOrderOf (old new : List Finding) : Type 0 where
  pub order : AreInOrder new
  pub members : (line : Finding) → Contains new line ↔ Contains old line
